-- bytes that are tested side by side
use Rattle.std.proofs.Common.{◌≡◌, ◌≢◌, ℕ, ◌+◌, ◌-◌, ◌*◌, ◌%◌, ◌^◌, ◌<◌, ◌≤◌, Bool, true, false, not, cond, List, [], ◌∷◌, length, map, drop, get_or, refl, ap, ap₂, sym, ◌∙◌, arith, w8, Fits}
use Rattle.std.proofs.lemmas.Bool.{agree_below, agree_below_at}
use Rattle.std.proofs.lemmas.List.{length-map, get_or-take, get_or-drop}
use Rattle.std.proofs.lemmas.List.Sums.{prefix_len_passes}
use Rattle.std.proofs.lemmas.Simd.{mask_l-mod, length-chunk, trailing_mask_l, none_from_empty_mask}
use Rattle.std.specs.List.{prefix_len}
use lib.Count.{count_trailing_zeros}
use Rattle.line_reading.proofs.Words.{true_not}
use lib.Lanes.{chunk, mask_l, top, Each1}

tested : (f : ℕ → ℕ) (p : ℕ → Bool) → agree_below (λ x. top 7 (f x)) p 256 ≡ true → (v : List ℕ) → Each1 (Fits w8) v
    → map (top 7) (map f v) ≡ map p v
tested f p all [] fits = refl
tested f p all (x ∷ xs) fits =
    ap₂ (λ a b. a ∷ b) (agree_below_at (λ x. top 7 (f x)) p 256 x all fits.0.fits) (tested f p all xs fits.1)

-- a mask that is f of each byte has the bits of p
pub masked : (f : ℕ → ℕ) (p : ℕ → Bool) (v z : List ℕ) → agree_below (λ x. top 7 (f x)) p 256 ≡ true → length v ≤ 64
    → Each1 (Fits w8) v → z ≡ map f v → mask_l (map (top 7) z) % 2 ^ 64 ≡ mask_l (map p v)
masked f p v z all short fits e =
    ap (λ l. mask_l l % 2 ^ 64) (ap (map (top 7)) e ∙ tested f p all v fits)
    ∙ mask_l-mod (map p v) 64 (omega (arith, length-map v p))

-- how many of the elements come before the first that passes p
abbrev pub run : (ℕ → Bool) → List ℕ → ℕ
run p xs = prefix_len (λ x. not (p x)) xs

shorter : (p : ℕ → Bool) (xs : List ℕ) → mask_l (map p xs) ≢ 0 → run p xs < length xs
shorter p [] some = absurd (some refl)
shorter p (x ∷ xs) some = go (p x) some (shorter p xs)
  where
    go : (t : Bool) → cond t 1 0 + 2 * mask_l (map p xs) ≢ 0 → (mask_l (map p xs) ≢ 0 → run p xs < length xs)
        → cond (not t) (1 + run p xs) 0 < length (x ∷ xs)
    go true some rest = omega arith
    go false some rest = omega (arith, rest (λ none. some (omega (arith, none))))

-- of n bytes from an index on, m has the bits of those that pass p
module _ (p : ℕ → Bool) (bytes : List ℕ) (at n m : ℕ) (room : at + n ≤ length bytes) (few : n ≤ 64)
    (is : m ≡ mask_l (map p (chunk at n bytes))) where
  abbrev xs : List ℕ
  xs = chunk at n bytes

  long : length xs ≡ n
  long = length-chunk at n bytes room

  pub passed : m ≡ 0 → (k : ℕ) → at ≤ k → k < at + n → p (get_or bytes k 0) ≡ false
  passed none = none_from_empty_mask p bytes at n 0 room (sym is ∙ none)

  module _ (some : m ≢ 0) where
    there : mask_l (map p xs) ≢ 0
    there none = some (is ∙ none)

    pub stopped : count_trailing_zeros 64 m ≡ run p xs
    stopped = ap (count_trailing_zeros 64) is ∙ trailing_mask_l p 64 xs (omega (arith, long, few)) (omega (arith, there))

    pub within : count_trailing_zeros 64 m < n
    within = omega (arith, stopped, shorter p xs there, long)

    pub before : (k : ℕ) → at ≤ k → k < at + count_trailing_zeros 64 m → p (get_or bytes k 0) ≡ false
    before k low high =
        let j = k - at in
        let small : j < run p xs = omega (arith, low, high, stopped) in
        let inside : j < n = omega (arith, low, high, within) in
        let place : at + j ≡ k = omega (arith, low) in
        let here : get_or xs j 0 ≡ get_or bytes k 0 =
        get_or-take n (drop at bytes) j 0 inside ∙ get_or-drop at bytes j 0 ∙ ap (λ i. get_or bytes i 0) place in
        ap p (sym here) ∙ true_not (p (get_or xs j 0)) (prefix_len_passes (λ x. not (p x)) xs j 0 small)

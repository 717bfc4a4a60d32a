-- bytes that begin as others
use Rattle.std.proofs.Common.{◌≡◌, ℕ, suc, ◌+◌, ◌*◌, ◌<◌, ◌≤◌, ◌^◌, ◌⊎◌, inl, inr, List, [], ◌∷◌, length, take, get_or, refl, ap, ap₂, sym, ◌∙◌, arith}
use Rattle.std.proofs.lemmas.Bool.{cases_lt}

abbrev pub AlikeBelow : List ℕ → List ℕ → ℕ → Type 0
AlikeBelow xs ys n = (i : ℕ) → i < n → get_or xs i 0 ≡ get_or ys i 0

pub begun : (start bytes : List ℕ) → length start ≤ length bytes → AlikeBelow bytes start (length start)
    → take (length start) bytes ≡ start
begun [] bytes h same = refl
begun (x ∷ xs) [] h same = absurd (omega (arith, h))
begun (x ∷ xs) (y ∷ ys) h same =
    ap₂ (λ a b. a ∷ b) (same 0 (omega arith)) (begun xs ys (omega (arith, h)) (λ i k. same (suc i) (omega (arith, k))))

abbrev four : List ℕ → ℕ → ℕ
four xs at = get_or xs at 0 + get_or xs (at + 1) 0 * 256 + get_or xs (at + 2) 0 * 65536 + get_or xs (at + 3) 0 * 16777216

abbrev Fit : List ℕ → Type 0
Fit xs = (i : ℕ) → get_or xs i 0 < 2 ^ 8

digits_same : (a b c d e f g h : ℕ) → a < 256 → b < 256 → c < 256 → d < 256 → e < 256 → f < 256 → g < 256 → h < 256
    → a + b * 256 + c * 65536 + d * 16777216 ≡ e + f * 256 + g * 65536 + h * 16777216
    → (a ≡ e) × (b ≡ f) × (c ≡ g) × (d ≡ h)
digits_same a b c d e f g h A B C D E F G H s =
    let ae : a ≡ e = omega arith in
    let bf : b ≡ f = omega arith in
    let cg : c ≡ g = omega arith in
    (ae, bf, cg, omega arith)

four_alike : (xs ys : List ℕ) (at i : ℕ) → Fit xs → Fit ys → four xs at ≡ four ys at → at ≤ i → i < at + 4
    → get_or xs i 0 ≡ get_or ys i 0
four_alike xs ys at i f g e low high =
    let s = digits_same _ _ _ _ _ _ _ _ (f at) (f (at + 1)) (f (at + 2)) (f (at + 3)) (g at) (g (at + 1)) (g (at + 2))
    (g (at + 3)) e in
    go (cases_lt i (at + 1)) (cases_lt i (at + 2)) (cases_lt i (at + 3)) s
  where
    there : (j : ℕ) → i ≡ j → get_or xs j 0 ≡ get_or ys j 0 → get_or xs i 0 ≡ get_or ys i 0
    there j same e = ap (λ k. get_or xs k 0) same ∙ e ∙ ap (λ k. get_or ys k 0) (sym same)

    go : (i < at + 1) ⊎ (at + 1 ≤ i) → (i < at + 2) ⊎ (at + 2 ≤ i) → (i < at + 3) ⊎ (at + 3 ≤ i)
        → (get_or xs at 0 ≡ get_or ys at 0) × (get_or xs (at + 1) 0 ≡ get_or ys (at + 1) 0)
        × (get_or xs (at + 2) 0 ≡ get_or ys (at + 2) 0) × (get_or xs (at + 3) 0 ≡ get_or ys (at + 3) 0)
        → get_or xs i 0 ≡ get_or ys i 0
    go (inl a) b c s = there at (omega (arith, a, low)) s.0
    go (inr a) (inl b) c s = there (at + 1) (omega (arith, a, b)) s.1
    go (inr a) (inr b) (inl c) s = there (at + 2) (omega (arith, b, c)) s.2
    go (inr a) (inr b) (inr c) s = there (at + 3) (omega (arith, c, high)) s.3

-- four more are the same
pub more_alike : (xs ys : List ℕ) (at n : ℕ) → Fit xs → Fit ys → AlikeBelow xs ys at → four xs at ≡ four ys at → n ≤ at + 4
    → AlikeBelow xs ys n
more_alike xs ys at n f g h e most i k = go (cases_lt i at)
  where
    go : (i < at) ⊎ (at ≤ i) → get_or xs i 0 ≡ get_or ys i 0
    go (inl before) = h i before
    go (inr here) = four_alike xs ys at i f g e here (omega (arith, k, most))

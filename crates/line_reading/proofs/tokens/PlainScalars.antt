-- the fields of a plain scalar whose text has no escape
use Rattle.std.proofs.Common.{◌≡◌, ◌≢◌, ℕ, zero, suc, ◌+◌, ◌-◌, ◌<◌, ◌≤◌, ◌==◌, false, All, List, [], ◌∷◌, ◌++◌, length, length-drop, take, take-take, take_all, take-add, drop, get_or, codes, ap, ap₂, sym, subst, ◌∙◌, append_assoc, arith}
use Rattle.std.proofs.lemmas.List.{append-nil, length-append, length-take, get_or-take}
use Rattle.std.proofs.lemmas.List.Elements.{All-cons, All-weaker, All-from_get_or, All-append}
use Rattle.std.proofs.Math.Seq.{take-append_seam, get_or-append-add}
use Rattle.std.specs.List.{slice_split}
use Rattle.std.specs.Slice.Scan.{HoldsNowhere}
use Rattle.line_reading.specs.Clean.{IsClean, is_odd, is_odd_at}
use Rattle.line_reading.specs.tokens.Prefixes.{before_byte}
use Rattle.line_reading.proofs.tokens.Split.{split_first, before-append, behind-append}

-- a slice that goes on to the end
pub tail_is : (bytes : List ℕ) (k : ℕ) → take (length bytes - k) (drop k bytes) ≡ drop k bytes
tail_is bytes k = take_all (length bytes - k) (drop k bytes) (omega (arith, length-drop k bytes))

no_space : (text : List ℕ) → All IsClean text → All (λ x. x ≢ 32) (61 ∷ text)
no_space text clean = All-cons (λ x. x ≢ 32) 61 text (omega arith)
    (All-weaker IsClean (λ x. x ≢ 32) (λ x c. omega (arith, c.0)) text clean)

pub plain_pieces : (text : List ℕ) → All IsClean text
    → slice_split (λ b. b == 32) (61 ∷ (text ++ codes " plain")) ≡ (61 ∷ text) ∷ codes "plain" ∷ []
plain_pieces text clean =
    let rest : List ℕ = 32 ∷ codes "plain" in
    let before : before_byte 32 ((61 ∷ text) ++ rest) ≡ 61 ∷ text =
    before-append 32 (61 ∷ text) rest (no_space text clean) ∙ append-nil (61 ∷ text) in
    let behind = behind-append 32 (61 ∷ text) rest (no_space text clean) in
    grind (arith, split_first 32 ((61 ∷ text) ++ rest), before, behind)

-- ---- a text that ends where its clean bytes do

clean_is : (b : ℕ) → is_odd b ≡ false → IsClean b
clean_is b e = grind arith

abbrev text_in : List ℕ → ℕ → List ℕ
text_in rest end = take (end - 1) (drop 1 rest)

pub plain_found : (rest : List ℕ) (end : ℕ) → get_or rest 0 0 ≡ 61 → 1 ≤ end → end ≤ length rest
    → HoldsNowhere (is_odd_at rest) 1 end → take 7 (take (length rest - end) (drop end rest)) ≡ codes " plain\n"
    → All IsClean (text_in rest end)
    × (take (length (text_in rest end) + 8) rest ≡ 61 ∷ (text_in rest end ++ codes " plain\n"))
plain_found [] end first low high clean last = absurd (omega (arith, first))
plain_found (x ∷ xs) end first low high clean last =
    let n = end - 1 in
    let next : end ≡ suc n = omega (arith, low) in
    let short : n ≤ length xs = omega (arith, high, low) in
    let size : length (take n xs) ≡ n = omega (arith, length-take n xs, short) in
    let up : length (take n xs) + 8 ≡ suc (n + 7) = omega (arith, size) in
    let style : take 7 (drop n xs) ≡ codes " plain\n" =
    ap (λ k. take 7 (drop k (x ∷ xs))) (sym next) ∙ sym (ap (take 7) (tail_is (x ∷ xs) end)) ∙ last in (
      All-from_get_or IsClean (take n xs) 0 (λ i h.
          let small : i < n = omega (arith, h, size) in
          clean_is (get_or (take n xs) i 0)
          (ap is_odd (get_or-take n xs i 0 small) ∙ clean (suc i) (omega arith) (omega (arith, small, low)))),
      ap (λ k. take k (x ∷ xs)) up
          ∙ ap₂ (λ a b. a ∷ b) first (take-add n 7 xs ∙ ap (λ r. take n xs ++ r) style),
    )

-- ---- and its line

module _ (rest text : List ℕ) (clean : All IsClean text)
    (is : take (length text + 8) rest ≡ 61 ∷ (text ++ codes " plain\n")) where
  abbrev n : ℕ
  n = length text + 7

  abbrev fields : List ℕ
  fields = 61 ∷ (text ++ codes " plain")

  whole : take (n + 1) rest ≡ fields ++ (10 ∷ [])
  whole =
      ap (λ k. take k rest) (omega arith) ∙ is
      ∙ ap (λ r. 61 ∷ r) (sym (append_assoc text (codes " plain") (10 ∷ [])))

  size : length fields ≡ n
  size = omega (arith, length-append text (codes " plain"))

  pub plain_more : n < length rest
  plain_more =
      omega (arith, length-take (n + 1) rest, ap length whole, length-append fields (10 ∷ []), size)

  pub plain_are : take n rest ≡ fields
  plain_are =
      sym (take-take n (n + 1) rest (omega arith)) ∙ ap (take n) whole
      ∙ ap (λ k. take k (fields ++ (10 ∷ []))) (sym size) ∙ take-append_seam fields (10 ∷ [])

  pub plain_feed : get_or rest n 0 ≡ 10
  plain_feed =
      sym (get_or-take (n + 1) rest n 0 (omega arith)) ∙ ap (λ r. get_or r n 0) whole
      ∙ ap (λ k. get_or (fields ++ (10 ∷ [])) k 0) {y = length fields + 0} (omega (arith, size))
      ∙ get_or-append-add fields (10 ∷ []) 0 0

  pub plain_clean : All (λ x. x ≢ 10) (take n rest)
  plain_clean =
      subst (All (λ x. x ≢ 10)) (sym plain_are)
      (All-cons (λ x. x ≢ 10) 61 (text ++ codes " plain") (omega arith)
      (All-append (λ x. x ≢ 10) text (codes " plain")
      (All-weaker IsClean (λ x. x ≢ 10) (λ x c. omega (arith, c.0)) text clean)
      (All-from_get_or (λ x. x ≢ 10) (codes " plain") 0 (λ i h. style_clear i h))))
    where
      style_clear : (i : ℕ) → i < 6 → get_or (codes " plain") i 0 ≢ 10
      style_clear zero h e = absurd (omega (arith, e))
      style_clear (suc zero) h e = absurd (omega (arith, e))
      style_clear (suc (suc zero)) h e = absurd (omega (arith, e))
      style_clear (suc (suc (suc zero))) h e = absurd (omega (arith, e))
      style_clear (suc (suc (suc (suc zero)))) h e = absurd (omega (arith, e))
      style_clear (suc (suc (suc (suc (suc zero))))) h e = absurd (omega (arith, e))
      style_clear (suc (suc (suc (suc (suc (suc i)))))) h e = absurd (omega (arith, h))

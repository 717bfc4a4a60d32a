-- digits that stand again
use Rattle.std.proofs.Common.{◌≡◌, ℕ, zero, suc, ◌+◌, ◌-◌, ◌<◌, ◌≤◌, Bool, true, false, List, [], ◌∷◌, length, length-drop, take, drop, Some, refl, ap, sym, ◌∙◌, arith}
use Rattle.std.proofs.lemmas.List.{drop-drop, drop-take, length-take}
use Rattle.std.specs.Char.{is_ascii_digit}
use Rattle.line_reading.specs.tokens.Number.{number_of}
use Rattle.line_reading.specs.tokens.Field.{number_at}
use Rattle.line_reading.specs.tokens.Prefixes.{digits_of, after_digits}
use Rattle.line_reading.specs.tokens.Buffered.{IsBufferedRow}
use Rattle.line_reading.specs.declared.buffered.marks.RowRead.{RowRead}

-- digits that stand again, with the byte after them

lengths : (bs : List ℕ) → length (digits_of bs) + length (after_digits bs) ≡ length bs
lengths [] = refl
lengths (b ∷ bs) = go (is_ascii_digit b) refl (lengths bs)
  where
    go : (t : Bool) → is_ascii_digit b ≡ t → length (digits_of bs) + length (after_digits bs) ≡ length bs
        → length (digits_of (b ∷ bs)) + length (after_digits (b ∷ bs)) ≡ length (b ∷ bs)
    go true d h = rw d (omega (arith, h))
    go false d h = rw d (omega arith)

abbrev Again : ℕ → List ℕ → List ℕ → Type 0
Again n xs ys = (digits_of ys ≡ digits_of xs) × (after_digits ys ≡ drop n ys)

again : (n : ℕ) (xs ys : List ℕ) → length (digits_of xs) ≡ n → n < length xs → take (suc n) xs ≡ take (suc n) ys
    → Again n xs ys
again n [] ys l h e = absurd (omega (arith, h))
again n (x ∷ xs) [] l h e = cc
again n (x ∷ xs) (y ∷ ys) l h e = go (is_ascii_digit x) refl n l h (cc) (cc) (λ m. again m xs ys)
  where
    go : (t : Bool) → is_ascii_digit x ≡ t → (n : ℕ) → length (digits_of (x ∷ xs)) ≡ n → n < length (x ∷ xs) → x ≡ y
        → take n xs ≡ take n ys
        → ((m : ℕ) → length (digits_of xs) ≡ m → m < length xs → take (suc m) xs ≡ take (suc m) ys → Again m xs ys)
        → Again n (x ∷ xs) (y ∷ ys)
    go true d zero l h e f more = absurd (omega (arith, rw d at l))
    go true d (suc n) l h e f more =
        let rest = more n (omega (arith, rw d at l)) (omega (arith, h)) f in
        rw (← e, d) (ap (λ r. x ∷ r) rest.0, rest.1)
    go false d n l h e f more =
        let none : n ≡ 0 = sym (rw d at l) in
        rw (none, ← e, d) (refl, refl)

pub digits_there : (bytes rest : List ℕ) (value : ℕ) → number_at bytes ≡ Some (value, rest)
    → (number_of (digits_of bytes) ≡ Some value) × (after_digits bytes ≡ rest)
digits_there bytes rest value h = grind arith

pub digits_before : (line : List ℕ) (at end value : ℕ) → at ≤ length line → end ≤ length line
    → number_at (drop at line) ≡ Some (value, drop end line)
    → (at < end) × (length (digits_of (drop at line)) ≡ end - at)
digits_before line at end value h k is =
    grind (arith, digits_there (drop at line) (drop end line) value is, lengths (drop at line), length-drop end line, length-drop)

pub number_again : (line : List ℕ) (row : RowRead) (at : ℕ) → IsBufferedRow line row → 0 < row.end
    → at + (row.end - row.at) < length line
    → take (row.end - row.at + 1) (drop row.at line) ≡ take (row.end - row.at + 1) (drop at line)
    → number_at (drop at line) ≡ Some (row.value, drop (at + (row.end - row.at)) line)
number_again line row at h some within same =
    let n = row.end - row.at in
    let xs = drop row.at line in
    let ys = drop at line in
    let there = digits_there xs (drop row.end line) row.value (h.some some) in
    let order = digits_before line row.at row.end row.value (omega (arith, h.order some))
    (omega (arith, h.order some)) (h.some some) in
    let next : n + 1 ≡ suc n = omega arith in
    let both = again n xs ys order.1 (omega (arith, length-drop row.at line, h.order some, order.0))
    (ap (λ k. take k xs) (sym next) ∙ same ∙ ap (λ k. take k ys) next) in
    let behind : after_digits ys ≡ drop (at + n) line = both.1 ∙ drop-drop n at line in
    rw (both.0, there.0, behind) refl

pub ends_of : (line : List ℕ) (at end n : ℕ) → at + n ≡ end → end < length line
    → drop (length (take (end + 1) line) - (n + 1)) (take (end + 1) line) ≡ take (n + 1) (drop at line)
ends_of line at end n e h = grind (arith, length-take, drop-take)

-- a number that is all of some bytes
use Rattle.std.proofs.Common.{◌≡◌, ℕ, ◌<◌, ◌≤◌, Bool, false, cond, List, [], ◌∷◌, ◌++◌, length, length-drop, drop, Option, Some, None, option_map, refl, ap, sym, ◌∙◌, arith}
use Rattle.std.proofs.lemmas.Bool.{and_left, and_right}
use Rattle.std.specs.Char.{is_ascii_digit}
use Rattle.std.specs.Str.{all_ascii_digits}
use Rattle.std.proofs.lemmas.List.{at_drop_all, append-nil}
use Rattle.line_reading.specs.tokens.Number.{number_of}
use Rattle.line_reading.specs.tokens.Prefixes.{digits_of, after_digits}
use Rattle.line_reading.specs.tokens.Field.{number_at}
use Rattle.line_reading.proofs.tokens.Digits.{no_value}

-- bytes are digits and what follows them
digits_cond : (t : Bool) (b : ℕ) (bs : List ℕ) → bs ≡ digits_of bs ++ after_digits bs
    → b ∷ bs ≡ cond t (b ∷ digits_of bs) [] ++ cond t (after_digits bs) (b ∷ bs)
digits_cond t b bs h = grind arith

digits_after : (bs : List ℕ) → bs ≡ digits_of bs ++ after_digits bs
digits_after [] = refl
digits_after (b ∷ bs) = digits_cond (is_ascii_digit b) b bs (digits_after bs)

-- no digit follows the digits
abbrev BeginsOther : List ℕ → Type 0
BeginsOther [] = Unit {0}
BeginsOther (b ∷ bs) = is_ascii_digit b ≡ false

other_cond : (t : Bool) (b : ℕ) (bs : List ℕ) → is_ascii_digit b ≡ t → BeginsOther (after_digits bs)
    → BeginsOther (cond t (after_digits bs) (b ∷ bs))
other_cond t b bs e h = grind arith

begins_other : (bs : List ℕ) → BeginsOther (after_digits bs)
begins_other [] = tt
begins_other (b ∷ bs) = other_cond (is_ascii_digit b) b bs refl (begins_other bs)

not_all_digits : (d : List ℕ) (x : ℕ) (g : List ℕ) → is_ascii_digit x ≡ false → all_ascii_digits (d ++ x ∷ g) ≡ false
not_all_digits [] x g e = and_left (is_ascii_digit x) (all_ascii_digits g) e
not_all_digits (b ∷ d) x g e = and_right (is_ascii_digit b) (all_ascii_digits (d ++ x ∷ g)) (not_all_digits d x g e)

no_number : (p : List ℕ) → all_ascii_digits p ≡ false → number_of p ≡ None
no_number p e = no_value p (rw e refl)

abbrev with_rest : Option ℕ → List ℕ → Option (ℕ × List ℕ)
with_rest o t = option_map (λ n. (n, t)) o

none_there : (o : Option ℕ) (t : List ℕ) → with_rest o t ≡ None → o ≡ None
none_there o t e = grind arith

some_there : (o : Option ℕ) (t u : List ℕ) (v : ℕ) → with_rest o t ≡ Some (v, u) → (o ≡ Some v) × (t ≡ u)
some_there o t u v e = grind arith

-- digits, and after them no digit
only_digits : (d t : List ℕ) → t ≡ [] → number_of (d ++ t) ≡ number_of d
only_digits d t e = ap number_of (ap (λ x. d ++ x) e ∙ append-nil d)

more_than_digits : (d t : List ℕ) → BeginsOther t → ¬ (t ≡ []) → number_of (d ++ t) ≡ None
more_than_digits d t b some = grind (arith, no_number, not_all_digits)

none_at_all : (d t : List ℕ) → BeginsOther t → number_of d ≡ None → number_of (d ++ t) ≡ None
none_at_all d t b e = grind (arith, only_digits, no_number, not_all_digits)

pub whole_none : (bs : List ℕ) → number_at bs ≡ None → None ≡ number_of bs
whole_none bs e = cc (digits_after bs, none_at_all (digits_of bs) (after_digits bs) (begins_other bs) (none_there _ (after_digits bs) e))

pub whole_some : (bs : List ℕ) (v end : ℕ) → number_at bs ≡ Some (v, drop end bs) → length bs ≤ end → Some v ≡ number_of bs
whole_some bs v end e all =
    let there = some_there _ (after_digits bs) (drop end bs) v e in
    sym (ap number_of (digits_after bs) ∙ only_digits (digits_of bs) (after_digits bs)
    (there.1 ∙ at_drop_all (λ x. x) bs end all) ∙ there.0)

pub whole_more : (bs : List ℕ) (v end : ℕ) → number_at bs ≡ Some (v, drop end bs) → end < length bs → None ≡ number_of bs
whole_more bs v end e more =
    let there = some_there _ (after_digits bs) (drop end bs) v e in
    sym (ap number_of (digits_after bs)
    ∙ more_than_digits (digits_of bs) (after_digits bs) (begins_other bs)
    (λ h. omega (arith, length-drop end bs, ap length (sym there.1 ∙ h), more)))

-- What `parse` reads is the number of a word of decimal digits.
use Rattle.std.proofs.Common.{◌≡◌, ◌≢◌, ℕ, ◌^◌, ◌<◌, nat_lt, ◌&&◌, if◌then◌else◌, lt-ltb, ltb-true, get_or, List, [], ◌∷◌, Some, None, Result, Ok, Err, Bool, true, false, length, refl, ap, sym, ◌∙◌, arith}
use Rattle.std.specs.Result.{OkIff, result_ok}
use Rattle.std.specs.Bool.{MatchBool}
use Rattle.std.specs.Str.{all_ascii_digits, IsCharBoundary}
use Rattle.std.specs.Str.Pattern.{FindsCharPrefix}
use Rattle.std.specs.Str.Parse.{digits_value, ParsesUnsigned}
use Rattle.std.proofs.lemmas.Str.Pattern.{starts_char}
use Rattle.std.proofs.lemmas.Str.Parse.{numerals_by_value, tells_all_ascii_digits, parse_plain}
use Rattle.yaml_path.specs.Paths.{index_of}

both : (a b : Bool) (v : ℕ) → a ≡ true → b ≡ true → Some v ≡ (if a && b then Some v else None)
both true true v p q = refl
both true false v p q = cc
both false b v p q = cc

not_both : (a b : Bool) (v : ℕ) → ¬ ((a ≡ true) × (b ≡ true)) → None ≡ (if a && b then Some v else None)
not_both true true v h = absurd (h (refl, refl))
not_both true false v h = refl
not_both false b v h = refl

number_read : {E : Type 0} (bs : List ℕ) (r : Result ℕ E)
    → OkIff r ((all_ascii_digits bs ≡ true) × (0 < length bs) × (digits_value 10 bs < 2 ^ 64)) (digits_value 10 bs)
    → result_ok r ≡ index_of bs
number_read [] (Ok x) h = absurd (omega (arith, h.0.1))
number_read [] (Err e) h = refl
number_read (d ∷ ds) (Ok x) h =
    ap (λ (n : ℕ). Some n) h.1 ∙ both (all_ascii_digits (d ∷ ds)) (nat_lt (digits_value 10 (d ∷ ds)) (2 ^ 64))
    (digits_value 10 (d ∷ ds)) h.0.0 (lt-ltb _ _ h.0.2)
number_read (d ∷ ds) (Err e) h =
    not_both (all_ascii_digits (d ∷ ds)) (nat_lt (digits_value 10 (d ∷ ds)) (2 ^ 64)) (digits_value 10 (d ∷ ds))
    (λ k. h (k.0, omega arith, ltb-true _ _ k.1))

pub word_read : {E : Type 0} (bs : List ℕ) (r : Result ℕ E) → ParsesUnsigned 64 10 bs r → get_or bs 0 0 ≢ 43
    → result_ok r ≡ index_of bs
word_read bs r h unsigned = number_read bs r (parse_plain (numerals_by_value _ tells_all_ascii_digits) 64 bs r h unsigned)

-- a word that does not begin with a plus sign
pub without_plus : (bs : List ℕ) (r : Bool)
    → MatchBool r ((n : ℕ) × FindsCharPrefix 43 bs (Some n) × IsCharBoundary bs n) (FindsCharPrefix 43 bs None)
    → r ≡ false → get_or bs 0 0 ≢ 43
without_plus bs r h is_false = λ plus. let not : true ≡ false =
    sym ((starts_char 43 bs r h (omega arith) (omega arith)).1 plus) ∙ is_false in (cc)

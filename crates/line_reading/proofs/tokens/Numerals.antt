-- what one more digit does to a value
use Rattle.std.proofs.Common.{◌≡◌, ℕ, ◌+◌, ◌-◌, ◌*◌, ◌<◌, ◌≤◌, ◌^◌, true, List, [], ◌∷◌, Some, None, refl, arith}
use Rattle.std.proofs.lemmas.Bool.{le-ltb, lt-ltb, and_right}
use Rattle.std.specs.Char.{is_ascii_digit, digit_value}
use Rattle.std.specs.Str.Parse.{digits_value_after}
use Rattle.line_reading.specs.tokens.Number.{value_after}

pub digit_value_is : (d : ℕ) → is_ascii_digit d ≡ true → digit_value d ≡ d - 48
digit_value_is d e = grind arith

le_value_after : (n : ℕ) (ds : List ℕ) → n ≤ digits_value_after 10 n ds
le_value_after n [] = omega arith
le_value_after n (c ∷ cs) = omega (arith, le_value_after (n * 10 + digit_value c) cs)

pub value_after-end : (n : ℕ) → n < 2 ^ 64 → value_after n [] ≡ Some n
value_after-end n h = rw (lt-ltb n (2 ^ 64) h) refl

pub value_after-digit : (n d : ℕ) (ds : List ℕ) → is_ascii_digit d ≡ true
    → value_after n (d ∷ ds) ≡ value_after (n * 10 + (d - 48)) ds
value_after-digit n d ds e = rw (e, digit_value_is d e) refl

pub value_after-large : (n : ℕ) (ds : List ℕ) → 2 ^ 64 ≤ n → value_after n ds ≡ None
value_after-large n ds h = grind (arith, le_value_after, and_right, le-ltb)

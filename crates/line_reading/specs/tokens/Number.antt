-- Numbers in the fields of a line (docs/DEFINITIONS.md, "Lines").
use Rattle.std.specs.Prelude.{ℕ, ℤ, pos, negsuc, List, [], ◌∷◌, not, ◌&&◌, ◌==◌, ◌+◌, ◌-◌, ◌^◌, Option, Some, None, option_and_then, nat_lt, if◌then◌else◌}
use Rattle.std.specs.Str.{all_ascii_digits}
use Rattle.std.specs.Str.Parse.{digits_value_after}

-- the value of digits that follow digits of value n, within 64 bits
abbrev pub value_after : ℕ → List ℕ → Option ℕ
value_after n ds = if all_ascii_digits ds && nat_lt (digits_value_after 10 n ds) (2 ^ 64) then Some
    (digits_value_after 10 n ds) else None

-- the value of digits, within 64 bits
abbrev pub value_of : List ℕ → Option ℕ
value_of ds = value_after 0 ds

-- digits without a sign and without a leading zero, within 64 bits
abbrev pub number_of : List ℕ → Option ℕ
number_of [] = None
number_of (d ∷ []) = value_of (d ∷ [])
number_of (d ∷ e ∷ ds) = if d == 48 then None else value_of (d ∷ e ∷ ds)

-- a number within 32 bits
abbrev pub positive_of : ℕ → Option ℤ
positive_of n = if nat_lt n (2 ^ 31) then Some (pos n) else None

-- the negative of a number other than 0, within 32 bits
abbrev pub negative_of : ℕ → Option ℤ
negative_of n = if not (n == 0) && nat_lt n (2 ^ 31 + 1) then Some (negsuc (n - 1)) else None

-- a number, or `-` and a number other than 0, within 32 bits
abbrev pub signed_of : List ℕ → Option ℤ
signed_of [] = None
signed_of (b ∷ bs) = if b == 45 then option_and_then negative_of (number_of bs) else option_and_then positive_of
    (number_of (b ∷ bs))

-- How bytes begin, and what follows (docs/DEFINITIONS.md, "Lines").
use Rattle.std.specs.Prelude.{ℕ, List, [], ◌∷◌, ◌==◌, Option, Some, None, if◌then◌else◌}
use Rattle.std.specs.Char.{is_ascii_digit}

-- the bytes before a byte, and those after it, if it is there
abbrev pub before_byte : ℕ → List ℕ → List ℕ
before_byte c [] = []
before_byte c (b ∷ bs) = if b == c then [] else b ∷ before_byte c bs

abbrev pub after_byte : ℕ → List ℕ → Option (List ℕ)
after_byte c [] = None
after_byte c (b ∷ bs) = if b == c then Some bs else after_byte c bs

-- the digits that begin the bytes, and what follows them
abbrev pub digits_of : List ℕ → List ℕ
digits_of [] = []
digits_of (b ∷ bs) = if is_ascii_digit b then b ∷ digits_of bs else []

abbrev pub after_digits : List ℕ → List ℕ
after_digits [] = []
after_digits (b ∷ bs) = if is_ascii_digit b then after_digits bs else b ∷ bs

-- what follows a byte that is the first
abbrev pub after_first : ℕ → List ℕ → Option (List ℕ)
after_first c [] = None
after_first c (b ∷ bs) = if b == c then Some bs else None

-- what follows a field that has ended: nothing, or a space and further fields
abbrev pub after_field : List ℕ → Option (Option (List ℕ))
after_field [] = Some None
after_field (b ∷ bs) = if b == 32 then Some (Some bs) else None

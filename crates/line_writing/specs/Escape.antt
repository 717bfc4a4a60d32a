-- How a string is written in a line: what cannot be written as it is becomes an escape (docs/DEFINITIONS.md, "Lines").
use Rattle.std.specs.Prelude.{ℕ, ◌/◌, ◌%◌, Bool, true, ◌||◌, ◌==◌, nat_le, nat_lt, List, [], ◌∷◌, if◌then◌else◌}
use Rattle.std.specs.List.{flat_map}
use Rattle.std.specs.Fmt.{digit_glyph}

-- a control character, the space, `%`, or anything above `~`
abbrev pub needs_escape : ℕ → Bool
needs_escape b = nat_le b 0x20 || b == 0x25 || nat_lt 0x7E b

-- `%` and the byte's two upper case hexadecimal digits
abbrev pub escape : ℕ → List ℕ
escape b = 0x25 ∷ digit_glyph true (b / 16) ∷ digit_glyph true (b % 16) ∷ []

abbrev pub written_byte : ℕ → List ℕ
written_byte b = if needs_escape b then escape b else b ∷ []

unfoldable pub escaped : List ℕ → List ℕ
escaped text = flat_map written_byte text

-- The pieces of a text that is cut at a byte.
use Rattle.std.specs.Prelude.{ℕ, List, [], ◌==◌, Option, Some, None}
use Rattle.std.specs.List.{slice_split}

-- the pieces of the text that is left, if any is
abbrev pub pieces_of : ℕ → Option (List ℕ) → List (List ℕ)
pieces_of separator None = []
pieces_of separator (Some bytes) = slice_split (λ b. b == separator) bytes

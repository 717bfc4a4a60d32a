-- What is taken of a reader's buffer, and how a line ends (docs/DEFINITIONS.md, "Token lines as read").
use Rattle.std.specs.Prelude.{ℕ, List, [], ◌∷◌, drop, length, Option, Some, None, OnSome}
use Rattle.std.specs.Io.KnownBytes.{Consumes, IsAtEnd}
use Rattle.line_reading.specs.declared.line.LineEnd.{LineEnd}
use Rattle.line_reading.specs.declared.line.LineEnd.TheVariants.{LineFeed, End}

-- what new has after old
abbrev pub appended : List ℕ → List ℕ → List ℕ
appended old new = drop (length old) new

-- what is taken of the end of a line that has ended so, or has not ended
abbrev pub line_feed : Option LineEnd → List ℕ
line_feed (Some LineFeed) = 10 ∷ []
line_feed (Some End) = []
line_feed None = []

-- a reader that has lost the first bytes of a line has then lost these of it
abbrev pub GoesOn : (old new : Option (List ℕ)) → (first all : List ℕ) → Type 0
GoesOn old new first all = (before : Option (List ℕ)) → Consumes before old first → Consumes before new all

-- a reader that has lost the first bytes of a line is then at its end, where its bytes are known
abbrev pub EndsAfter : (old new : Option (List ℕ)) → (first : List ℕ) → Type 0
EndsAfter old new first = (before : Option (List ℕ)) → Consumes before old first → OnSome before (IsAtEnd new)

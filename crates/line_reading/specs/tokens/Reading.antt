-- What is read, where memory may run out.
use Rattle.std.specs.Prelude.{◌≡◌, Option, Some, None, Result, Ok, Err, ℕ, List, String, string_bytes}
use Rattle.line_reading.specs.declared.line_problem.LineProblem.{LineProblem}
use Rattle.line_reading.specs.declared.line_problem.LineProblem.TheVariants.{Memory, BadTokenLine}

-- The variable holds the value that is read, or there is none exactly if `BadTokenLine` is returned. A failed allocation
-- says nothing, and no other problem comes.
abbrev pub IsReadInto : {A : Type 0} → Result (Unit {0}) LineProblem → A → Option A → Type 0
IsReadInto (Ok u) value there = there ≡ Some value
IsReadInto (Err BadTokenLine) value there = there ≡ None
IsReadInto (Err Memory) value there = Unit {0}
IsReadInto (Err _) value there = ⊥

-- the same of a text
abbrev pub IsTextReadAs : {Y : Type 0} → Result (String Y) LineProblem → Option (List ℕ) → Type 0
IsTextReadAs (Ok text) there = there ≡ Some (string_bytes text)
IsTextReadAs (Err BadTokenLine) there = there ≡ None
IsTextReadAs (Err Memory) there = Unit {0}
IsTextReadAs (Err _) there = ⊥

-- The numbers that C sees.
use Rattle.std.specs.Prelude.{◌≤◌, ◌==◌, ◌||◌, ℕ, Bool, Option, None, Some, List, length}
use Rattle.token_steps.specs.declared.did.Did.{Did}
use Rattle.token_steps.specs.declared.did.Did.TheVariants as did

abbrev pub number : Did → ℕ
number did.Wants = 0
number did.Gave = 1
number did.Stays = 2
number did.FullStates = 3
number did.FullMarks = 4
number did.Failed = 5
number did.Bad = 6

-- an event was put
abbrev pub is_given : ℕ → Bool
is_given n = (n == 1) || (n == 2)

-- nothing was done: there is no room, or the record counts too much
abbrev pub is_nothing_done : ℕ → Bool
is_nothing_done n = (n == 3) || ((n == 4) || (n == 6))

-- libyaml's number of an event
abbrev pub IsEventNumber : ℕ → Type 0
IsEventNumber n = (1 ≤ n) × (n ≤ 10)

-- the number of an error (libyaml_automaton, Problems)
abbrev pub IsFaultNumber : ℕ → Type 0
IsFaultNumber n = (1 ≤ n) × (n ≤ 12)

-- the length of a tag in full, and where its handle isn't declared the largest number
abbrev pub length_or_none : Option (List ℕ) → ℕ
length_or_none None = 18446744073709551615
length_or_none (Some tag) = length tag

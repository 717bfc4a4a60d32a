-- A source of token lines (docs/DEFINITIONS.md, "Lines").
use Rattle.std.specs.Prelude.{◌≡◌, ◌<◌, ◌≤◌, ℕ, ◌+◌, List, [], Option, Some, None, Ok, Err, option_map}
use Rattle.libyaml_types.specs.Fault.{Fault, SourceResult}
use Rattle.libyaml_types.specs.Source.{Coming, coming}
use Rattle.line_reading.specs.declared.line_problem.LineProblem.{LineProblem}
use Rattle.line_reading.specs.declared.line_problem.LineProblem.TheVariants.{TooManyTokens}
use Rattle.line_reading.specs.sources.LineFault.{line_fault}
use Rattle.line_reading.specs.sources.ReadLines.{lines, coming_from}
use Rattle.line_reading.specs.sources.NextLine.{LineAnswer, BreaksOffAt}

-- a source: its reader, how many tokens it has given and how many it may give, and the error that it keeps
pub record LineSource (R : Type 0) : Type 0 where
  pub reader : R
  pub given : ℕ
  pub max_tokens : ℕ
  pub fault : Option Fault

-- a source that keeps this problem, or none
abbrev pub source_at : {R : Type 0} → R → (given max_tokens : ℕ) → Option LineProblem → LineSource R
source_at reader given max_tokens problem = record {
  reader = reader;
  given = given;
  max_tokens = max_tokens;
  fault = option_map (λ p. line_fault p given) problem;
}

-- how many tokens, and which error, a result is
abbrev pub answer_tokens : SourceResult → ℕ
answer_tokens (Ok token) = 1
answer_tokens (Err fault) = 0

abbrev pub answer_fault : SourceResult → Option Fault
answer_fault (Ok token) = None
answer_fault (Err fault) = Some fault

-- what a source that keeps no error returns, and where that leaves it
pub record GivesNext {R : Type 0} (remaining : R → Option (List ℕ)) (s : LineSource R) (answer : SourceResult)
    (t : LineSource R) : Type 0 where
  pub below : s.given < s.max_tokens → LineAnswer (remaining s.reader) s.given answer (remaining t.reader)
  pub at_bound : s.max_tokens ≤ s.given → answer ≡ Err (line_fault TooManyTokens s.given)
  pub unread : s.max_tokens ≤ s.given → t.reader ≡ s.reader
  pub given : t.given ≡ s.given + answer_tokens answer
  pub max_tokens : t.max_tokens ≡ s.max_tokens
  pub fault : t.fault ≡ answer_fault answer

-- a kept error is given again, and nothing changes
abbrev pub GivesBy : {R : Type 0} → Option Fault → (R → Option (List ℕ)) → LineSource R → SourceResult → LineSource R → Type 0
GivesBy None remaining s answer t = GivesNext remaining s answer t
GivesBy (Some fault) remaining s answer t = (answer ≡ Err fault) × (t ≡ s)

abbrev pub Gives : {R : Type 0} → (R → Option (List ℕ)) → LineSource R → SourceResult → LineSource R → Type 0
Gives remaining s answer t = GivesBy s.fault remaining s answer t

-- the tokens to come of a reader's bytes
abbrev pub coming_of : Option (List ℕ) → ℕ → ℕ → Option Coming
coming_of None given max_tokens = None
coming_of (Some bytes) given max_tokens = Some (coming_from given max_tokens (lines bytes))

abbrev pub known_by : Option Fault → Option (List ℕ) → ℕ → ℕ → Option Coming
known_by None bytes given max_tokens = coming_of bytes given max_tokens
known_by (Some fault) bytes given max_tokens = Some (coming [] fault)

abbrev pub known_of : {R : Type 0} → (R → Option (List ℕ)) → LineSource R → Option Coming
known_of remaining s = known_by s.fault (remaining s.reader) s.given s.max_tokens

-- a source that has given so many tokens may have failed early out of memory, or where a read failed
abbrev pub BreaksOff : {R : Type 0} → LineSource R → Fault → Type 0
BreaksOff s fault = BreaksOffAt s.given fault

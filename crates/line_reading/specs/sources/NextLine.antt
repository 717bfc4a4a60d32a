-- What one line of a reader gives, where its bytes are known.
use Rattle.std.specs.Prelude.{◌≡◌, ◌<◌, ◌≤◌, ◌⊎◌, ◌+◌, ℕ, List, [], ◌∷◌, drop, length, Option, Some, None, Result, Ok, Err, IfOk}
use Rattle.std.specs.Io.KnownBytes.{Consumes}
use Rattle.libyaml_types.specs.declared.token.yaml_token_t.{yaml_token_t}
use Rattle.libyaml_types.specs.Fault.{Fault, SourceResult}
use Rattle.line_reading.specs.declared.line_problem.LineProblem.{LineProblem}
use Rattle.line_reading.specs.declared.line_problem.LineProblem.TheVariants.{Memory, ReadFailed, LineTooLong, BadTokenLine, TooManyTokens, NoMoreTokens}
use Rattle.line_reading.specs.tokens.Prefixes.{before_byte}
use Rattle.line_reading.specs.sources.LineFault.{line_fault}
use Rattle.line_reading.specs.sources.ReadLines.{longest_line, lines, after_line, line_answer}

-- the reader has lost some bytes, n at most
abbrev pub TakesAtMost : ℕ → Option (List ℕ) → Option (List ℕ) → Type 0
TakesAtMost n before after = (taken : List ℕ) × (length taken ≤ n) × Consumes before after taken

-- the reader is left after its first line and the LF of it
abbrev pub IsAfterLine : Option (List ℕ) → Option (List ℕ) → Type 0
IsAfterLine None after = Unit {0}
IsAfterLine (Some bytes) after = after ≡ Some (after_line bytes)

-- n bytes of the reader's first line are taken, and no other byte
abbrev pub IsWithinLine : ℕ → Option (List ℕ) → Option (List ℕ) → Type 0
IsWithinLine n None after = Unit {0}
IsWithinLine n (Some bytes) after = (n ≤ length (before_byte 10 bytes)) × (after ≡ Some (drop n bytes))

-- the line is the reader's first, and the reader is left after it and its LF
abbrev pub TakesLine : Option (List ℕ) → List ℕ → Option (List ℕ) → Type 0
TakesLine None line after = Unit {0}
TakesLine (Some bytes) line after = (lines bytes ≡ line ∷ lines (after_line bytes)) × (after ≡ Some (after_line bytes))

-- the first line is too long
abbrev pub BeginsTooLong : List (List ℕ) → Type 0
BeginsTooLong [] = ⊥
BeginsTooLong (line ∷ more) = longest_line < length line

-- there is no such line
abbrev pub HasNoLine : List ℕ → LineProblem → Type 0
HasNoLine bytes Memory = Unit {0}
HasNoLine bytes ReadFailed = Unit {0}
HasNoLine bytes LineTooLong = BeginsTooLong (lines bytes)
HasNoLine bytes BadTokenLine = ⊥
HasNoLine bytes TooManyTokens = ⊥
HasNoLine bytes NoMoreTokens = lines bytes ≡ []

abbrev pub TakesNoLine : Option (List ℕ) → LineProblem → Type 0
TakesNoLine None problem = Unit {0}
TakesNoLine (Some bytes) problem = HasNoLine bytes problem

-- what the first of some lines gives
abbrev pub first_answer : ℕ → List (List ℕ) → SourceResult
first_answer n [] = Err (line_fault NoMoreTokens n)
first_answer n (line ∷ more) = line_answer n line

-- the errors by which a source may fail early that has given n tokens
abbrev pub BreaksOffAt : ℕ → Fault → Type 0
BreaksOffAt n fault = (fault ≡ line_fault Memory n) ⊎ (fault ≡ line_fault ReadFailed n)

-- an error of a source that has given n tokens
abbrev pub IsFaultAt : ℕ → Fault → Type 0
IsFaultAt n fault = (problem : LineProblem) × (fault ≡ line_fault problem n)

-- a result over a reader whose bytes are known: of its first line, or an error by which a source fails early
abbrev pub KnownAnswer : List ℕ → ℕ → SourceResult → Option (List ℕ) → Type 0
KnownAnswer bytes n (Ok token) after = (first_answer n (lines bytes) ≡ Ok token) × (after ≡ Some (after_line bytes))
KnownAnswer bytes n (Err fault) after = (first_answer n (lines bytes) ≡ Err fault) ⊎ BreaksOffAt n fault

-- a result over a reader whose bytes are not known
abbrev pub UnknownAnswer : ℕ → SourceResult → Type 0
UnknownAnswer n (Ok token) = Unit {0}
UnknownAnswer n (Err fault) = IsFaultAt n fault

abbrev pub LineAnswer : Option (List ℕ) → ℕ → SourceResult → Option (List ℕ) → Type 0
LineAnswer None n answer after = UnknownAnswer n answer
LineAnswer (Some bytes) n answer after = KnownAnswer bytes n answer after

-- the problems of reading itself
abbrev pub IsReadProblem : LineProblem → Type 0
IsReadProblem problem = (problem ≡ Memory) ⊎ (problem ≡ ReadFailed)

-- what a result is of a source that has given n tokens
abbrev pub line_answer_in : ℕ → Result (Unit {0}) LineProblem → yaml_token_t → SourceResult
line_answer_in n (Ok done) token = Ok token
line_answer_in n (Err problem) token = Err (line_fault problem n)

-- what a result says of a reader's next line, and what it leaves of the reader
pub record ReadsNext (before : Option (List ℕ)) (result : Result (Unit {0}) LineProblem) (token : yaml_token_t)
    (after : Option (List ℕ)) : Type 0 where
  pub answers : (n : ℕ) → LineAnswer before n (line_answer_in n result token) after
  pub leaves : IfOk result (λ done. IsAfterLine before after)
  pub bad_line : result ≡ Err BadTokenLine → IsAfterLine before after
  pub too_long : result ≡ Err LineTooLong → IsWithinLine (longest_line + 1) before after
  pub takes : TakesAtMost (longest_line + 1) before after

-- Two results of line sources that keep the same, over readers of the same bytes (docs/DEFINITIONS.md, "One outcome").
use Rattle.std.specs.Prelude.{◌≡◌, ◌+◌, ℕ, List, Option, None, Err}
use Rattle.libyaml_types.specs.Fault.{SourceResult, Fault}
use Rattle.line_reading.specs.declared.line_problem.LineProblem.TheVariants.{BadTokenLine, LineTooLong}
use Rattle.line_reading.specs.sources.LineFault.{line_fault}
use Rattle.line_reading.specs.sources.LineSource.{Gives, LineSource}
use Rattle.line_reading.specs.sources.NextLine.{BreaksOffAt, IsAfterLine, IsWithinLine, TakesAtMost}
use Rattle.line_reading.specs.sources.ReadLines.{longest_line}

-- what the contract of `next_token` says of a result, and of the source after it
pub record LineOutcome {R : Type 0} (remaining : R → Option (List ℕ)) (s : LineSource R) (answer : SourceResult)
    (t : LineSource R) : Type 0 where
  pub gives : Gives remaining s answer t
  pub bad_line : s.fault ≡ None → answer ≡ Err (line_fault BadTokenLine s.given)
      → IsAfterLine (remaining s.reader) (remaining t.reader)
  pub too_long : s.fault ≡ None → answer ≡ Err (line_fault LineTooLong s.given)
      → IsWithinLine (longest_line + 1) (remaining s.reader) (remaining t.reader)
  pub takes : TakesAtMost (longest_line + 1) (remaining s.reader) (remaining t.reader)

-- two sources keep the same, and their readers have the same bytes
pub record SourcesAlike {R : Type 0} (remaining : R → Option (List ℕ)) (s t : LineSource R) : Type 0 where
  pub given : s.given ≡ t.given
  pub max_tokens : s.max_tokens ≡ t.max_tokens
  pub fault : s.fault ≡ t.fault
  pub bytes : remaining s.reader ≡ remaining t.reader

-- an allocation or a read failed
pub record LineBreaksOff {R : Type 0} (s : LineSource R) (answer : SourceResult) : Type 0 where
  pub fault : Fault
  pub result : answer ≡ Err fault
  pub breaks_off : BreaksOffAt s.given fault

-- one result, which leaves the same; or an allocation or a read failed in one of the two
pub data OneLine {R : Type 0} (remaining : R → Option (List ℕ)) (s u : LineSource R) (a : SourceResult) (t : LineSource R)
    (b : SourceResult) (v : LineSource R)
    : Type 0 where
  alike : a ≡ b → SourcesAlike remaining t v → OneLine remaining s u a t b v
  first_breaks : LineBreaksOff s a → OneLine remaining s u a t b v
  second_breaks : LineBreaksOff u b → OneLine remaining s u a t b v

-- What a run writes, as lines and the text of an error (docs/DEFINITIONS.md, "Runs over lines").
use Rattle.std.specs.Prelude.{◌≡◌, ◌++◌, ◌⊎◌, ℕ, List, Option, Some, None}
use Rattle.std.specs.List.{concat}
use Rattle.std.specs.Io.KnownBytes.{Appends, Keeps}
use Rattle.libyaml_types.specs.Fault.{Fault, fault_of, memory_fault}
use Rattle.libyaml_grammar.specs.runs.Runs.{Ending, Ends, Fails}
use Rattle.line_writing.specs.FaultText.{fault_text}
use Rattle.token_lines.specs.declared.run.LastStep.{LastStep}
use Rattle.token_lines.specs.declared.run.LastStep.TheVariants as step
use Rattle.token_lines.specs.declared.run.Outcome.{Outcome}
use Rattle.token_lines.specs.declared.run.Outcome.TheVariants as outcome
use Rattle.token_lines.specs.declared.run.run_end_t.{run_end_t}
use Rattle.token_lines.specs.declared.run.run_end_t.TheVariants.{Ended, Faulted, OutputFailed}

-- how a run ended; nothing is told where the output failed
abbrev pub ending_told : run_end_t → Option Ending
ending_told Ended = Some Ends
ending_told (Faulted f) = Some (Fails (fault_of f))
ending_told OutputFailed = None

-- and without its error
abbrev pub outcome_by : Option Ending → Outcome
outcome_by (Some Ends) = outcome.Ended
outcome_by (Some (Fails f)) = outcome.Faulted
outcome_by None = outcome.OutputFailed

abbrev pub outcome_of : run_end_t → Outcome
outcome_of end = outcome_by (ending_told end)

-- the text of this error was written, and the run says so; nothing is said where the output failed
abbrev pub WroteFault : run_end_t → Fault → (before after : Option (List ℕ)) → Type 0
WroteFault Ended f before after = ⊥
WroteFault (Faulted told) f before after = (fault_of told ≡ f) × Appends before after (fault_text f)
WroteFault OutputFailed f before after = Unit {0}

-- how a run ends after its last step, and what it writes then
abbrev pub ClosedBy : LastStep → run_end_t → (before after : Option (List ℕ)) → Type 0
ClosedBy step.Ended end before after = ((end ≡ Ended) ⊎ (end ≡ OutputFailed)) × Keeps before after
ClosedBy (step.Failed f) end before after = WroteFault end (fault_of f) before after
ClosedBy step.OutputFailed end before after = end ≡ OutputFailed

-- the bytes of a run: all lines, and the text of the error by which it fails
abbrev pub run_bytes : List (List ℕ) → Ending → List ℕ
run_bytes lines Ends = concat lines
run_bytes lines (Fails f) = concat lines ++ fault_text f

-- What was written of a run that has these lines and this ending: all its bytes, and it ended so; or those of a prefix of
-- its lines and of the error by which it ended, where an allocation failed or the source failed early. Nothing is said
-- where the output failed.
pub data Writes (MayBreak : Fault → Type 0) (end : run_end_t) (old new : Option (List ℕ)) (lines : List (List ℕ))
    (ending : Ending) : Type 0 where
  whole : ending_told end ≡ Some ending → Appends old new (run_bytes lines ending) → Writes MayBreak end old new lines ending
  broken_off : (f : Fault) → ending_told end ≡ Some (Fails f) → (f ≡ memory_fault) ⊎ MayBreak f
      → (written rest : List (List ℕ)) → lines ≡ written ++ rest → Appends old new (run_bytes written (Fails f))
      → Writes MayBreak end old new lines ending
  output_failed : end ≡ OutputFailed → Writes MayBreak end old new lines ending

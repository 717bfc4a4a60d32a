-- Two outcomes of one run over lines that its contract allows: they wrote the same, unless one of them failed early or
-- its output failed (docs/DEFINITIONS.md, "One outcome").
use Rattle.std.specs.Prelude.{◌≡◌, ◌⊎◌, ◌++◌, ℕ, List, Option}
use Rattle.std.specs.Io.KnownBytes.{Appends}
use Rattle.libyaml_types.specs.Fault.{Fault, memory_fault}
use Rattle.line_writing.specs.FaultText.{fault_text}
use Rattle.token_lines.specs.declared.run.Outcome.{Outcome}
use Rattle.token_lines.specs.declared.run.Outcome.TheVariants.{Faulted, OutputFailed}

-- A run ended by a failed allocation or an error by which its source fails early: its bytes end in that error's text.
pub record BrokeOff (MayBreak : Fault → Type 0) (outcome : Outcome) (before after : Option (List ℕ)) : Type 0 where
  pub faulted : outcome ≡ Faulted
  pub fault : Fault
  pub cause : (fault ≡ memory_fault) ⊎ MayBreak fault
  pub written : List ℕ
  pub wrote : Appends before after (written ++ fault_text fault)

-- where an allocation or a read failed in either, or the output did, nothing more is said
pub data OneOutput (FirstBreaks SecondBreaks : Fault → Type 0) (first second : Outcome)
    (before after later : Option (List ℕ)) : Type 0 where
  alike : first ≡ second → after ≡ later → OneOutput FirstBreaks SecondBreaks first second before after later
  first_breaks : BrokeOff FirstBreaks first before after
      → OneOutput FirstBreaks SecondBreaks first second before after later
  second_breaks : BrokeOff SecondBreaks second before later
      → OneOutput FirstBreaks SecondBreaks first second before after later
  output_failed : (first ≡ OutputFailed) ⊎ (second ≡ OutputFailed)
      → OneOutput FirstBreaks SecondBreaks first second before after later

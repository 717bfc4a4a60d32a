-- How the last step of a run over events closes it.
use Rattle.std.proofs.Common.{◌≡◌, ℕ, List, Option, Some, subst, ◌∙◌, arith}
use Rattle.std.proofs.KnownBytes.{Appends-kept}
use Rattle.std.specs.Io.KnownBytes.{Appends, Keeps}
use Rattle.libyaml_types.specs.declared.event.yaml_event_t.{yaml_event_t}
use Rattle.libyaml_types.specs.declared.token.yaml_token_t.{yaml_token_t}
use Rattle.libyaml_events.specs.machine.Config.{Parser}
use Rattle.libyaml_events.specs.sources.History.{kept_fault}
use Rattle.libyaml_types.specs.declared.fault.yaml_parser_t_prefix.{yaml_parser_t_prefix}
use Rattle.libyaml_types.specs.Fault.{SourceResult, Fault, fault_of, memory_fault}
use Rattle.line_writing.specs.FaultText.{fault_text}
use Rattle.token_lines.specs.declared.run.run_end_t.{run_end_t}
use Rattle.token_lines.specs.declared.run.run_end_t.TheVariants.{Ended, Faulted, OutputFailed}
use Rattle.token_lines.specs.declared.run.LastStep.{LastStep}
use Rattle.token_lines.specs.declared.run.LastStep.TheVariants as step
use Rattle.token_lines.specs.events.EventStep.{StepForEvent, StepForFault, Turn}
use Rattle.token_lines.specs.events.InTurn.{gave_event, failed}
use Rattle.token_lines.specs.events.LastCall.{Closes, WroteForEvent}
use Rattle.token_lines.specs.lines.LineRun.{ClosedBy, WroteFault}
use Rattle.token_lines.proofs.lines.RunLemmas.{keeps_then}

-- the text of an error that was kept
pub fault_after : (end : run_end_t) (f : yaml_parser_t_prefix) (kept : Fault) (b c d : Option (List ℕ))
    → (fault_of f ≡ kept) × Keeps b c
    → WroteFault end (fault_of f) c d → WroteFault end kept b d
fault_after Ended f kept b c d done wrote = wrote
fault_after (Faulted told) f kept b c d done wrote
    = (
      wrote.0 ∙ done.0,
      subst (λ x. Appends b d (fault_text x)) done.0
          (keeps_then b c d (fault_text (fault_of f)) done.1 wrote.1),
    )
fault_after OutputFailed f kept b c d done wrote = tt

-- what was written of an event, by its step and after it
for_event : (s : LastStep) (end : run_end_t) (e : yaml_event_t) (b c d : Option (List ℕ)) → StepForEvent (Some s) e b c
    → ClosedBy s end c d → WroteForEvent end e b d
for_event step.Ended end e b c d made h = grind (arith, Appends-kept)
for_event (step.Failed f) Ended e b c d made h = absurd h
for_event (step.Failed f) (Faulted told) e b c d made h = fault_after (Faulted told) f memory_fault b c d made h
for_event (step.Failed f) OutputFailed e b c d made h = tt
for_event step.OutputFailed end e b c d made h = rw h tt

for_fault : (s : LastStep) (end : run_end_t) (kept : Fault) (b c d : Option (List ℕ)) → StepForFault (Some s) kept b c
    → ClosedBy s end c d → WroteFault end kept b d
for_fault (step.Failed f) end kept b c d made h = fault_after end f kept b c d made h
for_fault step.Ended end kept b c d made h = absurd made
for_fault step.OutputFailed end kept b c d made h = absurd made

pub closes : {S : Type 0} (gives : S → SourceResult → S → Type 0) (s : LastStep) (end : run_end_t) (p q : Parser S)
    (b c d : Option (List ℕ)) (asked : List yaml_token_t) (given : List yaml_event_t)
    → Turn gives (Some s) p q b c asked given → ClosedBy s end c d → Closes gives end p q b d asked given
closes gives s end p q b c d asked given (gave_event e on made) h = gave_event e on (for_event s end e b c d made h)
closes gives s end p q b c d asked given (failed by made) h = failed by (for_fault s end (kept_fault q) b c d made h)

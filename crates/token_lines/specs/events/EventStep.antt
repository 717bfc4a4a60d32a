-- What one step of a run over events writes: `None` is the step after which more is to come.
use Rattle.std.specs.Prelude.{◌≡◌, ℕ, List, true, false, Option, Some, None}
use Rattle.std.specs.Io.KnownBytes.{Appends, Keeps}
use Rattle.libyaml_types.specs.declared.event.yaml_event_t.{yaml_event_t}
use Rattle.libyaml_types.specs.declared.token.yaml_token_t.{yaml_token_t}
use Rattle.libyaml_events.specs.machine.Config.{Parser}
use Rattle.libyaml_events.specs.sources.History.{is_stream_end}
use Rattle.libyaml_types.specs.Fault.{Fault, SourceResult, fault_of, memory_fault}
use Rattle.line_writing.specs.EventText.{event_line}
use Rattle.token_lines.specs.declared.run.LastStep.{LastStep}
use Rattle.token_lines.specs.declared.run.LastStep.TheVariants.{Ended, Failed, OutputFailed}
use Rattle.token_lines.specs.events.InTurn.{CallSays}

-- what a step wrote after a call that returned this event
abbrev pub StepForEvent : Option LastStep → yaml_event_t → (before after : Option (List ℕ)) → Type 0
StepForEvent None e before after = (is_stream_end e ≡ false) × Appends before after (event_line e)
StepForEvent (Some Ended) e before after = (is_stream_end e ≡ true) × Appends before after (event_line e)
StepForEvent (Some (Failed f)) e before after = (fault_of f ≡ memory_fault) × Keeps before after
StepForEvent (Some OutputFailed) e before after = Unit {0}

-- what a step wrote after a call that failed by this error
abbrev pub StepForFault : Option LastStep → Fault → (before after : Option (List ℕ)) → Type 0
StepForFault (Some (Failed f)) kept before after = (fault_of f ≡ kept) × Keeps before after
StepForFault _ kept before after = ⊥

-- one step: its call of the parser, and what was written after it
abbrev pub Turn : {S : Type 0} → (gives : S → SourceResult → S → Type 0) → Option LastStep → (old new : Parser S)
    → (before after : Option (List ℕ)) → List yaml_token_t
    → List yaml_event_t → Type 0
Turn gives step old new before after asked given
    = CallSays gives (λ e. StepForEvent step e before after) (λ f. StepForFault step f before after) old new asked given

-- That what is made of each event is written before the next event is parsed, whatever is made of an event and whatever a
-- run writes at its end (docs/DEFINITIONS.md, "Runs over lines").
use Rattle.std.specs.Prelude.{◌≡◌, ◌++◌, ℕ, List, map, false, Option}
use Rattle.std.specs.List.{concat}
use Rattle.std.specs.Io.KnownBytes.{Appends}
use Rattle.libyaml_types.specs.declared.event.yaml_event_t.{yaml_event_t}
use Rattle.libyaml_types.specs.declared.token.yaml_token_t.{yaml_token_t}
use Rattle.libyaml_events.specs.machine.Config.{Parser}
use Rattle.libyaml_events.specs.sources.CallsInTurn.{CarriedOn}
use Rattle.libyaml_events.specs.sources.History.{is_over, kept_fault}
use Rattle.libyaml_events.specs.sources.Parsing.{CarriesOn, FailsBy}
use Rattle.libyaml_types.specs.Fault.{SourceResult, Fault}

-- a call of the parser, which returned an event or failed, and what is said of that event or error
pub data CallSays {S : Type 0} (gives : S → SourceResult → S → Type 0) (ForEvent : yaml_event_t → Type 0) (ForFault : Fault
    → Type 0) (old new : Parser S) (asked : List yaml_token_t) (given : List yaml_event_t) : Type 0 where
  gave_event : (e : yaml_event_t) → CarriesOn gives old e new asked given → ForEvent e
      → CallSays gives ForEvent ForFault old new asked given
  failed : FailsBy gives old new asked given → ForFault (kept_fault new) → CallSays gives ForEvent ForFault old new asked given

-- From the first parser to this one, which has not ended, the history went on by these events, and the text of each was
-- written.
pub record AllWritten {S : Type 0} (text : yaml_event_t → List ℕ) (gives : S → SourceResult → S
    → Type 0) (first parser : Parser S) (before after : Option (List ℕ)) (asked : List yaml_token_t)
    (given : List yaml_event_t) : Type 0 where
  pub events : List yaml_event_t
  pub carried : CarriedOn gives first parser asked given events
  pub running : is_over parser ≡ false
  pub wrote : Appends before after (concat (map text events))

-- The last call of the parser: the writer held the text of each event that was given before, and what was written since
-- is of this call.
pub record WrittenInTurn {S W : Type 0} (text : yaml_event_t → List ℕ)
    (ForEvent : yaml_event_t → (before after : Option (List ℕ))
    → Type 0) (ForFault : Fault → (before after : Option (List ℕ)) → Type 0) (gives : S → SourceResult → S → Type 0) (contents : W
    → Option (List ℕ)) (first last : Parser S) (before after : Option (List ℕ)) (asked : List yaml_token_t)
    (given : List yaml_event_t) : Type 0 where
  pub parser : Parser S
  pub writer : W
  pub earlier : AllWritten text gives first parser before (contents writer) asked given
  pub call : CallSays gives (λ e. ForEvent e (contents writer) after) (λ f. ForFault f (contents writer) after) parser
      last (asked ++ earlier.carried.more)
      (given ++ earlier.events)

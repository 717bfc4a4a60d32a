-- What holds of a caller that steps from tokens to events and from these to documents.
use Rattle.std.specs.Prelude.{◌∷◌, ◌++◌, List, [], ℕ, None, Some}
use Rattle.libyaml_types.specs.Fault.{Fault}
use Rattle.libyaml_types.specs.declared.mark.yaml_mark_t.{yaml_mark_t}
use Rattle.libyaml_grammar.specs.grammar.Events.{Event}
use Rattle.libyaml_grammar.specs.grammar.Tokens.{Token}
use Rattle.libyaml_documents.specs.Documents.{Document}
use Rattle.libyaml_events.specs.machine.Config.{Handles}
use Rattle.libyaml_events.specs.machine.Machine.{fault_with}
use Rattle.libyaml_events.specs.machine.Want.{Texts}
use Rattle.libyaml_graphs.specs.loads.Bounds.{IsBoundedLoads}
use Rattle.libyaml_graphs.specs.loads.Loads.{Load}
use Rattle.libyaml_composer.specs.declared.composer.composer_t.{composer_t}
use Rattle.libyaml_composer.specs.declared.deed.Deed.{Deed}
use Rattle.libyaml_composer.specs.declared.records.open_t.{open_t}
use Rattle.libyaml_composer.specs.declared.records.place_t.{place_t}
use Rattle.token_steps.specs.declared.steps.steps_t.{steps_t}
use Rattle.token_steps.specs.declared.records.step_event_t.{step_event_t}
use Rattle.token_steps.specs.declared.records.step_fault_t.{step_fault_t}
use Rattle.token_steps.specs.Records.{step_fault}
use Rattle.token_steps.specs.Runs as step_runs
use Rattle.token_steps.specs.Runs.{StepCalls}
use Rattle.libyaml_composer.specs.DocumentSoFar.{DocumentSoFar, IsRefused, deed_fault}
use Rattle.libyaml_graphs.specs.loads.Leads.{as_loads}
use Rattle.document_steps.specs.Runs.{ComposeCalls, ComposerRun}

-- the loads of these tokens, after which the source fails so, are these documents and then this load
abbrev pub TokensLoadAs : ℕ → List Token → Fault → List Document → Load → Type 0
TokensLoadAs most l source ds last = IsBoundedLoads most l source (as_loads ds ++ last ∷ [])

-- P holds of the tokens and documents of each run of both, between two tokens, where each event was handed on
abbrev pub BetweenBoth : (ℕ → List Token → List Document → Type 0) → Type 0
BetweenBoth P = (d : steps_t) (ss : List ℕ) (ms : List yaml_mark_t) (hs : Handles) (kept : Texts) (l : List Token)
    (g : List Event) → step_runs.Run d ss ms hs kept None l g → (most : ℕ) (c : composer_t) (os : List open_t) (h : DocumentSoFar)
    (ds : List Document) → ComposerRun most c os h g ds → P most l ds

-- and of those that ended with an error of the parser
abbrev pub FailedTokens : (ℕ → List Token → List Document → Fault → Type 0) → Type 0
FailedTokens P = (d d' : steps_t) (ss ss' : List ℕ) (ms ms' : List yaml_mark_t) (hs : Handles) (kept : Texts)
    (l : List Token) (g : List Event) (t : Token) (e : step_event_t) (f : step_fault_t)
    → step_runs.Run d ss ms hs kept (Some t) l g → StepCalls 5 d ss ms hs t d' ss' ms' e f
    → (most : ℕ) (c : composer_t) (os : List open_t) (h : DocumentSoFar) (ds : List Document) → ComposerRun most c os h g ds
    → P most l ds (fault_with (step_fault f))

-- and of those that ended where the event that was given last was refused
abbrev pub RefusedEvents : (ℕ → List Token → List Document → Fault → Type 0) → Type 0
RefusedEvents P = (d : steps_t) (ss : List ℕ) (ms : List yaml_mark_t) (hs : Handles) (kept : Texts) (l : List Token)
    (g : List Event) (e : Event) → step_runs.Run d ss ms hs kept None l (g ++ e ∷ [])
    → (most : ℕ) (c c' : composer_t) (os os' : List open_t) (h : DocumentSoFar) (ds : List Document) (a : Deed) (p p' : place_t)
    → ComposerRun most c os h g ds → ComposeCalls a c os h e c' os' p p' → IsRefused a → P most l ds (deed_fault a h e)

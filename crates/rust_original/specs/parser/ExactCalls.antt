-- A caller of exact steps (token_steps).
use Rattle.std.specs.Prelude.{◌++◌, List, ℕ, None, Some, map}
use Rattle.libyaml_types.specs.Fault.{Fault}
use Rattle.libyaml_types.specs.declared.mark.yaml_mark_t.{yaml_mark_t}
use Rattle.libyaml_grammar.specs.runs.Runs.{Ending}
use Rattle.libyaml_grammar.specs.grammar.Events.{Event}
use Rattle.libyaml_grammar.specs.grammar.Tokens.{Token}
use Rattle.libyaml_events.specs.machine.Config.{Handles}
use Rattle.libyaml_events.specs.machine.Machine.{fault_with}
use Rattle.libyaml_events.specs.machine.Want.{Texts}
use Rattle.token_steps.specs.Records.{step_fault}
use Rattle.token_steps.specs.Runs.{ExactCalls, ExactRun}
use Rattle.token_steps.specs.declared.records.step_event_t.{step_event_t}
use Rattle.token_steps.specs.declared.records.step_fault_t.{step_fault_t}
use Rattle.token_steps.specs.declared.steps.steps_t.{steps_t}
use Rattle.rust_original.specs.parser.Runs.{RunsThere}
use Rattle.rust_original.specs.parser.Texts.{as_held}

-- P holds of the tokens of a list and of the events of each run of exact calls between two of them. The caller hands
-- them in as the Rust crate holds them: their texts end at a zero byte, but those of scalars.
abbrev pub BetweenExact : (List Token → List Event → Type 0) → Type 0
BetweenExact P = (d : steps_t) (ss : List ℕ) (ms : List yaml_mark_t) (hs : Handles) (kept : Texts) (l : List Token)
    (g : List Event) → ExactRun d ss ms hs kept None (map as_held l) g → P l g

-- and of the tokens, the events and the error of each that ended with an error
abbrev pub ForExactFailed : (List Token → List Event → Fault → Type 0) → Type 0
ForExactFailed P = (d d' : steps_t) (ss ss' : List ℕ) (ms ms' : List yaml_mark_t) (hs : Handles) (kept : Texts)
    (l : List Token) (g : List Event) (t : Token) (e : step_event_t) (f : step_fault_t)
    → ExactRun d ss ms hs kept (Some t) (map as_held l) g → ExactCalls 5 d ss ms hs t d' ss' ms' e f
    → P l g (fault_with (step_fault f))

-- the original's run over these tokens, whatever comes after them
abbrev pub RunThere : List Token → List Event → Ending → Type 0
RunThere l g x = (more : List Token) (f : Fault) → RunsThere (l ++ more) f g x

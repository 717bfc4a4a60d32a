-- What holds of every run.
use Rattle.std.specs.Prelude.{◌≡◌, ◌↔◌, List, ℕ, Option, None, Some, Err, true, false}
use Rattle.libyaml_types.specs.declared.mark.yaml_mark_t.{yaml_mark_t}
use Rattle.libyaml_types.specs.Fault.{Fault, no_fault}
use Rattle.libyaml_grammar.specs.grammar.Tokens.{Token}
use Rattle.libyaml_grammar.specs.grammar.Events.{Event}
use Rattle.libyaml_grammar.specs.grammar.ValidLists.{IsViablePrefix, has_end}
use Rattle.libyaml_types.specs.declared.enums.yaml_token_type_t.{yaml_token_type_t}
use Rattle.libyaml_automaton.specs.Acceptable.{acceptable}
use Rattle.libyaml_events.specs.sources.Acceptable.{IsAcceptable}
use Rattle.libyaml_automaton.specs.Config.{Stacks, Within, stacks_of}
use Rattle.libyaml_automaton.specs.Purposes.{purpose_of}
use Rattle.libyaml_events.specs.machine.Config.{Handles, config_with}
use Rattle.libyaml_events.specs.machine.Machine as parser_machine
use Rattle.libyaml_events.specs.machine.Machine.{fault_with}
use Rattle.libyaml_events.specs.machine.Want.{Texts, Want}
use Rattle.libyaml_events.specs.sources.Pushed.{Fed}
use Rattle.token_steps.specs.declared.steps.steps_t.{steps_t}
use Rattle.token_steps.specs.declared.records.step_event_t.{step_event_t}
use Rattle.token_steps.specs.declared.records.step_fault_t.{step_fault_t}
use Rattle.token_steps.specs.Records.{step_fault}
use Rattle.token_steps.specs.Runs.{ExactRun, Run, StepCalls}
use Rattle.token_steps.specs.Tells.{tag_in}
use Rattle.token_steps.specs.Texts.{tag_read_of}

-- what a parser wants that keeps these texts
abbrev pub want_with : steps_t → Texts → Want
want_with d kept = record { next = purpose_of d.read; texts = kept }

-- a parser that was handed the same tokens gave the same events, and stands so, with the same handles and texts
abbrev pub StandsAs : steps_t → Stacks → Handles → Texts → Option Token → List Token → List Event → Type 0
StandsAs d c hs kept o l g = Fed (want_with d kept) (config_with c hs no_fault) o l g × (tag_in d ≡ tag_read_of hs kept.tag)

abbrev pub RunIsFed : Type 0
RunIsFed = (d : steps_t) (ss : List ℕ) (ms : List yaml_mark_t) (hs : Handles) (kept : Texts)
    (o : Option Token) (l : List Token) (g : List Event) → Run d ss ms hs kept o l g
    → StandsAs d (stacks_of d.machine ss ms) hs kept o l g

-- the types that are acceptable to the record of a run before STREAM-END are those with which a valid list goes on
abbrev pub NextTypes : Type 0
NextTypes = (d : steps_t) (ss : List ℕ) (ms : List yaml_mark_t) (hs : Handles) (kept : Texts)
    (l : List Token) (g : List Event) → Run d ss ms hs kept None l g → has_end l ≡ false → IsViablePrefix l
    → (k : yaml_token_type_t) → (acceptable (purpose_of d.read) (stacks_of d.machine ss ms) k ≡ true) ↔ IsAcceptable l k

-- P holds of the tokens and events of each run, whether a token is in hand or none
abbrev pub ForRuns : (List Token → List Event → Type 0) → Type 0
ForRuns P = (d : steps_t) (ss : List ℕ) (ms : List yaml_mark_t) (hs : Handles) (kept : Texts)
    (o : Option Token) (l : List Token) (g : List Event) → Run d ss ms hs kept o l g → P l g

-- the same of exact calls
abbrev pub ForExactRuns : (List Token → List Event → Type 0) → Type 0
ForExactRuns P = (d : steps_t) (ss : List ℕ) (ms : List yaml_mark_t) (hs : Handles) (kept : Texts)
    (o : Option Token) (l : List Token) (g : List Event) → ExactRun d ss ms hs kept o l g → P l g

-- and of each run between two tokens
abbrev pub BetweenTokens : (List Token → List Event → Type 0) → Type 0
BetweenTokens P = (d : steps_t) (ss : List ℕ) (ms : List yaml_mark_t) (hs : Handles) (kept : Texts)
    (l : List Token) (g : List Event) → Run d ss ms hs kept None l g → P l g

-- and of how many states and marks the record of each run counts, whose stacks have so many, and of its events
abbrev pub ForStacks : ((states marks : ℕ) → List Event → Type 0) → Type 0
ForStacks P = (d : steps_t) (ss : List ℕ) (ms : List yaml_mark_t) (hs : Handles) (kept : Texts)
    (o : Option Token) (l : List Token) (g : List Event) → Run d ss ms hs kept o l g → Within d.machine ss ms
    → P d.machine.states_count d.machine.marks_count g

-- the same of exact calls
abbrev pub ForExactStacks : ((states marks : ℕ) → List Event → Type 0) → Type 0
ForExactStacks P = (d : steps_t) (ss : List ℕ) (ms : List yaml_mark_t) (hs : Handles) (kept : Texts)
    (o : Option Token) (l : List Token) (g : List Event) → ExactRun d ss ms hs kept o l g → Within d.machine ss ms
    → P d.machine.states_count d.machine.marks_count g

-- and of the tokens, the events and the error of each run that ended with an error, which has the text of its
-- number
abbrev pub ForFailed : (List Token → List Event → Fault → Type 0) → Type 0
ForFailed P = (d d' : steps_t) (ss ss' : List ℕ) (ms ms' : List yaml_mark_t) (hs : Handles) (kept : Texts)
    (l : List Token) (g : List Event) (t : Token) (e : step_event_t) (f : step_fault_t)
    → Run d ss ms hs kept (Some t) l g → StepCalls 5 d ss ms hs t d' ss' ms' e f → P l g (fault_with (step_fault f))

-- a parser that was handed these tokens, and gave these events, has this error with the token in hand
abbrev pub FailsInHand : List Token → List Event → Fault → Type 0
FailsInHand l g f = (w : Want) × (c : Stacks) × (hs : Handles) × (t : Token)
    × Fed w (config_with c hs no_fault) (Some t) l g
    × (parser_machine.step w (config_with c hs no_fault) t ≡ Err f)

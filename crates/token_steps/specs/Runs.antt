-- What a caller handed in since a stream's start, and what it was given.
use Rattle.std.specs.Prelude.{◌≡◌, ◌∷◌, ◌++◌, List, [], ℕ, Option, None, Some, true, false}
use Rattle.libyaml_types.specs.declared.mark.yaml_mark_t.{yaml_mark_t}
use Rattle.libyaml_grammar.specs.grammar.Tokens.{Token}
use Rattle.libyaml_grammar.specs.grammar.Events.{Event}
use Rattle.libyaml_grammar.specs.grammar.ValidLists.{has_end}
use Rattle.libyaml_automaton.specs.Automaton.{AtState}
use Rattle.libyaml_automaton.specs.Config.{Stacks, stacks_of, first_stacks}
use Rattle.libyaml_automaton.specs.Purposes.{purpose_of}
use Rattle.libyaml_events.specs.machine.Config.{Handles, no_handles}
use Rattle.libyaml_events.specs.machine.Machine.{declared_by}
use Rattle.libyaml_events.specs.machine.Want.{Texts, no_texts}
use Rattle.token_steps.specs.declared.steps.steps_t.{steps_t}
use Rattle.token_steps.specs.declared.records.step_event_t.{step_event_t}
use Rattle.token_steps.specs.declared.records.step_fault_t.{step_fault_t}
use Rattle.token_steps.specs.Exact.{exact_step_by_fact}
use Rattle.token_steps.specs.Facts.{StepResult, StepToken, StepWant, step_by_fact}
use Rattle.token_steps.specs.Records.{shape_of, event_of}
use Rattle.token_steps.specs.Tells.{TellsNumber, want_in, tag_in}
use Rattle.token_steps.specs.Texts.{event_with, handles_past, texts_kept_after, token_of}

-- what a call's step leads to
abbrev pub StepsBy : Type 0
StepsBy = StepWant → Stacks → StepToken → StepResult

-- A call with this record and these stacks at the token t, with its fact by the handles hs, returned the
-- number n to C, and left that record, those stacks, the event e and the error f.
abbrev pub CallsBy : StepsBy → (n : ℕ) → (old : steps_t) → (states : List ℕ) → (marks : List yaml_mark_t) → (hs : Handles)
    → (t : Token) → (new : steps_t) → (states' : List ℕ) → (marks' : List yaml_mark_t) → (e : step_event_t)
    → (f : step_fault_t) → Type 0
CallsBy by n d ss ms hs t d' ss' ms' e f = TellsNumber n
    (by (want_in d) (stacks_of d.machine ss ms) (token_of hs t)) d' e f (stacks_of d'.machine ss' ms')

abbrev pub StepCalls : (n : ℕ) → (old : steps_t) → (states : List ℕ) → (marks : List yaml_mark_t) → (hs : Handles)
    → (t : Token) → (new : steps_t) → (states' : List ℕ) → (marks' : List yaml_mark_t) → (e : step_event_t)
    → (f : step_fault_t) → Type 0
StepCalls = CallsBy step_by_fact

-- of an exact call
abbrev pub ExactCalls : (n : ℕ) → (old : steps_t) → (states : List ℕ) → (marks : List yaml_mark_t) → (hs : Handles)
    → (t : Token) → (new : steps_t) → (states' : List ℕ) → (marks' : List yaml_mark_t) → (e : step_event_t)
    → (f : step_fault_t) → Type 0
ExactCalls = CallsBy exact_step_by_fact

-- With this record and these stacks the caller handed in these tokens, one by one, and was given these
-- events; a token is in its hand, or none is. Beside them it keeps a document's handles until its end, and
-- the texts of each property and directive until the next event. An event has the texts that are kept, and
-- those of the token in hand.
pub data RunBy (by : StepsBy) : steps_t → (states : List ℕ) → (marks : List yaml_mark_t) → (hs : Handles) → (kept : Texts)
    → Option Token → List Token → List Event → Type 0 where
  begins : (d : steps_t) (ss : List ℕ) (ms : List yaml_mark_t) → purpose_of d.read ≡ AtState
      → stacks_of d.machine ss ms ≡ first_stacks → RunBy by d ss ms no_handles no_texts None [] []
  -- other stacks with the same in them, and the record that a call left which found no room
  moves : (d d' : steps_t) (ss ss' : List ℕ) (ms ms' : List yaml_mark_t) (hs : Handles) (h : Texts)
      (o : Option Token) (l : List Token) (g : List Event) → RunBy by d ss ms hs h o l g → purpose_of d'.read ≡ purpose_of d.read
      → tag_in d' ≡ tag_in d
      → stacks_of d'.machine ss' ms' ≡ stacks_of d.machine ss ms → RunBy by d' ss' ms' hs h o l g
  -- the next token is looked at, where there was no STREAM-END
  takes : (d : steps_t) (ss : List ℕ) (ms : List yaml_mark_t) (hs : Handles) (h : Texts) (l : List Token)
      (g : List Event) (t : Token) → RunBy by d ss ms hs h None l g → has_end l ≡ false
      → RunBy by d ss ms hs h (Some t) (l ++ t ∷ []) g
  -- 0: it is taken without an event
  wants : (d d' : steps_t) (ss ss' : List ℕ) (ms ms' : List yaml_mark_t) (hs : Handles) (h : Texts)
      (l : List Token) (g : List Event) (t : Token) (e : step_event_t) (f : step_fault_t)
      → RunBy by d ss ms hs h (Some t) l g → CallsBy by 0 d ss ms hs t d' ss' ms' e f
      → RunBy by d' ss' ms' (declared_by hs t.content) (texts_kept_after h t.content) None l g
  -- 1: with one
  gave : (d d' : steps_t) (ss ss' : List ℕ) (ms ms' : List yaml_mark_t) (hs : Handles) (h : Texts)
      (l : List Token) (g : List Event) (t : Token) (e : step_event_t) (f : step_fault_t)
      → RunBy by d ss ms hs h (Some t) l g → CallsBy by 1 d ss ms hs t d' ss' ms' e f
      → RunBy by d' ss' ms' (handles_past hs (shape_of e)) no_texts None l
      (g ++ event_with hs h t.content (event_of e false) ∷ [])
  -- 2: it stays after one
  stays : (d d' : steps_t) (ss ss' : List ℕ) (ms ms' : List yaml_mark_t) (hs : Handles) (h : Texts)
      (l : List Token) (g : List Event) (t : Token) (e : step_event_t) (f : step_fault_t)
      → RunBy by d ss ms hs h (Some t) l g → CallsBy by 2 d ss ms hs t d' ss' ms' e f
      → RunBy by d' ss' ms' (handles_past hs (shape_of e)) no_texts (Some t) l
      (g ++ event_with hs h t.content (event_of e true) ∷ [])

-- of calls of `step`, and of exact calls
abbrev pub Run : steps_t → (states : List ℕ) → (marks : List yaml_mark_t) → (hs : Handles) → (kept : Texts)
    → Option Token → List Token → List Event → Type 0
Run = RunBy step_by_fact

abbrev pub ExactRun : steps_t → (states : List ℕ) → (marks : List yaml_mark_t) → (hs : Handles) → (kept : Texts)
    → Option Token → List Token → List Event → Type 0
ExactRun = RunBy exact_step_by_fact

-- What a call of a run is of the machine's steps.
use Rattle.std.proofs.Common.{◌≡◌, ◌∙◌, List, ℕ, Some, Ok, true, false, ap, arith}
use Rattle.libyaml_types.specs.Fault.{no_fault}
use Rattle.libyaml_types.specs.declared.mark.yaml_mark_t.{yaml_mark_t}
use Rattle.libyaml_grammar.specs.grammar.Events.{Event}
use Rattle.libyaml_grammar.specs.grammar.Tokens.{Token}
use Rattle.libyaml_automaton.specs.Automaton as automaton
use Rattle.libyaml_automaton.specs.Config.{Stacks, stacks_of}
use Rattle.libyaml_automaton.specs.Purposes.{purpose_of}
use Rattle.libyaml_events.specs.machine.Config.{Handles, config_with}
use Rattle.libyaml_events.specs.machine.Machine.{declared_by, step}
use Rattle.libyaml_events.specs.machine.Want as parser
use Rattle.libyaml_events.specs.machine.Want.{Texts}
use Rattle.token_steps.specs.declared.did.Did.{Did}
use Rattle.token_steps.specs.declared.steps.steps_t.{steps_t}
use Rattle.token_steps.specs.declared.records.step_event_t.{step_event_t}
use Rattle.token_steps.specs.declared.records.step_fault_t.{step_fault_t}
use Rattle.token_steps.specs.Facts.{Given, StepResult, Wants}
use Rattle.token_steps.specs.Numbers.{number}
use Rattle.token_steps.specs.Records.{event_of}
use Rattle.token_steps.specs.RunLaws.{want_with}
use Rattle.token_steps.specs.Runs.{Run, StepCalls}
use Rattle.token_steps.specs.Tells.{Tells, want_in}
use Rattle.token_steps.specs.Texts.{texts_kept_after}
use Rattle.token_steps.proofs.Running.{stood}
use Rattle.token_steps.proofs.Tied.{steps_told, told_with}

-- what the number says
pub tells_wants : (x : Did) (p : StepResult) (d : steps_t) (e : step_event_t) (f : step_fault_t) (c : Stacks) → 0 ≡ number x
    → Tells x p d e f c → p ≡ Ok (Wants (want_in d), c)
tells_wants x p d e f c q h = grind arith

pub tells_gives : (x : Did) (p : StepResult) (d : steps_t) (e : step_event_t) (f : step_fault_t) (c : Stacks) → 1 ≡ number x
    → Tells x p d e f c → (p ≡ Ok (Given (event_of e false), c)) × (purpose_of d.read ≡ automaton.AtState)
tells_gives x p d e f c q h = grind arith

pub tells_stays : (x : Did) (p : StepResult) (d : steps_t) (e : step_event_t) (f : step_fault_t) (c : Stacks) → 2 ≡ number x
    → Tells x p d e f c → (p ≡ Ok (Given (event_of e true), c)) × (purpose_of d.read ≡ automaton.AtState)
tells_stays x p d e f c q h = grind arith

-- the machine's step at the token in hand
pub step_wants : (d d' : steps_t) (ss ss' : List ℕ) (ms ms' : List yaml_mark_t) (hs : Handles) (kept : Texts)
    (l : List Token) (g : List Event) (t : Token) (e : step_event_t) (f : step_fault_t)
    → Run d ss ms hs kept (Some t) l g → StepCalls 0 d ss ms hs t d' ss' ms' e f
    → step (want_with d kept) (config_with (stacks_of d.machine ss ms) hs no_fault) t
    ≡ Ok (parser.Wants (want_with d' (texts_kept_after kept t.content))
    (config_with (stacks_of d'.machine ss' ms') (declared_by hs t.content) no_fault))
step_wants d d' ss ss' ms ms' hs kept l g t e f r c =
    let at = stood d ss ms hs kept (Some t) l g r in
    steps_told (want_in d) hs kept t (stacks_of d.machine ss ms) at.holds at.tag
    ∙ ap (told_with kept hs t t.content) (tells_wants c.0 _ d' e f _ c.1 c.2)

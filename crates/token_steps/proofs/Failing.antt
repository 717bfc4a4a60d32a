-- An error of a call is the parser's.
use Rattle.std.proofs.Common.{◌≡◌, ◌∙◌, ap, Err, arith}
use Rattle.libyaml_automaton.specs.Config.{Stacks, stacks_of}
use Rattle.token_steps.specs.declared.did.Did.{Did}
use Rattle.token_steps.specs.declared.steps.steps_t.{steps_t}
use Rattle.token_steps.specs.declared.records.step_event_t.{step_event_t}
use Rattle.token_steps.specs.declared.records.step_fault_t.{step_fault_t}
use Rattle.token_steps.specs.Facts.{StepResult}
use Rattle.token_steps.specs.Numbers.{number}
use Rattle.token_steps.specs.Records.{step_fault}
use Rattle.token_steps.specs.RunLaws.{ForFailed, FailsInHand, want_with}
use Rattle.token_steps.specs.Tells.{Tells, want_in}
use Rattle.token_steps.proofs.Running.{stood}
use Rattle.token_steps.proofs.Tied.{steps_told, told_with}

pub tells_fails : (x : Did) (p : StepResult) (d : steps_t) (e : step_event_t) (f : step_fault_t) (c : Stacks) → 5 ≡ number x
    → Tells x p d e f c → p ≡ Err (step_fault f)
tells_fails x p d e f c q h = grind arith

pub fails : ForFailed FailsInHand
fails d d' ss ss' ms ms' hs kept l g t e f r c =
    let at = stood d ss ms hs kept _ l g r in (
      want_with d kept,
      stacks_of d.machine ss ms,
      hs,
      t,
      at.fed,
      steps_told (want_in d) hs kept t (stacks_of d.machine ss ms) at.holds at.tag
          ∙ ap (told_with kept hs t t.content) (tells_fails c.0 _ d' e f _ c.1 c.2),
    )

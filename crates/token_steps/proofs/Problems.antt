-- Each error of a call has a number from 1 to 12.
use Rattle.std.proofs.Common.{◌≡◌, ℕ, Bool, true, false, Ok, Err, arith, rules}
use Rattle.libyaml_types.specs.declared.enums.yaml_token_type_t.{yaml_token_type_t}
use Rattle.libyaml_automaton.specs.declared.node_place.NodePlace.{NodePlace}
use Rattle.libyaml_automaton.specs.Automaton.{PropertiesRead, Step}
use Rattle.libyaml_automaton.specs.Config.{Stacks}
use Rattle.libyaml_automaton.specs.Differing.{differs}
use Rattle.libyaml_automaton.specs.declared.difference.Difference.{Difference}
use Rattle.libyaml_automaton.specs.declared.difference.Difference.TheVariants.{Nowhere}
use Rattle.token_steps.specs.Exact.{step_by_fact_if, step_there}
use Rattle.token_steps.specs.Facts.{StepResult, TagRead, StepToken, StepWant, content_by_fact, without_fact, step_by_fact, with_facts}
use Rattle.token_steps.specs.Numbers.{IsFaultNumber}
use Rattle.token_steps.specs.Tells.{Tells}
use Rattle.token_steps.specs.declared.did.Did.{Did}
use Rattle.token_steps.specs.declared.did.Did.TheVariants as did
use Rattle.token_steps.specs.declared.steps.steps_t.{steps_t}
use Rattle.token_steps.specs.declared.records.step_event_t.{step_event_t}
use Rattle.token_steps.specs.declared.records.step_fault_t.{step_fault_t}
use Rattle.token_steps.proofs.Follows.{Follows, Keeping, follows, keeping, node_content}

abbrev pub Numbered : StepResult → Type 0
Numbered (Ok p) = Unit {0}
Numbered (Err f) = IsFaultNumber f.problem

pub content_number : (g : TagRead) (tag : ℕ) (p : NodePlace) (r : PropertiesRead) (c : Stacks) (t : StepToken)
    → Numbered (content_by_fact g tag p r c t)
content_number g tag p r c t = grind (arith, node_content p r c (without_fact t) t.kind)

event_result : (v : Keeping) (k : yaml_token_type_t) (tag : ℕ) (t : StepToken) (s : Step) → Follows v k s
    → Numbered (with_facts tag t s)
event_result v k tag t s x = grind (arith, content_number)

pub step_number : (v : StepWant) (c : Stacks) (t : StepToken) → Numbered (step_by_fact v c t)
step_number v c t = event_result (keeping v.next) t.kind v.tag t _ (follows v.next c (without_fact t) t.kind)

there_number : (x : Difference) (v : StepWant) (c : Stacks) (t : StepToken) → Numbered (step_there x v c t)
there_number Nowhere v c t = step_number v c t
there_number _ v c t = search rules

pub number_if : (b : Bool) (v : StepWant) (c : Stacks) (t : StepToken) → Numbered (step_by_fact_if b v c t)
number_if false v c t = step_number v c t
number_if true v c t = there_number (differs v.next c.state c.behind_document_end t.kind) v c t

pub failed_number : (x : Did) (p : StepResult) (d : steps_t) (e : step_event_t) (f : step_fault_t) (c : Stacks)
    → Numbered p → x ≡ did.Failed → Tells x p d e f c → IsFaultNumber f.problem
failed_number x p d e f c n q h = grind arith

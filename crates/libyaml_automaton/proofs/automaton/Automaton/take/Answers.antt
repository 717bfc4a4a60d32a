use Rattle.std.proofs.Common.{◌∙◌, sym, ap}
use Rattle.libyaml_automaton.specs.Numbers.{next_of}
use Rattle.libyaml_automaton.specs.Purposes.{slot_at}
use Rattle.libyaml_automaton.proofs.AfterToken.{slot_exact_step, slot_goes, slot_step}
use Rattle.libyaml_automaton.proofs.EqualSteps.{same_taken}
use Rattle.libyaml_automaton.proofs.automaton.Automaton.take.Goals as goal

pub returns-in-Some-clause-steps : goal.returns-in-Some-clause-steps
returns-in-Some-clause-steps g c = λ e.
    let slot = ap slot_at (sym c.of_number.ensures) ∙ (sym c.slot.ensures ∙ c.in-Some.is) in
    rw c.in-YAML_SCALAR_TOKEN.is (same_taken _ _ _ _ _ _ _ _
    (slot_step (next_of c.args.read.now.next) c.args.read.now _ _ _ _ slot) (c.parse_slot.ensures.steps c.args.read.now c.args.marks.now))

pub returns-in-Some-clause-exact : goal.returns-in-Some-clause-exact
returns-in-Some-clause-exact g c = λ e.
    let slot = ap slot_at (sym c.of_number.ensures) ∙ (sym c.slot.ensures ∙ c.in-Some.is) in
    rw c.in-YAML_SCALAR_TOKEN.is (same_taken _ _ _ _ _ _ _ _
    (slot_exact_step (next_of c.args.read.now.next) c.args.read.now _ _ _ _ slot) (c.parse_slot.ensures.steps c.args.read.now c.args.marks.now))

pub returns-in-Some-clause-goes : goal.returns-in-Some-clause-goes
returns-in-Some-clause-goes g c =
    let slot = ap slot_at (sym c.of_number.ensures) ∙ (sym c.slot.ensures ∙ c.in-Some.is) in
    rw c.in-YAML_SCALAR_TOKEN.is (slot_goes (next_of c.args.read.now.next) _ _ _ _ _ _ _ _ slot (c.parse_slot.ensures.goes _ c.args.read.now))

use Rattle.std.proofs.Common.{true, ◌≡◌, ◌∙◌, refl, rules, arith}
use Rattle.std.specs.Vec.{with_items}
use Rattle.std.proofs.lemmas.List.{with_items_is}
use Rattle.libyaml_types.specs.Fault.{fault_of}
use Rattle.libyaml_automaton.specs.declared.action.Action.TheVariants as action
use Rattle.libyaml_automaton.specs.Config.{stacks_of}
use Rattle.libyaml_automaton.specs.Growth.{opens, pushes}
use Rattle.libyaml_automaton.specs.Numbers.{next_of}
use Rattle.libyaml_events.specs.machine.Config.{config_with}
use Rattle.libyaml_events.proofs.layer.Stacks.{same_reading}
use Rattle.libyaml_events.proofs.layer.StepWithTexts.{grows_asked, grows_full, leads, pushes_full, still_ready}
use Rattle.libyaml_events.proofs.parser.TokenParser.step_automaton.Goals as goal

-- the parser before the step, by its buffers
was : (c : goal.After-self-2-1) → config_with (stacks_of c.self-inside.inside.0.0.automaton c.as_mut_slice.result.now
    c.as_mut_slice-2.result.now) c.self-inside.inside.0.1.0 (fault_of c.self-inside.inside.0.1.1.1.0) ≡ c.args.self.now
was c = grind arith

-- the buffers after the step are what the step left
states : (c : goal.After-self-2-1) → (with_items c.self-inside.inside.0.0.states c.step.new.states).items ≡ c.step.new.states
states c = with_items_is c.self-inside.inside.0.0.states c.step.new.states (c.step.auto.states ∙ c.as_mut_slice.ensures.len)

marks : (c : goal.After-self-2-1) → (with_items c.self-inside.inside.0.0.marks c.step.new.marks).items ≡ c.step.new.marks
marks c = with_items_is c.self-inside.inside.0.0.marks c.step.new.marks (c.step.auto.marks ∙ c.as_mut_slice-2.ensures.len)

asked : (c : goal.After-self-2-1) → c.step.result ≡ action.AsksContent → c.step.new.read ≡ c.args.pending.now.reading
asked c e = rw e at (c.step.ensures.undone (rw e tt)).1.1.1

pub returns-clause-led : goal.returns-clause-led
returns-clause-led c = rw (states c, marks c) (leads c.self-inside.inside.0.1.0 (fault_of c.self-inside.inside.0.1.1.1.0) _ _
    c.args.self.now c.args.token.now c.args.pending.now c.step.new.read c.step.result c.type_.result (was c)
    c.type_.ensures c.step.ensures.fits (asked c) (c.step.ensures.steps refl))

pub returns-clause-undone : goal.returns-clause-undone
returns-clause-undone c = λ h.
    let u = c.step.ensures.undone h in
    let same : config_with (stacks_of c.step.new.self c.step.new.states c.step.new.marks) c.self-inside.inside.0.1.0
    (fault_of c.self-inside.inside.0.1.1.1.0) ≡ c.args.self.now = rw (u.0, u.1.0, u.1.1.0) (was c) in
    rw (states c, marks c) (still_ready c.args.pending.now c.step.new.read c.args.self.now _ same
    (same_reading c.step.result c.args.pending.now.reading c.step.new.read u.1.1.1) c.requires)

pub returns-clause-content : goal.returns-clause-content
returns-clause-content c = (grows_asked c.self-inside.inside.0.1.0 (fault_of c.self-inside.inside.0.1.1.1.0)
    _ _ c.args.self.now c.args.token.now c.args.pending.now c.step.new.read c.step.result c.type_.result (was c)
    c.type_.ensures c.step.ensures.fits (asked c) (c.step.ensures.steps refl))

pub returns-clause-grows : goal.returns-clause-grows
returns-clause-grows c = λ h.
    let full_states : c.step.result ≡ action.FullStates → pushes (next_of c.args.pending.now.reading.next) c.type_.result ≡ true
    = search rules in
    let full_marks : c.step.result ≡ action.FullMarks → opens (next_of c.args.pending.now.reading.next) c.type_.result ≡ true
    = search rules in
    grows_full c.args.pending.now c.args.self.now c.args.token.now.content c.type_.result c.requires c.type_.ensures
    (pushes_full c.step.result (pushes (next_of c.args.pending.now.reading.next) c.type_.result)
    (opens (next_of c.args.pending.now.reading.next) c.type_.result) full_states full_marks h)

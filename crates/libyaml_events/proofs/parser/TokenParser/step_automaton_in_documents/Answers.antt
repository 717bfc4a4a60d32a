use Rattle.std.proofs.Common.{◌≡◌, ap, refl, rules, true, arith}
use Rattle.std.specs.Vec.{with_items}
use Rattle.std.proofs.lemmas.List.{with_items_is}
use Rattle.libyaml_types.specs.Fault.{fault_of}
use Rattle.libyaml_automaton.specs.declared.action.Action.TheVariants as action
use Rattle.libyaml_automaton.specs.Config.{stacks_of}
use Rattle.libyaml_automaton.specs.Growth.{pushes_in_documents}
use Rattle.libyaml_automaton.specs.Numbers.{flag, next_of}
use Rattle.libyaml_events.specs.machine.Config.{Machine, config_with}
use Rattle.libyaml_events.proofs.layer.StepWithTexts.{still_ready}
use Rattle.libyaml_events.proofs.layer.Directives.{document_grows, document_leads, handle_grows}
use Rattle.libyaml_events.proofs.parser.TokenParser.step_automaton_in_documents.Goals as goal

-- the parser before the step, by its buffers
was : (c : goal.After-self-1) → config_with (stacks_of c.self-inside.inside.0.0.automaton c.as_mut_slice.result.now
    c.self-inside.inside.0.0.marks.items) c.self-inside.inside.0.1.0 (fault_of c.self-inside.inside.0.1.1.1.0)
    ≡ c.args.self.now
was c = grind arith

-- the buffer after the step is what the step left
states : (c : goal.After-self-1) → (with_items c.self-inside.inside.0.0.states c.document_step.new.states).items
    ≡ c.document_step.new.states
states c = grind (arith, with_items_is)

pub returns-clause-led : goal.returns-clause-led
returns-clause-led c = rw (states c) (document_leads c.self-inside.inside.0.1.0 (fault_of c.self-inside.inside.0.1.1.1.0)
    _ _ c.args.self.now c.args.token.now c.args.pending.now c.document_step.new.read c.document_step.result c.type_.result
    (was c) c.type_.ensures c.requires.declared
    (c.document_step.ensures.steps refl c.self-inside.inside.0.0.marks.items c.args.token.now.end_mark))

pub returns-clause-undone : goal.returns-clause-undone
returns-clause-undone c = λ h.
    let u = c.document_step.ensures.undone h in
    let same : config_with (stacks_of c.document_step.new.self c.document_step.new.states c.self-inside.inside.0.0.marks.items)
    c.self-inside.inside.0.1.0 (fault_of c.self-inside.inside.0.1.1.1.0) ≡ c.args.self.now = rw (u.0, u.1.0) (was c) in
    let r = still_ready c.args.pending.now c.document_step.new.read c.args.self.now _ same u.1.1 c.requires.ready in
    rw (states c) (r.0, r.1, r.2, u.1.1.0)

pub returns-clause-grows : goal.returns-clause-grows
returns-clause-grows c =
    let full : c.document_step.result ≡ action.FullStates → pushes_in_documents (next_of c.args.pending.now.reading.next)
    (flag c.self-inside.inside.0.0.automaton.behind_document_end) c.type_.result ≡ true = search rules in
    λ h. document_grows c.args.pending.now c.args.self.now c.args.token.now.content c.type_.result
    c.requires.ready c.type_.ensures (rw (ap (λ (y : Machine). y.behind_document_end) (was c)) at (full h))

pub returns-clause-handle : goal.returns-clause-handle
returns-clause-handle c = handle_grows c.self-inside.inside.0.1.0 (fault_of c.self-inside.inside.0.1.1.1.0)
    _ _ c.args.self.now c.args.token.now c.args.pending.now c.document_step.new.read c.document_step.result c.type_.result
    (was c) c.requires.ready c.type_.ensures c.document_step.ensures.fits c.requires.documents
    (c.document_step.ensures.steps refl c.self-inside.inside.0.0.marks.items c.args.token.now.end_mark)

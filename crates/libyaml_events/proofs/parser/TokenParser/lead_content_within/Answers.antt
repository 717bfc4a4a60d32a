use Rattle.std.proofs.Common.{◌≡◌, ap, arith}
use Rattle.std.specs.Vec.{with_items}
use Rattle.std.proofs.lemmas.List.{with_items_is}
use Rattle.libyaml_types.specs.Fault.{fault_of}
use Rattle.libyaml_automaton.specs.Config.{stacks_of}
use Rattle.libyaml_events.specs.machine.Config.{config_of, config_with}
use Rattle.libyaml_events.proofs.layer.StepWithTexts.{says_content}
use Rattle.libyaml_events.proofs.parser.TokenParser.lead_content_within.Goals as goal

-- the parser before the step, by its buffers
was : (c : goal.After-self-1) → config_with (stacks_of c.self-inside.inside.0.0.automaton c.as_slice.result.now
    c.as_mut_slice.result.now) c.self-inside.inside.0.1.0 (fault_of c.self-inside.inside.0.1.1.1.0) ≡ c.args.self.now
was c = grind arith

-- the buffer after the step is what the step left
marks : (c : goal.After-self-1) → (with_items c.self-inside.inside.0.0.marks c.content_after.new.marks).items
    ≡ c.content_after.new.marks
marks c = grind (arith, with_items_is)

pub returns-clause-led : goal.returns-clause-led
returns-clause-led c = λ o h a g i. rw (marks c) (says_content c.self-inside.inside.0.1.0
    (fault_of c.self-inside.inside.0.1.1.1.0) _
    (stacks_of c.content_after.new.self c.self-inside.inside.0.0.states.items c.content_after.new.marks) c.args.self.now h
    c.args.token.now a g o _ _ (was c)
    (rw (ap config_of (was c), c.requires.kind, c.as_slice.ensures.value) at c.content_after.ensures.steps) i)

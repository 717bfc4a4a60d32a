use Rattle.std.proofs.Common.{◌≡◌, ◌≤◌, ap, rules}
use Rattle.std.specs.Vec.{vec_capacity, vec_len}
use Rattle.libyaml_events.specs.machine.Config.{Machine}
use Rattle.libyaml_events.specs.machine.StepsOnto.{by_list}
use Rattle.libyaml_events.proofs.layer.Putting.{given_by}
use Rattle.libyaml_events.proofs.parser.TokenParser.step_aside.Goals as goal

pub returns-then-is_err-clause-steps : goal.returns-then-is_err-clause-steps
returns-then-is_err-clause-steps c =
    let m : c.push.new.self.items ≡ c.args.events.now.items = search rules in
    let full : vec_capacity c.args.events.now ≤ vec_len c.push.new.self = search rules in
    let fault = ap (λ (d : Machine). d.fault) c.fail_out_of_memory.ensures.kept in
    let given = given_by _ c.step-step.result c.step-step.new.token c.step-step.new.pending c.step-step.new.out
    c.step-step.new.self c.in-Given.is c.step-step.ensures.steps in
    rw c.fail_out_of_memory.ensures.failed
    (by_list c.step-step.new.out given.0 given.1 (ap (λ f. f.error) fault) fault full, m)

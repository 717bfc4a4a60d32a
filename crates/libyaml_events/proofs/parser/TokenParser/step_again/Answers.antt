use Rattle.std.proofs.Common.{◌≡◌, refl}
use Rattle.libyaml_types.specs.Fault.{fault_of}
use Rattle.libyaml_events.specs.machine.Config.{Machine, config_with}
use Rattle.libyaml_events.proofs.calls.Holding.{still_after}
use Rattle.libyaml_events.proofs.layer.Putting.{again}
use Rattle.libyaml_events.proofs.parser.TokenParser.step_again.Goals as goal

pub returns-in_default : goal.returns-in_default
returns-in_default c =
    let was : Machine = config_with c.grow.new.self c.self.inside.handles
    (fault_of c.self.inside.prefix) in
    let same : was ≡ c.args.self.now = rw c.grow.ensures c.self.view_is in
    let y = c.put.ensures.puts _ _ c.step_automaton.ensures.led in
    record {
      steps = again _ _ _ _ c.args.token.now _ _ refl same y.0;
      ready = y.1;
      held = λ f. still_after c.args.pending.now c.step_automaton.new.pending c.put.new.pending c.step_automaton.ensures.texts (c.put.ensures.handle f);
    }

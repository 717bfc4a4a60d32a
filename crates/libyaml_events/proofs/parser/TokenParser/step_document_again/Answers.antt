use Rattle.std.proofs.Common.{◌≡◌, refl}
use Rattle.libyaml_types.specs.Fault.{fault_of}
use Rattle.libyaml_events.specs.machine.Config.{Machine, config_with}
use Rattle.libyaml_events.proofs.layer.Putting.{again}
use Rattle.libyaml_events.proofs.parser.TokenParser.step_document_again.Goals as goal

pub returns-in_default : goal.returns-in_default
returns-in_default c =
    let was : Machine = config_with c.grow.new.self c.self.inside.handles
    (fault_of c.self.inside.prefix) in
    let same : was ≡ c.args.self.now = rw c.grow.ensures c.self.view_is in
    let y = c.put_document.ensures.puts _ _ c.step_automaton_in_documents.ensures.led in
    record {
      steps = again _ _ _ _ c.args.token.now _ _ refl same y.0;
      ready = y.1;
    }

use Rattle.std.proofs.Common.{◌≡◌, subst, sym}
use Rattle.libyaml_types.specs.Fault.{fault_of}
use Rattle.libyaml_events.specs.automaton.AutomatonResults.{IsContent}
use Rattle.libyaml_events.specs.machine.Config.{Machine, config_with}
use Rattle.libyaml_events.proofs.parser.TokenParser.lead_content_again.Goals as goal

pub returns-clause-led : goal.returns-clause-led
returns-clause-led c = λ o h a g i.
    let was : Machine = config_with c.grow.new.self c.self.inside.handles
    (fault_of c.self.inside.prefix) in
    let same : was ≡ c.args.self.now = rw c.grow.ensures c.self.view_is in
    c.lead_content_within.ensures.led o h a g
    (subst (λ (m : Machine). IsContent o h a g c.args.token.now c.args.pending.now.reading m) (sym same) i)

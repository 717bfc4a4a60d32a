use Rattle.libyaml_events.proofs.calls.Holding.{still_after}
use Rattle.libyaml_events.proofs.parser.TokenParser.step.Goals as goal

pub returns-in_default : goal.returns-in_default
returns-in_default g c =
    let y = c.put.ensures.puts _ _ c.step_automaton.ensures.led in
    record {
      steps = y.0;
      ready = y.1;
      grows = λ f m. let w = c.put.ensures.grows f m in c.step_automaton.ensures.content w.0 w.1;
      held = λ f. still_after c.args.pending.now c.step_automaton.new.pending c.put.new.pending c.step_automaton.ensures.texts (c.put.ensures.handle f);
    }

use Rattle.libyaml_events.proofs.exported.Pushes.{fault_runs}
use Rattle.token_steps.proofs.Failing.{fails}
use Rattle.token_steps.proofs.laws.run_fails.Goals as goal

pub returns : goal.returns
returns c = record {
  parser = fails;
  run = λ d d' ss ss' ms ms' hs h l g t e f r q.
      let at = fails d d' ss ss' ms ms' hs h l g t e f r q in fault_runs at.4 _ at.5;
}

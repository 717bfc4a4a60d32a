use Rattle.token_steps.proofs.Running.{fed}
use Rattle.token_steps.proofs.laws.run_is_fed.Goals as goal

pub returns : goal.returns
returns c = fed

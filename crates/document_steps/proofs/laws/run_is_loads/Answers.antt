use Rattle.document_steps.proofs.Running.{all_loads}
use Rattle.document_steps.proofs.laws.run_is_loads.Goals as goal

pub returns : goal.returns
returns c = λ most d ss h es ds run. all_loads d ss h es ds run

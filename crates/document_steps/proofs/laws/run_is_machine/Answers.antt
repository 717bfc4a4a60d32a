use Rattle.document_steps.proofs.Running.{stood}
use Rattle.document_steps.proofs.laws.run_is_machine.Goals as goal

pub returns : goal.returns
returns c = λ most d ss h es ds run. (stood d ss h es ds run).leads

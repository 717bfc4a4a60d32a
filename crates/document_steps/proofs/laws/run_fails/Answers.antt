use Rattle.document_steps.proofs.Running.{fault}
use Rattle.document_steps.proofs.laws.run_fails.Goals as goal

pub returns : goal.returns
returns c = λ most d d' ss ss' h es ds a e p p' run calls r. fault d d' ss ss' h es ds a e p p' run calls r

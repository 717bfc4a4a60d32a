use Rattle.document_sizes.proofs.Stops.{endless_is_right}
use Rattle.document_sizes.proofs.laws.endless_is_right.Goals as goal

pub returns : goal.returns
returns c = endless_is_right

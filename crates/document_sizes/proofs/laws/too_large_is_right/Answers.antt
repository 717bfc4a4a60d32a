use Rattle.document_sizes.proofs.Stops.{too_large_is_right}
use Rattle.document_sizes.proofs.laws.too_large_is_right.Goals as goal

pub returns : goal.returns
returns c = too_large_is_right

use Rattle.document_sizes.proofs.Running.{total_is_size}
use Rattle.document_sizes.proofs.laws.total_is_size.Goals as goal

pub returns : goal.returns
returns c = total_is_size

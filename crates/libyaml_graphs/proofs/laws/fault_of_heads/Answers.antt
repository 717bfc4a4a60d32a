use Rattle.libyaml_graphs.proofs.graphs.Ids.{fault_of_heads}
use Rattle.libyaml_graphs.proofs.laws.fault_of_heads.Goals as goal

pub returns : goal.returns
returns c = fault_of_heads

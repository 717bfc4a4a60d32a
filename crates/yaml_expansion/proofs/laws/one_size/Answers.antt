use Rattle.yaml_expansion.specs.Expansion.{root_of}
use Rattle.yaml_expansion.proofs.Trees.{one_size}
use Rattle.yaml_expansion.proofs.laws.one_size.Goals as goal

pub returns : goal.returns
returns c = λ nodes m n. one_size nodes (root_of nodes) m n

use Rattle.yaml_expansion.specs.Expansion.{root_of}
use Rattle.yaml_expansion.proofs.Counting.{ways_of_trees}
use Rattle.yaml_expansion.proofs.laws.size_counts_ways.Goals as goal

pub returns : goal.returns
returns c = λ nodes size. ways_of_trees nodes (root_of nodes) size

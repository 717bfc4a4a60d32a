use Rattle.std.proofs.Common.{refl}
use Rattle.libyaml_graphs.proofs.vectors.LoadVectors.{valid_list_loads}
use Rattle.libyaml_graphs.proofs.laws.vectors.collections.Goals as goal

pub returns-clause-pairs : goal.returns-clause-pairs
returns-clause-pairs c = valid_list_loads 10 _ _ _ _ refl refl refl

pub returns-clause-collections_in_pairs : goal.returns-clause-collections_in_pairs
returns-clause-collections_in_pairs c = valid_list_loads 14 _ _ _ _ refl refl refl

use Rattle.std.proofs.Common.{refl}
use Rattle.libyaml_graphs.proofs.vectors.LoadVectors.{bounded_vectors}
use Rattle.libyaml_graphs.proofs.laws.vectors.bounds.Goals as goal

pub returns : goal.returns
returns c = record {
  nodes_in_bound = bounded_vectors _ 10 _ _ _ _ refl refl refl;
  nodes_beyond_bound = bounded_vectors _ 10 _ _ _ _ refl refl refl;
  items_beyond_bound = bounded_vectors _ 8 _ _ _ _ refl refl refl;
  bound_of_each_document = bounded_vectors _ 6 _ _ _ _ refl refl refl;
  bound_before_anchor = bounded_vectors _ 9 _ _ _ _ refl refl refl;
  alias_before_bound = bounded_vectors _ 8 _ _ _ _ refl refl refl;
  pair_in_bound = bounded_vectors _ 9 _ _ _ _ refl refl refl;
  key_beyond_bound = bounded_vectors _ 14 _ _ _ _ refl refl refl;
  undefined_alias_after_key = bounded_vectors _ 14 _ _ _ _ refl refl refl;
}

use Rattle.std.proofs.Common.{refl}
use Rattle.libyaml_grammar.proofs.exported.VectorKinds.{valid_list_vector}
use Rattle.libyaml_grammar.proofs.laws.vectors.flow_collections.Goals as goal

pub returns : goal.returns
returns c = record {
  flow_sequence = valid_list_vector 14 _ _ _ _ refl refl refl;
  flow_mapping = valid_list_vector 10 _ _ _ _ refl refl refl;
  nodes_alone_in_mapping = valid_list_vector 9 _ _ _ _ refl refl refl;
  pair = valid_list_vector 15 _ _ _ _ refl refl refl;
  pair_with_empty_key = valid_list_vector 7 _ _ _ _ refl refl refl;
  empty_pair_keys = valid_list_vector 10 _ _ _ _ refl refl refl;
  empty_pair_values = valid_list_vector 11 _ _ _ _ refl refl refl;
  pair_without_value = valid_list_vector 9 _ _ _ _ refl refl refl;
  nested_pairs = valid_list_vector 9 _ _ _ _ refl refl refl;
  empty_flow_keys = valid_list_vector 10 _ _ _ _ refl refl refl;
  empty_flow_values = valid_list_vector 11 _ _ _ _ refl refl refl;
  flow_key_without_value = valid_list_vector 9 _ _ _ _ refl refl refl;
}

use Rattle.std.proofs.Common.{refl}
use Rattle.libyaml_grammar.proofs.exported.VectorKinds.{valid_list_vector}
use Rattle.libyaml_grammar.proofs.laws.vectors.block_collections.Goals as goal

pub returns : goal.returns
returns c = record {
  block_sequence = valid_list_vector 10 _ _ _ _ refl refl refl;
  empty_sequence_entries = valid_list_vector 6 _ _ _ _ refl refl refl;
  empty_collections = valid_list_vector 10 _ _ _ _ refl refl refl;
  indentless_sequence = valid_list_vector 10 _ _ _ _ refl refl refl;
  empty_indentless_entries = valid_list_vector 15 _ _ _ _ refl refl refl;
  anchored_indentless = valid_list_vector 10 _ _ _ _ refl refl refl;
  empty_keys = valid_list_vector 8 _ _ _ _ refl refl refl;
  empty_values = valid_list_vector 13 _ _ _ _ refl refl refl;
  keys_without_values = valid_list_vector 8 _ _ _ _ refl refl refl;
  entry_that_begins_with_value = valid_list_vector 6 _ _ _ _ refl refl refl;
  value_after_value = valid_list_vector 11 _ _ _ _ refl refl refl;
  collections_in_mapping = valid_list_vector 19 _ _ _ _ refl refl refl;
}

use Rattle.std.proofs.Common.{refl}
use Rattle.libyaml_grammar.proofs.exported.VectorKinds.{valid_list_vector}
use Rattle.libyaml_grammar.proofs.laws.vectors.properties.Goals as goal

pub returns : goal.returns
returns c = record {
  scalar_styles = valid_list_vector 13 _ _ _ _ refl refl refl;
  tag_that_is_an_exclamation_mark = valid_list_vector 9 _ _ _ _ refl refl refl;
  empty_tag = valid_list_vector 9 _ _ _ _ refl refl refl;
  other_tag = valid_list_vector 9 _ _ _ _ refl refl refl;
  properties_alone = valid_list_vector 17 _ _ _ _ refl refl refl;
  properties_before_content = valid_list_vector 29 _ _ _ _ refl refl refl;
  roots_without_document_start = valid_list_vector 20 _ _ _ _ refl refl refl;
  collection_flags = valid_list_vector 25 _ _ _ _ refl refl refl;
  default_handles = valid_list_vector 9 _ _ _ _ refl refl refl;
  redeclared_handles = valid_list_vector 22 _ _ _ _ refl refl refl;
  handles_with_zero_bytes = valid_list_vector 11 _ _ _ _ refl refl refl;
}

use Rattle.std.proofs.Common.{refl}
use Rattle.libyaml_grammar.proofs.exported.VectorKinds.{within_vector, begin_vector}
use Rattle.libyaml_grammar.proofs.laws.vectors.beginnings.Goals as goal

pub returns : goal.returns
returns c = record {
  no_tokens = begin_vector _ _ _ _ refl refl refl;
  stream_begun = begin_vector _ _ _ _ refl refl refl;
  directive_begun = begin_vector _ _ _ _ refl refl refl;
  document_ended = begin_vector _ _ _ _ refl refl refl;
  empty_document_ended = begin_vector _ _ _ _ refl refl refl;
  document_begun = begin_vector _ _ _ _ refl refl refl;
  document_and_anchor_begun = begin_vector _ _ _ _ refl refl refl;
  value_after_indentless_come = begin_vector _ _ _ _ refl refl refl;
  entry_come = begin_vector _ _ _ _ refl refl refl;
  pair_value_scalar_come = begin_vector _ _ _ _ refl refl refl;
  anchor_begun = begin_vector _ _ _ _ refl refl refl;
  properties_begun = begin_vector _ _ _ _ refl refl refl;
  anchored_key_begun = begin_vector _ _ _ _ refl refl refl;
  anchored_indentless_begun = begin_vector _ _ _ _ refl refl refl;
  anchored_pair_begun = begin_vector _ _ _ _ refl refl refl;
  scalar_come = begin_vector _ _ _ _ refl refl refl;
  collection_begun = begin_vector _ _ _ _ refl refl refl;
  alias_come = begin_vector _ _ _ _ refl refl refl;
  block_entry_come = begin_vector _ _ _ _ refl refl refl;
  indentless_begun = begin_vector _ _ _ _ refl refl refl;
  key_come = begin_vector _ _ _ _ refl refl refl;
  value_after_indentless = begin_vector _ _ _ _ refl refl refl;
  value_come_first = begin_vector _ _ _ _ refl refl refl;
  flow_key_come = begin_vector _ _ _ _ refl refl refl;
  pair_begun = begin_vector _ _ _ _ refl refl refl;
  pair_separated = begin_vector _ _ _ _ refl refl refl;
  node_alone_separated = begin_vector _ _ _ _ refl refl refl;
  pair_value_come = begin_vector _ _ _ _ refl refl refl;
  collections_ended = begin_vector _ _ _ _ refl refl refl;
  amid_properties = within_vector 2 _ _ _ _ _ _ refl refl refl refl refl;
  amid_tag = within_vector 2 _ _ _ _ _ _ refl refl refl refl refl;
  amid_tag_and_anchor = within_vector 1 _ _ _ _ _ _ refl refl refl refl refl;
}

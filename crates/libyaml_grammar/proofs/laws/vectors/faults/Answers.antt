use Rattle.std.proofs.Common.{refl}
use Rattle.libyaml_grammar.proofs.exported.VectorKinds.{partial_vector}
use Rattle.libyaml_grammar.proofs.laws.vectors.faults.Goals as goal

pub returns : goal.returns
returns c = record {
  no_stream_start = partial_vector 0 _ _ _ _ _ _ _ refl refl refl refl refl refl;
  no_token = partial_vector 0 _ _ _ _ _ _ _ refl refl refl refl refl refl;
  second_stream_start = partial_vector 1 _ _ _ _ _ _ _ refl refl refl refl refl refl;
  two_roots = partial_vector 2 _ _ _ _ _ _ _ refl refl refl refl refl refl;
  alias_after_anchor = partial_vector 2 _ _ _ _ _ _ _ refl refl refl refl refl refl;
  block_collection_after_tag_in_flow = partial_vector 3 _ _ _ _ _ _ _ refl refl refl refl refl refl;
  directive_without_document = partial_vector 2 _ _ _ _ _ _ _ refl refl refl refl refl refl;
  second_version = partial_vector 2 _ _ _ _ _ _ _ refl refl refl refl refl refl;
  version_of_later_minor = partial_vector 2 _ _ _ _ _ _ _ refl refl refl refl refl refl;
  version_of_earlier_minor = partial_vector 2 _ _ _ _ _ _ _ refl refl refl refl refl refl;
  version_of_later_major = partial_vector 3 _ _ _ _ _ _ _ refl refl refl refl refl refl;
  handle_declared_twice = partial_vector 2 _ _ _ _ _ _ _ refl refl refl refl refl refl;
  default_declared_twice = partial_vector 2 _ _ _ _ _ _ _ refl refl refl refl refl refl;
  document_end_first = partial_vector 1 _ _ _ _ _ _ _ refl refl refl refl refl refl;
  no_content_after_document_end = partial_vector 3 _ _ _ _ _ _ _ refl refl refl refl refl refl;
  no_content_in_document = partial_vector 2 _ _ _ _ _ _ _ refl refl refl refl refl refl;
  no_content_in_block_sequence = partial_vector 3 _ _ _ _ _ _ _ refl refl refl refl refl refl;
  no_content_in_indentless_sequence = partial_vector 4 _ _ _ _ _ _ _ refl refl refl refl refl refl;
  no_content_in_block_mapping = partial_vector 5 _ _ _ _ _ _ _ refl refl refl refl refl refl;
  no_content_after_value = partial_vector 3 _ _ _ _ _ _ _ refl refl refl refl refl refl;
  no_content_in_flow_sequence = partial_vector 2 _ _ _ _ _ _ _ refl refl refl refl refl refl;
  no_content_after_separator = partial_vector 4 _ _ _ _ _ _ _ refl refl refl refl refl refl;
  no_content_in_flow_mapping = partial_vector 2 _ _ _ _ _ _ _ refl refl refl refl refl refl;
  no_content_in_pair = partial_vector 3 _ _ _ _ _ _ _ refl refl refl refl refl refl;
  no_content_in_pair_value = partial_vector 5 _ _ _ _ _ _ _ refl refl refl refl refl refl;
  block_content_in_flow = partial_vector 2 _ _ _ _ _ _ _ refl refl refl refl refl refl;
  unknown_handle = partial_vector 2 _ _ _ _ _ _ _ refl refl refl refl refl refl;
  unknown_handle_first = partial_vector 1 _ _ _ _ _ _ _ refl refl refl refl refl refl;
  unknown_handle_before_anchor = partial_vector 2 _ _ _ _ _ _ _ refl refl refl refl refl refl;
  unknown_handle_at_stream_end = partial_vector 3 _ _ _ _ _ _ _ refl refl refl refl refl refl;
  handle_of_document_before = partial_vector 6 _ _ _ _ _ _ _ refl refl refl refl refl refl;
  tag_where_none_may_stand = partial_vector 2 _ _ _ _ _ _ _ refl refl refl refl refl refl;
  no_block_entry = partial_vector 2 _ _ _ _ _ _ _ refl refl refl refl refl refl;
  no_block_entry_after_entry = partial_vector 4 _ _ _ _ _ _ _ refl refl refl refl refl refl;
  no_key = partial_vector 2 _ _ _ _ _ _ _ refl refl refl refl refl refl;
  no_key_after_indentless = partial_vector 5 _ _ _ _ _ _ _ refl refl refl refl refl refl;
  no_key_after_key = partial_vector 6 _ _ _ _ _ _ _ refl refl refl refl refl refl;
  no_separator_in_flow_sequence = partial_vector 6 _ _ _ _ _ _ _ refl refl refl refl refl refl;
  no_separator_in_flow_mapping = partial_vector 3 _ _ _ _ _ _ _ refl refl refl refl refl refl;
  no_separator_in_anchored_sequence = partial_vector 4 _ _ _ _ _ _ _ refl refl refl refl refl refl;
  no_content_in_tagged_mapping = partial_vector 6 _ _ _ _ _ _ _ refl refl refl refl refl refl;
  no_content_in_anchored_sequence = partial_vector 4 _ _ _ _ _ _ _ refl refl refl refl refl refl;
  no_block_entry_in_anchored_sequence = partial_vector 3 _ _ _ _ _ _ _ refl refl refl refl refl refl;
  no_key_in_anchored_mapping = partial_vector 3 _ _ _ _ _ _ _ refl refl refl refl refl refl;
  wrong_end_of_flow_sequence = partial_vector 4 _ _ _ _ _ _ _ refl refl refl refl refl refl;
  wrong_end_of_flow_mapping = partial_vector 6 _ _ _ _ _ _ _ refl refl refl refl refl refl;
}

use Rattle.std.proofs.Common.{refl}
use Rattle.libyaml_grammar.proofs.exported.VectorKinds.{valid_list_vector}
use Rattle.libyaml_grammar.proofs.laws.vectors.streams.Goals as goal

pub returns : goal.returns
returns c = record {
  empty_stream = valid_list_vector 2 _ _ _ _ refl refl refl;
  implicit_document = valid_list_vector 3 _ _ _ _ refl refl refl;
  explicit_documents = valid_list_vector 6 _ _ _ _ refl refl refl;
  empty_documents = valid_list_vector 10 _ _ _ _ refl refl refl;
  document_ends = valid_list_vector 5 _ _ _ _ refl refl refl;
  implicit_after_document_end = valid_list_vector 6 _ _ _ _ refl refl refl;
  implicit_after_implicit = valid_list_vector 6 _ _ _ _ refl refl refl;
  explicit_after_document_end = valid_list_vector 8 _ _ _ _ refl refl refl;
  directives = valid_list_vector 7 _ _ _ _ refl refl refl;
  after_stream_end = valid_list_vector 3 _ _ _ _ refl refl refl;
}

use Rattle.std.proofs.Common.{refl}
use Rattle.libyaml_graphs.proofs.vectors.LoadVectors.{valid_list_loads}
use Rattle.libyaml_graphs.proofs.laws.vectors.documents.Goals as goal

pub returns-clause-empty_stream : goal.returns-clause-empty_stream
returns-clause-empty_stream c = valid_list_loads 2 _ _ _ _ refl refl refl

pub returns-clause-directives : goal.returns-clause-directives
returns-clause-directives c = valid_list_loads 9 _ _ _ _ refl refl refl

pub returns-clause-explicit_end : goal.returns-clause-explicit_end
returns-clause-explicit_end c = valid_list_loads 7 _ _ _ _ refl refl refl

pub returns-clause-empty_documents : goal.returns-clause-empty_documents
returns-clause-empty_documents c = valid_list_loads 5 _ _ _ _ refl refl refl

pub returns-clause-start_without_root : goal.returns-clause-start_without_root
returns-clause-start_without_root c h = h.0

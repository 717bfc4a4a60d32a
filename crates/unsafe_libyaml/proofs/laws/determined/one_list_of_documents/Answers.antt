use Rattle.unsafe_libyaml.proofs.OneLoads.{one_documents_proof}
use Rattle.unsafe_libyaml.proofs.laws.determined.one_list_of_documents.Goals as goal

pub returns : goal.returns
returns g c = one_documents_proof g.S.yaml_token_source_t.gives

use Rattle.unsafe_libyaml.proofs.OneRuns.{one_whole_run_proof}
use Rattle.unsafe_libyaml.proofs.laws.determined.one_whole_run.Goals as goal

pub returns : goal.returns
returns g c = one_whole_run_proof g.S.yaml_token_source_t.gives

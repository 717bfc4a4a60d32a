use Rattle.libyaml_graphs.specs.loads.Bounds.{next_bounded}
use Rattle.libyaml_graphs.specs.loads.Loads.{left_over}
use Rattle.libyaml_loader.proofs.loads.OneLoads.{one_load_proof, one_way_load}
use Rattle.libyaml_loader.proofs.laws.determined.one_load.Goals as goal

pub returns-clause-running : goal.returns-clause-running
returns-clause-running g c old p q r s n asked given history a b =
    one_load_proof g.S.yaml_token_source_t (next_bounded n) left_over old asked given history r s p q a b

pub returns-clause-one_way : goal.returns-clause-one_way
returns-clause-one_way g c old p q r s n asked given history way a b =
    one_way_load g.S.yaml_token_source_t (next_bounded n) left_over old asked given history way r s p q a b

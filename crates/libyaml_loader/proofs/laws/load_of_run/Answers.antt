use Rattle.libyaml_graphs.specs.loads.Bounds.{next_bounded}
use Rattle.libyaml_graphs.specs.loads.Loads.{left_over}
use Rattle.libyaml_loader.proofs.loads.NextLoads.{load_of_run}
use Rattle.libyaml_loader.proofs.laws.load_of_run.Goals as goal

pub returns : goal.returns
returns g c n = load_of_run g.S.yaml_token_source_t (next_bounded n) left_over

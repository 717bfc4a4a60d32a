use Rattle.libyaml_graphs.proofs.graphs.Ids.{every_id}
use Rattle.libyaml_graphs.proofs.loads.RunLoads.{loaded_ids}
use Rattle.libyaml_graphs.proofs.laws.every_id.Goals as goal

pub returns-clause-of_value : goal.returns-clause-of_value
returns-clause-of_value c = every_id

pub returns-clause-of_run : goal.returns-clause-of_run
returns-clause-of_run c = loaded_ids

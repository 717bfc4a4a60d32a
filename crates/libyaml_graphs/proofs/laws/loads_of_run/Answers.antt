use Rattle.libyaml_graphs.proofs.loads.RunLoads.{run_loads}
use Rattle.libyaml_graphs.proofs.loads.TextLoads.{nested_loads}
use Rattle.libyaml_graphs.proofs.laws.loads_of_run.Goals as goal

pub returns-clause-of_run : goal.returns-clause-of_run
returns-clause-of_run c = run_loads

pub returns-clause-of_events : goal.returns-clause-of_events
returns-clause-of_events c = nested_loads

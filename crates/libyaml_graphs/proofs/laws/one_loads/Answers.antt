use Rattle.libyaml_graphs.proofs.loads.RunLoads.{one_loads, some_loads}
use Rattle.libyaml_graphs.proofs.laws.one_loads.Goals as goal

pub returns-clause-some : goal.returns-clause-some
returns-clause-some c = some_loads

pub returns-clause-one : goal.returns-clause-one
returns-clause-one c = one_loads

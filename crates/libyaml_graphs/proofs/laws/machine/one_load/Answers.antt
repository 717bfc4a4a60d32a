use Rattle.libyaml_graphs.proofs.exported.BoundedLoader.{one_load}
use Rattle.libyaml_graphs.proofs.laws.machine.one_load.Goals as goal

pub returns : goal.returns
returns c = one_load

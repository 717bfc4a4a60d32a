use Rattle.libyaml_graphs.proofs.loads.Room.{bound_exact}
use Rattle.libyaml_graphs.proofs.laws.bound_is_exact.Goals as goal

pub returns : goal.returns
returns c = bound_exact

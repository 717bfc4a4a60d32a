use Rattle.libyaml_graphs.proofs.loads.RunLoads.{headline}
use Rattle.libyaml_graphs.proofs.laws.headline.Goals as goal

pub returns : goal.returns
returns c = headline

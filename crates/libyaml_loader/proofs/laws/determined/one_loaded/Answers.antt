use Rattle.libyaml_loader.proofs.pushes.OnePushLoads.{one_loaded_proof}
use Rattle.libyaml_loader.proofs.laws.determined.one_loaded.Goals as goal

pub returns : goal.returns
returns c = one_loaded_proof

use Rattle.libyaml_loader.proofs.loads.SharedNodes.{half_begins, whole_begins}
use Rattle.libyaml_loader.proofs.laws.half_is_of_each_load.Goals as goal

pub returns : goal.returns
returns c = record {
  half = half_begins;
  whole = whole_begins;
}

use Rattle.std.proofs.Common.{[]}
use Rattle.libyaml_graphs.specs.loads.Bounds.{first_stop}
use Rattle.libyaml_graphs.specs.graphs.ComposerFaults.{composer_fault}
use Rattle.libyaml_graphs.specs.loads.Loads.{begun}
use Rattle.libyaml_graphs.proofs.loads.OneLoad.{first_load, follow, later_load}
use Rattle.libyaml_graphs.proofs.laws.load_by_load.Goals as goal

pub returns-clause-first : goal.returns-clause-first
returns-clause-first c r = first_load (composer_fault []) (begun r)

pub returns-clause-later : goal.returns-clause-later
returns-clause-later c r x z n = later_load (composer_fault []) (begun r) x z n (follow r)

pub returns-clause-first_bounded : goal.returns-clause-first_bounded
returns-clause-first_bounded c r x z m = first_load (first_stop m [] []) (begun r) x z

pub returns-clause-later_bounded : goal.returns-clause-later_bounded
returns-clause-later_bounded c r x z m n = later_load (first_stop m [] []) (begun r) x z n (follow r)

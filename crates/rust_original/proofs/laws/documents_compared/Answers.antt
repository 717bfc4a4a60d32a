use Rattle.std.proofs.Common.{map}
use Rattle.libyaml_grammar.proofs.exported.NestingSoFar.{run_nests_so_far}
use Rattle.rust_original.specs.parser.Texts.{as_held}
use Rattle.rust_original.proofs.loads.Compared.{loads_compared}
use Rattle.rust_original.proofs.loads.Loads.{nested_agree}
use Rattle.rust_original.proofs.runs.UpToDifferences as proofs
use Rattle.rust_original.proofs.runs.Laws.{run_here, whole_here}
use Rattle.rust_original.proofs.laws.documents_compared.Goals as goal

pub returns : goal.returns
returns c = λ n l f a b there here.
    let list = map as_held l in loads_compared n l f a b there here
    (proofs.compared there.run here.events here.ending (run_here list f here.events here.ending here.run))
    (nested_agree n here.events here.ending (run_nests_so_far list f here.events here.ending here.run)
    (whole_here list f here.events here.ending here.run))

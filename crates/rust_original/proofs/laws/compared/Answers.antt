use Rattle.std.proofs.Common.{map}
use Rattle.rust_original.specs.parser.Texts.{as_held}
use Rattle.rust_original.proofs.runs.UpToDifferences as proofs
use Rattle.rust_original.proofs.runs.Laws.{run_here}
use Rattle.rust_original.proofs.runs.Texts.{all_held}
use Rattle.rust_original.proofs.laws.compared.Goals as goal

pub returns-clause-runs : goal.returns-clause-runs
returns-clause-runs c = λ l f e d x y r s. proofs.compared r d y (run_here (map as_held l) f d y s)

pub returns-clause-texts : goal.returns-clause-texts
returns-clause-texts c = all_held

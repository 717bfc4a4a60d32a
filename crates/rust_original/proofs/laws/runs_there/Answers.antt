use Rattle.std.proofs.Common.{map, true}
use Rattle.rust_original.specs.parser.Runs.{as_there}
use Rattle.rust_original.specs.parser.Texts.{as_held}
use Rattle.rust_original.proofs.runs.UpToDifferences.{may_differ, one_run}
use Rattle.rust_original.proofs.runs.Laws.{nests_there, some_run, whole_there}
use Rattle.rust_original.proofs.runs.Within.{computed}
use Rattle.rust_original.proofs.laws.runs_there.Goals as goal

pub returns : goal.returns
returns c = record {
  some = λ l f. let r = some_run as_there true may_differ (map as_held l) f in (r.0, r.1, r.2);
  one = λ l f e d x y r s. one_run r d y s;
  computed = computed;
  nests = nests_there;
  whole = whole_there;
}

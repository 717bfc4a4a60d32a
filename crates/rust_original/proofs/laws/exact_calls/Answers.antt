use Rattle.rust_original.proofs.exact.Calls.{failed, so_far, whole}
use Rattle.rust_original.proofs.laws.exact_calls.Goals as goal

pub returns : goal.returns
returns c = record {
  so_far = so_far;
  ended = whole;
  failed = failed;
}

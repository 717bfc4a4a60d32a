use Rattle.libyaml_grammar.proofs.exported.NestingSoFar.{run_nests_so_far}
use Rattle.rust_original.proofs.loads.Loads.{nested_agree}
use Rattle.rust_original.proofs.runs.Laws.{nests_there, whole_here, whole_there}
use Rattle.rust_original.proofs.laws.loads_alike.Goals as goal

pub returns : goal.returns
returns c = record {
  of_events = nested_agree;
  of_run = λ n l f e x run. nested_agree n e x (run_nests_so_far l f e x run) (whole_here l f e x run);
  of_run_there = λ n l f e x run. nested_agree n e x (nests_there l f e x run) (whole_there l f e x run);
}

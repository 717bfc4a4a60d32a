use Rattle.std.proofs.Common.{[]}
use Rattle.libyaml_graphs.specs.graphs.ComposerFaults.{composer_fault}
use Rattle.libyaml_graphs.specs.loads.Bounds.{first_stop}
use Rattle.libyaml_graphs.proofs.graphs.Linear.{document_linear, first_linear, loads_linear, next_linear}
use Rattle.libyaml_graphs.proofs.laws.linear_size.Goals as goal

pub returns : goal.returns
returns c = record {
  of_document = document_linear;
  of_loads = loads_linear (composer_fault []);
  of_one = λ n. next_linear (first_stop n [] []);
  within_bound = λ n. loads_linear (first_stop n [] []);
  first_of_loads = first_linear (composer_fault []);
  first_within_bound = λ n. first_linear (first_stop n [] []);
}

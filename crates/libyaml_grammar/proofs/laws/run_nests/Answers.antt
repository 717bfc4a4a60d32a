use Rattle.libyaml_grammar.proofs.exported.NestingSoFar.{ended_nests, prefix_nests, run_nests_so_far}
use Rattle.libyaml_grammar.proofs.laws.run_nests.Goals as goal

pub returns : goal.returns
returns c = record {
  so_far = run_nests_so_far;
  ended = ended_nests;
  fronts = prefix_nests;
}

use Rattle.libyaml_grammar.proofs.exported.Completion.{one_tree_proof}
use Rattle.libyaml_grammar.proofs.exported.Headline.{runs_whole}
use Rattle.libyaml_grammar.proofs.trees.OnePlace.{one_case, one_place}
use Rattle.libyaml_grammar.proofs.laws.headline.Goals as goal

pub returns : goal.returns
returns c = record {
  runs = runs_whole;
  one_case = one_case;
  one_tree = one_tree_proof;
  one_partial_tree = one_place;
}

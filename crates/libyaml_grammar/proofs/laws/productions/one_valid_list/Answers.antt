use Rattle.libyaml_grammar.proofs.trees.WholeParts.{valid_list_law}
use Rattle.libyaml_grammar.proofs.laws.productions.one_valid_list.Goals as goal

pub returns : goal.returns
returns c = valid_list_law

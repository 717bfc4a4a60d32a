use Rattle.libyaml_grammar.proofs.exported.PrefixTrees.{one_prefix_proof}
use Rattle.libyaml_grammar.proofs.exported.Determining.{begin_prefix, prefix_begins}
use Rattle.libyaml_grammar.proofs.laws.one_prefix.Goals as goal

pub returns : goal.returns
returns c = record {
  some = begin_prefix;
  one = one_prefix_proof;
  begins = prefix_begins;
}

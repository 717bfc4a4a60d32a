use Rattle.libyaml_grammar.proofs.exported.Determining.{determined_prefix, determined_nothing, determined_valid_list}
use Rattle.libyaml_grammar.proofs.laws.determined_events.Goals as goal

pub returns : goal.returns
returns c = record {
  of_prefix = determined_prefix;
  of_valid_list = determined_valid_list;
  of_nothing = determined_nothing;
}

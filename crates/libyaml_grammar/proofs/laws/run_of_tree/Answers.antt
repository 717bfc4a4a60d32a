use Rattle.libyaml_grammar.proofs.exported.Running.{amid_run, begin_run, partial_run, valid_list_run}
use Rattle.libyaml_grammar.proofs.laws.run_of_tree.Goals as goal

pub returns : goal.returns
returns c = record {
  valid_list = valid_list_run;
  partial_tree = partial_run;
  amid_properties = amid_run;
  viable_prefix = begin_run;
}

use Rattle.libyaml_graphs.proofs.loads.RunLoads.{amid_loads, viable_prefix_loads, partial_tree_loads, valid_list_loads}
use Rattle.libyaml_graphs.proofs.laws.loads_of_tree.Goals as goal

pub returns : goal.returns
returns c = record {
  valid_list = valid_list_loads;
  partial_tree = partial_tree_loads;
  amid_properties = amid_loads;
  viable_prefix = viable_prefix_loads;
}

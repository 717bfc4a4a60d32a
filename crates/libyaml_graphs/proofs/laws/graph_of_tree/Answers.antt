use Rattle.libyaml_graphs.proofs.graphs.TreeGraphs.{value_graph}
use Rattle.libyaml_graphs.proofs.laws.graph_of_tree.Goals as goal

pub returns : goal.returns
returns c = value_graph

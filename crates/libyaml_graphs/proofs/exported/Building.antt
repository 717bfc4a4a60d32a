-- A graph as it is built part by part, for a crate that follows another loader.
pub use Rattle.libyaml_graphs.proofs.graphs.Ids.{even_list, ids_even}
pub use Rattle.libyaml_graphs.proofs.graphs.TreeGraphs.{values_children}
pub use Rattle.libyaml_graphs.proofs.loads.TextLoads.{prefix_closes, value_after}
pub use Rattle.libyaml_graphs.proofs.machine.Built.{AllHas, BeginsEmpty, Built, Has, Held, bare, build, build_finished, change, end_at, end_top, finished, finished_none, graph_nodes, grown_key, held_graph, hold, hold_top, nodes_in, unbuilt}
pub use Rattle.libyaml_graphs.proofs.machine.Following.{AllLess, Falls, Less, build_stands, key_in, loader_of, stack_of}
pub use Rattle.libyaml_graphs.proofs.machine.Sizes.{graph_sizes, list_grows, sizes}

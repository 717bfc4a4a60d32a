-- The loads of a run: that there is one list of them, those of a tree's tokens, and how large they are.
pub use Rattle.libyaml_graphs.proofs.graphs.Linear.{first_linear, next_linear}
pub use Rattle.libyaml_graphs.proofs.loads.RunLoads.{partial_tree_loads, one_loads, valid_list_loads, some_loads}

-- Anchored nodes, as the loader's machine has them.
use Rattle.std.specs.Prelude.{ℕ, zero, ℤ, pos, negsuc}
use Rattle.libyaml_graphs.specs.graphs.Graphs as graphs
use Rattle.libyaml_loader.specs.declared.ids.AnchoredNode.{AnchoredNode}

abbrev pub magnitude : ℤ → ℕ
magnitude (pos n) = n
magnitude (negsuc n) = zero

abbrev pub anchored_node_of : AnchoredNode → graphs.AnchoredNode
anchored_node_of c = record { id = magnitude c.node; mark = c.mark }

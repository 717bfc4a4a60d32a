-- The anchors after an event, by what the composer says of it.
use Rattle.std.specs.Prelude.{suc, ℤ, pos, Option}
use Rattle.libyaml_types.specs.declared.mark.yaml_mark_t.{yaml_mark_t}
use Rattle.libyaml_types.specs.Types.{event_anchor}
use Rattle.libyaml_grammar.specs.grammar.Events.{Event}
use Rattle.libyaml_graphs.specs.graphs.GraphParts.{Part}
use Rattle.libyaml_graphs.specs.graphs.Graphs.{AnchoredNode}
use Rattle.libyaml_graphs.specs.machine.Loader.{Anchors, no_anchors}
use Rattle.libyaml_composer.specs.declared.deed.Deed.{Deed}
use Rattle.libyaml_composer.specs.declared.deed.Deed.TheVariants as deed
use Rattle.libyaml_composer.specs.DocumentSoFar.{anchored_by, anchored_node_named, first_mark}

-- a part whose node has this id, if it has one, is registered by its anchor
abbrev pub registered_at : ℤ → Option Part → Anchors → Anchors
registered_at (pos (suc n)) p xs = anchored_by (suc n) p xs
registered_at _ p xs = xs

abbrev pub anchors_after : Deed → (node : ℤ) → Option Part → Anchors → Anchors
anchors_after deed.Begins i p xs = no_anchors
anchors_after _ i p xs = registered_at i p xs

-- the node that carries the anchor of an event, and where it starts; the event's own start, if none does
abbrev pub event_node : Anchors → Event → Option AnchoredNode
event_node xs e = anchored_node_named xs (event_anchor e.content)

abbrev pub event_first_mark : Anchors → Event → yaml_mark_t
event_first_mark xs e = first_mark (event_node xs e) e.start_mark

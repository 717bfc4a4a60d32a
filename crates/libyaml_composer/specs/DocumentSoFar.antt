-- What a caller keeps of the document that it composes, and what it does with it.
use Rattle.std.specs.Prelude.{◌∷◌, ◌++◌, ℕ, ℤ, pos, negsuc, List, [], map, Option, None, Some, Bool, true, false, if◌then◌else◌}
use Rattle.std.specs.FinMap.{get, insert}
use Rattle.libyaml_types.specs.Fault.{Fault, memory_fault}
use Rattle.libyaml_grammar.specs.grammar.Events.{Event}
use Rattle.libyaml_grammar.specs.grammar.Tokens.{Mark}
use Rattle.libyaml_documents.specs.Documents.{Document}
use Rattle.libyaml_documents.specs.LoadedNodes.{with_end}
use Rattle.libyaml_documents.specs.Nodes.{with_changed, with_item, with_pair}
use Rattle.libyaml_documents.specs.declared.node.yaml_node_t.{yaml_node_t}
use Rattle.libyaml_graphs.specs.graphs.ComposerFaults.{repeated_anchor, undefined_alias}
use Rattle.libyaml_graphs.specs.graphs.GraphParts.{Closing, Opening, Part, alias_part, closing_of, end_part, leaf_part, opening_of, part_of, start_part}
use Rattle.libyaml_graphs.specs.graphs.Graphs.{AnchoredNode, id_or}
use Rattle.libyaml_graphs.specs.loads.Loads.{document}
use Rattle.libyaml_graphs.specs.machine.Loader.{Anchors, Loader, OpenNode, State, between, no_anchors, within}
use Rattle.libyaml_composer.specs.declared.deed.Deed.{Deed}
use Rattle.libyaml_composer.specs.declared.deed.Deed.TheVariants as deed
use Rattle.libyaml_composer.specs.declared.records.open_t.{open_t}
use Rattle.libyaml_composer.specs.declared.records.place_t.{place_t}
use Rattle.libyaml_composer.specs.Composing.{Composer}
use Rattle.libyaml_composer.specs.Numbers.{is_id}

-- the start of the document that is open, its nodes so far, and the anchored nodes among them
pub record DocumentSoFar : Type 0 where
  pub opening : Option Opening
  pub nodes : List yaml_node_t
  pub anchors : Anchors

abbrev pub nothing_held : DocumentSoFar
nothing_held = record { opening = None; nodes = []; anchors = no_anchors }

-- the anchor that a part names or carries
abbrev pub anchor_in : Option Part → Option (List ℕ)
anchor_in None = None
anchor_in (Some (alias_part a m)) = Some a
anchor_in (Some (leaf_part a x)) = a
anchor_in (Some (start_part a x)) = a
anchor_in (Some (end_part n)) = None

abbrev pub anchored_node_named : Anchors → Option (List ℕ) → Option AnchoredNode
anchored_node_named xs None = None
anchored_node_named xs (Some a) = get xs a

-- the fact that a call takes with an event: the id of the node that carries its anchor, and else 0
abbrev pub fact_by : Anchors → Option Part → ℤ
fact_by xs p = pos (id_or (anchored_node_named xs (anchor_in p)))

abbrev pub event_fact : DocumentSoFar → Event → ℤ
event_fact h e = fact_by h.anchors (part_of e)

-- the node that a part makes, and its anchor
abbrev pub nodes_made : Option Part → List yaml_node_t
nodes_made None = []
nodes_made (Some (alias_part a m)) = []
nodes_made (Some (leaf_part a x)) = x ∷ []
nodes_made (Some (start_part a x)) = x ∷ []
nodes_made (Some (end_part n)) = []

abbrev pub anchored : Option (List ℕ) → ℕ → Mark → Anchors → Anchors
anchored None i m xs = xs
anchored (Some a) i m xs = insert xs a (record { id = i; mark = m })

abbrev pub anchored_by : ℕ → Option Part → Anchors → Anchors
anchored_by i None xs = xs
anchored_by i (Some (alias_part a m)) xs = xs
anchored_by i (Some (leaf_part a x)) xs = anchored a i x.start_mark xs
anchored_by i (Some (start_part a x)) xs = anchored a i x.start_mark xs
anchored_by i (Some (end_part n)) xs = xs

abbrev pub natural : ℤ → ℕ
natural (pos n) = n
natural (negsuc n) = 0

-- a node comes after the others, if its id says that one does
abbrev pub with_made_node : (is_node : Bool) → ℤ → Option Part → DocumentSoFar → DocumentSoFar
with_made_node false i p h = h
with_made_node true i p h = record h { nodes = h.nodes ++ nodes_made p; anchors = anchored_by (natural i) p h.anchors }

-- a child is put at its place
abbrev pub placed : Deed → place_t → List yaml_node_t → List yaml_node_t
placed deed.Item p nodes = with_changed p.parent (with_item p.child) nodes
placed deed.Value p nodes = with_changed p.parent (with_pair p.key p.child) nodes
placed _ p nodes = nodes

abbrev pub held_with_nodes : List yaml_node_t → DocumentSoFar → DocumentSoFar
held_with_nodes nodes h = record h { nodes = nodes }

abbrev pub with_child_placed : Deed → place_t → Option Part → DocumentSoFar → DocumentSoFar
with_child_placed d p q h = held_with_nodes (placed d p (with_made_node (is_id p.node) p.node q h).nodes) (with_made_node (is_id p.node) p.node q h)

-- what a caller does where a call returns this deed and place, of an event with this part and this end
abbrev pub applied_part : Deed → place_t → Option Part → (end : Mark) → DocumentSoFar → DocumentSoFar
applied_part deed.Root p q m h = with_child_placed deed.Root p q h
applied_part deed.Item p q m h = with_child_placed deed.Item p q h
applied_part deed.Key p q m h = with_child_placed deed.Key p q h
applied_part deed.Value p q m h = with_child_placed deed.Value p q h
applied_part deed.Closes p q m h = held_with_nodes (with_changed p.parent (with_end m) h.nodes) h
applied_part _ p q m h = h

-- and a document begins
abbrev pub applied : Deed → place_t → Event → DocumentSoFar → DocumentSoFar
applied deed.Begins p e h = record { opening = opening_of e; nodes = []; anchors = no_anchors }
applied d p e h = applied_part d p (part_of e) e.end_mark h

-- the document that ends
abbrev pub ended_documents : Option Opening → List yaml_node_t → Option Closing → List Document
ended_documents None nodes c = []
ended_documents (Some o) nodes None = []
ended_documents (Some o) nodes (Some c) = document o nodes c ∷ []

abbrev pub given : Deed → Event → DocumentSoFar → List Document
given deed.Ends e h = ended_documents h.opening h.nodes (closing_of e)
given _ e h = []

-- the error of a deed that refuses an event
abbrev pub first_mark : Option AnchoredNode → Mark → Mark
first_mark None m = m
first_mark (Some c) m = c.mark

abbrev pub fault_part : Deed → DocumentSoFar → Option Part → Mark → Fault
fault_part deed.UndefinedAlias h q m = undefined_alias m
fault_part deed.RepeatedAnchor h q m = repeated_anchor (first_mark (anchored_node_named h.anchors (anchor_in q)) m) m
fault_part _ h q m = memory_fault

abbrev pub deed_fault : Deed → DocumentSoFar → Event → Fault
deed_fault d h e = fault_part d h (part_of e) e.start_mark

-- the loader's machine, by what the call keeps and what its caller keeps
abbrev pub key_of : ℤ → Option ℤ
key_of i = if is_id i then Some i else None

abbrev pub open_of : open_t → OpenNode
open_of o = record { node = o.node; key = key_of o.key }

abbrev pub loader_by : Composer → DocumentSoFar → Loader
loader_by c h = record { nodes = h.nodes; stack = map open_of c.stack; anchors = h.anchors }

abbrev pub state_in : (is_within : Bool) → Option Opening → Loader → State
state_in false o l = between
state_in true None l = between
state_in true (Some o) l = within o l

abbrev pub loader_state : Composer → DocumentSoFar → State
loader_state c h = state_in c.is_within h.opening (loader_by c h)

-- the event is refused for good
abbrev pub IsRefused : Deed → Type 0
IsRefused deed.UndefinedAlias = Unit {0}
IsRefused deed.RepeatedAnchor = Unit {0}
IsRefused deed.FullList = Unit {0}
IsRefused _ = ⊥

-- What the record says of the nodes and anchors that a caller holds, and what it may rely on where it puts a child.
use Rattle.std.specs.Prelude.{◌≡◌, ◌<◌, ◌≤◌, ◌∷◌, ℕ, suc, ℤ, pos, List, [], length, map, Option, None, Some, Bool, true, false, slice_get}
use Rattle.std.specs.FinMap.{get}
use Rattle.libyaml_types.specs.declared.enums.yaml_node_type_t.TheVariants.{YAML_SEQUENCE_NODE, YAML_MAPPING_NODE}
use Rattle.libyaml_documents.specs.Nodes.{IsIdUpTo, type_at}
use Rattle.libyaml_documents.specs.declared.node.unnamed_yaml_node_t_data.{unnamed_yaml_node_t_data}
use Rattle.libyaml_documents.specs.declared.node.unnamed_yaml_node_t_data.TheVariants.{Scalar, Sequence, Mapping}
use Rattle.libyaml_documents.specs.declared.node.yaml_node_t.{yaml_node_t}
use Rattle.libyaml_graphs.specs.graphs.Graphs.{AnchoredNode}
use Rattle.libyaml_graphs.specs.graphs.GraphParts.{Opening, Part, alias_part, end_part, leaf_part, start_part}
use Rattle.libyaml_graphs.specs.machine.Loader.{OpenNode}
use Rattle.libyaml_composer.specs.declared.deed.Deed.{Deed}
use Rattle.libyaml_composer.specs.declared.deed.Deed.TheVariants as deed
use Rattle.libyaml_composer.specs.declared.records.open_t.{open_t}
use Rattle.libyaml_composer.specs.declared.records.place_t.{place_t}
use Rattle.libyaml_composer.specs.Composing.{Composer}
use Rattle.libyaml_composer.specs.DocumentSoFar.{DocumentSoFar, open_of, with_made_node}
use Rattle.libyaml_composer.specs.Numbers.{is_set, is_id}

-- An open collection is a node of its kind with so many children; a mapping in which a key waits has begun one pair more
-- than it has.
abbrev pub IsAlike : unnamed_yaml_node_t_data → (is_mapping waits : Bool) → ℕ → Type 0
IsAlike (Scalar s) m w n = ⊥
IsAlike (Sequence s) false w n = n ≡ length s.items
IsAlike (Sequence s) true w n = ⊥
IsAlike (Mapping s) false w n = ⊥
IsAlike (Mapping s) true false n = n ≡ length s.pairs
IsAlike (Mapping s) true true n = n ≡ suc (length s.pairs)

abbrev pub IsOpenBy : Option yaml_node_t → (is_mapping waits : Bool) → ℕ → Type 0
IsOpenBy None m w n = ⊥
IsOpenBy (Some x) m w n = IsAlike x.content m w n

abbrev pub IsOpenNode : Option yaml_node_t → open_t → Type 0
IsOpenNode x o = IsOpenBy x (is_set o.is_mapping) (is_id o.key) o.children

-- a key that waits is one of so many nodes
abbrev pub IsKeyIn : ℕ → ℤ → Type 0
IsKeyIn most i = is_id i ≡ true → IsIdUpTo most i

-- Each is one of the first n nodes, an inner one later than those around it; keys are among so many nodes.
abbrev pub Opens : (most : ℕ) → List yaml_node_t → ℕ → List open_t → Type 0
Opens most nodes n [] = Unit {0}
Opens most nodes n (o ∷ s) = (k : ℕ) × (o.node ≡ pos (suc k)) × (k < n) × IsOpenNode (slice_get nodes k) o × IsKeyIn most o.key
    × Opens most nodes k s

-- an anchored node is one of so many nodes
abbrev pub IsCarried : ℕ → Option AnchoredNode → Type 0
IsCarried most None = Unit {0}
IsCarried most (Some c) = (0 < c.id) × (c.id ≤ most)

-- the record is that of these nodes and anchors, within a document that began so
pub record Represents (c : Composer) (h : DocumentSoFar) (o : Opening) : Type 0 where
  pub is_within : c.is_within ≡ true
  pub opening : h.opening ≡ Some o
  pub nodes : c.nodes ≡ length h.nodes
  pub opens : Opens (length h.nodes) h.nodes (length h.nodes) c.stack
  pub carried : (a : List ℕ) → IsCarried (length h.nodes) (get h.anchors a)

-- a deed within a document that isn't its end
abbrev pub IsPart : Deed → Type 0
IsPart deed.Passes = Unit {0}
IsPart deed.Root = Unit {0}
IsPart deed.Item = Unit {0}
IsPart deed.Key = Unit {0}
IsPart deed.Value = Unit {0}
IsPart deed.Closes = Unit {0}
IsPart _ = ⊥

-- a node or an alias is put
abbrev pub PutsNode : Deed → Type 0
PutsNode deed.Root = Unit {0}
PutsNode deed.Item = Unit {0}
PutsNode deed.Key = Unit {0}
PutsNode deed.Value = Unit {0}
PutsNode _ = ⊥

-- a collection ends
abbrev pub IsClosed : Deed → Type 0
IsClosed deed.Closes = Unit {0}
IsClosed _ = ⊥

-- a part that is put, and one that makes a node
abbrev pub IsChild : Option Part → Type 0
IsChild None = ⊥
IsChild (Some (alias_part a m)) = Unit {0}
IsChild (Some (leaf_part a x)) = Unit {0}
IsChild (Some (start_part a x)) = Unit {0}
IsChild (Some (end_part n)) = ⊥

abbrev pub IsNode : Option Part → Type 0
IsNode None = ⊥
IsNode (Some (alias_part a m)) = ⊥
IsNode (Some (leaf_part a x)) = Unit {0}
IsNode (Some (start_part a x)) = Unit {0}
IsNode (Some (end_part n)) = ⊥

-- the place of a child, among so many nodes: its parent is of the kind that the deed says
abbrev pub FitsParent : Deed → place_t → ℕ → List yaml_node_t → Type 0
FitsParent deed.Item p most nodes = (type_at nodes p.parent ≡ YAML_SEQUENCE_NODE) × (IsIdUpTo most p.parent × IsIdUpTo most p.child)
FitsParent deed.Value p most nodes = (type_at nodes p.parent ≡ YAML_MAPPING_NODE)
    × (IsIdUpTo most p.parent × (IsIdUpTo most p.child × IsIdUpTo most p.key))
FitsParent _ p most nodes = Unit {0}

-- the innermost open collection, where its list takes one more
abbrev pub TakesOneMore : Deed → List OpenNode → List yaml_node_t → Type 0
TakesOneMore deed.Item [] nodes = ⊥
TakesOneMore deed.Item (o ∷ s) nodes = type_at nodes o.node ≡ YAML_SEQUENCE_NODE
TakesOneMore deed.Value [] nodes = ⊥
TakesOneMore deed.Value (o ∷ s) nodes = (type_at nodes o.node ≡ YAML_MAPPING_NODE) × ((k : ℤ) × (o.key ≡ Some k))
TakesOneMore _ s nodes = Unit {0}

-- what a caller may rely on where it does this: the node comes first
pub record DeedFits (d : Deed) (p : place_t) (q : Option Part) (h : DocumentSoFar) (s : List open_t) : Type 0 where
  pub fits : FitsParent d p (length (with_made_node (is_id p.node) p.node q h).nodes) (with_made_node (is_id p.node) p.node q h).nodes
  pub takes : TakesOneMore d (map open_of s) (with_made_node (is_id p.node) p.node q h).nodes
  pub node : PutsNode d → is_id p.node ≡ true → p.node ≡ pos (suc (length h.nodes))
  pub child : PutsNode d → IsChild q
  pub made : PutsNode d → is_id p.node ≡ true → IsNode q
  pub closed : IsClosed d → IsIdUpTo (length h.nodes) p.parent
  pub put : IsChild q → PutsNode d
  pub numbered : IsNode q → p.node ≡ pos (suc (length h.nodes))

-- Where a load may take memory of its own (docs/DEFINITIONS.md, "Loads of a parser"): a node is put into the list
-- of nodes, an item into its sequence's, or a pair, whose value comes, into its mapping's. An undefined alias, a
-- repeated anchor, a key that waits for its value and a collection's end take none.
use Rattle.std.specs.Prelude.{◌≡◌, ◌++◌, ℕ, ℤ, List, [], ◌∷◌, Option, None, Some, Bool, true, false, is_some, not}
use Rattle.std.specs.FinMap.{get}
use Rattle.libyaml_documents.specs.declared.node.unnamed_yaml_node_t_data.{unnamed_yaml_node_t_data}
use Rattle.libyaml_documents.specs.declared.node.unnamed_yaml_node_t_data.TheVariants.{Scalar, Sequence, Mapping}
use Rattle.libyaml_documents.specs.declared.node.yaml_node_t.{yaml_node_t}
use Rattle.libyaml_documents.specs.Nodes.{node_at}
use Rattle.libyaml_grammar.specs.grammar.Events.{Event}
use Rattle.libyaml_grammar.specs.runs.Runs.{Ending}
use Rattle.libyaml_graphs.specs.graphs.Graphs.{AnchoredNode}
use Rattle.libyaml_graphs.specs.machine.Loader.{Anchors, Loader, OpenNode, load_from, within}
use Rattle.libyaml_graphs.specs.loads.Loads.{Load}
use Rattle.libyaml_graphs.specs.graphs.GraphParts.{Opening, Part, alias_part, end_part, leaf_part, part_of, start_part}

-- a child of a sequence is an item; a mapping's first waits as a key, and its second makes the pair
abbrev pub content_grows : (key : Option ℤ) → unnamed_yaml_node_t_data → Bool
content_grows k (Scalar s) = false
content_grows k (Sequence s) = true
content_grows None (Mapping s) = false
content_grows (Some k) (Mapping s) = true

abbrev pub node_grows : (key : Option ℤ) → Option yaml_node_t → Bool
node_grows k None = false
node_grows k (Some x) = content_grows k x.content

-- whether a child's parent takes memory for it
abbrev pub parent_grows : List OpenNode → List yaml_node_t → Bool
parent_grows [] nodes = false
parent_grows (o ∷ s) nodes = node_grows o.key (node_at nodes o.node)

abbrev pub alias_grows : Option AnchoredNode → Loader → Bool
alias_grows None l = false
alias_grows (Some c) l = parent_grows l.stack l.nodes

-- no earlier node has this anchor, if there is one
abbrev pub is_new : Option (List ℕ) → Anchors → Bool
is_new None xs = true
is_new (Some a) xs = not (is_some (get xs a))

abbrev pub part_grows : Loader → Part → Bool
part_grows l (alias_part a m) = alias_grows (get l.anchors a) l
part_grows l (leaf_part a x) = is_new a l.anchors
part_grows l (start_part a x) = is_new a l.anchors
part_grows l (end_part m) = false

abbrev pub load_may_grow : Loader → Option Part → Bool
load_may_grow l None = false
load_may_grow l (Some p) = part_grows l p

-- After these events the load stands within a document, where this one may take memory.
pub record GrowsAt (load : List Event → Ending → Load) (before : List Event) (e : Event) : Type 0 where
  pub most : ℕ
  pub opening : Opening
  pub loader : Loader
  pub stands : (rest : List Event) (x : Ending) → load (before ++ rest) x ≡ load_from most (within opening loader) rest x
  pub grows : load_may_grow loader (part_of e) ≡ true

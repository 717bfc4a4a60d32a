-- How large a document is once its aliases are written out (docs/DEFINITIONS.md, "Expanded size").
use Rattle.std.specs.Prelude.{ℕ, suc, ◌+◌, ◌<◌, ℤ, pos, List, [], ◌∷◌, Option, Some, None, Contains, length}
use Rattle.libyaml_documents.specs.declared.node.yaml_node_t.{yaml_node_t}
use Rattle.libyaml_documents.specs.Nodes.{ids_of, node_at}

-- the ids that a node holds; where there is no node, there are none
abbrev pub ids_of_node : Option yaml_node_t → List ℤ
ids_of_node None = []
ids_of_node (Some node) = ids_of node.content

-- the ids that the node of an id holds
abbrev pub ids_at : List yaml_node_t → ℤ → List ℤ
ids_at nodes id = ids_of_node (node_at nodes id)

-- An id stands for a tree: a copy of its node, and below it the trees of the ids that this node holds. The trees of these
-- ids have so many nodes together.
pub data TreesHave (nodes : List yaml_node_t) : List ℤ → ℕ → Type 0 where
  none : TreesHave nodes [] 0
  first : (id : ℤ) (ids : List ℤ) (below beside : ℕ) → TreesHave nodes (ids_at nodes id) below
      → TreesHave nodes ids beside → TreesHave nodes (id ∷ ids) (suc (below + beside))

-- the id of the root, where there are nodes
abbrev pub root_of : List yaml_node_t → List ℤ
root_of [] = []
root_of (node ∷ nodes) = pos 1 ∷ []

-- the tree of the root has so many nodes
abbrev pub HasExpandedSize : List yaml_node_t → ℕ → Type 0
HasExpandedSize nodes size = TreesHave nodes (root_of nodes) size

-- the node of the one id holds the other
abbrev pub Holds : List yaml_node_t → ℤ → ℤ → Type 0
Holds nodes id child = Contains (ids_at nodes id) child

-- from the one id one comes to the other, from a node to an id that it holds, and so on
pub data LeadsTo (nodes : List yaml_node_t) : ℤ → ℤ → Type 0 where
  here : (id : ℤ) → LeadsTo nodes id id
  on : (id child end : ℤ) → Holds nodes id child → LeadsTo nodes child end → LeadsTo nodes id end

-- from an id one comes back to it
abbrev pub LiesOnCycle : List yaml_node_t → ℤ → Type 0
LiesOnCycle nodes id = (child : ℤ) × Holds nodes id child × LeadsTo nodes child id

-- one comes to this id from the root
abbrev pub IsReached : List yaml_node_t → ℤ → Type 0
IsReached nodes id = (0 < length nodes) × LeadsTo nodes (pos 1) id

-- one comes from the root to this id, and from it back to it
abbrev pub IsCyclicAt : List yaml_node_t → ℤ → Type 0
IsCyclicAt nodes id = IsReached nodes id × LiesOnCycle nodes id

-- one comes from the root to a cycle
abbrev pub IsCyclic : List yaml_node_t → Type 0
IsCyclic nodes = (id : ℤ) × IsCyclicAt nodes id

-- Nodes, their ids, the nodes that ids name, and the nodes that the calls make (docs/DEFINITIONS.md, "Documents by calls").
use Rattle.std.specs.Prelude.{◌≡◌, ℕ, suc, zero, ℤ, pos, negsuc, ◌≤ℤ◌, List, [], ◌∷◌, ◌++◌, Option, Some, None, length, map, slice_get, All, codes}
use Rattle.libyaml_types.specs.declared.enums.yaml_node_type_t.{yaml_node_type_t}
use Rattle.libyaml_types.specs.declared.enums.yaml_node_type_t.TheVariants.{YAML_NO_NODE, YAML_SCALAR_NODE, YAML_SEQUENCE_NODE, YAML_MAPPING_NODE}
use Rattle.libyaml_types.specs.declared.enums.yaml_scalar_style_t.{yaml_scalar_style_t}
use Rattle.libyaml_types.specs.declared.enums.yaml_sequence_style_t.{yaml_sequence_style_t}
use Rattle.libyaml_types.specs.declared.enums.yaml_mapping_style_t.{yaml_mapping_style_t}
use Rattle.libyaml_types.specs.Events.{zero_mark}
use Rattle.libyaml_documents.specs.declared.pairs.yaml_node_pair_t.{yaml_node_pair_t}
use Rattle.libyaml_documents.specs.declared.node.yaml_node_t.{yaml_node_t}
use Rattle.libyaml_documents.specs.declared.node.unnamed_yaml_node_t_data.{unnamed_yaml_node_t_data}
use Rattle.libyaml_documents.specs.declared.node.unnamed_yaml_node_t_data.TheVariants.{Scalar, Sequence, Mapping}

abbrev pub node_type : unnamed_yaml_node_t_data → yaml_node_type_t
node_type (Scalar s) = YAML_SCALAR_NODE
node_type (Sequence s) = YAML_SEQUENCE_NODE
node_type (Mapping m) = YAML_MAPPING_NODE

-- the ids of pairs: each key's, then its value's
abbrev pub ids_of_pairs : List yaml_node_pair_t → List ℤ
ids_of_pairs [] = []
ids_of_pairs (p ∷ ps) = p.key ∷ p.value ∷ ids_of_pairs ps

-- the ids that a node holds
abbrev pub ids_of : unnamed_yaml_node_t_data → List ℤ
ids_of (Scalar s) = []
ids_of (Sequence s) = s.items
ids_of (Mapping m) = ids_of_pairs m.pairs

-- the items of a sequence; no other node has any
abbrev pub items_of : unnamed_yaml_node_t_data → List ℤ
items_of (Scalar s) = []
items_of (Sequence s) = s.items
items_of (Mapping m) = []

-- the pairs of a mapping; no other node has any
abbrev pub pairs_of : unnamed_yaml_node_t_data → List yaml_node_pair_t
pairs_of (Scalar s) = []
pairs_of (Sequence s) = []
pairs_of (Mapping m) = m.pairs

-- the node of an id: they count from 1
abbrev pub node_at : List yaml_node_t → ℤ → Option yaml_node_t
node_at nodes (negsuc n) = None
node_at nodes (pos zero) = None
node_at nodes (pos (suc n)) = slice_get nodes n

-- the nodes of a pair, where both its ids name one
abbrev pub both_nodes : Option yaml_node_t → Option yaml_node_t → Option (yaml_node_t × yaml_node_t)
both_nodes None value = None
both_nodes (Some key) None = None
both_nodes (Some key) (Some value) = Some (key, value)

abbrev pub pair_at : List yaml_node_t → yaml_node_pair_t → Option (yaml_node_t × yaml_node_t)
pair_at nodes p = both_nodes (node_at nodes p.key) (node_at nodes p.value)

-- the values of a list up to its first `None`
abbrev pub up_to_none : {A : Type 0} → List (Option A) → List A
up_to_none [] = []
up_to_none (None ∷ xs) = []
up_to_none (Some x ∷ xs) = x ∷ up_to_none xs

-- the nodes of ids, and those of pairs, up to the first that names no node
abbrev pub nodes_named : List yaml_node_t → List ℤ → List yaml_node_t
nodes_named nodes ids = up_to_none (map (λ id. node_at nodes id) ids)

abbrev pub pairs_named : List yaml_node_t → List yaml_node_pair_t → List (yaml_node_t × yaml_node_t)
pairs_named nodes pairs = up_to_none (map (λ p. pair_at nodes p) pairs)

-- an id of one of n nodes
abbrev pub IsIdUpTo : ℕ → ℤ → Type 0
IsIdUpTo n id = (pos 1 ≤ℤ id) × (id ≤ℤ pos n)

-- every id in items and pairs names one of the nodes
abbrev pub EveryIdNamesANode : List yaml_node_t → Type 0
EveryIdNamesANode nodes = All (λ node. All (IsIdUpTo (length nodes)) (ids_of node.content)) nodes

-- the tag of a new node: the given one, or its kind's
abbrev pub tag_or : List ℕ → Option (List ℕ) → List ℕ
tag_or default None = default
tag_or default (Some tag) = tag

-- a new node: its marks are zero
abbrev pub node_of : List ℕ → unnamed_yaml_node_t_data → yaml_node_t
node_of tag content = record { tag = tag; content = content; start_mark = zero_mark; end_mark = zero_mark }

-- the nodes that the adding calls make: zero marks, no children
abbrev pub scalar_node : Option (List ℕ) → List ℕ → yaml_scalar_style_t → yaml_node_t
scalar_node tag value style = node_of (tag_or (codes "tag:yaml.org,2002:str") tag)
    (Scalar (record { value = value; style = style }))

abbrev pub sequence_node : Option (List ℕ) → yaml_sequence_style_t → yaml_node_t
sequence_node tag style = node_of (tag_or (codes "tag:yaml.org,2002:seq") tag)
    (Sequence (record { items = []; style = style }))

abbrev pub mapping_node : Option (List ℕ) → yaml_mapping_style_t → yaml_node_t
mapping_node tag style = node_of (tag_or (codes "tag:yaml.org,2002:map") tag)
    (Mapping (record { pairs = []; style = style }))

-- one more item after those of a sequence
abbrev pub item_after : ℤ → unnamed_yaml_node_t_data → unnamed_yaml_node_t_data
item_after id (Scalar s) = Scalar s
item_after id (Sequence s) = Sequence (record s { items = s.items ++ id ∷ [] })
item_after id (Mapping m) = Mapping m

abbrev pub with_item : ℤ → yaml_node_t → yaml_node_t
with_item id node = record node { content = item_after id node.content }

-- one more pair after those of a mapping
abbrev pub pair_after : yaml_node_pair_t → unnamed_yaml_node_t_data → unnamed_yaml_node_t_data
pair_after p (Scalar s) = Scalar s
pair_after p (Sequence s) = Sequence s
pair_after p (Mapping m) = Mapping (record m { pairs = m.pairs ++ p ∷ [] })

abbrev pub with_pair : ℤ → ℤ → yaml_node_t → yaml_node_t
with_pair key value node = record node { content = pair_after (record { key = key; value = value }) node.content }

-- the nodes with the one of an id changed, and all others as they are
abbrev pub changed_at : ℕ → (yaml_node_t → yaml_node_t) → List yaml_node_t → List yaml_node_t
changed_at n f [] = []
changed_at zero f (node ∷ nodes) = f node ∷ nodes
changed_at (suc n) f (node ∷ nodes) = node ∷ changed_at n f nodes

abbrev pub with_changed : ℤ → (yaml_node_t → yaml_node_t) → List yaml_node_t → List yaml_node_t
with_changed (negsuc n) f nodes = nodes
with_changed (pos zero) f nodes = nodes
with_changed (pos (suc n)) f nodes = changed_at n f nodes

abbrev pub IsSequence : yaml_node_t → Type 0
IsSequence node = node_type node.content ≡ YAML_SEQUENCE_NODE

abbrev pub IsMapping : yaml_node_t → Type 0
IsMapping node = node_type node.content ≡ YAML_MAPPING_NODE

-- the type of the node of an id; no node is YAML_NO_NODE
abbrev pub type_of : Option yaml_node_t → yaml_node_type_t
type_of None = YAML_NO_NODE
type_of (Some node) = node_type node.content

abbrev pub type_at : List yaml_node_t → ℤ → yaml_node_type_t
type_at nodes id = type_of (node_at nodes id)

-- each id of a node names a node of its type also in the new list
abbrev pub KeepsTypes : List yaml_node_t → List yaml_node_t → Type 0
KeepsTypes old new = (id : ℤ) → IsIdUpTo (length old) id → type_at new id ≡ type_at old id

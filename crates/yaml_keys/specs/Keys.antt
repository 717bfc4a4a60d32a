-- Keys of mappings, and when two are the same (docs/DEFINITIONS.md, "Duplicate keys").
use Rattle.std.specs.Prelude.{◌≡◌, ◌⊎◌, ◌<◌, ◌≤◌, ◌<ℤ◌, ℕ, suc, ℤ, pos, List, Option, Some, None, Bool, true, false, Contains, length, get_or, slice_get}
use Rattle.std.specs.Option.{option_map, option_and_then}
use Rattle.libyaml_types.specs.declared.enums.yaml_scalar_style_t.{yaml_scalar_style_t}
use Rattle.libyaml_types.specs.declared.enums.yaml_scalar_style_t.TheVariants.{YAML_PLAIN_SCALAR_STYLE}
use Rattle.libyaml_documents.specs.declared.node.yaml_node_t.{yaml_node_t}
use Rattle.libyaml_documents.specs.declared.node.unnamed_yaml_node_t_data.{unnamed_yaml_node_t_data}
use Rattle.libyaml_documents.specs.declared.node.unnamed_yaml_node_t_data.TheVariants.{Scalar, Sequence, Mapping}
use Rattle.libyaml_documents.specs.Nodes.{node_at, pairs_of}
use Rattle.yaml_keys.specs.declared.duplicate.yaml_duplicate_key_t.{yaml_duplicate_key_t}

abbrev pub is_plain_style : yaml_scalar_style_t → Bool
is_plain_style YAML_PLAIN_SCALAR_STYLE = true
is_plain_style _ = false

-- what tells scalars apart as keys: whether it is plain, the tag, the text; a collection has none
abbrev pub ScalarKey : Type 0
ScalarKey = Bool × List ℕ × List ℕ

abbrev pub scalar_key_in : (tag : List ℕ) → unnamed_yaml_node_t_data → Option ScalarKey
scalar_key_in tag (Scalar s) = Some (is_plain_style s.style, tag, s.value)
scalar_key_in tag (Sequence s) = None
scalar_key_in tag (Mapping m) = None

abbrev pub scalar_key : yaml_node_t → Option ScalarKey
scalar_key node = scalar_key_in node.tag node.content

-- the same of the node of an id
abbrev pub scalar_key_at : List yaml_node_t → ℤ → Option ScalarKey
scalar_key_at nodes id = option_and_then (λ node. scalar_key node) (node_at nodes id)

-- Two ids are the same key: they name the same node, or scalars that the document does not tell apart. Whether a tag was
-- written it doesn't have: a schema can tell two such scalars apart only if one of them was written with a tag.
pub data IsSameKey (nodes : List yaml_node_t) (a b : ℤ) : Type 0 where
  same_node : a ≡ b → IsSameKey nodes a b
  same_scalar : (key : ScalarKey) → scalar_key_at nodes a ≡ Some key → scalar_key_at nodes b ≡ Some key → IsSameKey nodes a b

-- the key of the pair at this index of the mapping of this id
abbrev pub key_at : List yaml_node_t → (mapping : ℤ) → (index : ℕ) → Option ℤ
key_at nodes mapping index = option_and_then
    (λ node. option_map (λ pair. pair.key) (slice_get (pairs_of node.content) index)) (node_at nodes mapping)

-- two pairs of one mapping, in their order, with the same key
pub record IsDuplicate (nodes : List yaml_node_t) (d : yaml_duplicate_key_t) : Type 0 where
  pub key : ℤ
  pub again : ℤ
  pub first : key_at nodes d.mapping d.first ≡ Some key
  pub second : key_at nodes d.mapping d.second ≡ Some again
  pub order : d.first < d.second
  pub same : IsSameKey nodes key again

-- one mapping before the other, or in one mapping the second pair before the other's
abbrev pub IsBefore : (d other : yaml_duplicate_key_t) → Type 0
IsBefore d other = (d.mapping <ℤ other.mapping) ⊎ ((d.mapping ≡ other.mapping) × (d.second < other.second))

-- a mapping has two pairs
abbrev pub HasTwoPairs : List yaml_node_t → Type 0
HasTwoPairs nodes = (node : yaml_node_t) × Contains nodes node × (1 < length (pairs_of node.content))

-- the first duplicate, or that there is none
abbrev pub IsFirstDuplicate : List yaml_node_t → Option yaml_duplicate_key_t → Type 0
IsFirstDuplicate nodes None = (d : yaml_duplicate_key_t) → ¬ IsDuplicate nodes d
IsFirstDuplicate nodes (Some d) = IsDuplicate nodes d
    × ((other : yaml_duplicate_key_t) → IsDuplicate nodes other → IsBefore d other ⊎ (d ≡ other))

-- the node at a place is the same key as the one at the class's, and as none before that
pub record IsFirstSame (nodes : List yaml_node_t) (place class : ℕ) : Type 0 where
  pub at_most : class ≤ place
  pub same : IsSameKey nodes (pos (suc class)) (pos (suc place))
  pub none_before : (other : ℕ) → other < class → ¬ IsSameKey nodes (pos (suc other)) (pos (suc place))

-- for each node the place of the first that is the same key
pub record AreClasses (nodes : List yaml_node_t) (classes : List ℕ) : Type 0 where
  pub count : length classes ≡ length nodes
  pub each : (place : ℕ) → place < length nodes → IsFirstSame nodes place (get_or classes place 0)

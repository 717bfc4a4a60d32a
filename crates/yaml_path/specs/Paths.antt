-- Paths into a document (docs/DEFINITIONS.md, "Paths into a document").
use Rattle.std.specs.Prelude.{ℕ, ◌^◌, ℤ, pos, List, [], ◌∷◌, Option, Some, None, Bool, false, ◌&&◌, nat_lt, bytes_eq, slice_get, find, option_and_then, if◌then◌else◌}
use Rattle.std.specs.Option.{option_map, option_or}
use Rattle.std.specs.Str.{all_ascii_digits}
use Rattle.std.specs.Str.Parse.{digits_value}
use Rattle.libyaml_documents.specs.declared.pairs.yaml_node_pair_t.{yaml_node_pair_t}
use Rattle.libyaml_documents.specs.declared.node.yaml_node_t.{yaml_node_t}
use Rattle.libyaml_documents.specs.declared.node.unnamed_yaml_node_t_data.{unnamed_yaml_node_t_data}
use Rattle.libyaml_documents.specs.declared.node.unnamed_yaml_node_t_data.TheVariants.{Scalar, Sequence, Mapping}
use Rattle.libyaml_documents.specs.Nodes.{items_of, node_at, pairs_of}

-- the text of a scalar; a sequence and a mapping have none
abbrev pub node_text_of : unnamed_yaml_node_t_data → Option (List ℕ)
node_text_of (Scalar s) = Some s.value
node_text_of (Sequence s) = None
node_text_of (Mapping m) = None

-- the item of this number, from 0, of the node of this id
abbrev pub item_at : List yaml_node_t → ℤ → ℕ → Option ℤ
item_at nodes id index = option_and_then (λ node. slice_get (items_of node.content) index) (node_at nodes id)

-- the text of the node of this id, where that is a scalar
abbrev pub scalar_text_at : List yaml_node_t → ℤ → Option (List ℕ)
scalar_text_at nodes id = option_and_then (λ node. node_text_of node.content) (node_at nodes id)

-- whether these are the same text
abbrev pub is_text : List ℕ → Option (List ℕ) → Bool
is_text text None = false
is_text text (Some other) = bytes_eq other text

-- whether the node of this id is a scalar of exactly this text
abbrev pub is_scalar_at : List yaml_node_t → List ℕ → ℤ → Bool
is_scalar_at nodes text id = is_text text (scalar_text_at nodes id)

-- the first pair whose key is a scalar of exactly this text
abbrev pub pair_of : List yaml_node_t → List ℕ → List yaml_node_pair_t → Option yaml_node_pair_t
pair_of nodes key pairs = find (λ pair. is_scalar_at nodes key pair.key) pairs

-- the value of that pair of the node of this id
abbrev pub value_at : List yaml_node_t → ℤ → List ℕ → Option ℤ
value_at nodes id key = option_and_then
    (λ node. option_map (λ pair. pair.value) (pair_of nodes key (pairs_of node.content))) (node_at nodes id)

-- the number that a word of decimal digits alone writes, within 64 bits
abbrev pub index_of : List ℕ → Option ℕ
index_of [] = None
index_of (d ∷ ds) = if all_ascii_digits (d ∷ ds) && nat_lt (digits_value 10 (d ∷ ds)) (2 ^ 64) then Some
    (digits_value 10 (d ∷ ds)) else None

-- what a word of a path leads to: in a mapping the value of that key, in a sequence the item of that number
abbrev pub child_at : List yaml_node_t → ℤ → List ℕ → Option ℤ
child_at nodes id word = option_or (value_at nodes id word)
    (option_and_then (λ index. item_at nodes id index) (index_of word))

-- what the words of a path lead to, one by one, from the node of this id
abbrev pub id_after : List yaml_node_t → ℤ → List (List ℕ) → Option ℤ
id_after nodes id [] = Some id
id_after nodes id (word ∷ words) = option_and_then (λ child. id_after nodes child words) (child_at nodes id word)

-- the same from the root, where there is one
abbrev pub id_at : List yaml_node_t → List (List ℕ) → Option ℤ
id_at [] words = None
id_at (root ∷ nodes) words = id_after (root ∷ nodes) (pos 1) words

-- the text of the scalar at the end of a path
abbrev pub text_at : List yaml_node_t → List (List ℕ) → Option (List ℕ)
text_at nodes words = option_and_then (λ id. scalar_text_at nodes id) (id_at nodes words)

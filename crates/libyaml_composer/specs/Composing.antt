-- What an event does to the document that is open, without texts and nodes. The fact of an ALIAS is the id of the node that
-- carries its anchor, and that of a node with an anchor the id of an earlier node that carries it; 0 where there is none.
use Rattle.std.specs.Prelude.{◌∷◌, ℕ, suc, ℤ, pos, List, [], Bool, true, false, length, min, nat_le, nat_lt, take, reverse}
use Rattle.libyaml_types.specs.declared.enums.yaml_event_type_t.{yaml_event_type_t}
use Rattle.libyaml_types.specs.declared.enums.yaml_event_type_t.TheVariants as event_kinds
use Rattle.libyaml_composer.specs.declared.composer.composer_t.{composer_t}
use Rattle.libyaml_composer.specs.declared.deed.Deed.{Deed}
use Rattle.libyaml_composer.specs.declared.deed.Deed.TheVariants as deed
use Rattle.libyaml_composer.specs.declared.records.open_t.{open_t}
use Rattle.libyaml_composer.specs.declared.records.place_t.{place_t}
use Rattle.libyaml_composer.specs.Numbers.{is_set, is_id}

-- What is kept between two events: how many nodes the document has, how many entries each of its lists may have, and the
-- collections that are open, the innermost first, for so many of which there is room.
pub record Composer : Type 0 where
  pub is_within : Bool
  pub nodes : ℕ
  pub most : ℕ
  pub room : ℕ
  pub stack : List open_t

-- ids are numbers of 32 bits with a sign
abbrev pub most_of : ℕ → ℕ
most_of n = min n 2147483647

-- the stack that so many of these entries of the caller's are
unfoldable pub stack_of : ℕ → List open_t → List open_t
stack_of count entries = reverse (take count entries)

-- what the record and these entries of the caller's stand for
abbrev pub composer_of : composer_t → List open_t → Composer
composer_of d entries = record {
  is_within = is_set d.is_within;
  nodes = d.nodes;
  most = most_of d.max_entries;
  room = length entries;
  stack = stack_of d.depth entries;
}

-- what is to be done, and what is kept then
pub record Told : Type 0 where
  pub deed : Deed
  pub place : place_t
  pub composer : Composer

abbrev pub told : Deed → place_t → Composer → Told
told d p c = record { deed = d; place = p; composer = c }

-- What a child is to its parent, by whether that is a mapping, and whether a key waits in it.
abbrev pub deed_in : (is_mapping waits : Bool) → Deed
deed_in false waits = deed.Item
deed_in true false = deed.Key
deed_in true true = deed.Value

abbrev pub deed_for : List open_t → Deed
deed_for [] = deed.Root
deed_for (o ∷ s) = deed_in (is_set o.is_mapping) (is_id o.key)

-- An item and a key need an entry of the parent's list; a value has that of its key.
abbrev pub full_in : ℕ → (children : ℕ) → (is_mapping waits : Bool) → Bool
full_in most n false waits = nat_lt most (suc n)
full_in most n true false = nat_lt most (suc n)
full_in most n true true = false

abbrev pub is_list_full : ℕ → List open_t → Bool
is_list_full most [] = false
is_list_full most (o ∷ s) = full_in most o.children (is_set o.is_mapping) (is_id o.key)

-- the innermost open collection with this child
abbrev pub holding_in : ℤ → open_t → (is_mapping waits : Bool) → open_t
holding_in i o false waits = record o { children = suc o.children }
holding_in i o true false = record o { key = i; children = suc o.children }
holding_in i o true true = record o { key = pos 0 }

abbrev pub open_with_child : ℤ → open_t → open_t
open_with_child i o = holding_in i o (is_set o.is_mapping) (is_id o.key)

abbrev pub holding_top : ℤ → List open_t → List open_t
holding_top i [] = []
holding_top i (o ∷ s) = open_with_child i o ∷ s

abbrev pub parent_in : List open_t → ℤ
parent_in [] = pos 0
parent_in (o ∷ s) = o.node

abbrev pub waiting_in : List open_t → ℤ
waiting_in [] = pos 0
waiting_in (o ∷ s) = o.key

abbrev pub place_in : (node child : ℤ) → List open_t → place_t
place_in n i s = record { node = n; child = i; parent = parent_in s; key = waiting_in s }

-- a child is handed to its parent, and beside it a node comes after the others, if one does
abbrev pub handing : (node child : ℤ) → Composer → Told
handing n i c = told (deed_for c.stack) (place_in n i c.stack) (record c { stack = holding_top i c.stack })

abbrev pub unless : Bool → Deed → place_t → Composer → Told → Told
unless true d p c t = told d p c
unless false d p c t = t

-- an alias, by whether a node carries its anchor
abbrev pub at_anchored_node : Bool → ℤ → place_t → Composer → Told
at_anchored_node false i p c = told deed.UndefinedAlias p c
at_anchored_node true i p c = unless (is_list_full c.most c.stack) deed.FullList p c (handing (pos 0) i c)

-- A node, unless it has no id or its anchor is another's: the list of nodes first.
abbrev pub if_free : ℤ → place_t → Composer → Told → Told
if_free f p c t = unless (nat_lt c.most (suc c.nodes)) deed.FullList p c (unless (is_id f) deed.RepeatedAnchor p c t)

-- and then, unless it has no place in its parent's list
abbrev pub if_placed : ℤ → place_t → Composer → Told → Told
if_placed f p c t = if_free f p c (unless (is_list_full c.most c.stack) deed.FullList p c t)

abbrev pub new_id : Composer → ℤ
new_id c = pos (suc c.nodes)

abbrev pub adding : Composer → Told
adding c = handing (new_id c) (new_id c) (record c { nodes = suc c.nodes })

-- the collection of this node is open, without children
abbrev pub with_open_node : (is_mapping : ℕ) → ℤ → Told → Told
with_open_node m i t = record t {
  composer = record t.composer {
    stack = record { node = i; key = pos 0; children = 0; is_mapping = m } ∷ t.composer.stack;
  };
}

abbrev pub at_start : (is_mapping : ℕ) → ℤ → place_t → Composer → Told
at_start m f p c = if_placed f p c
    (unless (nat_le c.room (length c.stack)) deed.FullStack p c (with_open_node m (new_id c) (adding c)))

-- the innermost open collection ends
abbrev pub collection_ended : List open_t → place_t → Composer → Told
collection_ended [] p c = told deed.Passes p c
collection_ended (o ∷ s) p c = told deed.Closes (record { node = pos 0; child = pos 0; parent = o.node; key = pos 0 })
    (record c { stack = s })

-- an event within a document, and between documents
abbrev pub within_step : yaml_event_type_t → ℤ → place_t → Composer → Told
within_step event_kinds.YAML_DOCUMENT_END_EVENT f p c = told deed.Ends p (record c { is_within = false })
within_step event_kinds.YAML_ALIAS_EVENT f p c = at_anchored_node (is_id f) f p c
within_step event_kinds.YAML_SCALAR_EVENT f p c = if_placed f p c (adding c)
within_step event_kinds.YAML_SEQUENCE_START_EVENT f p c = at_start 0 f p c
within_step event_kinds.YAML_MAPPING_START_EVENT f p c = at_start 1 f p c
within_step event_kinds.YAML_SEQUENCE_END_EVENT f p c = collection_ended c.stack p c
within_step event_kinds.YAML_MAPPING_END_EVENT f p c = collection_ended c.stack p c
within_step _ f p c = told deed.Passes p c

abbrev pub between_step : yaml_event_type_t → place_t → Composer → Told
between_step event_kinds.YAML_DOCUMENT_START_EVENT p c =
    told deed.Begins p (record c { is_within = true; nodes = 0; stack = [] })
between_step _ p c = told deed.Passes p c

-- the step for an event of this kind and fact; what was put last stays, unless something is put
abbrev pub step_in : (is_within : Bool) → yaml_event_type_t → ℤ → place_t → Composer → Told
step_in true k f p c = within_step k f p c
step_in false k f p c = between_step k p c

abbrev pub composer_step : yaml_event_type_t → ℤ → place_t → Composer → Told
composer_step k f p c = step_in c.is_within k f p c

-- nothing is done
abbrev pub does_nothing : Deed → Bool
does_nothing deed.Passes = true
does_nothing deed.FullStack = true
does_nothing deed.UndefinedAlias = true
does_nothing deed.RepeatedAnchor = true
does_nothing deed.FullList = true
does_nothing deed.Bad = true
does_nothing _ = false

-- an event that opens a collection
abbrev pub is_start : yaml_event_type_t → Bool
is_start event_kinds.YAML_SEQUENCE_START_EVENT = true
is_start event_kinds.YAML_MAPPING_START_EVENT = true
is_start _ = false

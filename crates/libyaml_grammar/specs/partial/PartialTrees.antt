-- Partial trees (docs/DEFINITIONS.md, "Partial trees"): a stream tree that stops at one place of its right edge. All to the
-- left of the place is whole, and the collections and the document around it are open.
use Rattle.std.specs.Prelude.{List, ◌∷◌, Option, Bool, ◌&&◌}
use Rattle.libyaml_grammar.specs.grammar.Tokens.{Anchor, AnchorName, BlockEntry, BlockMappingStart, BlockSequenceStart, DocumentStart, Key, Marks, Token, Value, tok}
use Rattle.libyaml_grammar.specs.grammar.Trees.{Before, BlockItems, Directive, Directives, Documents, FlowItems, FlowMember, FlowSlot, Free, Parts, Properties, Role, Sort, before_tokens, directive_token, directives_tokens, documents_tokens, flow_items_tokens, flow_member_tokens, flow_slot_tokens}
use Rattle.libyaml_grammar.specs.grammar.Trees.{free_tokens, items_tokens, no_directives, opening, option_tokens, parts_tokens, role_token}
use Rattle.libyaml_grammar.specs.grammar.Order.{admits, before_in_order, directives_in_order, documents_in_order, flow_items_in_order, flow_member_in_order, flow_slot_in_order, free_in_order, items_in_order, option_in_order, parts_in_order}

-- where a document's root is expected: after what stands before it, with its head if it has one
pub data Root : Type 0 where
  implicit_root : Free → Root
  explicit_root : Before → Directives → Marks → Root

mutual
  -- Where a block node, or nothing, is expected: as a document's root, after a BLOCK-ENTRY of a block sequence, as a key or
  -- value of a block mapping, or after a BLOCK-ENTRY of a sequence without tokens of its own. Each holds the place of
  -- the collection around it, and what of that collection stands to the left.
  pub data BlockPlace : Type 0 where
    root : Root → BlockPlace
    entry : BlockPlace → Option Properties → Marks → BlockItems → Marks → BlockPlace
    slot : PartPlace → BlockPlace
    indentless_entry : PartPlace → Option Properties → BlockItems → Marks → BlockPlace

  -- after a KEY or VALUE of a block mapping
  pub data PartPlace : Type 0 where
    part_place : BlockPlace → Option Properties → Marks → Parts → Role → Marks → PartPlace

mutual
  -- where a node of either kind is expected; in flow as an entry, after the KEY of a pair, or after its VALUE
  pub data Place : Type 0 where
    block : BlockPlace → Place
    flow_entry : Open → Place
    flow_key : Open → Marks → Place
    flow_value : Open → Marks → FlowSlot → Marks → Place

  -- an open flow collection, with the entries that have their separator
  pub data Open : Type 0 where
    open_collection : Place → Option Properties → Sort → Marks → FlowItems → Open

-- The place at which the tree ends: before STREAM-START; where a document's start is expected, after a whole
-- document or after a directive; at a directive; where a node's content is expected, with no property before it; at a TAG
-- that begins a node, or after an ANCHOR that begins one; and in a block sequence, a block mapping or a flow
-- collection after its start or a whole entry.
pub data PartialTree : Type 0 where
  before_stream : PartialTree
  document_due : Documents → PartialTree
  start_due : Before → Directives → Directive → PartialTree
  at_directive : Before → Directives → PartialTree
  content_due : Place → PartialTree
  at_tag : Place → PartialTree
  at_tag_after : Place → AnchorName → Marks → PartialTree
  entry_due : BlockPlace → Option Properties → Marks → BlockItems → PartialTree
  part_due : BlockPlace → Option Properties → Marks → Parts → PartialTree
  separator_due : Open → FlowMember → PartialTree

-- The tokens up to a place, and after them the list r.
abbrev pub root_tokens : Root → List Token → List Token
root_tokens (implicit_root f) r = free_tokens f r
root_tokens (explicit_root b ds m) r = before_tokens b (directives_tokens ds (tok DocumentStart m ∷ r))

abbrev mutual
  pub block_place_tokens : BlockPlace → List Token → List Token
  block_place_tokens (root t) r = root_tokens t r
  block_place_tokens (entry c o m is e) r =
      block_place_tokens c (option_tokens o (tok BlockSequenceStart m ∷ items_tokens is (tok BlockEntry e ∷ r)))
  block_place_tokens (slot c) r = part_place_tokens c r
  block_place_tokens (indentless_entry c o is e) r =
      part_place_tokens c (option_tokens o (items_tokens is (tok BlockEntry e ∷ r)))

  pub part_place_tokens : PartPlace → List Token → List Token
  part_place_tokens (part_place c o m ps k v) r =
      block_place_tokens c (option_tokens o (tok BlockMappingStart m ∷ parts_tokens ps (tok (role_token k) v ∷ r)))

abbrev mutual
  pub place_tokens : Place → List Token → List Token
  place_tokens (block c) r = block_place_tokens c r
  place_tokens (flow_entry c) r = open_tokens c r
  place_tokens (flow_key c k) r = open_tokens c (tok Key k ∷ r)
  place_tokens (flow_value c k n v) r = open_tokens c (tok Key k ∷ flow_slot_tokens n (tok Value v ∷ r))

  pub open_tokens : Open → List Token → List Token
  open_tokens (open_collection p o k m is) r = place_tokens p (option_tokens o (tok (opening k) m ∷ flow_items_tokens is r))

-- the tokens of a partial tree, and after them the list r
abbrev pub partial_tokens : PartialTree → List Token → List Token
partial_tokens before_stream r = r
partial_tokens (document_due d) r = documents_tokens d r
partial_tokens (start_due b ds d) r = before_tokens b (directives_tokens ds (directive_token d ∷ r))
partial_tokens (at_directive b ds) r = before_tokens b (directives_tokens ds r)
partial_tokens (content_due p) r = place_tokens p r
partial_tokens (at_tag p) r = place_tokens p r
partial_tokens (at_tag_after p a m) r = place_tokens p (tok (Anchor a) m ∷ r)
partial_tokens (entry_due c o m is) r = block_place_tokens c (option_tokens o (tok BlockSequenceStart m ∷ items_tokens is r))
partial_tokens (part_due c o m ps) r = block_place_tokens c (option_tokens o (tok BlockMappingStart m ∷ parts_tokens ps r))
partial_tokens (separator_due c e) r = open_tokens c (flow_member_tokens e r)

-- the directives of the document in which a place stands
abbrev pub root_directives : Root → Directives
root_directives (implicit_root f) = no_directives
root_directives (explicit_root b ds m) = ds

abbrev mutual
  pub declared_block : BlockPlace → Directives
  declared_block (root t) = root_directives t
  declared_block (entry c o m is e) = declared_block c
  declared_block (slot c) = declared_part c
  declared_block (indentless_entry c o is e) = declared_part c

  pub declared_part : PartPlace → Directives
  declared_part (part_place c o m ps k v) = declared_block c

abbrev mutual
  pub declared : Place → Directives
  declared (block c) = declared_block c
  declared (flow_entry c) = declared_open c
  declared (flow_key c k) = declared_open c
  declared (flow_value c k x v) = declared_open c

  pub declared_open : Open → Directives
  declared_open (open_collection p o k m is) = declared p

-- whether what stands up to a place is in order, and b
abbrev pub root_in_order : Root → Bool → Bool
root_in_order (implicit_root f) b = free_in_order f b
root_in_order (explicit_root c ds m) b = before_in_order c (directives_in_order ds b)

abbrev mutual
  pub block_place_in_order : BlockPlace → Bool → Bool
  block_place_in_order (root t) b = root_in_order t b
  block_place_in_order (entry c o m is e) b =
      block_place_in_order c (option_in_order (declared_block c) o (items_in_order (declared_block c) is b))
  block_place_in_order (slot c) b = part_place_in_order c b
  block_place_in_order (indentless_entry c o is e) b =
      part_place_in_order c (option_in_order (declared_part c) o (items_in_order (declared_part c) is b))

  pub part_place_in_order : PartPlace → Bool → Bool
  part_place_in_order (part_place c o m ps k v) b =
      block_place_in_order c (option_in_order (declared_block c) o (parts_in_order (declared_block c) ps b))

abbrev mutual
  pub place_in_order : Place → Bool → Bool
  place_in_order (block c) b = block_place_in_order c b
  place_in_order (flow_entry c) b = open_in_order c b
  place_in_order (flow_key c k) b = open_in_order c b
  place_in_order (flow_value c k n v) b = open_in_order c (flow_slot_in_order (declared_open c) n b)

  pub open_in_order : Open → Bool → Bool
  open_in_order (open_collection p o k m is) b =
      place_in_order p (option_in_order (declared p) o (flow_items_in_order (declared p) is b))

-- whether the documents of a partial tree are in order as far as they go, and b
abbrev pub partial_in_order : PartialTree → Bool → Bool
partial_in_order before_stream b = b
partial_in_order (document_due d) b = documents_in_order d b
partial_in_order (start_due c ds d) b = before_in_order c (directives_in_order ds (admits ds d && b))
partial_in_order (at_directive c ds) b = before_in_order c (directives_in_order ds b)
partial_in_order (content_due p) b = place_in_order p b
partial_in_order (at_tag p) b = place_in_order p b
partial_in_order (at_tag_after p a m) b = place_in_order p b
partial_in_order (entry_due c o m is) b =
    block_place_in_order c (option_in_order (declared_block c) o (items_in_order (declared_block c) is b))
partial_in_order (part_due c o m ps) b =
    block_place_in_order c (option_in_order (declared_block c) o (parts_in_order (declared_block c) ps b))
partial_in_order (separator_due c e) b = open_in_order c (flow_member_in_order (declared_open c) e b)

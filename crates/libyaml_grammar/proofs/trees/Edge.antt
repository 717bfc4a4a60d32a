-- The position that a partial tree's tokens lead to: its right edge, with all that is open around it.
use Rattle.std.proofs.Common.{◌≡◌, List, ◌∷◌, Option, Some, None, refl, ◌∙◌, arith}
use Rattle.libyaml_grammar.specs.grammar.Tokens.{Anchor, BlockEntry, BlockMappingStart, BlockSequenceStart, Key, Marks, Token, Value, tok}
use Rattle.libyaml_grammar.specs.grammar.Trees.{Before, BlockItems, BlockSlot, Directive, Directives, Documents, FlowMember, FlowSlot, Parts, Properties, Sort, anchor, before_tokens, following, block_node_tokens, block_slot_tokens, directive, directive_token, directives_tokens, documents_tokens}
use Rattle.libyaml_grammar.specs.grammar.Trees.{empty, explicit, flow_node, flow_node_tokens, flow_nothing, flow_slot_tokens, free, implicit, indentless, item, key, no_directives, no_items, no_parts, no_value, node, nothing, opening, option_tokens, pair, part, single, slot_of, value, with_value}
use Rattle.libyaml_grammar.specs.partial.PartialTrees.{BlockPlace, PartialTree, Open, PartPlace, Place, at_directive, at_tag, at_tag_after, before_stream, block, block_place_tokens, content_due, partial_tokens, document_due, entry, entry_due, explicit_root, flow_entry, flow_key, flow_value}
use Rattle.libyaml_grammar.specs.partial.PartialTrees.{implicit_root, indentless_entry, open_collection, open_tokens, part_due, part_place, part_place_tokens, place_tokens, root, separator_due, slot, start_due}
use Rattle.libyaml_grammar.proofs.exported.Positions.{Position, between, due, flow_due, headed, in_mapping, in_sequence, unopened}
use Rattle.libyaml_grammar.proofs.exported.Reading.{feeds}
use Rattle.libyaml_grammar.proofs.trees.Complete.{before_reads, block_node_begins, block_node_edge, directive_feeds, directive_ready, directives_read, directives_ready, edge_block, edge_flow, entries_read, flow_items_read, flow_node_begins, flow_node_edge, flow_slot_reads, free_reads, home}
use Rattle.libyaml_grammar.proofs.trees.Complete.{home_feeds, items_read, opening_begins, opening_feeds, option_begins, option_feeds, parts_read, start_feeds, start_ready}

-- the position after the last token of a place that is filled
abbrev pub edge_slot : BlockPlace → BlockSlot → Position
edge_slot c nothing = due (block c) None
edge_slot c (node n) = edge_block c n

abbrev pub edge_flow_slot : Place → FlowSlot → Position
edge_flow_slot p flow_nothing = due p None
edge_flow_slot p (flow_node n) = edge_flow p n

slot_edge : (x : BlockSlot) (c : BlockPlace) (r : List Token)
    → feeds (block_slot_tokens x r) (due (block c) None) ≡ feeds r (edge_slot c x)
slot_edge x c r = grind (arith, block_node_edge)

flow_slot_edge : (x : FlowSlot) (p : Place) (r : List Token)
    → feeds (flow_slot_tokens x r) (due p None) ≡ feeds r (edge_flow_slot p x)
flow_slot_edge x p r = grind (arith, flow_node_edge)

-- a collection that begins at a place of which no token has come
home_sequence : (o : Option Properties) (c : BlockPlace) (m : Marks) (r : List Token)
    → feeds (option_tokens o (tok BlockSequenceStart m ∷ r)) (home (block c)) ≡ feeds r (in_sequence c o m empty)
home_sequence o c m r
    = home_feeds (block c) (option_tokens o (tok BlockSequenceStart m ∷ r)) (option_begins o BlockSequenceStart m r tt)
    ∙ option_feeds o (block c) _

home_mapping : (o : Option Properties) (c : BlockPlace) (m : Marks) (r : List Token)
    → feeds (option_tokens o (tok BlockMappingStart m ∷ r)) (home (block c)) ≡ feeds r (in_mapping c o m no_parts)
home_mapping o c m r
    = home_feeds (block c) (option_tokens o (tok BlockMappingStart m ∷ r)) (option_begins o BlockMappingStart m r tt)
    ∙ option_feeds o (block c) _

home_collection : (o : Option Properties) (p : Place) (k : Sort) (m : Marks) (r : List Token)
    → feeds (option_tokens o (tok (opening k) m ∷ r)) (home p) ≡ feeds r (flow_due (open_collection p o k m no_items))
home_collection o p k m r
    = home_feeds p (option_tokens o (tok (opening k) m ∷ r)) (option_begins o (opening k) m r (opening_begins k))
    ∙ (option_feeds o p _ ∙ opening_feeds k m p o r)

mutual
  block_place_reads : (c : BlockPlace) (r : List Token)
      → feeds (block_place_tokens c r) unopened ≡ feeds r (home (block c))
  block_place_reads (root (implicit_root f)) r = free_reads f r
  block_place_reads (root (explicit_root b ds m)) r = before_reads b _ (directives_ready ds b _ (start_ready b m))
      ∙ (directives_read ds b _ ∙ start_feeds b ds m r)
  block_place_reads (entry c o m is e) r = block_place_reads c _
      ∙ (home_sequence o c m _ ∙ items_read is c o m (tok BlockEntry e ∷ r) tt)
  block_place_reads (slot c) r = part_place_reads c r
  block_place_reads (indentless_entry c o is e) r = part_place_reads c _
      ∙ (option_feeds o (block (slot c)) _ ∙ entries_read is c o e r)

  part_place_reads : (c : PartPlace) (r : List Token)
      → feeds (part_place_tokens c r) unopened ≡ feeds r (due (block (slot c)) None)
  part_place_reads (part_place c o m ps key v) r = block_place_reads c _
      ∙ (home_mapping o c m _ ∙ parts_read ps c o m (tok Key v ∷ r) tt)
  part_place_reads (part_place c o m ps value v) r = block_place_reads c _
      ∙ (home_mapping o c m _ ∙ parts_read ps c o m (tok Value v ∷ r) tt)

mutual
  pub place_reads : (p : Place) (r : List Token) → feeds (place_tokens p r) unopened ≡ feeds r (home p)
  place_reads (block c) r = block_place_reads c r
  place_reads (flow_entry c) r = open_reads c r
  place_reads (flow_key c k) r = open_reads c (tok Key k ∷ r)
  place_reads (flow_value c k x v) r = open_reads c _ ∙ flow_slot_reads x (flow_key c k) (tok Value v ∷ r) tt

  open_reads : (c : Open) (r : List Token) → feeds (open_tokens c r) unopened ≡ feeds r (flow_due c)
  open_reads (open_collection p o k m is) r = place_reads p _ ∙ (home_collection o p k m _ ∙ flow_items_read is p o k m r)

-- the position after the tokens of a partial tree
abbrev pub edge_documents : Documents → Position
edge_documents (implicit f n) = edge_block (root (implicit_root f)) n
edge_documents (explicit b ds m x) = edge_slot (root (explicit_root b ds m)) x

abbrev pub edge_before : Before → Position
edge_before (free f) = between (free f)
edge_before (following d) = edge_documents d

abbrev pub edge_items : BlockPlace → Option Properties → Marks → BlockItems → Position
edge_items c o m empty = in_sequence c o m empty
edge_items c o m (item is e x) = edge_slot (entry c o m is e) x

abbrev pub edge_parts : BlockPlace → Option Properties → Marks → Parts → Position
edge_parts c o m no_parts = in_mapping c o m no_parts
edge_parts c o m (part ps k v (slot_of x)) = edge_slot (slot (part_place c o m ps k v)) x
edge_parts c o m (part ps k v (indentless y is e x)) = edge_slot (indentless_entry (part_place c o m ps k v) y is e) x

abbrev pub edge_member : Open → FlowMember → Position
edge_member c (single n) = edge_flow (flow_entry c) n
edge_member c (pair k x no_value) = edge_flow_slot (flow_key c k) x
edge_member c (pair k x (with_value v y)) = edge_flow_slot (flow_value c k x v) y

abbrev pub reached : PartialTree → Position
reached before_stream = unopened
reached (document_due d) = edge_documents d
reached (start_due b ds d) = headed b ds d
reached (at_directive b no_directives) = edge_before b
reached (at_directive b (directive ds d)) = headed b ds d
reached (content_due p) = home p
reached (at_tag p) = home p
reached (at_tag_after p a m) = due p (Some (anchor a m))
reached (entry_due c o m is) = edge_items c o m is
reached (part_due c o m ps) = edge_parts c o m ps
reached (separator_due c e) = edge_member c e

documents_edge : (d : Documents) (r : List Token) → feeds (documents_tokens d r) unopened ≡ feeds r (edge_documents d)
documents_edge (implicit f n) r = free_reads f _
    ∙ (home_feeds (block (root (implicit_root f))) (block_node_tokens n r) (block_node_begins n r)
    ∙ block_node_edge n (root (implicit_root f)) r)
documents_edge (explicit b ds m x) r = block_place_reads (root (explicit_root b ds m)) _
    ∙ slot_edge x (root (explicit_root b ds m)) r

headed_reads : (b : Before) (ds : Directives) (d : Directive) (r : List Token)
    → feeds (before_tokens b (directives_tokens ds (directive_token d ∷ r))) unopened ≡ feeds r (headed b ds d)
headed_reads b ds d r = before_reads b _ (directives_ready ds b _ (directive_ready b d))
    ∙ (directives_read ds b _ ∙ directive_feeds b ds d r)

pub partial_reads : (c : PartialTree) (r : List Token) → feeds (partial_tokens c r) unopened ≡ feeds r (reached c)
partial_reads before_stream r = refl
partial_reads (document_due d) r = documents_edge d r
partial_reads (start_due b ds d) r = headed_reads b ds d r
partial_reads (at_directive (free f) no_directives) r = free_reads f r
partial_reads (at_directive (following d) no_directives) r = documents_edge d r
partial_reads (at_directive b (directive ds d)) r = headed_reads b ds d r
partial_reads (content_due p) r = place_reads p r
partial_reads (at_tag p) r = place_reads p r
partial_reads (at_tag_after p a m) r = place_reads p _ ∙ home_feeds p (tok (Anchor a) m ∷ r) tt
partial_reads (entry_due c o m empty) r = block_place_reads c _ ∙ home_sequence o c m r
partial_reads (entry_due c o m (item is e x)) r = block_place_reads (entry c o m is e) _ ∙ slot_edge x (entry c o m is e) r
partial_reads (part_due c o m no_parts) r = block_place_reads c _ ∙ home_mapping o c m r
partial_reads (part_due c o m (part ps k v (slot_of x))) r = part_place_reads (part_place c o m ps k v) _
    ∙ slot_edge x (slot (part_place c o m ps k v)) r
partial_reads (part_due c o m (part ps k v (indentless y is e x))) r =
    block_place_reads (indentless_entry (part_place c o m ps k v) y is e) _
    ∙ slot_edge x (indentless_entry (part_place c o m ps k v) y is e) r
partial_reads (separator_due c (single n)) r
    = open_reads c _ ∙ (home_feeds (flow_entry c) (flow_node_tokens n r) (flow_node_begins n r)
    ∙ flow_node_edge n (flow_entry c) r)
partial_reads (separator_due c (pair k x no_value)) r = open_reads c _ ∙ flow_slot_edge x (flow_key c k) r
partial_reads (separator_due c (pair k x (with_value v y))) r = place_reads (flow_value c k x v) _
    ∙ flow_slot_edge y (flow_value c k x v) r

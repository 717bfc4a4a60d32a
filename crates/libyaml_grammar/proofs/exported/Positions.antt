-- Positions: what is known after a list of tokens that begins a stream. It is the place on the right edge, with what is
-- in hand there and the whole trees to the left of it. By positions the laws are proved, which speak of none.
use Rattle.std.specs.Prelude.{List, [], ◌∷◌, Option, Some, None, Bool, ◌&&◌}
use Rattle.libyaml_grammar.specs.grammar.Tokens.{BlockEnd, BlockEntry, BlockMappingStart, BlockSequenceStart, DocumentStart, Key, Mark, Marks, Scalar, StreamEnd, StreamStart, Token, empty_plain, tok}
use Rattle.libyaml_grammar.specs.grammar.Trees.{Before, BlockItems, BlockSlot, Directive, Directives, FlowMember, FlowSlot, Parts, Properties, Stream, anchor, before_tokens, following, block_slot_tokens, directive, directive_token, directives_tokens, flow_member_tokens, flow_slot_tokens, free}
use Rattle.libyaml_grammar.specs.grammar.Trees.{items_tokens, mapping, no_directives, option_tokens, parts_tokens, sequence, stream_tokens}
use Rattle.libyaml_grammar.specs.grammar.Events.{Event, before_events, block_layout, block_slot_events, documents_events, first_directive, first_block_entry, first_of, flow_member_events, flow_slot_events, free_events, items_events, opens_pair, parts_events, start_of, stream_events}
use Rattle.libyaml_grammar.specs.grammar.Order.{admits, before_in_order, block_slot_in_order, directives_in_order, flow_member_in_order, flow_slot_in_order, items_in_order, option_in_order, parts_in_order, stream_in_order}
use Rattle.libyaml_grammar.specs.partial.PartialTrees.{BlockPlace, PartialTree, Open, PartPlace, Place, at_directive, at_tag, at_tag_after, before_stream, block_place_in_order, block_place_tokens, content_due, declared, declared_block, declared_open, declared_part, document_due, entry_due}
use Rattle.libyaml_grammar.specs.partial.PartialTrees.{open_in_order, open_tokens, part_due, part_place, part_place_in_order, part_place_tokens, place_in_order, place_tokens, separator_due, start_due}
use Rattle.libyaml_grammar.specs.partial.PartialEvents.{shown_block, shown_open, shown_part, shown_place, sort_of}
use Rattle.libyaml_grammar.specs.partial.Rest.{any_encoding, rest_block_place, rest_open, rest_place}

-- Before the stream; where a document or the end is expected; after a directive; where a node or the rest of it is
-- expected; after the start or a whole entry of a block collection, or after a whole entry of a sequence without
-- tokens of its own; in a flow collection where an entry is expected, after a key with its KEY, or after a whole
-- entry; and after the stream's end.
pub data Position : Type 0 where
  unopened : Position
  between : Before → Position
  headed : Before → Directives → Directive → Position
  due : Place → Option Properties → Position
  in_sequence : BlockPlace → Option Properties → Marks → BlockItems → Position
  in_mapping : BlockPlace → Option Properties → Marks → Parts → Position
  in_indentless : PartPlace → Option Properties → BlockItems → Marks → BlockSlot → Position
  flow_due : Open → Position
  flow_keyed : Open → Marks → FlowSlot → Position
  flow_after : Open → FlowMember → Position
  done : Stream → Position

-- the tokens up to a position, and after them the list r
abbrev pub position_tokens : Position → List Token → List Token
position_tokens unopened r = r
position_tokens (between b) r = before_tokens b r
position_tokens (headed b ds d) r = before_tokens b (directives_tokens ds (directive_token d ∷ r))
position_tokens (due p o) r = place_tokens p (option_tokens o r)
position_tokens (in_sequence c o m is) r =
    block_place_tokens c (option_tokens o (tok BlockSequenceStart m ∷ items_tokens is r))
position_tokens (in_mapping c o m ps) r =
    block_place_tokens c (option_tokens o (tok BlockMappingStart m ∷ parts_tokens ps r))
position_tokens (in_indentless c o is e n) r =
    part_place_tokens c (option_tokens o (items_tokens is (tok BlockEntry e ∷ block_slot_tokens n r)))
position_tokens (flow_due c) r = open_tokens c r
position_tokens (flow_keyed c k n) r = open_tokens c (tok Key k ∷ flow_slot_tokens n r)
position_tokens (flow_after c e) r = open_tokens c (flow_member_tokens e r)
position_tokens (done t) r = stream_tokens t r

-- whether what stands up to a position is in order, and b
abbrev pub position_in_order : Position → Bool → Bool
position_in_order unopened b = b
position_in_order (between c) b = before_in_order c b
position_in_order (headed c ds d) b = before_in_order c (directives_in_order ds (admits ds d && b))
position_in_order (due p o) b = place_in_order p (option_in_order (declared p) o b)
position_in_order (in_sequence c o m is) b =
    block_place_in_order c (option_in_order (declared_block c) o (items_in_order (declared_block c) is b))
position_in_order (in_mapping c o m ps) b =
    block_place_in_order c (option_in_order (declared_block c) o (parts_in_order (declared_block c) ps b))
position_in_order (in_indentless c o is e n) b
    = part_place_in_order c (option_in_order (declared_part c) o
    (items_in_order (declared_part c) is (block_slot_in_order (declared_part c) n b)))
position_in_order (flow_due c) b = open_in_order c b
position_in_order (flow_keyed c k n) b = open_in_order c (flow_slot_in_order (declared_open c) n b)
position_in_order (flow_after c e) b = open_in_order c (flow_member_in_order (declared_open c) e b)
position_in_order (done t) b = stream_in_order t b

-- the events up to a position, where m is the start of the next token
abbrev pub shown : Position → Mark → List Event → List Event
shown unopened m r = r
shown (between (free f)) m r = free_events f r
shown (between (following d)) m r = documents_events d m r
shown (headed b ds d) m r = before_events b (first_directive (directive ds d) m) r
shown (due p o) m r = shown_place p (first_of o m) r
shown (in_sequence c o s is) m r
    = shown_block c (first_of o s.start)
    (start_of (declared_block c) sequence block_layout o s ∷ items_events (declared_block c) is r)
shown (in_mapping c o s ps) m r
    = shown_block c (first_of o s.start)
    (start_of (declared_block c) mapping block_layout o s ∷ parts_events (declared_block c) ps m r)
shown (in_indentless c o is e n) m r
    = shown_part c (start_of (declared_part c) sequence block_layout o (first_block_entry is e)
    ∷ items_events (declared_part c) is (block_slot_events (declared_part c) n e.end r))
shown (flow_due c) m r = shown_open c r
shown (flow_keyed c k x) m r = shown_open c (opens_pair (sort_of c) k (flow_slot_events (declared_open c) x m r))
shown (flow_after c e) m r = shown_open c (flow_member_events (declared_open c) (sort_of c) e m r)
shown (done t) m r = stream_events t r

-- tokens that complete a position to a stream tree
abbrev pub position_rest : Marks → Position → List Token
position_rest m unopened = tok (StreamStart any_encoding) m ∷ tok StreamEnd m ∷ []
position_rest m (between b) = tok StreamEnd m ∷ []
position_rest m (headed b ds d) = tok DocumentStart m ∷ tok StreamEnd m ∷ []
position_rest m (due p o) = tok (Scalar empty_plain) m ∷ rest_place m p
position_rest m (in_sequence c o s is) = tok BlockEnd m ∷ rest_block_place m c
position_rest m (in_mapping c o s ps) = tok BlockEnd m ∷ rest_block_place m c
position_rest m (in_indentless (part_place c o s ps k v) x is e n) = tok BlockEnd m ∷ rest_block_place m c
position_rest m (flow_due c) = rest_open m c
position_rest m (flow_keyed c e n) = rest_open m c
position_rest m (flow_after c e) = rest_open m c
position_rest m (done t) = []

-- the position at which a partial tree ends
abbrev pub position_of : PartialTree → Position
position_of before_stream = unopened
position_of (document_due d) = between (following d)
position_of (start_due b ds d) = headed b ds d
position_of (at_directive b no_directives) = between b
position_of (at_directive b (directive ds d)) = headed b ds d
position_of (content_due p) = due p None
position_of (at_tag p) = due p None
position_of (at_tag_after p a m) = due p (Some (anchor a m))
position_of (entry_due c o m is) = in_sequence c o m is
position_of (part_due c o m ps) = in_mapping c o m ps
position_of (separator_due c e) = flow_after c e

-- Reading is complete: fed with the tokens of a tree, a position leads to its place filled with that tree, wherever the
-- next token is taken there. So a stream's tokens lead to the stream.
use Rattle.std.proofs.Common.{◌≡◌, List, [], ◌∷◌, Option, Some, None, refl, ap, ◌∙◌, Bool, arith}
use Rattle.libyaml_grammar.specs.grammar.Tokens.{Alias, Anchor, BlockEnd, BlockEntry, BlockMappingStart, BlockSequenceStart, Content, DocumentEnd, DocumentStart, FlowEntry, FlowMappingEnd, FlowMappingStart, FlowSequenceEnd, FlowSequenceStart, Key, Marks, Scalar, Tag, Token, Value, tok}
use Rattle.libyaml_grammar.specs.grammar.Trees.{Before, BlockItems, BlockNode, BlockSlot, Directive, Directives, Documents, Ended, FlowItems, FlowLast, FlowMember, FlowNode, FlowSlot, Free, Parts, Properties, Slot, Sort, Stream, again, alias, alone, before_tokens, following, block_mapping}
use Rattle.libyaml_grammar.specs.grammar.Trees.{block_node_tokens, block_sequence, block_slot_tokens, closing, collection, directive, directive_token, directives_tokens, documents_tokens, empty, ended, ended_tokens, explicit, flow, flow_items_tokens, flow_last_tokens, flow_member_tokens, flow_node}
use Rattle.libyaml_grammar.specs.grammar.Trees.{flow_node_tokens, flow_nothing, flow_slot_tokens, free, free_tokens, implicit, indentless, item, items_tokens, key, last, mapping, more_items, no_directives, no_items, no_last, no_parts, no_value, node, nothing, once, opened, opening, option_tokens}
use Rattle.libyaml_grammar.specs.grammar.Trees.{pair, part, parts_tokens, properties_tokens, scalar, sequence, single, slot_of, slot_tokens, tokens, value, with_value}
use Rattle.libyaml_grammar.specs.grammar.Events.{Event}
use Rattle.libyaml_grammar.specs.partial.PartialTrees.{BlockPlace, Open, PartPlace, Place, block, entry, explicit_root, flow_entry, flow_key, flow_value, implicit_root, indentless_entry, open_collection, part_place, root, slot}
use Rattle.libyaml_grammar.proofs.exported.Positions.{Position, between, done, due, flow_after, flow_due, flow_keyed, headed, in_indentless, in_mapping, in_sequence, unopened}
use Rattle.libyaml_grammar.proofs.exported.Reading.{Step, bad, after_whole, feed, feeds, fill, fill_block_slot, fill_flow, fill_flow_slot, fill_part, goes, leave, on_due, over, step, then_all}
use Rattle.libyaml_grammar.proofs.exported.ReadSteps.{ReadStep, begins_explicit, ends_indentless, ends_stream, fails, first_handle, first_version, is_past, lacks_value, moves, no_stream, read_step}

-- the token is taken
abbrev pub Takes : Step → Type 0
Takes (goes q) = Unit {0}
Takes (bad q) = ⊥
Takes over = ⊥

-- the list begins with a token that is taken
abbrev pub Ready : Position → List Token → Type 0
Ready q [] = ⊥
Ready q (t ∷ r) = Takes (feed q t)

-- A position at which a token does what it does at another, wherever it is taken there.
abbrev Follows : Position → Position → Type 0
Follows q p = (k : Content) (m : Marks) → Takes (step p k m) → step q k m ≡ step p k m

follows_feeds : (q p : Position) → Follows q p → (r : List Token) → Ready p r → feeds r q ≡ feeds r p
follows_feeds q p f r h = grind arith

follows_ready : (q p : Position) → Follows q p → (r : List Token) → Ready p r → Ready q r
follows_ready q p f r h = grind arith

-- a token that begins a node
abbrev pub Begins : Content → Type 0
Begins (Alias a) = Unit {0}
Begins (Anchor a) = Unit {0}
Begins (Tag h) = Unit {0}
Begins (Scalar v) = Unit {0}
Begins FlowSequenceStart = Unit {0}
Begins FlowMappingStart = Unit {0}
Begins BlockSequenceStart = Unit {0}
Begins BlockMappingStart = Unit {0}
Begins _ = ⊥

-- a token that begins a node, after what is whole and in no place where a node is expected
abbrev BeginsAfter : Position → Content → Type 0
BeginsAfter (between (free f)) k = ⊥
BeginsAfter (due p o) k = ⊥
BeginsAfter (flow_due c) k = ⊥
BeginsAfter q k = Begins k

-- it is never taken there
never : {m : Marks} {q : Position} {k : Content} {s : Step} {g : List Event → List Event} {l : Bool}
    → ReadStep m q k s g l → BeginsAfter q k → Takes s → ⊥
never is_past b h = h
never (moves ends_indentless v) b h = never v b h
never (moves lacks_value v) b h = never v b h
never (fails no_stream) b h = h
never (fails _) b h = h
never (first_version (free f) a) b h = b
never (first_handle (free f) a) b h = b
never (begins_explicit (free f)) b h = b
never (ends_stream (free f)) b h = b
never (moves _ v) b h = b
never _ b h = b

-- properties alone, or nothing: where the token is taken after it, that is what the place does
abbrev held : Place → Option Properties → Position
held p None = leave p
held p (Some ps) = fill_flow p (alone ps)

held_step : (p : Place) (o : Option Properties) (k : Content) (m : Marks) → (Begins k → ⊥)
    → Takes (after_whole (held p o) k m)
    → on_due p o k m ≡ after_whole (held p o) k m
held_step p o k m n h = grind arith

leave_follows : (p : Place) → Follows (due p None) (leave p)
leave_follows (block (root (implicit_root f))) k m h = refl
leave_follows (block (slot (part_place c o s ps t v))) k m h
    = held_step (block (slot (part_place c o s ps t v))) None k m
    (λ b. never (read_step m (leave (block (slot (part_place c o s ps t v)))) k) b h) h
leave_follows (flow_entry c) k m h = refl
leave_follows p k m h = held_step p None k m (λ b. never (read_step m (leave p) k) b h) h

-- properties that come first
properties_feed : (ps : Properties) (p : Place) (r : List Token)
    → feeds (properties_tokens ps r) (due p None) ≡ feeds r (due p (Some ps))
properties_feed ps p r = grind arith

pub option_feeds : (o : Option Properties) (p : Place) (r : List Token)
    → feeds (option_tokens o r) (due p None) ≡ feeds r (due p o)
option_feeds o p r = grind arith

-- the position at a place of which no token has come
abbrev pub home : Place → Position
home (block (root (implicit_root f))) = between (free f)
home (flow_entry c) = flow_due c
home p = due p None

-- the list begins with such a token
abbrev pub BeginsNode : List Token → Type 0
BeginsNode [] = ⊥
BeginsNode (t ∷ r) = Begins t.content

pub home_feeds : (p : Place) (l : List Token) → BeginsNode l → feeds l (home p) ≡ feeds l (due p None)
home_feeds p l b = grind arith

properties_begin : (ps : Properties) (r : List Token) → BeginsNode (properties_tokens ps r)
properties_begin ps r = grind arith

pub option_begins : (o : Option Properties) (k : Content) (m : Marks) (r : List Token) → Begins k
    → BeginsNode (option_tokens o (tok k m ∷ r))
option_begins o k m r b = grind arith

pub opening_begins : (k : Sort) → Begins (opening k)
opening_begins k = grind arith

pub flow_node_begins : (n : FlowNode) (r : List Token) → BeginsNode (flow_node_tokens n r)
flow_node_begins (alias a m) r = tt
flow_node_begins (alone ps) r = properties_begin ps r
flow_node_begins (scalar o v m) r = option_begins o (Scalar v) m r tt
flow_node_begins (collection o k m is l n) r = option_begins o (opening k) m _ (opening_begins k)

pub block_node_begins : (n : BlockNode) (r : List Token) → BeginsNode (block_node_tokens n r)
block_node_begins (flow n) r = flow_node_begins n r
block_node_begins (block_sequence o m is n) r = option_begins o BlockSequenceStart m _ tt
block_node_begins (block_mapping o m ps n) r = option_begins o BlockMappingStart m _ tt

pub opening_feeds : (k : Sort) (m : Marks) (p : Place) (o : Option Properties) (r : List Token)
    → feeds (tok (opening k) m ∷ r) (due p o) ≡ feeds r (flow_due (open_collection p o k m no_items))
opening_feeds k m p o r = grind arith

-- a pair whose key has come, and no VALUE
keyed_follows : (c : Open) (e : Marks) (x : FlowSlot) → Follows (flow_keyed c e x) (flow_after c (pair e x no_value))
keyed_follows c e x k m h = grind arith

-- the position after the last token of a part on the right edge, and that of the whole part
abbrev pub edge_flow : Place → FlowNode → Position
edge_flow p (alone ps) = due p (Some ps)
edge_flow p n = fill_flow p n

abbrev pub edge_block : BlockPlace → BlockNode → Position
edge_block c (flow n) = edge_flow (block c) n
edge_block c n = fill c n

flow_edge_whole : (n : FlowNode) (p : Place) (r : List Token) → Ready (fill_flow p n) r
    → feeds r (edge_flow p n) ≡ feeds r (fill_flow p n)
flow_edge_whole n p r h = grind arith

block_edge_whole : (n : BlockNode) (c : BlockPlace) (r : List Token) → Ready (fill c n) r
    → feeds r (edge_block c n) ≡ feeds r (fill c n)
block_edge_whole n c r h = grind arith

mutual
  pub flow_node_edge : (n : FlowNode) (p : Place) (r : List Token)
      → feeds (flow_node_tokens n r) (due p None) ≡ feeds r (edge_flow p n)
  flow_node_edge (alias a m) p r = refl
  flow_node_edge (alone ps) p r = properties_feed ps p r
  flow_node_edge (scalar o v m) p r = option_feeds o p (tok (Scalar v) m ∷ r)
  flow_node_edge (collection o k m is l n) p r
      = option_feeds o p _ ∙ (opening_feeds k m p o _ ∙ (flow_items_read is p o k m _ ∙ flow_last_reads l p o k m is n r))

  pub flow_items_read : (is : FlowItems) (p : Place) (o : Option Properties) (k : Sort) (m : Marks) (r : List Token)
      → feeds (flow_items_tokens is r) (flow_due (open_collection p o k m no_items)) ≡ feeds r
      (flow_due (open_collection p o k m is))
  flow_items_read no_items p o k m r = refl
  flow_items_read (more_items is e n) p o k m r = flow_items_read is p o k m _
      ∙ flow_member_reads e (open_collection p o k m is) (tok FlowEntry n ∷ r) tt

  flow_last_reads : (l : FlowLast) (p : Place) (o : Option Properties) (k : Sort) (m : Marks) (is : FlowItems)
      (n : Marks) (r : List Token)
      → feeds (flow_last_tokens l (tok (closing k) n ∷ r)) (flow_due (open_collection p o k m is)) ≡ feeds r
      (fill_flow p (collection o k m is l n))
  flow_last_reads no_last p o sequence m is n r = refl
  flow_last_reads no_last p o mapping m is n r = refl
  flow_last_reads (last e) p o sequence m is n r = flow_member_reads e (open_collection p o sequence m is)
      (tok FlowSequenceEnd n ∷ r) tt
  flow_last_reads (last e) p o mapping m is n r = flow_member_reads e (open_collection p o mapping m is)
      (tok FlowMappingEnd n ∷ r) tt

  flow_member_reads : (e : FlowMember) (c : Open) (r : List Token) → Ready (flow_after c e) r
      → feeds (flow_member_tokens e r) (flow_due c) ≡ feeds r (flow_after c e)
  flow_member_reads (single n) c r h
      = home_feeds (flow_entry c) (flow_node_tokens n r) (flow_node_begins n r) ∙ (flow_node_edge n (flow_entry c) r
      ∙ flow_edge_whole n (flow_entry c) r h)
  flow_member_reads (pair m k no_value) c r h = flow_slot_reads k (flow_key c m) r
      (follows_ready (flow_keyed c m k) (flow_after c (pair m k no_value)) (keyed_follows c m k) r h)
      ∙ follows_feeds (flow_keyed c m k) (flow_after c (pair m k no_value)) (keyed_follows c m k) r h
  flow_member_reads (pair m k (with_value n v)) c r h
      = flow_slot_reads k (flow_key c m) (tok Value n ∷ flow_slot_tokens v r) tt
      ∙ flow_slot_reads v (flow_value c m k n) r h

  pub flow_slot_reads : (x : FlowSlot) (p : Place) (r : List Token) → Ready (fill_flow_slot p x) r
      → feeds (flow_slot_tokens x r) (due p None) ≡ feeds r (fill_flow_slot p x)
  flow_slot_reads flow_nothing p r h = follows_feeds (due p None) (leave p) (leave_follows p) r h
  flow_slot_reads (flow_node n) p r h = flow_node_edge n p r ∙ flow_edge_whole n p r h

-- after an indentless sequence the mapping goes on
indentless_follows : (c : PartPlace) (o : Option Properties) (is : BlockItems) (e : Marks) (n : BlockSlot)
    → Follows (in_indentless c o is e n) (fill_part c (indentless o is e n))
indentless_follows c o is e n k m h = grind arith

mutual
  pub block_node_edge : (n : BlockNode) (c : BlockPlace) (r : List Token)
      → feeds (block_node_tokens n r) (due (block c) None) ≡ feeds r (edge_block c n)
  block_node_edge (flow n) c r = flow_node_edge n (block c) r
  block_node_edge (block_sequence o m is n) c r = option_feeds o (block c) _ ∙ items_read is c o m (tok BlockEnd n ∷ r) tt
  block_node_edge (block_mapping o m ps n) c r = option_feeds o (block c) _ ∙ parts_read ps c o m (tok BlockEnd n ∷ r) tt

  block_slot_reads : (x : BlockSlot) (c : BlockPlace) (r : List Token) → Ready (fill_block_slot c x) r
      → feeds (block_slot_tokens x r) (due (block c) None) ≡ feeds r (fill_block_slot c x)
  block_slot_reads nothing c r h = follows_feeds (due (block c) None) (leave (block c)) (leave_follows (block c)) r h
  block_slot_reads (node n) c r h = block_node_edge n c r ∙ block_edge_whole n c r h

  pub items_read : (is : BlockItems) (c : BlockPlace) (o : Option Properties) (m : Marks) (r : List Token)
      → Ready (in_sequence c o m is) r
      → feeds (items_tokens is r) (in_sequence c o m empty) ≡ feeds r (in_sequence c o m is)
  items_read empty c o m r h = refl
  items_read (item is e n) c o m r h = items_read is c o m (tok BlockEntry e ∷ block_slot_tokens n r) tt
      ∙ block_slot_reads n (entry c o m is e) r h

  slot_reads : (x : Slot) (c : PartPlace) (r : List Token) → Ready (fill_part c x) r
      → feeds (slot_tokens x r) (due (block (slot c)) None) ≡ feeds r (fill_part c x)
  slot_reads (slot_of n) c r h = block_slot_reads n (slot c) r h
  slot_reads (indentless o is e n) c r h = option_feeds o (block (slot c)) _
      ∙ (entries_read is c o e (block_slot_tokens n r)
      ∙ (block_slot_reads n (indentless_entry c o is e) r
      (follows_ready (in_indentless c o is e n) (fill_part c (indentless o is e n)) (indentless_follows c o is e n) r h)
      ∙ follows_feeds (in_indentless c o is e n) (fill_part c (indentless o is e n)) (indentless_follows c o is e n) r h))

  pub entries_read : (is : BlockItems) (c : PartPlace) (o : Option Properties) (e : Marks) (r : List Token)
      → feeds (items_tokens is (tok BlockEntry e ∷ r)) (due (block (slot c)) o) ≡ feeds r
      (due (block (indentless_entry c o is e)) None)
  entries_read empty c o e r = refl
  entries_read (item is f n) c o e r = entries_read is c o f _ ∙ block_slot_reads n (indentless_entry c o is f)
      (tok BlockEntry e ∷ r) tt

  pub parts_read : (ps : Parts) (c : BlockPlace) (o : Option Properties) (m : Marks) (r : List Token)
      → Ready (in_mapping c o m ps) r
      → feeds (parts_tokens ps r) (in_mapping c o m no_parts) ≡ feeds r (in_mapping c o m ps)
  parts_read no_parts c o m r h = refl
  parts_read (part ps key v x) c o m r h = parts_read ps c o m (tok Key v ∷ slot_tokens x r) tt
      ∙ slot_reads x (part_place c o m ps key v) r h
  parts_read (part ps value v x) c o m r h = parts_read ps c o m (tok Value v ∷ slot_tokens x r) tt
      ∙ slot_reads x (part_place c o m ps value v) r h

-- documents
abbrev pub heads : Before → Directives → Position
heads b no_directives = between b
heads b (directive ds d) = headed b ds d

pub directive_feed : (b : Before) (ds : Directives) (d : Directive)
    → feed (heads b ds) (directive_token d) ≡ goes (headed b ds d)
directive_feed b ds d = grind arith

pub directive_feeds : (b : Before) (ds : Directives) (d : Directive) (r : List Token)
    → feeds (directive_token d ∷ r) (heads b ds) ≡ feeds r (headed b ds d)
directive_feeds b ds d r = ap (λ (s : Step). then_all s (feeds r)) (directive_feed b ds d)

pub directives_read : (ds : Directives) (b : Before) (r : List Token)
    → feeds (directives_tokens ds r) (between b) ≡ feeds r (heads b ds)
directives_read no_directives b r = refl
directives_read (directive ds d) b r = directives_read ds b (directive_token d ∷ r) ∙ directive_feeds b ds d r

pub start_feeds : (b : Before) (ds : Directives) (m : Marks) (r : List Token)
    → feeds (tok DocumentStart m ∷ r) (heads b ds) ≡ feeds r (due (block (root (explicit_root b ds m))) None)
start_feeds b ds m r = grind arith

pub directive_ready : (b : Before) (d : Directive) → Takes (feed (between b) (directive_token d))
directive_ready b d = grind arith

pub directives_ready : (ds : Directives) (b : Before) (r : List Token) → Ready (between b) r
    → Ready (between b) (directives_tokens ds r)
directives_ready no_directives b r h = h
directives_ready (directive ds d) b r h = directives_ready ds b (directive_token d ∷ r) (directive_ready b d)

pub start_ready : (b : Before) (m : Marks) → Takes (feed (between b) (tok DocumentStart m))
start_ready b m = grind arith

mutual
  documents_read : (d : Documents) (r : List Token) → Ready (between (following d)) r
      → feeds (documents_tokens d r) unopened ≡ feeds r (between (following d))
  documents_read (implicit f n) r h = free_reads f _
      ∙ (home_feeds (block (root (implicit_root f))) (block_node_tokens n r) (block_node_begins n r)
      ∙ block_slot_reads (node n) (root (implicit_root f)) r h)
  documents_read (explicit b ds m n) r h = before_reads b _ (directives_ready ds b _ (start_ready b m))
      ∙ (directives_read ds b _ ∙ (start_feeds b ds m _ ∙ block_slot_reads n (root (explicit_root b ds m)) r h))

  pub free_reads : (f : Free) (r : List Token) → feeds (free_tokens f r) unopened ≡ feeds r (between (free f))
  free_reads (opened e m) r = refl
  free_reads (ended e) r = ended_reads e r

  ended_reads : (e : Ended) (r : List Token) → feeds (ended_tokens e r) unopened ≡ feeds r (between (free (ended e)))
  ended_reads (once d m) r = documents_read d (tok DocumentEnd m ∷ r) tt
  ended_reads (again e m) r = ended_reads e (tok DocumentEnd m ∷ r)

  pub before_reads : (b : Before) (r : List Token) → Ready (between b) r
      → feeds (before_tokens b r) unopened ≡ feeds r (between b)
  before_reads (free f) r h = free_reads f r
  before_reads (following d) r h = documents_read d r h

pub stream_reads : (t : Stream) → feeds (tokens t) unopened ≡ goes (done t)
stream_reads t = grind (arith, before_reads)

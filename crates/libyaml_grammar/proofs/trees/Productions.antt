-- The tokens of each production determine it, with the same tokens after it: it is put into a stream.
use Rattle.std.proofs.Common.{◌≡◌, List, [], ◌∷◌, None, sym, ap, ◌∙◌, arith}
use Rattle.libyaml_grammar.specs.grammar.Tokens.{BlockEnd, BlockMappingStart, BlockSequenceStart, DocumentStart, FlowSequenceEnd, FlowSequenceStart, Key, StreamEnd, StreamStart, Token, Value, tok, zero_marks}
use Rattle.libyaml_grammar.specs.grammar.Trees.{Before, BlockItems, BlockNode, BlockSlot, Directives, Documents, FlowItems, FlowLast, FlowMember, FlowNode, FlowSlot, Parts, Properties, Slot, Stream, alone, before_tokens, following, block_mapping, block_node_tokens, block_sequence, block_slot_tokens}
use Rattle.libyaml_grammar.specs.grammar.Trees.{collection, directives_tokens, documents_tokens, explicit, flow, flow_items_tokens, flow_last_tokens, flow_member_tokens, flow_node_tokens, flow_slot_tokens, free, items_tokens, last, no_directives, no_items, no_last, no_parts, no_value, node, nothing}
use Rattle.libyaml_grammar.specs.grammar.Trees.{opened, pair, part, parts_tokens, properties_tokens, sequence, slot_tokens, tokens, value, whole}
use Rattle.libyaml_grammar.specs.partial.PartialTrees.{BlockPlace, PartialTree, Place, at_directive, block, content_due, partial_tokens, document_due, entry_due, explicit_root, flow_entry, implicit_root, open_collection, part_due, place_tokens, root, separator_due}
use Rattle.libyaml_grammar.specs.partial.Rest.{any_encoding}
use Rattle.libyaml_grammar.proofs.exported.Positions.{Position, between, due, flow_due, unopened}
use Rattle.libyaml_grammar.proofs.exported.Reading.{feeds, goes_same}
use Rattle.libyaml_grammar.proofs.trees.Append.{partial_swap}
use Rattle.libyaml_grammar.proofs.exported.Completion.{one_tree_proof}
use Rattle.libyaml_grammar.proofs.trees.Edge.{place_reads}
use Rattle.libyaml_grammar.proofs.trees.Complete.{home}

-- a stream with one document and this content, and the tokens before it
stream_of : BlockSlot → Stream
stream_of x = whole (following (explicit (free (opened any_encoding zero_marks)) no_directives zero_marks x)) zero_marks

abbrev content_of : Stream → BlockSlot
content_of (whole (following (explicit b ds m x)) n) = x
content_of (whole b n) = nothing

abbrev top : BlockPlace
top = root (explicit_root (free (opened any_encoding zero_marks)) no_directives zero_marks)

abbrev in_stream : List Token → List Token
in_stream l = tok (StreamStart any_encoding) zero_marks ∷ tok DocumentStart zero_marks ∷ l

stream_law : (x y : BlockSlot) → tokens (stream_of x) ≡ tokens (stream_of y) → x ≡ y
unfolding stream_of
stream_law x y e = ap content_of (one_tree_proof (stream_of x) (stream_of y) e)

pub slot_law : (s t : BlockSlot) (r : List Token) → block_slot_tokens s r ≡ block_slot_tokens t r → s ≡ t
unfolding stream_of
slot_law s t r e =
    let c : BlockSlot → PartialTree = λ x. document_due
    (explicit (free (opened any_encoding zero_marks)) no_directives zero_marks x) in
    stream_law s t (partial_swap (c s) (c t) r (tok StreamEnd zero_marks ∷ []) (ap in_stream e))

pub block_node_law : (s t : BlockNode) (r : List Token) → block_node_tokens s r ≡ block_node_tokens t r → s ≡ t
block_node_law s t r e = let h = slot_law (node s) (node t) r e in cc

pub flow_node_law : (s t : FlowNode) (r : List Token) → flow_node_tokens s r ≡ flow_node_tokens t r → s ≡ t
flow_node_law s t r e = let h = block_node_law (flow s) (flow t) r e in cc

pub properties_law : (s t : Properties) (r : List Token) → properties_tokens s r ≡ properties_tokens t r → s ≡ t
properties_law s t r e = let h = flow_node_law (alone s) (alone t) r e in cc

-- the entries of a block sequence
pub items_law : (s t : BlockItems) (r : List Token) → items_tokens s r ≡ items_tokens t r → s ≡ t
unfolding stream_of
items_law s t r e =
    let h = stream_law (node (block_sequence None zero_marks s zero_marks))
    (node (block_sequence None zero_marks t zero_marks))
    (partial_swap (entry_due top None zero_marks s) (entry_due top None zero_marks t) r
    (tok BlockEnd zero_marks ∷ tok StreamEnd zero_marks ∷ [])
    (ap (λ (l : List Token). in_stream (tok BlockSequenceStart zero_marks ∷ l)) e)) in cc

-- the keys and values of a block mapping
pub parts_law : (s t : Parts) (r : List Token) → parts_tokens s r ≡ parts_tokens t r → s ≡ t
unfolding stream_of
parts_law s t r e =
    let h = stream_law (node (block_mapping None zero_marks s zero_marks))
    (node (block_mapping None zero_marks t zero_marks))
    (partial_swap (part_due top None zero_marks s) (part_due top None zero_marks t) r
    (tok BlockEnd zero_marks ∷ tok StreamEnd zero_marks ∷ [])
    (ap (λ (l : List Token). in_stream (tok BlockMappingStart zero_marks ∷ l)) e)) in cc

-- one key or value of a block mapping
pub part_law : (s t : Slot) (r : List Token) → slot_tokens s r ≡ slot_tokens t r → s ≡ t
part_law s t r e =
    let h = parts_law (part no_parts value zero_marks s) (part no_parts value zero_marks t) r
    (ap (λ (l : List Token). tok Value zero_marks ∷ l) e) in cc

-- the entries of a flow collection
abbrev entries_cut : FlowItems → FlowLast → PartialTree
entries_cut s no_last = content_due (flow_entry (open_collection (block top) None sequence zero_marks s))
entries_cut s (last e) = separator_due (open_collection (block top) None sequence zero_marks s) e

partial_entries : (s : FlowItems) (u : FlowLast) (r : List Token)
    → partial_tokens (entries_cut s u) r ≡ in_stream
    (tok FlowSequenceStart zero_marks ∷ flow_items_tokens s (flow_last_tokens u r))
partial_entries s u r = grind arith

pub entries_law : (s t : FlowItems) (u v : FlowLast) (r : List Token)
    → flow_items_tokens s (flow_last_tokens u r) ≡ flow_items_tokens t (flow_last_tokens v r)
    → (s ≡ t) × (u ≡ v)
unfolding stream_of
entries_law s t u v r e =
    let a : List Token = tok FlowSequenceEnd zero_marks ∷ tok StreamEnd zero_marks ∷ [] in
    let h = stream_law (node (flow (collection None sequence zero_marks s u zero_marks)))
    (node (flow (collection None sequence zero_marks t v zero_marks)))
    (sym (partial_entries s u a)
    ∙ (partial_swap (entries_cut s u) (entries_cut t v) r a (partial_entries s u r
    ∙ (ap (λ (l : List Token). in_stream (tok FlowSequenceStart zero_marks ∷ l)) e ∙ sym (partial_entries t v r)))
    ∙ partial_entries t v a)) in
    (cc, cc)

pub entry_law : (s t : FlowMember) (r : List Token) → flow_member_tokens s r ≡ flow_member_tokens t r → s ≡ t
entry_law s t r e = let h = (entries_law no_items no_items (last s) (last t) r e).1 in cc

pub flow_slot_law : (s t : FlowSlot) (r : List Token) → flow_slot_tokens s r ≡ flow_slot_tokens t r → s ≡ t
flow_slot_law s t r e =
    let h = entry_law (pair zero_marks s no_value) (pair zero_marks t no_value) r
    (ap (λ (l : List Token). tok Key zero_marks ∷ l) e) in cc

-- documents, and what a stream holds before its end
before_law : (s t : Before) (r : List Token) → before_tokens s r ≡ before_tokens t r → s ≡ t
before_law s t r e =
    let h = one_tree_proof (whole s zero_marks) (whole t zero_marks)
    (partial_swap (at_directive s no_directives) (at_directive t no_directives) r (tok StreamEnd zero_marks ∷ []) e) in cc

pub documents_law : (s t : Documents) (r : List Token) → documents_tokens s r ≡ documents_tokens t r → s ≡ t
documents_law s t r e = let h = before_law (following s) (following t) r e in cc

pub directives_law : (s t : Directives) (r : List Token) → directives_tokens s r ≡ directives_tokens t r → s ≡ t
directives_law s t r e =
    let b : Before = free (opened any_encoding zero_marks) in
    let h = documents_law (explicit b s zero_marks nothing) (explicit b t zero_marks nothing) []
    (partial_swap (at_directive b s) (at_directive b t) r (tok DocumentStart zero_marks ∷ [])
    (ap (λ (l : List Token). tok (StreamStart any_encoding) zero_marks ∷ l) e)) in cc

-- the place at which a node is expected
abbrev place_at : Place → Position → Place
place_at d (between (free f)) = block (root (implicit_root f))
place_at d (flow_due c) = flow_entry c
place_at d (due p o) = p
place_at d q = d

home_place : (d p : Place) → place_at d (home p) ≡ p
home_place d p = grind arith

pub place_law : (p q : Place) (r : List Token) → place_tokens p r ≡ place_tokens q r → p ≡ q
place_law p q r e =
    let f = partial_swap (content_due p) (content_due q) r [] e in
    let g : home p ≡ home q =
    goes_same (home p) (home q)
    (sym (place_reads p []) ∙ (ap (λ (l : List Token). feeds l unopened) f ∙ place_reads q [])) in
    sym (home_place p p) ∙ (ap (place_at p) g ∙ home_place p q)

-- the laws of the productions, one each
pub ruleset productions = (slot_law, block_node_law, flow_node_law, properties_law, items_law, parts_law, part_law, entries_law, entry_law, flow_slot_law, documents_law, directives_law, place_law)

-- The events that a viable prefix determines (docs/DEFINITIONS.md, "Determined events"): the longest list that begins the
-- events of every valid list that begins so, as a relation, and as a function of the prefix tree.
use Rattle.std.specs.Prelude.{◌≡◌, List, [], ◌∷◌, ◌++◌, Option, Some, None, true, false}
use Rattle.libyaml_grammar.specs.partial.PartialEvents.{shown_block, shown_open, shown_place, sort_of}
use Rattle.libyaml_grammar.specs.partial.PartialTrees.{PartialTree, Place, at_directive, at_tag, at_tag_after, block, content_due, partial_in_order, partial_tokens, declared_block, declared_open, document_due, entry_due, implicit_root, part_due, root, separator_due, start_due}
use Rattle.libyaml_grammar.specs.grammar.Events.{Event, before_events, before_part, block_layout, block_node_events, directive_start, document_start_at, events, first_block, first_directive, first_block_entry, first_of, flow_node_events, flow_slot_events, free_events, items_events, opens_pair}
use Rattle.libyaml_grammar.specs.grammar.Events.{parts_events, start_of}
use Rattle.libyaml_types.specs.Events.{zero_mark}
use Rattle.libyaml_grammar.specs.partial.Fits.{last_empty}
use Rattle.libyaml_grammar.specs.grammar.Order.{in_order}
use Rattle.libyaml_grammar.specs.grammar.Tokens.{Token}
use Rattle.libyaml_grammar.specs.grammar.Trees.{BlockItems, BlockNode, BlockSlot, Directives, Documents, FlowMember, FlowNode, FlowSlot, Parts, Slot, Sort, Stream, alone, empty, explicit, flow, flow_node, flow_nothing, implicit, indentless, item, mapping, no_directives, no_parts, no_value, node}
use Rattle.libyaml_grammar.specs.grammar.Trees.{nothing, pair, part, sequence, single, slot_of, tokens, with_value}

-- the first list of events begins the second
abbrev pub Begins : List Event → List Event → Type 0
Begins a b = (rest : List Event) × (b ≡ a ++ rest)

-- the events begin those of every valid list that the tokens begin
abbrev pub BeginsEach : List Token → List Event → Type 0
BeginsEach l e = (t : Stream) (rest : List Token) → in_order t ≡ true → tokens t ≡ l ++ rest → Begins e (events t)

-- e is the longest list that does
pub record Determines (l : List Token) (e : List Event) : Type 0 where
  pub begins_each : BeginsEach l e
  pub longest : (d : List Event) → BeginsEach l d → Begins d e

abbrev pub next_event : List Event → Option Event
next_event [] = None
next_event (e ∷ r) = Some e

-- two valid lists that begin with the tokens l, whose events begin with e and differ directly after these
pub record IsOpen (l : List Token) (e : List Event) : Type 0 where
  pub first : Stream
  pub second : Stream
  pub first_rest : List Token
  pub second_rest : List Token
  pub first_events : List Event
  pub second_events : List Event
  pub first_order : in_order first ≡ true
  pub second_order : in_order second ≡ true
  pub first_tokens : tokens first ≡ l ++ first_rest
  pub second_tokens : tokens second ≡ l ++ second_rest
  pub first_goes_on : events first ≡ e ++ first_events
  pub second_goes_on : events second ≡ e ++ second_events
  pub differ : next_event first_events ≡ next_event second_events → ⊥

-- The prefix tree of a viable prefix: the partial tree of its tokens that ends at no directive or tag, and of which no
-- node that is nothing stands at the end.
abbrev pub IsPrefixPlace : PartialTree → Type 0
IsPrefixPlace (at_directive b ds) = ⊥
IsPrefixPlace (at_tag p) = ⊥
IsPrefixPlace (at_tag_after p a m) = ⊥
IsPrefixPlace _ = Unit {0}

pub record IsPrefixTree (l : List Token) (c : PartialTree) : Type 0 where
  pub tokens : partial_tokens c [] ≡ l
  pub order : partial_in_order c true ≡ true
  pub place : IsPrefixPlace c
  pub full : last_empty c ≡ None

-- What the prefix tree determines is all that it shows, except what depends on the tokens after it: its mark, and
-- properties alone at its end, which may be those of a content after them.
abbrev pub sure_flow_node : Directives → FlowNode → List Event
sure_flow_node ds (alone p) = []
sure_flow_node ds n = flow_node_events ds n []

abbrev pub sure_flow_slot : Directives → FlowSlot → List Event
sure_flow_slot ds flow_nothing = []
sure_flow_slot ds (flow_node n) = sure_flow_node ds n

abbrev pub sure_flow_member : Directives → Sort → FlowMember → List Event
sure_flow_member ds k (single n) = sure_flow_node ds n
sure_flow_member ds k (pair s x no_value) = opens_pair k s (sure_flow_slot ds x)
sure_flow_member ds k (pair s x (with_value v y)) = opens_pair k s (flow_slot_events ds x v.start (sure_flow_slot ds y))

abbrev pub sure_block_node : Directives → BlockNode → List Event
sure_block_node ds (flow n) = sure_flow_node ds n
sure_block_node ds n = block_node_events ds n []

abbrev pub sure_block_slot : Directives → BlockSlot → List Event
sure_block_slot ds nothing = []
sure_block_slot ds (node n) = sure_block_node ds n

abbrev pub sure_items : Directives → BlockItems → List Event
sure_items ds empty = []
sure_items ds (item is e x) = items_events ds is (sure_block_slot ds x)

abbrev pub sure_slot : Directives → Slot → List Event
sure_slot ds (slot_of x) = sure_block_slot ds x
sure_slot ds (indentless o is s x) = start_of ds sequence block_layout o (first_block_entry is s) ∷ items_events ds is
    (sure_block_slot ds x)

abbrev pub sure_parts : Directives → Parts → List Event
sure_parts ds no_parts = []
sure_parts ds (part ps k v x) = parts_events ds ps v.start (before_part ps k v.start (sure_slot ds x))

abbrev pub sure_documents : Documents → List Event
sure_documents (implicit f n) =
    free_events f (document_start_at no_directives true (first_block n) (first_block n) ∷ sure_block_node
    no_directives n)
sure_documents (explicit b ds s x)
    = before_events b (first_directive ds s.start)
    (document_start_at ds false (first_directive ds s.start) s.end ∷ sure_block_slot ds x)

-- an implicit document has not begun where its root is expected
abbrev pub sure_place : Place → List Event
sure_place (block (root (implicit_root f))) = free_events f []
sure_place p = shown_place p zero_mark []

-- the events that a prefix tree determines
abbrev pub sure : PartialTree → List Event
sure (document_due d) = sure_documents d
sure (start_due b ds d) = before_events b (first_directive ds (directive_start d)) []
sure (content_due p) = sure_place p
sure (entry_due c o s is) = shown_block c (first_of o s.start)
    (start_of (declared_block c) sequence block_layout o s ∷ sure_items (declared_block c) is)
sure (part_due c o s ps) = shown_block c (first_of o s.start)
    (start_of (declared_block c) mapping block_layout o s ∷ sure_parts (declared_block c) ps)
sure (separator_due c e) = shown_open c (sure_flow_member (declared_open c) (sort_of c) e)
sure _ = []

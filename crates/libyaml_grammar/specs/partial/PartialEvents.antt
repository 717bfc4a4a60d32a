-- The events of a partial tree (docs/DEFINITIONS.md, "Partial trees"): those of its whole parts and the start events of its
-- open ones. m is the start of the next token, and r are the events after it.
use Rattle.std.specs.Prelude.{List, [], ◌∷◌, true, false}
use Rattle.libyaml_grammar.specs.grammar.Tokens.{Mark, Token}
use Rattle.libyaml_grammar.specs.grammar.Trees.{Sort, directive, mapping, no_directives, sequence}
use Rattle.libyaml_grammar.specs.grammar.Events.{Event, before_events, before_part, block_layout, document_end_at, document_start_at, documents_events, first_directive, first_block_entry, first_of, flow_items_events, flow_layout, flow_member_events, flow_slot_events, free_events, items_events}
use Rattle.libyaml_grammar.specs.grammar.Events.{member_end, missing_value, opens_pair, parts_events, start_of}
use Rattle.libyaml_grammar.specs.partial.PartialTrees.{BlockPlace, PartialTree, Open, PartPlace, Place, Root, at_directive, at_tag, at_tag_after, before_stream, block, content_due, declared, declared_block, declared_open, declared_part, document_due, entry, entry_due, explicit_root, flow_entry}
use Rattle.libyaml_grammar.specs.partial.PartialTrees.{flow_key, flow_value, implicit_root, indentless_entry, open_collection, part_due, part_place, root, separator_due, slot, start_due}

abbrev pub sort_of : Open → Sort
sort_of (open_collection p o k m is) = k

-- the events up to a place
abbrev pub shown_root : Root → Mark → List Event → List Event
shown_root (implicit_root f) m r = free_events f (document_start_at no_directives true m m ∷ r)
shown_root (explicit_root b ds s) m r = before_events b (first_directive ds s.start)
    (document_start_at ds false (first_directive ds s.start) s.end ∷ r)

abbrev mutual
  pub shown_block : BlockPlace → Mark → List Event → List Event
  shown_block (root t) m r = shown_root t m r
  shown_block (entry c o s is e) m r
      = shown_block c (first_of o s.start)
      (start_of (declared_block c) sequence block_layout o s ∷ items_events (declared_block c) is r)
  shown_block (slot c) m r = shown_part c r
  shown_block (indentless_entry c o is e) m r
      = shown_part c (start_of (declared_part c) sequence block_layout o (first_block_entry is e) ∷ items_events
      (declared_part c) is r)

  pub shown_part : PartPlace → List Event → List Event
  shown_part (part_place c o s ps k v) r
      = shown_block c (first_of o s.start) (start_of (declared_block c) mapping block_layout o s
      ∷ parts_events (declared_block c) ps v.start (before_part ps k v.start r))

abbrev mutual
  pub shown_place : Place → Mark → List Event → List Event
  shown_place (block c) m r = shown_block c m r
  shown_place (flow_entry c) m r = shown_open c r
  shown_place (flow_key c k) m r = shown_open c (opens_pair (sort_of c) k r)
  shown_place (flow_value c k x v) m r =
      shown_open c (opens_pair (sort_of c) k (flow_slot_events (declared_open c) x v.start r))

  pub shown_open : Open → List Event → List Event
  shown_open (open_collection p o k s is) r
      = shown_place p (first_of o s.start) (start_of (declared p) k flow_layout o s ∷ flow_items_events (declared p) k is r)

-- the events of a partial tree before a bad token at m; an ANCHOR before a bad TAG gives none
abbrev pub shown_partial : PartialTree → Mark → List Event → List Event
shown_partial before_stream m r = r
shown_partial (document_due d) m r = documents_events d m (document_end_at true m m ∷ r)
shown_partial (start_due b ds d) m r = before_events b (first_directive (directive ds d) m) r
shown_partial (at_directive b ds) m r = before_events b (first_directive ds m) r
shown_partial (content_due p) m r = shown_place p m r
shown_partial (at_tag p) m r = shown_place p m r
shown_partial (at_tag_after p a x) m r = shown_place p x.start r
shown_partial (entry_due c o s is) m r
    = shown_block c (first_of o s.start)
    (start_of (declared_block c) sequence block_layout o s ∷ items_events (declared_block c) is r)
shown_partial (part_due c o s ps) m r
    = shown_block c (first_of o s.start)
    (start_of (declared_block c) mapping block_layout o s ∷ parts_events (declared_block c) ps m
    (missing_value ps m r))
shown_partial (separator_due c e) m r =
    shown_open c (flow_member_events (declared_open c) (sort_of c) e m (member_end (sort_of c) e m r))

-- the events of a partial tree with its bad token after it
abbrev pub partial_events : PartialTree → Token → List Event
partial_events c b = shown_partial c b.start_mark []

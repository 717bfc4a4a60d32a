-- What one token makes of a position: each kind of step of the reader, with the events that it gives and whether the token
-- keeps the order. What holds of each step is proved by these kinds.
use Rattle.std.proofs.Common.{Bool, List, None, Option, Some, false, refl, true, ◌∷◌, ◌≡◌}
use Rattle.libyaml_grammar.specs.grammar.Tokens.{Alias, AliasName, Anchor, AnchorName, BlockEnd, BlockEntry, BlockMappingStart, BlockSequenceStart, Content, DocumentEnd, DocumentStart, FlowEntry, FlowMappingEnd, FlowMappingStart, FlowSequenceEnd, FlowSequenceStart, HandleDeclared, Key, Mark, Marks}
use Rattle.libyaml_grammar.specs.grammar.Tokens.{Scalar, ScalarText, StreamEnd, StreamHead, StreamStart, Tag, TagDirective, TagName, Value, VersionAsked, VersionDirective}
use Rattle.libyaml_grammar.specs.grammar.Trees.{Before, BlockItems, BlockNode, BlockSlot, Directive, Directives, Documents, Ended, FlowItems, FlowMember, FlowNode, FlowSlot, Free, Parts, Properties, Role, Sort, Stream, again, alias, alone, anchor, anchor_tag, following, block_mapping}
use Rattle.libyaml_grammar.specs.grammar.Trees.{block_sequence, collection, directive, empty, ended, flow, flow_nothing, free, indentless, item, key, last, mapping, more_items, no_directives, no_items, no_last, no_parts, no_value, nothing, once, opened, pair, part, scalar, sequence, tag, tag_anchor}
use Rattle.libyaml_grammar.specs.grammar.Trees.{tag_directive, value, version, whole}
use Rattle.libyaml_grammar.specs.grammar.Events.{Event, alias_at, alone_of, block_layout, document_end_at, document_start_at, empty_at, end_at, end_of, first_directive, flow_layout, member_end, missing_key, missing_value, opens_pair, scalar_of, start_of, stream_end_at, stream_start_at}
use Rattle.libyaml_grammar.specs.grammar.Order.{is_known}
use Rattle.libyaml_grammar.specs.partial.PartialTrees.{BlockPlace, PartialTree, Open, PartPlace, Place, before_stream, block, content_due, declared, declared_block, declared_part, document_due, entry, entry_due, explicit_root, flow_entry, flow_key, flow_value, implicit_root, indentless_entry}
use Rattle.libyaml_grammar.specs.partial.PartialTrees.{open_collection, part_due, part_place, root, separator_due, slot, start_due}
use Rattle.libyaml_grammar.specs.partial.Fits.{ends_empty, is_directive}
use Rattle.libyaml_grammar.specs.partial.PartialEvents.{sort_of}
use Rattle.libyaml_grammar.proofs.exported.Positions.{Position, between, done, due, flow_after, flow_due, flow_keyed, headed, in_indentless, in_mapping, in_sequence, unopened}
use Rattle.libyaml_grammar.proofs.exported.Reading.{Step, bad, after_whole, fill, fill_flow, goes, is_legal, keeps_order, leave, on_due, or_bad, over, step, without}
use Rattle.libyaml_grammar.proofs.exported.Given.{empty_mark, given_after_whole, given_on_due, given_without, gives, if_goes}

-- the events that end the document before a token, if one is open
abbrev closed : Before → Mark → List Event → List Event
closed (free f) m r = r
closed (following d) m r = document_end_at true m m ∷ r

abbrev none : List Event → List Event
none r = r

abbrev one : Event → List Event → List Event
one e r = e ∷ r

module _ (m : Marks) where
  -- A position at which a token does what it does at another, after these events: a sequence without tokens of its
  -- own ends, a key lacks its value, properties are a node alone, and a node begins a document or an entry of a
  -- flow collection.
  pub data Moves : Position → Position → (List Event → List Event) → Type 0 where
    ends_indentless : {c : BlockPlace} {o y : Option Properties} {s v e : Marks} {ps : Parts} {t : Role}
        {is : BlockItems} {x : BlockSlot}
        → Moves (in_indentless (part_place c o s ps t v) y is e x) (in_mapping c o s (part ps t v (indentless y is e x)))
        (one (end_at sequence m.start m.start))
    lacks_value : {c : Open} {e : Marks} {x : FlowSlot} → Moves (flow_keyed c e x) (flow_after c (pair e x no_value)) none
    is_alone : (p : Place) (ps : Properties)
        → Moves (due p (Some ps)) (fill_flow p (alone ps)) (one (alone_of (declared p) ps))
    begins_root : {f : Free}
        → Moves (between (free f)) (due (block (root (implicit_root f))) None)
        (one (document_start_at no_directives true m.start m.start))
    begins_entry : {c : Open} → Moves (flow_due c) (due (flow_entry c) None) none

  -- what is expected at a position, where a token is bad
  pub data Fails : Position → Content → PartialTree → (List Event → List Event) → Type 0 where
    no_stream : {k : Content} → Fails unopened k before_stream none
    no_document : {d : Documents} {k : Content} → is_directive k ≡ false
        → Fails (between (following d)) k (document_due d) (one (document_end_at true m.start m.start))
    no_document_start : {b : Before} {ds : Directives} {d : Directive} {k : Content} → is_directive k ≡ false
        → Fails (headed b ds d) k (start_due b ds d) none
    no_content : {p : Place} {k : Content} → ends_empty p k ≡ false → Fails (due p None) k (content_due p) none
    no_item : {c : BlockPlace} {o : Option Properties} {s : Marks} {is : BlockItems} {k : Content}
        → Fails (in_sequence c o s is) k (entry_due c o s is) none
    no_part : {c : BlockPlace} {o : Option Properties} {s : Marks} {ps : Parts} {k : Content}
        → Fails (in_mapping c o s ps) k (part_due c o s ps) (missing_value ps m.start)
    no_separator : {c : Open} {e : FlowMember} {k : Content}
        → Fails (flow_after c e) k (separator_due c e) (member_end (sort_of c) e m.start)

  -- A token at a position, the step, the events that it gives, and whether the token keeps the order. The token
  -- does what it does at another position; it goes on after a node that is nothing; it is bad; or it goes on.
  pub data ReadStep : Position → Content → Step → (List Event → List Event) → Bool → Type 0 where
    is_past : {t : Stream} {k : Content} {l : Bool} → ReadStep (done t) k over none l
    moves : {q p : Position} {k : Content} {s : Step} {g h : List Event → List Event} {l : Bool} → Moves q p h
        → ReadStep p k s g l
        → ReadStep q k s (λ (r : List Event). h (g r)) l
    leaves : (p : Place) {k : Content} {x : Position} {g : List Event → List Event} {l : Bool}
        → ends_empty p k ≡ true → ReadStep (leave p) k (goes x) g l
        → ReadStep (due p None) k (goes x) (λ (r : List Event). empty_at (empty_mark p m.start) ∷ g r) l
    fails : {q : Position} {k : Content} {c : PartialTree} {g : List Event → List Event} {l : Bool} → Fails q k c g
        → ReadStep q k (bad c) g l
    begins_stream : {e : StreamHead} → ReadStep unopened (StreamStart e) (goes (between (free (opened e m))))
        (one (stream_start_at e m.start m.start)) true
    first_version : (b : Before) (a : VersionAsked)
        → ReadStep (between b) (VersionDirective a) (goes (headed b no_directives (version a m))) (closed b m.start)
        (keeps_order no_directives no_directives (VersionDirective a))
    first_handle : (b : Before) (h : HandleDeclared)
        → ReadStep (between b) (TagDirective h) (goes (headed b no_directives (tag_directive h m))) (closed b m.start)
        (keeps_order no_directives no_directives (TagDirective h))
    next_version : (b : Before) (ds : Directives) (d : Directive) (a : VersionAsked)
        → ReadStep (headed b ds d) (VersionDirective a) (goes (headed b (directive ds d) (version a m))) none
        (keeps_order (directive ds d) no_directives (VersionDirective a))
    next_handle : (b : Before) (ds : Directives) (d : Directive) (h : HandleDeclared)
        → ReadStep (headed b ds d) (TagDirective h) (goes (headed b (directive ds d) (tag_directive h m))) none
        (keeps_order (directive ds d) no_directives (TagDirective h))
    begins_explicit : (b : Before)
        → ReadStep (between b) DocumentStart (goes (due (block (root (explicit_root b no_directives m))) None))
        (λ (r : List Event). closed b m.start (document_start_at no_directives false m.start m.end ∷ r)) true
    begins_declared : {b : Before} {ds : Directives} {d : Directive}
        → ReadStep (headed b ds d) DocumentStart (goes (due (block (root (explicit_root b (directive ds d) m))) None))
        (one (document_start_at (directive ds d) false (first_directive (directive ds d) m.start) m.end)) true
    ends_document : {d : Documents}
        → ReadStep (between (following d)) DocumentEnd (goes (between (free (ended (once d m)))))
        (one (document_end_at false m.start m.end)) true
    ends_again : {e : Ended} → ReadStep (between (free (ended e))) DocumentEnd
        (goes (between (free (ended (again e m))))) none true
    ends_stream : (b : Before)
        → ReadStep (between b) StreamEnd (goes (done (whole b m)))
        (λ (r : List Event). closed b m.start (stream_end_at m.start m.end ∷ r)) true
    an_alias : (p : Place) (a : AliasName) → ReadStep (due p None) (Alias a) (goes (fill_flow p (alias a m)))
        (one (alias_at a m.start m.end)) true
    an_anchor : {p : Place} {a : AnchorName} → ReadStep (due p None) (Anchor a) (goes (due p (Some (anchor a m)))) none true
    anchor_after_tag : (p : Place) (h : TagName) (n : Marks) {a : AnchorName}
        → ReadStep (due p (Some (tag h n))) (Anchor a) (goes (due p (Some (tag_anchor h n a m)))) none true
    a_tag : (p : Place) (h : TagName) → ReadStep (due p None) (Tag h) (goes (due p (Some (tag h m)))) none
        (is_known (declared p) h.handle)
    tag_after_anchor : (p : Place) (a : AnchorName) (n : Marks) (h : TagName)
        → ReadStep (due p (Some (anchor a n))) (Tag h) (goes (due p (Some (anchor_tag a n h m)))) none
        (is_known (declared p) h.handle)
    a_scalar : (p : Place) (o : Option Properties) (v : ScalarText)
        → ReadStep (due p o) (Scalar v) (goes (fill_flow p (scalar o v m))) (one (scalar_of (declared p) o v m)) true
    opens_flow_sequence : {p : Place} {o : Option Properties}
        → ReadStep (due p o) FlowSequenceStart (goes (flow_due (open_collection p o sequence m no_items)))
        (one (start_of (declared p) sequence flow_layout o m)) true
    opens_flow_mapping : {p : Place} {o : Option Properties}
        → ReadStep (due p o) FlowMappingStart (goes (flow_due (open_collection p o mapping m no_items)))
        (one (start_of (declared p) mapping flow_layout o m)) true
    opens_sequence : {c : BlockPlace} {o : Option Properties}
        → ReadStep (due (block c) o) BlockSequenceStart (goes (in_sequence c o m empty))
        (one (start_of (declared_block c) sequence block_layout o m)) true
    opens_mapping : {c : BlockPlace} {o : Option Properties}
        → ReadStep (due (block c) o) BlockMappingStart (goes (in_mapping c o m no_parts))
        (one (start_of (declared_block c) mapping block_layout o m)) true
    opens_indentless : {c : PartPlace} {o : Option Properties}
        → ReadStep (due (block (slot c)) o) BlockEntry (goes (due (block (indentless_entry c o empty m)) None))
        (one (start_of (declared_part c) sequence block_layout o m)) true
    next_item : {c : BlockPlace} {o : Option Properties} {s : Marks} {is : BlockItems}
        → ReadStep (in_sequence c o s is) BlockEntry (goes (due (block (entry c o s is m)) None)) none true
    ends_sequence : (c : BlockPlace) {o : Option Properties} {s : Marks} {is : BlockItems}
        → ReadStep (in_sequence c o s is) BlockEnd (goes (fill c (block_sequence o s is m))) (one (end_of sequence m)) true
    next_key : {c : BlockPlace} {o : Option Properties} {s : Marks} {ps : Parts}
        → ReadStep (in_mapping c o s ps) Key (goes (due (block (slot (part_place c o s ps key m))) None))
        (missing_value ps m.start) true
    next_value : {c : BlockPlace} {o : Option Properties} {s : Marks} {ps : Parts}
        → ReadStep (in_mapping c o s ps) Value (goes (due (block (slot (part_place c o s ps value m))) None))
        (missing_key ps m.start) true
    ends_mapping : (c : BlockPlace) {o : Option Properties} {s : Marks} {ps : Parts}
        → ReadStep (in_mapping c o s ps) BlockEnd (goes (fill c (block_mapping o s ps m)))
        (λ (r : List Event). missing_value ps m.start (end_of mapping m ∷ r)) true
    next_indentless : {c : PartPlace} {o : Option Properties} {is : BlockItems} {e : Marks} {x : BlockSlot}
        → ReadStep (in_indentless c o is e x) BlockEntry
        (goes (due (block (indentless_entry c o (item is e x) m)) None)) none true
    flow_pair : {c : Open} → ReadStep (flow_due c) Key (goes (due (flow_key c m) None)) (opens_pair (sort_of c) m) true
    pair_value : {c : Open} {e : Marks} {x : FlowSlot}
        → ReadStep (flow_keyed c e x) Value (goes (due (flow_value c e x m) None)) none true
    next_member : {p : Place} {o : Option Properties} {t : Sort} {s : Marks} {is : FlowItems} {e : FlowMember}
        → ReadStep (flow_after (open_collection p o t s is) e) FlowEntry
        (goes (flow_due (open_collection p o t s (more_items is e m))))
        (member_end t e m.start) true
    closes_sequence : (p : Place) {o : Option Properties} {s : Marks} {is : FlowItems} {e : FlowMember}
        → ReadStep (flow_after (open_collection p o sequence s is) e) FlowSequenceEnd
        (goes (fill_flow p (collection o sequence s is (last e) m)))
        (λ (r : List Event). member_end sequence e m.start (end_of sequence m ∷ r)) true
    closes_mapping : (p : Place) {o : Option Properties} {s : Marks} {is : FlowItems} {e : FlowMember}
        → ReadStep (flow_after (open_collection p o mapping s is) e) FlowMappingEnd
        (goes (fill_flow p (collection o mapping s is (last e) m)))
        (λ (r : List Event). member_end mapping e m.start (end_of mapping m ∷ r)) true
    closes_at_sequence : (p : Place) {o : Option Properties} {s : Marks} {is : FlowItems}
        → ReadStep (flow_due (open_collection p o sequence s is)) FlowSequenceEnd
        (goes (fill_flow p (collection o sequence s is no_last m)))
        (one (end_of sequence m)) true
    closes_at_mapping : (p : Place) {o : Option Properties} {s : Marks} {is : FlowItems}
        → ReadStep (flow_due (open_collection p o mapping s is)) FlowMappingEnd
        (goes (fill_flow p (collection o mapping s is no_last m)))
        (one (end_of mapping m)) true

  -- after what is whole
  abbrev After : Position → Content → Directives → Type 0
  After q k es = ReadStep q k (after_whole q k m) (given_after_whole q k m) (keeps_order no_directives es k)

  documents_step : (d : Documents) (k : Content) (es : Directives) → After (between (following d)) k es
  documents_step d (VersionDirective a) es = first_version (following d) a
  documents_step d (TagDirective h) es = first_handle (following d) h
  documents_step d DocumentStart es = begins_explicit (following d)
  documents_step d DocumentEnd es = ends_document
  documents_step d StreamEnd es = ends_stream (following d)
  documents_step d _ es = fails (no_document refl)

  item_step : (c : BlockPlace) (o : Option Properties) (s : Marks) (is : BlockItems) (k : Content) (es : Directives)
      → After (in_sequence c o s is) k es
  item_step c o s is BlockEntry es = next_item
  item_step c o s is BlockEnd es = ends_sequence c
  item_step c o s is _ es = fails no_item

  part_step : (c : BlockPlace) (o : Option Properties) (s : Marks) (ps : Parts) (k : Content) (es : Directives)
      → After (in_mapping c o s ps) k es
  part_step c o s ps Key es = next_key
  part_step c o s ps Value es = next_value
  part_step c o s ps BlockEnd es = ends_mapping c
  part_step c o s ps _ es = fails no_part

  indentless_step : (c : PartPlace) (o : Option Properties) (is : BlockItems) (e : Marks) (x : BlockSlot)
      (k : Content) (es : Directives)
      → After (in_indentless c o is e x) k es
  indentless_step (part_place c o s ps t v) y is e x BlockEntry es = next_indentless
  indentless_step (part_place c o s ps t v) y is e x k es =
      moves ends_indentless (part_step c o s (part ps t v (indentless y is e x)) k es)

  member_step : (c : Open) (e : FlowMember) (k : Content) (es : Directives) → After (flow_after c e) k es
  member_step (open_collection p o t s is) e FlowEntry es = next_member
  member_step (open_collection p o sequence s is) e FlowSequenceEnd es = closes_sequence p
  member_step (open_collection p o mapping s is) e FlowMappingEnd es = closes_mapping p
  member_step c e _ es = fails no_separator

  key_step : (c : Open) (e : Marks) (x : FlowSlot) (k : Content) (es : Directives) → After (flow_keyed c e x) k es
  key_step c e x Value es = pair_value
  key_step c e x k es = moves lacks_value (member_step c (pair e x no_value) k es)

  block_step : (c : BlockPlace) (x : BlockNode) (k : Content) (es : Directives) → After (fill c x) k es
  block_step (root (implicit_root f)) x k es = documents_step _ k es
  block_step (root (explicit_root b ds s)) x k es = documents_step _ k es
  block_step (entry c o s is e) x k es = item_step c o s _ k es
  block_step (slot (part_place c o s ps t v)) x k es = part_step c o s _ k es
  block_step (indentless_entry c o is e) x k es = indentless_step c o is e _ k es

  node_step : (p : Place) (x : FlowNode) (k : Content) (es : Directives) → After (fill_flow p x) k es
  node_step (block c) x k es = block_step c (flow x) k es
  node_step (flow_entry c) x k es = member_step c _ k es
  node_step (flow_key c e) x k es = key_step c e _ k es
  node_step (flow_value c e y v) x k es = member_step c _ k es

  -- where a node may be nothing, a token goes on after it exactly if it ends it
  abbrev LeftIf : Place → Content → Step → Type 0
  LeftIf p k (goes q) = ends_empty p k ≡ true
  LeftIf p k _ = ends_empty p k ≡ false

  abbrev Left : Place → Content → Type 0
  Left p k = LeftIf p k (after_whole (leave p) k m)

  left_if : (p : Place) (k : Content) → Left p k
  left_if (block (root (explicit_root b ds s))) (StreamStart x) = refl
  left_if (block (entry c o s is e)) (StreamStart x) = refl
  left_if (block (slot (part_place c o s ps t v))) (StreamStart x) = refl
  left_if (block (indentless_entry (part_place c o s ps t v) y is e)) (StreamStart x) = refl
  left_if (flow_key (open_collection p o sequence s is) e) (StreamStart x) = refl
  left_if (flow_key (open_collection p o mapping s is) e) (StreamStart x) = refl
  left_if (flow_value (open_collection p o sequence s is) e x v) (StreamStart y) = refl
  left_if (flow_value (open_collection p o mapping s is) e x v) (StreamStart y) = refl
  left_if _ _ = refl

  or_left : (p : Place) (k : Content) (s : Step) (g : List Event → List Event) (l : Bool)
      → ReadStep (leave p) k s g l → LeftIf p k s
      → ReadStep (due p None) k (or_bad s (content_due p))
      (λ (r : List Event). if_goes s (empty_at (empty_mark p m.start) ∷ g r) r) l
  or_left p k (goes x) g l h e = leaves p e h
  or_left p k (bad c) g l h e = fails (no_content e)
  or_left p k over g l h e = fails (no_content e)

  -- a token after a node that is nothing
  abbrev AtNothing : Place → Content → Directives → Type 0
  AtNothing p k es = ReadStep (due p None) k (without p None k m) (given_without p None k m)
      (keeps_order no_directives es k)

  or_fails : (p : Place) (k : Content) (es : Directives) → After (leave p) k es → AtNothing p k es
  or_fails p k es h = or_left p k _ _ _ h (left_if p k)

  left_step : (p : Place) (k : Content) (es : Directives) → AtNothing p k es
  left_step (block (root (implicit_root f))) k es = fails (no_content refl)
  left_step (block (root (explicit_root b ds s))) k es
      = or_fails (block (root (explicit_root b ds s))) k es (documents_step _ k es)
  left_step (block (entry c o s is e)) k es = or_fails (block (entry c o s is e)) k es (item_step c o s _ k es)
  left_step (block (slot (part_place c o s ps t v))) k es
      = or_fails (block (slot (part_place c o s ps t v))) k es (part_step c o s _ k es)
  left_step (block (indentless_entry c o is e)) k es
      = or_fails (block (indentless_entry c o is e)) k es (indentless_step c o is e nothing k es)
  left_step (flow_entry c) k es = fails (no_content refl)
  left_step (flow_key c e) k es = or_fails (flow_key c e) k es (key_step c e flow_nothing k es)
  left_step (flow_value c e x v) k es = or_fails (flow_value c e x v) k es (member_step c _ k es)

  without_step : (p : Place) (o : Option Properties) (k : Content) (es : Directives)
      → ReadStep (due p o) k (without p o k m) (given_without p o k m) (keeps_order no_directives es k)
  without_step p None k es = left_step p k es
  without_step p (Some ps) k es = moves (is_alone p ps) (node_step p (alone ps) k es)

  -- where a node is expected
  abbrev AtDue : Place → Option Properties → Content → Type 0
  AtDue p o k = ReadStep (due p o) k (on_due p o k m) (given_on_due p o k m) (keeps_order no_directives (declared p) k)

  alias_step : (p : Place) (o : Option Properties) (a : AliasName) → AtDue p o (Alias a)
  alias_step p None a = an_alias p a
  alias_step p (Some ps) a = without_step p (Some ps) (Alias a) (declared p)

  anchor_step : (p : Place) (o : Option Properties) (a : AnchorName) → AtDue p o (Anchor a)
  anchor_step p None a = an_anchor
  anchor_step p (Some (tag h n)) a = anchor_after_tag p h n
  anchor_step p (Some ps) a = without_step p (Some ps) (Anchor a) (declared p)

  tag_step : (p : Place) (o : Option Properties) (h : TagName) → AtDue p o (Tag h)
  tag_step p None h = a_tag p h
  tag_step p (Some (anchor a n)) h = tag_after_anchor p a n h
  tag_step p (Some ps) h = without_step p (Some ps) (Tag h) (declared p)

  sequence_step : (p : Place) (o : Option Properties) → AtDue p o BlockSequenceStart
  sequence_step (block c) o = opens_sequence
  sequence_step p o = without_step p o BlockSequenceStart (declared p)

  mapping_step : (p : Place) (o : Option Properties) → AtDue p o BlockMappingStart
  mapping_step (block c) o = opens_mapping
  mapping_step p o = without_step p o BlockMappingStart (declared p)

  entry_step : (p : Place) (o : Option Properties) → AtDue p o BlockEntry
  entry_step (block (slot c)) o = opens_indentless
  entry_step p o = without_step p o BlockEntry (declared p)

  due_step : (p : Place) (o : Option Properties) (k : Content) → AtDue p o k
  due_step p o (Alias a) = alias_step p o a
  due_step p o (Anchor a) = anchor_step p o a
  due_step p o (Tag h) = tag_step p o h
  due_step p o (Scalar v) = a_scalar p o v
  due_step p o FlowSequenceStart = opens_flow_sequence
  due_step p o FlowMappingStart = opens_flow_mapping
  due_step p o BlockSequenceStart = sequence_step p o
  due_step p o BlockMappingStart = mapping_step p o
  due_step p o BlockEntry = entry_step p o
  due_step p o k = without_step p o k (declared p)

  -- elsewhere
  abbrev At : Position → Content → Type 0
  At q k = ReadStep q k (step q k m) (gives q k m) (is_legal q k)

  free_step : (f : Free) (k : Content) → At (between (free f)) k
  free_step f (VersionDirective a) = first_version (free f) a
  free_step f (TagDirective h) = first_handle (free f) h
  free_step f DocumentStart = begins_explicit (free f)
  free_step (opened e s) DocumentEnd = moves begins_root (fails (no_content refl))
  free_step (ended e) DocumentEnd = ends_again
  free_step f StreamEnd = ends_stream (free f)
  free_step f k = moves begins_root (due_step (block (root (implicit_root f))) None k)

  headed_step : (b : Before) (ds : Directives) (d : Directive) (k : Content) → At (headed b ds d) k
  headed_step b ds d (VersionDirective a) = next_version b ds d a
  headed_step b ds d (TagDirective h) = next_handle b ds d h
  headed_step b ds d DocumentStart = begins_declared
  headed_step b ds d _ = fails (no_document_start refl)

  unopened_step : (k : Content) → At unopened k
  unopened_step (StreamStart e) = begins_stream
  unopened_step _ = fails no_stream

  flow_step : (c : Open) (k : Content) → At (flow_due c) k
  flow_step c Key = flow_pair
  flow_step (open_collection p o sequence s is) FlowSequenceEnd = closes_at_sequence p
  flow_step (open_collection p o mapping s is) FlowSequenceEnd = moves begins_entry (fails (no_content refl))
  flow_step (open_collection p o sequence s is) FlowMappingEnd = moves begins_entry (fails (no_content refl))
  flow_step (open_collection p o mapping s is) FlowMappingEnd = closes_at_mapping p
  flow_step c k = moves begins_entry (due_step (flow_entry c) None k)

  pub read_step : (q : Position) (k : Content) → At q k
  read_step unopened k = unopened_step k
  read_step (between (free f)) k = free_step f k
  read_step (between (following d)) k = documents_step d k no_directives
  read_step (headed b ds d) k = headed_step b ds d k
  read_step (due p o) k = due_step p o k
  read_step (in_sequence c o s is) k = item_step c o s is k no_directives
  read_step (in_mapping c o s ps) k = part_step c o s ps k no_directives
  read_step (in_indentless c o is e x) k = indentless_step c o is e x k no_directives
  read_step (flow_due c) k = flow_step c k
  read_step (flow_keyed c e x) k = key_step c e x k no_directives
  read_step (flow_after c e) k = member_step c e k no_directives
  read_step (done t) k = is_past

-- before the stream's end each token is looked at
abbrev pub IsNotDone : Position → Type 0
IsNotDone (done t) = ⊥
IsNotDone _ = Unit {0}

pub node_open : (p : Place) (x : FlowNode) → IsNotDone (fill_flow p x)
node_open (block (root (implicit_root f))) x = tt
node_open (block (slot (part_place c o s ps k v))) x = tt
node_open _ x = tt

pub moved_open : {m : Marks} {q p : Position} {h : List Event → List Event} → Moves m q p h → IsNotDone p
moved_open (is_alone p ps) = node_open p (alone ps)
moved_open _ = tt

pub not_past : {m : Marks} {q : Position} {k : Content} {s : Step} {g : List Event → List Event} {l : Bool}
    → ReadStep m q k s g l → IsNotDone q → s ≡ over → ⊥
not_past is_past w e = w
not_past (moves x h) w e = not_past h (moved_open x) e
not_past _ w e = cc

-- the cut at which a token is bad after what is whole, and where it is bad at a position
abbrev pub prefix_after : Position → PartialTree
prefix_after (between (following d)) = document_due d
prefix_after (in_sequence c o s is) = entry_due c o s is
prefix_after (in_mapping c o s ps) = part_due c o s ps
prefix_after (in_indentless (part_place c o s ps t v) y is e x) = part_due c o s (part ps t v (indentless y is e x))
prefix_after (flow_keyed c e x) = separator_due c (pair e x no_value)
prefix_after (flow_after c e) = separator_due c e
prefix_after _ = before_stream

abbrev pub filled_block : BlockPlace → BlockNode → PartialTree
filled_block c x = prefix_after (fill c x)

abbrev pub filled : Place → FlowNode → PartialTree
filled p x = prefix_after (fill_flow p x)

abbrev pub front : Position → PartialTree
front (between (free f)) = content_due (block (root (implicit_root f)))
front (headed b ds d) = start_due b ds d
front (due p None) = content_due p
front (due p (Some ps)) = filled p (alone ps)
front (flow_due c) = content_due (flow_entry c)
front q = prefix_after q

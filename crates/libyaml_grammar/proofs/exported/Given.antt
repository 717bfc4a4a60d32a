-- The events that one token gives at a position, and those that a list gives up to its first bad token.
use Rattle.std.specs.Prelude.{List, [], ◌∷◌, Option, Some, None, true, false}
use Rattle.libyaml_grammar.specs.grammar.Tokens.{Alias, AliasName, Anchor, AnchorName, BlockEnd, BlockEntry, BlockMappingStart, BlockSequenceStart, Content, DocumentEnd, DocumentStart, FlowMappingEnd, FlowMappingStart, FlowSequenceEnd, FlowSequenceStart, Key, Mark, Marks, Scalar, StreamEnd}
use Rattle.libyaml_grammar.specs.grammar.Tokens.{StreamStart, Tag, TagDirective, TagName, Token, Value, VersionDirective, marks_of}
use Rattle.libyaml_grammar.specs.grammar.Trees.{BlockItems, BlockSlot, Directives, FlowMember, FlowSlot, Free, Parts, Properties, Slot, Sort, alone, anchor, following, directive, ended, free, indentless, mapping, no_directives, no_value, opened, pair, part, sequence, tag}
use Rattle.libyaml_grammar.specs.grammar.Events.{Event, alias_at, alone_of, block_layout, document_end_at, document_start_at, empty_at, end_at, end_of, first_directive, flow_layout, member_end, missing_key, missing_value, opens_pair, scalar_of, start_of, stream_end_at, stream_start_at}
use Rattle.libyaml_grammar.specs.partial.PartialTrees.{BlockPlace, Open, PartPlace, Place, block, declared, declared_block, declared_part, entry, flow_entry, implicit_root, indentless_entry, part_place, root, slot}
use Rattle.libyaml_grammar.specs.partial.PartialEvents.{sort_of}
use Rattle.libyaml_grammar.proofs.exported.Positions.{Position, between, done, due, flow_after, flow_due, flow_keyed, headed, in_indentless, in_mapping, in_sequence, unopened}
use Rattle.libyaml_grammar.proofs.exported.Reading.{Step, after_whole, feed, fill_flow, goes, leave}

-- after what is whole
abbrev pub given_after_documents : Content → Marks → List Event → List Event
given_after_documents DocumentStart m r = document_end_at true m.start m.start ∷ document_start_at no_directives
    false m.start m.end ∷ r
given_after_documents DocumentEnd m r = document_end_at false m.start m.end ∷ r
given_after_documents StreamEnd m r = document_end_at true m.start m.start ∷ stream_end_at m.start m.end ∷ r
given_after_documents _ m r = document_end_at true m.start m.start ∷ r

abbrev pub given_after_item : Content → Marks → List Event → List Event
given_after_item BlockEnd m r = end_of sequence m ∷ r
given_after_item _ m r = r

abbrev pub given_after_part : Parts → Content → Marks → List Event → List Event
given_after_part ps Value m r = missing_key ps m.start r
given_after_part ps BlockEnd m r = missing_value ps m.start (end_of mapping m ∷ r)
given_after_part ps _ m r = missing_value ps m.start r

abbrev pub parts_with : PartPlace → Slot → Parts
parts_with (part_place c o s ps r v) x = part ps r v x

abbrev pub given_after_indentless : PartPlace → Option Properties → BlockItems → Marks → BlockSlot → Content
    → Marks → List Event → List Event
given_after_indentless c o is e n BlockEntry m r = r
given_after_indentless c o is e n k m r = end_at sequence m.start m.start ∷ given_after_part
    (parts_with c (indentless o is e n)) k m r

abbrev pub given_by_close : Sort → Sort → Marks → List Event → List Event
given_by_close sequence sequence m r = end_of sequence m ∷ r
given_by_close sequence mapping m r = r
given_by_close mapping sequence m r = r
given_by_close mapping mapping m r = end_of mapping m ∷ r

abbrev pub given_after_member : Open → FlowMember → Content → Marks → List Event → List Event
given_after_member c e FlowSequenceEnd m r = member_end (sort_of c) e m.start (given_by_close (sort_of c) sequence m r)
given_after_member c e FlowMappingEnd m r = member_end (sort_of c) e m.start (given_by_close (sort_of c) mapping m r)
given_after_member c e _ m r = member_end (sort_of c) e m.start r

abbrev pub given_after_key : Open → Marks → FlowSlot → Content → Marks → List Event → List Event
given_after_key c e n Value m r = r
given_after_key c e n k m r = given_after_member c (pair e n no_value) k m r

abbrev pub given_after_whole : Position → Content → Marks → List Event → List Event
given_after_whole (between (following d)) k m r = given_after_documents k m r
given_after_whole (in_sequence c o s is) k m r = given_after_item k m r
given_after_whole (in_mapping c o s ps) k m r = given_after_part ps k m r
given_after_whole (in_indentless c o is e n) k m r = given_after_indentless c o is e n k m r
given_after_whole (flow_keyed c e n) k m r = given_after_key c e n k m r
given_after_whole (flow_after c e) k m r = given_after_member c e k m r
given_after_whole q k m r = r

abbrev pub if_goes : Step → List Event → List Event → List Event
if_goes (goes q) a r = a
if_goes s a r = r

-- the mark of the empty scalar that stands a place for nothing, where the next token starts at m
abbrev pub empty_part : PartPlace → Mark
empty_part (part_place c o s ps k v) = v.end

abbrev pub empty_block : BlockPlace → Mark → Mark
empty_block (root t) m = m
empty_block (entry c o s is e) m = e.end
empty_block (slot c) m = empty_part c
empty_block (indentless_entry c o is e) m = e.end

abbrev pub empty_mark : Place → Mark → Mark
empty_mark (block c) m = empty_block c m
empty_mark _ m = m

abbrev pub given_without : Place → Option Properties → Content → Marks → List Event → List Event
given_without p None k m r = if_goes (after_whole (leave p) k m)
    (empty_at (empty_mark p m.start) ∷ given_after_whole (leave p) k m r) r
given_without p (Some ps) k m r = alone_of (declared p) ps ∷ given_after_whole (fill_flow p (alone ps)) k m r

abbrev pub given_on_alias : Place → Option Properties → AliasName → Marks → List Event → List Event
given_on_alias p None a m r = alias_at a m.start m.end ∷ r
given_on_alias p (Some ps) a m r = given_without p (Some ps) (Alias a) m r

abbrev pub given_on_anchor : Place → Option Properties → AnchorName → Marks → List Event → List Event
given_on_anchor p None a m r = r
given_on_anchor p (Some (tag h n)) a m r = r
given_on_anchor p (Some ps) a m r = given_without p (Some ps) (Anchor a) m r

abbrev pub given_on_tag : Place → Option Properties → TagName → Marks → List Event → List Event
given_on_tag p None h m r = r
given_on_tag p (Some (anchor a n)) h m r = r
given_on_tag p (Some ps) h m r = given_without p (Some ps) (Tag h) m r

abbrev pub given_on_block_sequence : Place → Option Properties → Marks → List Event → List Event
given_on_block_sequence (block c) o m r = start_of (declared_block c) sequence block_layout o m ∷ r
given_on_block_sequence p o m r = given_without p o BlockSequenceStart m r

abbrev pub given_on_block_mapping : Place → Option Properties → Marks → List Event → List Event
given_on_block_mapping (block c) o m r = start_of (declared_block c) mapping block_layout o m ∷ r
given_on_block_mapping p o m r = given_without p o BlockMappingStart m r

abbrev pub given_on_block_entry : Place → Option Properties → Marks → List Event → List Event
given_on_block_entry (block (slot c)) o m r = start_of (declared_part c) sequence block_layout o m ∷ r
given_on_block_entry p o m r = given_without p o BlockEntry m r

abbrev pub given_on_due : Place → Option Properties → Content → Marks → List Event → List Event
given_on_due p o (Alias a) m r = given_on_alias p o a m r
given_on_due p o (Anchor a) m r = given_on_anchor p o a m r
given_on_due p o (Tag h) m r = given_on_tag p o h m r
given_on_due p o (Scalar v) m r = scalar_of (declared p) o v m ∷ r
given_on_due p o FlowSequenceStart m r = start_of (declared p) sequence flow_layout o m ∷ r
given_on_due p o FlowMappingStart m r = start_of (declared p) mapping flow_layout o m ∷ r
given_on_due p o BlockSequenceStart m r = given_on_block_sequence p o m r
given_on_due p o BlockMappingStart m r = given_on_block_mapping p o m r
given_on_due p o BlockEntry m r = given_on_block_entry p o m r
given_on_due p o k m r = given_without p o k m r

abbrev pub given_again : Free → Marks → List Event → List Event
given_again (opened e s) m r = document_start_at no_directives true m.start m.start ∷ r
given_again (ended e) m r = r

abbrev pub given_at_free : Free → Content → Marks → List Event → List Event
given_at_free f (VersionDirective a) m r = r
given_at_free f (TagDirective h) m r = r
given_at_free f DocumentStart m r = document_start_at no_directives false m.start m.end ∷ r
given_at_free f DocumentEnd m r = given_again f m r
given_at_free f StreamEnd m r = stream_end_at m.start m.end ∷ r
given_at_free f k m r = document_start_at no_directives true m.start m.start ∷ given_on_due
    (block (root (implicit_root f))) None k m r

abbrev pub given_at_headed : Directives → Content → Marks → List Event → List Event
given_at_headed ds DocumentStart m r = document_start_at ds false (first_directive ds m.start) m.end ∷ r
given_at_headed ds _ m r = r

abbrev pub given_at_unopened : Content → Marks → List Event → List Event
given_at_unopened (StreamStart e) m r = stream_start_at e m.start m.start ∷ r
given_at_unopened _ m r = r

abbrev pub given_at_flow : Open → Content → Marks → List Event → List Event
given_at_flow c Key m r = opens_pair (sort_of c) m r
given_at_flow c FlowSequenceEnd m r = given_by_close (sort_of c) sequence m r
given_at_flow c FlowMappingEnd m r = given_by_close (sort_of c) mapping m r
given_at_flow c k m r = given_on_due (flow_entry c) None k m r

abbrev pub gives : Position → Content → Marks → List Event → List Event
gives unopened k m r = given_at_unopened k m r
gives (between (free f)) k m r = given_at_free f k m r
gives (between (following d)) k m r = given_after_documents k m r
gives (headed b ds d) k m r = given_at_headed (directive ds d) k m r
gives (due p o) k m r = given_on_due p o k m r
gives (in_sequence c o s is) k m r = given_after_item k m r
gives (in_mapping c o s ps) k m r = given_after_part ps k m r
gives (in_indentless c o is e n) k m r = given_after_indentless c o is e n k m r
gives (flow_due c) k m r = given_at_flow c k m r
gives (flow_keyed c e n) k m r = given_after_key c e n k m r
gives (flow_after c e) k m r = given_after_member c e k m r
gives (done t) k m r = r

-- the events that a list gives, up to its first bad token
abbrev pub if_all : Step → (Position → List Event → List Event) → List Event → List Event
if_all (goes q) f r = f q r
if_all s f r = r

abbrev pub gives_all : List Token → Position → List Event → List Event
gives_all [] q r = r
gives_all (t ∷ l) q r = gives q t.content (marks_of t) (if_all (feed q t) (gives_all l) r)

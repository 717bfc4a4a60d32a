-- Reading: what one token makes of a position. It is taken, or it is bad at a place. A reading step takes one token
-- and closes at most a node that is nothing or properties alone, a sequence without tokens of its own or a pair,
-- and the collection around it. A node is nothing exactly where the token is taken after it.
use Rattle.std.specs.Prelude.{◌&&◌, not}
use Rattle.std.proofs.Common.{◌≡◌, List, [], ◌∷◌, Option, Some, None, Bool, true, false, sym, subst, refl}
use Rattle.libyaml_grammar.specs.grammar.Tokens.{Alias, AliasName, Anchor, AnchorName, BlockEnd, BlockEntry, BlockMappingStart, BlockSequenceStart, Content, DocumentEnd, DocumentStart, FlowEntry, FlowMappingEnd, FlowMappingStart, FlowSequenceEnd, FlowSequenceStart, Key, Marks, Scalar, StreamEnd}
use Rattle.libyaml_grammar.specs.grammar.Tokens.{StreamStart, Tag, TagDirective, TagName, Token, Value, VersionDirective, marks_of}
use Rattle.libyaml_grammar.specs.grammar.Trees.{Before, BlockItems, BlockNode, BlockSlot, Directive, Directives, Documents, FlowLast, FlowMember, FlowNode, FlowSlot, Free, Parts, Properties, Slot, Sort, again, alias, alone, anchor, anchor_tag, following, block_mapping, block_sequence, collection}
use Rattle.libyaml_grammar.specs.grammar.Trees.{directive, empty, ended, explicit, flow, flow_node, flow_nothing, free, implicit, indentless, item, key, last, mapping, more_items, no_directives, no_items, no_last, no_parts, no_value, node, nothing, once, opened, pair, part, scalar, sequence, single}
use Rattle.libyaml_grammar.specs.grammar.Trees.{slot_of, tag, tag_anchor, tag_directive, value, version, whole, with_value}
use Rattle.libyaml_grammar.specs.grammar.Order.{declares, is_accepted, is_known, no_version}
use Rattle.libyaml_grammar.specs.partial.PartialTrees.{BlockPlace, PartialTree, Open, PartPlace, Place, at_directive, at_tag, at_tag_after, before_stream, block, content_due, declared, declared_open, document_due, entry, entry_due, explicit_root, flow_entry, flow_key, flow_value, implicit_root}
use Rattle.libyaml_grammar.specs.partial.PartialTrees.{indentless_entry, open_collection, part_due, part_place, root, separator_due, slot, start_due}
use Rattle.libyaml_grammar.proofs.exported.Positions.{Position, between, done, due, flow_after, flow_due, flow_keyed, headed, in_indentless, in_mapping, in_sequence, unopened}

-- The next position, or the place at which the token is bad; after the stream end no token is looked at.
pub data Step : Type 0 where
  goes : Position → Step
  bad : PartialTree → Step
  over : Step

-- a place filled; nothing in it leaves an implicit document's root and a flow entry as they are, since these want a node
abbrev pub fill_part : PartPlace → Slot → Position
fill_part (part_place c o m ps k v) x = in_mapping c o m (part ps k v x)

abbrev pub fill_implicit : Free → BlockSlot → Position
fill_implicit f nothing = due (block (root (implicit_root f))) None
fill_implicit f (node n) = between (following (implicit f n))

abbrev pub fill_block_slot : BlockPlace → BlockSlot → Position
fill_block_slot (root (implicit_root f)) x = fill_implicit f x
fill_block_slot (root (explicit_root b ds m)) x = between (following (explicit b ds m x))
fill_block_slot (entry c o m is e) x = in_sequence c o m (item is e x)
fill_block_slot (slot c) x = fill_part c (slot_of x)
fill_block_slot (indentless_entry c o is e) x = in_indentless c o is e x

abbrev pub block_slot : FlowSlot → BlockSlot
block_slot flow_nothing = nothing
block_slot (flow_node n) = node (flow n)

abbrev pub fill_entry : Open → FlowSlot → Position
fill_entry c flow_nothing = due (flow_entry c) None
fill_entry c (flow_node n) = flow_after c (single n)

abbrev pub fill_flow_slot : Place → FlowSlot → Position
fill_flow_slot (block c) x = fill_block_slot c (block_slot x)
fill_flow_slot (flow_entry c) x = fill_entry c x
fill_flow_slot (flow_key c k) x = flow_keyed c k x
fill_flow_slot (flow_value c k n v) x = flow_after c (pair k n (with_value v x))

abbrev pub fill : BlockPlace → BlockNode → Position
fill c n = fill_block_slot c (node n)

abbrev pub fill_flow : Place → FlowNode → Position
fill_flow p n = fill_flow_slot p (flow_node n)

abbrev pub leave : Place → Position
leave p = fill_flow_slot p flow_nothing

-- after a whole entry of a collection, a whole root, and the like
abbrev pub after_documents : Documents → Content → Marks → Step
after_documents d (VersionDirective a) m = goes (headed (following d) no_directives (version a m))
after_documents d (TagDirective h) m = goes (headed (following d) no_directives (tag_directive h m))
after_documents d DocumentStart m = goes (due (block (root (explicit_root (following d) no_directives m))) None)
after_documents d DocumentEnd m = goes (between (free (ended (once d m))))
after_documents d StreamEnd m = goes (done (whole (following d) m))
after_documents d _ m = bad (document_due d)

abbrev pub after_item : BlockPlace → Option Properties → Marks → BlockItems → Content → Marks → Step
after_item c o s is BlockEntry m = goes (due (block (entry c o s is m)) None)
after_item c o s is BlockEnd m = goes (fill c (block_sequence o s is m))
after_item c o s is _ m = bad (entry_due c o s is)

abbrev pub after_part : BlockPlace → Option Properties → Marks → Parts → Content → Marks → Step
after_part c o s ps Key m = goes (due (block (slot (part_place c o s ps key m))) None)
after_part c o s ps Value m = goes (due (block (slot (part_place c o s ps value m))) None)
after_part c o s ps BlockEnd m = goes (fill c (block_mapping o s ps m))
after_part c o s ps _ m = bad (part_due c o s ps)

abbrev pub after_slot : PartPlace → Slot → Content → Marks → Step
after_slot (part_place c o s ps r v) x k m = after_part c o s (part ps r v x) k m

abbrev pub after_indentless : PartPlace → Option Properties → BlockItems → Marks → BlockSlot → Content → Marks → Step
after_indentless c o is e n BlockEntry m = goes (due (block (indentless_entry c o (item is e n) m)) None)
after_indentless c o is e n k m = after_slot c (indentless o is e n) k m

-- the end of a flow collection, if it is of its sort
abbrev pub close : Open → FlowLast → Sort → Marks → PartialTree → Step
close (open_collection p o sequence s is) l sequence m q = goes (fill_flow p (collection o sequence s is l m))
close (open_collection p o sequence s is) l mapping m q = bad q
close (open_collection p o mapping s is) l sequence m q = bad q
close (open_collection p o mapping s is) l mapping m q = goes (fill_flow p (collection o mapping s is l m))

abbrev pub separated : Open → FlowMember → Marks → Open
separated (open_collection p o k s is) e m = open_collection p o k s (more_items is e m)

abbrev pub after_member : Open → FlowMember → Content → Marks → Step
after_member c e FlowEntry m = goes (flow_due (separated c e m))
after_member c e FlowSequenceEnd m = close c (last e) sequence m (separator_due c e)
after_member c e FlowMappingEnd m = close c (last e) mapping m (separator_due c e)
after_member c e _ m = bad (separator_due c e)

abbrev pub after_key : Open → Marks → FlowSlot → Content → Marks → Step
after_key c k n Value m = goes (due (flow_value c k n m) None)
after_key c k n t m = after_member c (pair k n no_value) t m

abbrev pub after_whole : Position → Content → Marks → Step
after_whole (between (following d)) k m = after_documents d k m
after_whole (in_sequence c o s is) k m = after_item c o s is k m
after_whole (in_mapping c o s ps) k m = after_part c o s ps k m
after_whole (in_indentless c o is e n) k m = after_indentless c o is e n k m
after_whole (flow_keyed c e n) k m = after_key c e n k m
after_whole (flow_after c e) k m = after_member c e k m
after_whole q k m = bad before_stream

abbrev pub or_bad : Step → PartialTree → Step
or_bad (goes q) c = goes q
or_bad s c = bad c

-- a token that goes on with no node in hand
abbrev pub without : Place → Option Properties → Content → Marks → Step
without p None k m = or_bad (after_whole (leave p) k m) (content_due p)
without p (Some ps) k m = after_whole (fill_flow p (alone ps)) k m

abbrev pub on_alias : Place → Option Properties → AliasName → Marks → Step
on_alias p None a m = goes (fill_flow p (alias a m))
on_alias p (Some ps) a m = without p (Some ps) (Alias a) m

abbrev pub on_anchor : Place → Option Properties → AnchorName → Marks → Step
on_anchor p None a m = goes (due p (Some (anchor a m)))
on_anchor p (Some (tag h n)) a m = goes (due p (Some (tag_anchor h n a m)))
on_anchor p (Some ps) a m = without p (Some ps) (Anchor a) m

abbrev pub on_tag : Place → Option Properties → TagName → Marks → Step
on_tag p None h m = goes (due p (Some (tag h m)))
on_tag p (Some (anchor a n)) h m = goes (due p (Some (anchor_tag a n h m)))
on_tag p (Some ps) h m = without p (Some ps) (Tag h) m

abbrev pub on_block_sequence : Place → Option Properties → Marks → Step
on_block_sequence (block c) o m = goes (in_sequence c o m empty)
on_block_sequence p o m = without p o BlockSequenceStart m

abbrev pub on_block_mapping : Place → Option Properties → Marks → Step
on_block_mapping (block c) o m = goes (in_mapping c o m no_parts)
on_block_mapping p o m = without p o BlockMappingStart m

abbrev pub on_block_entry : Place → Option Properties → Marks → Step
on_block_entry (block (slot c)) o m = goes (due (block (indentless_entry c o empty m)) None)
on_block_entry p o m = without p o BlockEntry m

abbrev pub on_due : Place → Option Properties → Content → Marks → Step
on_due p o (Alias a) m = on_alias p o a m
on_due p o (Anchor a) m = on_anchor p o a m
on_due p o (Tag h) m = on_tag p o h m
on_due p o (Scalar v) m = goes (fill_flow p (scalar o v m))
on_due p o FlowSequenceStart m = goes (flow_due (open_collection p o sequence m no_items))
on_due p o FlowMappingStart m = goes (flow_due (open_collection p o mapping m no_items))
on_due p o BlockSequenceStart m = on_block_sequence p o m
on_due p o BlockMappingStart m = on_block_mapping p o m
on_due p o BlockEntry m = on_block_entry p o m
on_due p o k m = without p o k m

-- at a document's place; the first place takes no DOCUMENT-END
abbrev pub again_ended : Free → Marks → Step
again_ended (opened e s) m = bad (content_due (block (root (implicit_root (opened e s)))))
again_ended (ended e) m = goes (between (free (ended (again e m))))

abbrev pub at_free : Free → Content → Marks → Step
at_free f (VersionDirective a) m = goes (headed (free f) no_directives (version a m))
at_free f (TagDirective h) m = goes (headed (free f) no_directives (tag_directive h m))
at_free f DocumentStart m = goes (due (block (root (explicit_root (free f) no_directives m))) None)
at_free f DocumentEnd m = again_ended f m
at_free f StreamEnd m = goes (done (whole (free f) m))
at_free f k m = on_due (block (root (implicit_root f))) None k m

abbrev pub at_before : Before → Content → Marks → Step
at_before (free f) k m = at_free f k m
at_before (following d) k m = after_documents d k m

abbrev pub at_headed : Before → Directives → Directive → Content → Marks → Step
at_headed b ds d (VersionDirective x) m = goes (headed b (directive ds d) (version x m))
at_headed b ds d (TagDirective h) m = goes (headed b (directive ds d) (tag_directive h m))
at_headed b ds d DocumentStart m = goes (due (block (root (explicit_root b (directive ds d) m))) None)
at_headed b ds d _ m = bad (start_due b ds d)

abbrev pub at_unopened : Content → Marks → Step
at_unopened (StreamStart e) m = goes (between (free (opened e m)))
at_unopened _ m = bad before_stream

-- where an entry of a flow collection, or its end, is expected
abbrev pub at_flow : Open → Content → Marks → Step
at_flow c Key m = goes (due (flow_key c m) None)
at_flow c FlowSequenceEnd m = close c no_last sequence m (content_due (flow_entry c))
at_flow c FlowMappingEnd m = close c no_last mapping m (content_due (flow_entry c))
at_flow c k m = on_due (flow_entry c) None k m

abbrev pub step : Position → Content → Marks → Step
step unopened k m = at_unopened k m
step (between b) k m = at_before b k m
step (headed b ds d) k m = at_headed b ds d k m
step (due p o) k m = on_due p o k m
step (in_sequence c o s is) k m = after_item c o s is k m
step (in_mapping c o s ps) k m = after_part c o s ps k m
step (in_indentless c o is e n) k m = after_indentless c o is e n k m
step (flow_due c) k m = at_flow c k m
step (flow_keyed c e n) k m = after_key c e n k m
step (flow_after c e) k m = after_member c e k m
step (done t) k m = over

abbrev pub feed : Position → Token → Step
feed q t = step q t.content (marks_of t)

-- all tokens of a list, up to the first bad one
abbrev pub then_all : Step → (Position → Step) → Step
then_all (goes q) f = f q
then_all (bad c) f = bad c
then_all over f = over

abbrev pub feeds : List Token → Position → Step
feeds [] q = goes q
feeds (t ∷ r) q = then_all (feed q t) (feeds r)

-- whether a token that the grammar takes keeps the order; ds are the directives that wait for their DOCUMENT-START,
-- es those in force
abbrev pub keeps_order : Directives → Directives → Content → Bool
keeps_order ds es (VersionDirective v) = no_version ds && is_accepted v.major v.minor
keeps_order ds es (TagDirective d) = not (declares ds d.handle)
keeps_order ds es (Tag t) = is_known es t.handle
keeps_order ds es _ = true

abbrev pub pending : Position → Directives
pending (headed c ds d) = directive ds d
pending _ = no_directives

abbrev pub in_force : Position → Directives
in_force (due p o) = declared p
in_force (flow_due c) = declared_open c
in_force _ = no_directives

abbrev pub is_legal : Position → Content → Bool
is_legal q k = keeps_order (pending q) (in_force q) k

-- the place of a token that breaks the order, from the position to which it would lead
abbrev pub broken : Position → PartialTree
broken (headed c ds d) = at_directive c ds
broken (due p (Some (tag h m))) = at_tag p
broken (due p (Some (anchor_tag a m h n))) = at_tag_after p a m
broken _ = before_stream

abbrev pub checked : Step → Bool → Step
checked (goes q) true = goes q
checked (goes q) false = bad (broken q)
checked (bad x) b = bad x
checked over b = over

abbrev pub reads : Position → Token → Step
reads q t = checked (feed q t) (is_legal q t.content)

abbrev pub reads_all : List Token → Position → Step
reads_all [] q = goes q
reads_all (t ∷ r) q = then_all (reads q t) (reads_all r)

pub goes_same : (p q : Position) → goes p ≡ goes q → p ≡ q
goes_same p q e = cc

pub bad_same : (c d : PartialTree) → bad c ≡ bad d → c ≡ d
bad_same c d e = cc

-- what holds at the position that a list leads to, and before a token where it holds after it, holds where the list begins
pub along : (P : List Token → Position → Type 0) (p : Position) → P [] p
    → ((t : Token) (l : List Token) (q x : Position) → feed q t ≡ goes x → P l x → P (t ∷ l) q)
    → (l : List Token) (q : Position) → feeds l q ≡ goes p
    → P l q
along P p z f [] q e = subst (P []) (sym (goes_same q p e)) z
along P p z f (t ∷ l) q e = go (λ (x : Position) (h : feeds l x ≡ goes p). along P p z f l x h) (feed q t) refl e
  where
    go : ((x : Position) → feeds l x ≡ goes p → P l x) → (s : Step) → feed q t ≡ s → then_all s (feeds l) ≡ goes p
        → P (t ∷ l) q
    go ih (goes x) g h = f t l q x g (ih x h)
    go ih (bad c) g h = absurd cc
    go ih over g h = absurd cc

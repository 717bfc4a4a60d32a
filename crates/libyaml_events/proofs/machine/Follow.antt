-- The machine follows the grammar: all that one token makes it do at a position is what the grammar says of it.
use Rattle.std.proofs.Common.{◌≡◌, ℕ, suc, List, [], ◌∷◌, Option, Some, None, refl, ap, ◌∙◌, Bool, true, false, Ok, arith}
use Rattle.std.proofs.lemmas.Bool.{and_parts}
use Rattle.libyaml_events.specs.machine.Machine.{Progressed, content_after, content_resolved, put, seen, with_texts}
use Rattle.libyaml_events.specs.machine.Want.{Given, AtState, no_texts}
use Rattle.libyaml_events.specs.machine.Config.{config_of as without_texts, Machine, holding, no_handles, popped}
use Rattle.libyaml_automaton.specs.Automaton as automaton
use Rattle.libyaml_types.specs.Types.{token_type}
use Rattle.libyaml_grammar.specs.partial.PartialTrees.{declared, open_collection, BlockPlace, Open, PartPlace, Place, block, entry, explicit_root, flow_entry, flow_key, flow_value, implicit_root, indentless_entry, part_place, root, slot}
use Rattle.libyaml_grammar.specs.grammar.Tokens.{Alias, Anchor, BlockEnd, BlockEntry, BlockMappingStart, BlockSequenceStart, Content, DocumentEnd, DocumentStart, FlowMappingEnd, FlowSequenceEnd, Key, Marks, ScalarText, StreamEnd, Tag, TagDirective, Token, Value, VersionDirective, marks_of, tok}
use Rattle.libyaml_grammar.specs.grammar.Trees.{Before, BlockItems, BlockNode, BlockSlot, Directive, Directives, Documents, FlowMember, FlowNode, FlowSlot, Free, Parts, Properties, alone, anchor, anchor_tag, following, block_mapping, block_sequence, collection, directive, ended, explicit, flow}
use Rattle.libyaml_grammar.specs.grammar.Trees.{flow_node, flow_nothing, free, implicit, indentless, item, key, last, mapping, no_directives, no_last, no_parts, no_value, node, nothing, opened, pair, part, scalar, sequence, single, slot_of, tag, tag_anchor, value, whole, with_value}
use Rattle.libyaml_grammar.specs.grammar.Events.{Event, alone_of, directive_start, document_end_at, document_start_at, empty_at, end_at, end_of, first_directive, scalar_of, tag_of}
use Rattle.libyaml_grammar.specs.grammar.Order.{is_known, properties_in_order}
use Rattle.libyaml_grammar.specs.partial.Fits.{ends_empty}
use Rattle.libyaml_grammar.proofs.exported.Positions.{Position, between, done, due, flow_after, flow_due, flow_keyed, headed, in_indentless, in_mapping, in_sequence, unopened}
use Rattle.libyaml_grammar.proofs.exported.Reading.{Step, at_flow, at_free, at_headed, at_unopened, after_documents, after_indentless, after_item, after_key, after_member, after_part, after_whole, fill, fill_flow, on_block_entry, on_block_mapping, on_block_sequence, on_due, without}
use Rattle.libyaml_grammar.proofs.exported.Given.{given_at_flow, given_at_free, given_at_headed, given_at_unopened, given_after_documents, given_after_indentless, given_after_item, given_after_key, given_after_member, given_after_part, given_after_whole, given_on_block_entry, given_on_block_mapping}
use Rattle.libyaml_grammar.proofs.exported.Given.{given_on_block_sequence, given_on_due, given_without, gives}
use Rattle.libyaml_events.proofs.machine.Declared.{resolve_is, tag_after, version_after}
use Rattle.libyaml_events.proofs.machine.Link.{End, after, config, config_of, emit, ends, free_config, handles_of, headed_config, kind, node_config, properties_of, spends, step_ends, texts_of, waits, want_of}
use Rattle.libyaml_grammar.proofs.exported.StepsMeet.{IsDue, IsEntry, IsMet}
use Rattle.libyaml_types.specs.declared.enums.yaml_parser_state_t.TheVariants as st

abbrev pub IsProperty : Content → Type 0
IsProperty (Anchor a) = Unit {0}
IsProperty (Tag h) = Unit {0}
IsProperty _ = ⊥

-- what is left to do with a token that is kept
abbrev pub more : ℕ → List Event → Machine → Token → List Event × End
more n r d t = spends n AtState d t.content (marks_of t) r

-- after a whole node
documents_follow : (n : ℕ) (d : Documents) (k : Content) (m : Marks) (r : List Event)
    → spends (suc (suc n)) AtState (config_of (between (following d))) k m r ≡ (
      given_after_documents k m r,
      step_ends (after_documents d k m) no_directives k m,
    )
documents_follow n d (VersionDirective a) m r
    = ap (emit (document_end_at true m.start m.start))
    (version_after m.start no_directives (config st.YAML_PARSE_DOCUMENT_START_STATE [] [] no_handles) a m (more n r) r)
documents_follow n d (TagDirective h) m r
    = ap (emit (document_end_at true m.start m.start))
    (tag_after m.start no_directives (config st.YAML_PARSE_DOCUMENT_START_STATE [] [] no_handles) h m (more n r) r refl)
documents_follow n d DocumentStart m r = refl
documents_follow n d DocumentEnd m r = refl
documents_follow n d StreamEnd m r = refl
documents_follow n d _ m r = refl

-- where a whole node fills its place
block_waits : (c : BlockPlace) (x : BlockNode)
    → waits AtState (popped (node_config (block c))) ≡ waits (want_of (fill c x)) (config_of (fill c x))
block_waits c x = grind arith

flow_waits : (p : Place) (x : FlowNode)
    → waits AtState (popped (node_config p)) ≡ waits (want_of (fill_flow p x)) (config_of (fill_flow p x))
flow_waits p x = grind arith

popped_flow : (p : Place) (x : FlowNode) → popped (node_config p) ≡ config_of (fill_flow p x)
popped_flow p x = let e = flow_waits p x in cc

item_follows : (n : ℕ) (c : BlockPlace) (o : Option Properties) (s : Marks) (is : BlockItems) (k : Content)
    (m : Marks) (r : List Event)
    → spends (suc n) AtState (config_of (in_sequence c o s is)) k m r
    ≡ (given_after_item k m r, step_ends (after_item c o s is k m) no_directives k m)
item_follows n c o s is BlockEntry m r = refl
item_follows n c o s is BlockEnd m r
    = ap (λ (x : End). (end_of sequence m ∷ r, x)) (block_waits c (block_sequence o s is m))
item_follows n c o s is _ m r = refl

part_follows : (n : ℕ) (c : BlockPlace) (o : Option Properties) (s : Marks) (ps : Parts) (k : Content) (m : Marks)
    (r : List Event)
    → spends (suc (suc n)) AtState (config_of (in_mapping c o s ps)) k m r ≡ (
      given_after_part ps k m r,
      step_ends (after_part c o s ps k m) no_directives k m,
    )
part_follows n c o s no_parts BlockEnd m r
    = ap (λ (x : End). (end_of mapping m ∷ r, x)) (block_waits c (block_mapping o s no_parts m))
part_follows n c o s (part ps key v y) BlockEnd m r
    = ap (λ (x : End). (empty_at m.start ∷ end_of mapping m ∷ r, x))
    (block_waits c (block_mapping o s (part ps key v y) m))
part_follows n c o s (part ps value v y) BlockEnd m r
    = ap (λ (x : End). (end_of mapping m ∷ r, x)) (block_waits c (block_mapping o s (part ps value v y) m))
part_follows n c o s _ _ m r = refl

indentless_follows : (n : ℕ) (c : PartPlace) (o : Option Properties) (is : BlockItems) (e : Marks) (x : BlockSlot)
    (k : Content) (m : Marks) (r : List Event)
    → spends (suc (suc (suc n))) AtState (config_of (in_indentless c o is e x)) k m r ≡ (
      given_after_indentless c o is e x k m r,
      step_ends (after_indentless c o is e x k m) no_directives k m,
    )
indentless_follows n (part_place c o s ps t v) y is e x BlockEntry m r = refl
indentless_follows n (part_place c o s ps t v) y is e x k m r
    = ap (emit (end_at sequence m.start m.start)) (part_follows n c o s (part ps t v (indentless y is e x)) k m r)

member_follows : (n : ℕ) (c : Open) (e : FlowMember) (k : Content) (m : Marks) (r : List Event) → IsEntry e
    → spends (suc (suc n)) AtState (config_of (flow_after c e)) k m r
    ≡ (given_after_member c e k m r, step_ends (after_member c e k m) no_directives k m)
member_follows n (open_collection p o sequence s is) (single y) FlowSequenceEnd m r w
    = ap (λ (x : End). (end_of sequence m ∷ r, x))
    (flow_waits p (collection o sequence s is (last (single y)) m))
member_follows n (open_collection p o sequence s is) (pair k y (with_value v z)) FlowSequenceEnd m r w
    = ap (λ (x : End). (end_at mapping m.start m.start ∷ end_of sequence m ∷ r, x))
    (flow_waits p (collection o sequence s is (last (pair k y (with_value v z))) m))
member_follows n (open_collection p o mapping s is) (single y) FlowMappingEnd m r w
    = ap (λ (x : End). (empty_at m.start ∷ end_of mapping m ∷ r, x))
    (flow_waits p (collection o mapping s is (last (single y)) m))
member_follows n (open_collection p o mapping s is) (pair k y (with_value v z)) FlowMappingEnd m r w
    = ap (λ (x : End). (end_of mapping m ∷ r, x))
    (flow_waits p (collection o mapping s is (last (pair k y (with_value v z))) m))
member_follows n c (pair k y no_value) t m r w = absurd w
member_follows n _ _ _ m r w = refl

key_follows : (n : ℕ) (c : Open) (e : Marks) (y : FlowSlot) (k : Content) (m : Marks) (r : List Event)
    → spends (suc (suc (suc n))) AtState (config_of (flow_keyed c e y)) k m r ≡ (
      given_after_key c e y k m r,
      step_ends (after_key c e y k m) no_directives k m,
    )
key_follows n (open_collection p o sequence s is) e y FlowSequenceEnd m r
    = ap (λ (x : End). (empty_at m.start ∷ end_at mapping m.start m.start ∷ end_of sequence m ∷ r, x))
    (flow_waits p (collection o sequence s is (last (pair e y no_value)) m))
key_follows n (open_collection p o mapping s is) e y FlowMappingEnd m r
    = ap (λ (x : End). (empty_at m.start ∷ end_of mapping m ∷ r, x))
    (flow_waits p (collection o mapping s is (last (pair e y no_value)) m))
key_follows n (open_collection p o sequence s is) e y Value m r = refl
key_follows n _ e y _ m r = refl

whole_follows : (n : ℕ) (p : Place) (x : FlowNode) (k : Content) (m : Marks) (r : List Event)
    → spends (suc (suc (suc n))) AtState (config_of (fill_flow p x)) k m r ≡ (
      given_after_whole (fill_flow p x) k m r,
      step_ends (after_whole (fill_flow p x) k m) no_directives k m,
    )
whole_follows n (block (root (implicit_root f))) x k m r = documents_follow (suc n) (implicit f (flow x)) k m r
whole_follows n (block (root (explicit_root b ds s))) x k m r =
    documents_follow (suc n) (explicit b ds s (node (flow x))) k m r
whole_follows n (block (entry c o s is e)) x k m r = item_follows (suc (suc n)) c o s (item is e (node (flow x))) k m r
whole_follows n (block (slot (part_place c o s ps t v))) x k m r =
    part_follows (suc n) c o s (part ps t v (slot_of (node (flow x)))) k m r
whole_follows n (block (indentless_entry c o is e)) x k m r = indentless_follows n c o is e (node (flow x)) k m r
whole_follows n (flow_entry c) x k m r = member_follows (suc n) c (single x) k m r tt
whole_follows n (flow_key c e) x k m r = key_follows n c e (flow_node x) k m r
whole_follows n (flow_value c e y v) x k m r = member_follows (suc n) c (pair e y (with_value v (flow_node x))) k m r tt

-- a scalar
scalar_follows : (p : Place) (o : Option Properties) (v : ScalarText) (m : Marks) (r : List Event)
    → ◌≡◌ {A = List Event × End} (scalar_of (declared p) o v m ∷ r, waits AtState (popped (node_config p))) (
      scalar_of (declared p) o v m ∷ r,
      waits (want_of (fill_flow p (scalar o v m))) (config_of (fill_flow p (scalar o v m))),
    )
scalar_follows p o v m r = ap (λ (x : End). (scalar_of (declared p) o v m ∷ r, x)) (flow_waits p (scalar o v m))

-- a node with nothing in hand
abbrev parsed : Place → Content → Marks → Progressed
parsed p k m = with_texts no_texts (node_config p) (tok k m) k
    (automaton.parse_node (kind p) (without_texts (node_config p)) (seen (tok k m) k) (token_type k))

abbrev Node : ℕ → Place → Content → Marks → List Event → Type 0
Node n p k m r = after (parsed p k m) (more (suc n) r) r ≡ (
  given_on_due p None k m r,
  step_ends (on_due p None k m) no_directives k m,
)

-- unless the token ends the place with nothing in it
abbrev UnlessEnded : Bool → Type 0 → Type 0
UnlessEnded true A = Unit {0}
UnlessEnded false A = A

node_follows : (n : ℕ) (p : Place) (k : Content) (m : Marks) (r : List Event)
    → UnlessEnded (ends_empty p k) (Node n p k m r)
node_follows n p k m r = grind arith

nothing_follows : (n : ℕ) (p : Place) (k : Content) (m : Marks) (r : List Event) → IsDue p
    → spends (suc (suc (suc (suc n)))) (want_of (due p None)) (config_of (due p None)) k m r ≡ (
      given_on_due p None k m r,
      step_ends (on_due p None k m) no_directives k m,
    )
nothing_follows n (block (root (implicit_root f))) k m r w
    = node_follows (suc (suc n)) (block (root (implicit_root f))) k m r
nothing_follows n (block (root (explicit_root b ds s))) DocumentStart m r w = refl
nothing_follows n (block (root (explicit_root b ds s))) k m r w = assumption (
  ap (emit (empty_at m.start)) (documents_follow (suc n) (explicit b ds s nothing) k m r),
  node_follows (suc (suc n)) (block (root (explicit_root b ds s))) k m r,
)
nothing_follows n (block (entry c o s is e)) (Alias a) m r w = refl
nothing_follows n (block (entry c o s is e)) k m r w = assumption (
  ap (emit (empty_at e.end)) (item_follows (suc (suc n)) c o s (item is e nothing) k m r),
  node_follows (suc (suc n)) (block (entry c o s is e)) k m r,
)
nothing_follows n (block (slot (part_place c o s ps key v))) (Alias a) m r w = refl
nothing_follows n (block (slot (part_place c o s ps value v))) (Alias a) m r w = refl
nothing_follows n (block (slot (part_place c o s ps t v))) k m r w = assumption (
  ap (emit (empty_at v.end)) (part_follows (suc n) c o s (part ps t v (slot_of nothing)) k m r),
  node_follows (suc (suc n)) (block (slot (part_place c o s ps t v))) k m r,
)
nothing_follows n (block (indentless_entry (part_place c o s ps t v) y is e)) (Alias a) m r w = refl
nothing_follows n (block (indentless_entry c y is e)) k m r w = assumption (
  ap (emit (empty_at e.end)) (indentless_follows n c y is e nothing k m r),
  node_follows (suc (suc n)) (block (indentless_entry c y is e)) k m r,
)
nothing_follows n (flow_entry c) k m r w = absurd w
nothing_follows n (flow_key (open_collection p o sequence s is) e) (Alias a) m r w = refl
nothing_follows n (flow_key (open_collection p o mapping s is) e) (Alias a) m r w = refl
nothing_follows n (flow_key c e) k m r w = assumption (
  ap (emit (empty_at m.start)) (key_follows n c e flow_nothing k m r),
  node_follows (suc (suc n)) (flow_key c e) k m r,
)
nothing_follows n (flow_value (open_collection p o sequence s is) e y v) (Alias a) m r w = refl
nothing_follows n (flow_value (open_collection p o mapping s is) e y v) (Alias a) m r w = refl
nothing_follows n (flow_value c e y v) k m r w = assumption (
  ap (emit (empty_at m.start)) (member_follows (suc n) c (pair e y (with_value v flow_nothing)) k m r tt),
  node_follows (suc (suc n)) (flow_value c e y v) k m r,
)

-- the machine's content after properties
abbrev with_tag : Place → Properties → Content → Marks → Progressed
with_tag p ps k m = put (texts_of ps) (texts_of ps).anchor (tag_of (declared p) (Some ps)) (node_config p) (tok k m) k
    (automaton.node_content (kind p) (properties_of ps) (without_texts (node_config p)) (seen (tok k m) k) (token_type k))

-- where none comes
abbrev with_none : Place → Properties → Content → Marks → Progressed
with_none p ps k m = put (texts_of ps) (texts_of ps).anchor (tag_of (declared p) (Some ps)) (node_config p) (tok k m) k
    (automaton.no_content (kind p) (properties_of ps).anchor (properties_of ps).tag (properties_of ps)
    (without_texts (node_config p)) (seen (tok k m) k))

abbrev at_content : Place → Properties → Content → Marks → Progressed
at_content p ps k m = content_after (texts_of ps).tag (kind p) (properties_of ps) (without_texts (node_config p))
    (texts_of ps) (node_config p) (tok k m) k

abbrev resolved_as : Place → Properties → Content → Marks → Option (List ℕ) → Progressed
resolved_as p ps k m o = content_resolved o (kind p) (properties_of ps) (without_texts (node_config p)) (texts_of ps)
    (node_config p) (tok k m) k

abbrev alone_given : Place → Properties → Content → Marks → Progressed
alone_given p ps k m = Ok (Given (alone_of (declared p) ps)
    (holding (Some (tok k m)) (popped (node_config p))))

only_is : (p : Place) (ps : Properties) (k : Content) (m : Marks)
    → with_none p ps k m ≡ alone_given p ps k m
only_is p ps k m = grind arith

content_is : (p : Place) (ps : Properties) (k : Content) (m : Marks) → properties_in_order (declared p) ps true ≡ true
    → at_content p ps k m ≡ with_tag p ps k m
content_is p (anchor a x) k m e = refl
content_is p (tag h x) k m e =
    ap (resolved_as p (tag h x) k m)
    (resolve_is (declared p) h (and_parts (is_known (declared p) h.handle) true e).0)
content_is p (anchor_tag a x h y) k m e
    = ap (resolved_as p (anchor_tag a x h y) k m)
    (resolve_is (declared p) h (and_parts (is_known (declared p) h.handle) true e).0)
content_is p (tag_anchor h x a y) k m e
    = ap (resolved_as p (tag_anchor h x a y) k m)
    (resolve_is (declared p) h (and_parts (is_known (declared p) h.handle) true e).0)

abbrev LeadsAfter : ℕ → Place → Properties → Content → Marks → List Event → Progressed → Step → List Event → Type 0
LeadsAfter n p ps k m r o s g = after o (more (suc (suc (suc n))) r) r ≡ (g, step_ends s no_directives k m)

-- properties with no content: the token goes on after them
only_follow : (n : ℕ) (p : Place) (ps : Properties) (k : Content) (m : Marks) (r : List Event)
    → LeadsAfter n p ps k m r (alone_given p ps k m) (without p (Some ps) k m) (given_without p (Some ps) k m r)
only_follow n p ps k m r = ap (emit (alone_of (declared p) ps))
    (ap (λ (d : Machine). spends (suc (suc (suc n))) AtState d k m r) (popped_flow p (alone ps))
    ∙ whole_follows n p (alone ps) k m r)

none_follow : (n : ℕ) (p : Place) (ps : Properties) (k : Content) (m : Marks) (r : List Event)
    → LeadsAfter n p ps k m r (with_none p ps k m) (without p (Some ps) k m) (given_without p (Some ps) k m r)
none_follow n p ps k m r = ap (λ (x : Progressed). after x (more (suc (suc (suc n))) r) r) (only_is p ps k m)
    ∙ only_follow n p ps k m r

sequence_follows : (n : ℕ) (p : Place) (ps : Properties) (m : Marks) (r : List Event)
    → LeadsAfter n p ps BlockSequenceStart m r (with_tag p ps BlockSequenceStart m) (on_block_sequence p (Some ps) m)
    (given_on_block_sequence p (Some ps) m r)
sequence_follows n p ps m r = grind arith

mapping_follows : (n : ℕ) (p : Place) (ps : Properties) (m : Marks) (r : List Event)
    → LeadsAfter n p ps BlockMappingStart m r (with_tag p ps BlockMappingStart m) (on_block_mapping p (Some ps) m)
    (given_on_block_mapping p (Some ps) m r)
mapping_follows n p ps m r = grind arith

entry_follows : (n : ℕ) (p : Place) (ps : Properties) (m : Marks) (r : List Event)
    → LeadsAfter n p ps BlockEntry m r (with_tag p ps BlockEntry m) (on_block_entry p (Some ps) m)
    (given_on_block_entry p (Some ps) m r)
entry_follows n p ps m r = grind arith

content_follows : (n : ℕ) (p : Place) (ps : Properties) (k : Content) (m : Marks) (r : List Event) → (IsProperty k → ⊥)
    → LeadsAfter n p ps k m r (with_tag p ps k m) (on_due p (Some ps) k m) (given_on_due p (Some ps) k m r)
content_follows n p ps k m r w = grind (arith, scalar_follows, sequence_follows, mapping_follows, entry_follows, none_follow)

-- a token after properties
abbrev Behaves : ℕ → Place → Properties → Content → Marks → List Event → Type 0
Behaves n p ps k m r = spends (suc (suc (suc (suc n)))) (want_of (due p (Some ps))) (config_of (due p (Some ps))) k m r
    ≡ (given_on_due p (Some ps) k m r, step_ends (on_due p (Some ps) k m) no_directives k m)

again : (n : ℕ) (p : Place) (ps : Properties) (k : Content) (m : Marks) (r : List Event) (o : Progressed)
    → o ≡ at_content p ps k m
    → properties_in_order (declared p) ps true ≡ true
    → with_tag p ps k m ≡ alone_given p ps k m
    → after o (more (suc (suc (suc n))) r) r
    ≡ (given_without p (Some ps) k m r, step_ends (without p (Some ps) k m) no_directives k m)
again n p ps k m r o e f g = ap (λ (x : Progressed). after x (more (suc (suc (suc n))) r) r)
    (e ∙ (content_is p ps k m f ∙ g)) ∙ only_follow n p ps k m r

properties_follow : (n : ℕ) (p : Place) (ps : Properties) (k : Content) (m : Marks) (r : List Event)
    → properties_in_order (declared p) ps true ≡ true
    → Behaves n p ps k m r
properties_follow n p (tag h x) (Anchor b) m r e = refl
properties_follow n p ps (Anchor b) m r e = again n p ps (Anchor b) m r _ refl e (only_is p ps (Anchor b) m)
properties_follow n p (anchor a x) (Tag g) m r e = refl
properties_follow n p ps (Tag g) m r e = again n p ps (Tag g) m r _ refl e (only_is p ps (Tag g) m)
properties_follow n p ps k m r e = ap (λ (x : Progressed). after x (more (suc (suc (suc n))) r) r) (content_is p ps k m e)
    ∙ content_follows n p ps k m r (λ w. w)

-- where an entry of a flow collection is due
flow_follows : (n : ℕ) (c : Open) (k : Content) (m : Marks) (r : List Event)
    → spends (suc (suc (suc n))) (want_of (flow_due c)) (config_of (flow_due c)) k m r
    ≡ (given_at_flow c k m r, step_ends (at_flow c k m) no_directives k m)
flow_follows n (open_collection p o sequence s is) Key m r = refl
flow_follows n (open_collection p o sequence s is) FlowSequenceEnd m r
    = ap (λ (x : End). (end_of sequence m ∷ r, x)) (flow_waits p (collection o sequence s is no_last m))
flow_follows n (open_collection p o sequence s is) FlowMappingEnd m r = refl
flow_follows n (open_collection p o sequence s is) k m r
    = node_follows (suc n) (flow_entry (open_collection p o sequence s is)) k m r
flow_follows n (open_collection p o mapping s is) Key m r = refl
flow_follows n (open_collection p o mapping s is) FlowSequenceEnd m r = refl
flow_follows n (open_collection p o mapping s is) FlowMappingEnd m r
    = ap (λ (x : End). (end_of mapping m ∷ r, x)) (flow_waits p (collection o mapping s is no_last m))
flow_follows n (open_collection p o mapping s is) k m r
    = node_follows (suc n) (flow_entry (open_collection p o mapping s is)) k m r

-- at a document's place
begins_follow : (n : ℕ) (f : Free) (k : Content) (m : Marks) (r : List Event)
    → after (put no_texts None None (free_config f no_handles) (tok k m) k
    (automaton.implicit_document (without_texts (free_config f no_handles)) (seen (tok k m) k))) (more (suc (suc n)) r) r
    ≡ (
      document_start_at no_directives true m.start m.start ∷ given_on_due (block (root (implicit_root f))) None k m r,
      step_ends (on_due (block (root (implicit_root f))) None k m) no_directives k m,
    )
begins_follow n f k m r
    = ap (emit (document_start_at no_directives true m.start m.start))
    (node_follows n (block (root (implicit_root f))) k m r)

free_follows : (n : ℕ) (f : Free) (k : Content) (m : Marks) (r : List Event)
    → spends (suc (suc (suc n))) AtState (free_config f no_handles) k m r
    ≡ (given_at_free f k m r, step_ends (at_free f k m) no_directives k m)
free_follows n f (VersionDirective a) m r = version_after m.start no_directives (free_config f no_handles) a m
    (more (suc (suc n)) r) r
free_follows n f (TagDirective h) m r = tag_after m.start no_directives (free_config f no_handles) h m
    (more (suc (suc n)) r) r refl
free_follows n f DocumentStart m r = refl
free_follows n (opened e s) DocumentEnd m r = refl
free_follows n (ended e) DocumentEnd m r = refl
free_follows n f StreamEnd m r = refl
free_follows n f k m r = begins_follow n f k m r

headed_follows : (n : ℕ) (b : Before) (ds : Directives) (d : Directive) (k : Content) (m : Marks) (r : List Event)
    → spends (suc n) (want_of (headed b ds d)) (config_of (headed b ds d)) k m r ≡ (
      given_at_headed (directive ds d) k m r,
      step_ends (at_headed b ds d k m) (directive ds d) k m,
    )
headed_follows n b ds d (VersionDirective x) m r
    = version_after (first_directive ds (directive_start d)) (directive ds d)
    (headed_config b (handles_of (directive ds d))) x m (more n r) r
headed_follows n (free f) ds d (TagDirective x) m r
    = tag_after (first_directive ds (directive_start d)) (directive ds d)
    (free_config f (handles_of (directive ds d))) x m (more n r) r refl
headed_follows n (following y) ds d (TagDirective x) m r
    = tag_after (first_directive ds (directive_start d)) (directive ds d)
    (config st.YAML_PARSE_DOCUMENT_START_STATE [] [] (handles_of (directive ds d))) x m
    (more n r) r refl
headed_follows n (free f) ds d DocumentStart m r = refl
headed_follows n (following x) ds d DocumentStart m r = refl
headed_follows n b ds d _ m r = refl

unopened_follows : (n : ℕ) (k : Content) (m : Marks) (r : List Event)
    → spends (suc n) AtState (config_of unopened) k m r
    ≡ (given_at_unopened k m r, step_ends (at_unopened k m) no_directives k m)
unopened_follows n k m r = grind arith

-- all that a token makes the machine do at a position is what the grammar says of it
pub follows : (n : ℕ) (q : Position) (k : Content) (m : Marks) (r : List Event) → IsMet q
    → spends (suc (suc (suc (suc n)))) (want_of q) (config_of q) k m r ≡ (gives q k m r, ends q k m)
follows n unopened k m r w = unopened_follows (suc (suc (suc n))) k m r
follows n (between (free f)) k m r w = free_follows (suc n) f k m r
follows n (between (following d)) k m r w = documents_follow (suc (suc n)) d k m r
follows n (headed b ds d) k m r w = headed_follows (suc (suc (suc n))) b ds d k m r
follows n (due p None) k m r w = nothing_follows n p k m r w
follows n (due p (Some ps)) k m r w = properties_follow n p ps k m r w
follows n (in_sequence c o s is) k m r w = item_follows (suc (suc (suc n))) c o s is k m r
follows n (in_mapping c o s ps) k m r w = part_follows (suc (suc n)) c o s ps k m r
follows n (in_indentless c o is e x) k m r w = indentless_follows (suc n) c o is e x k m r
follows n (flow_due c) k m r w = flow_follows (suc n) c k m r
follows n (flow_keyed c e x) k m r w = key_follows (suc n) c e x k m r
follows n (flow_after c e) k m r w = member_follows (suc (suc n)) c e k m r w
follows n (done (whole b x)) k m r w = refl

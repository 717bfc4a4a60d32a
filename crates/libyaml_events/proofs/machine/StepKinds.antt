-- What a step of the machine does, as a function of its stacks.
use Rattle.std.proofs.Common.{◌≡◌, ◌<◌, ◌≤◌, if◌then◌else◌, ℕ, suc, arith, List, Option, Some, None, Bool, true, false, Err, refl, is_some, ◌∷◌, Ok}
use Rattle.libyaml_types.specs.declared.enums.yaml_parser_state_t.{yaml_parser_state_t}
use Rattle.libyaml_types.specs.declared.enums.yaml_parser_state_t.TheVariants as st
use Rattle.libyaml_types.specs.declared.event.unnamed_yaml_event_t_data.{unnamed_yaml_event_t_data}
use Rattle.libyaml_types.specs.declared.event.unnamed_yaml_event_t_data.TheVariants as ev
use Rattle.libyaml_types.specs.declared.event.unnamed_yaml_event_t_data_document_end.{unnamed_yaml_event_t_data_document_end}
use Rattle.libyaml_types.specs.declared.event.unnamed_yaml_event_t_data_document_start.{unnamed_yaml_event_t_data_document_start}
use Rattle.libyaml_types.specs.declared.event.unnamed_yaml_event_t_data_mapping_start.{unnamed_yaml_event_t_data_mapping_start}
use Rattle.libyaml_types.specs.declared.event.unnamed_yaml_event_t_data_scalar.{unnamed_yaml_event_t_data_scalar}
use Rattle.libyaml_types.specs.declared.event.unnamed_yaml_event_t_data_sequence_start.{unnamed_yaml_event_t_data_sequence_start}
use Rattle.libyaml_types.specs.declared.event.unnamed_yaml_event_t_data_stream_start.{unnamed_yaml_event_t_data_stream_start}
use Rattle.libyaml_grammar.specs.partial.FaultTexts.{item_fault, mapping_fault, part_fault, sequence_fault}
use Rattle.libyaml_types.specs.Fault.{Fault}
use Rattle.libyaml_grammar.specs.grammar.Tokens.{Alias, Anchor, AnchorName, BlockEnd, BlockEntry, BlockMappingStart, BlockSequenceStart, Content, DocumentEnd, DocumentStart, FlowEntry, FlowMappingEnd, FlowMappingStart, FlowSequenceEnd, FlowSequenceStart, Key, Mark, Scalar, StreamEnd, StreamStart}
use Rattle.libyaml_grammar.specs.grammar.Tokens.{Tag, TagDirective, TagName, Token, Value, VersionDirective}
use Rattle.libyaml_automaton.specs.declared.node_place.NodePlace.{NodePlace}
use Rattle.libyaml_events.specs.parsers.EventsLeft.{rank}
use Rattle.std.specs.FinMap.{get}
use Rattle.libyaml_types.specs.declared.token.unnamed_yaml_token_t_data_tag_directive.{unnamed_yaml_token_t_data_tag_directive}
use Rattle.libyaml_types.specs.Types.{token_type}
use Rattle.libyaml_types.specs.declared.event.unnamed_yaml_event_t_data_alias.{unnamed_yaml_event_t_data_alias}
use Rattle.libyaml_grammar.specs.grammar.Events.{event}
use Rattle.libyaml_automaton.specs.declared.node_place.NodePlace.TheVariants.{Block, BlockOrIndentlessSequence, Flow}
use Rattle.libyaml_automaton.specs.declared.slot.Slot.TheVariants as slot
use Rattle.libyaml_automaton.specs.Slots.{is_nothing_before}
use Rattle.libyaml_automaton.specs.Config as automaton_config
use Rattle.libyaml_automaton.specs.Config.{top_mark}
use Rattle.libyaml_automaton.specs.Automaton as automaton
use Rattle.libyaml_automaton.specs.Automaton.{AfterBlockEntry, AfterDirective, AfterFlowMappingKey, AfterFlowMappingValue, AfterFlowSequenceValue, AfterIndentlessEntry, AfterKey, AfterProperties, AfterValue}
use Rattle.libyaml_events.specs.machine.Config.{Machine, holding, state_set, config_of, token_if, no_handles, popped, popped_mark, pushed_mark, with_handle}
use Rattle.libyaml_events.specs.machine.Machine.{Progressed, content_after, content_resolved, empty_scalar, put, is_accepted_in, resolve, seen, with_texts}
use Rattle.libyaml_events.specs.machine.Want.{Want, Given, Texts, Wants}

-- The kinds of places that states stand for: before the stream, between documents, where a node is due that the
-- stack goes on after, after a document's root, in an indentless sequence, in another collection, at the key of a flow
-- sequence's pair or further on in it, and after the stream.
pub data Kind : Type 0 where
  stream_start between node_due root_end indentless inner pair_key pair stream_end : Kind

abbrev pub kind : yaml_parser_state_t → Kind
kind st.YAML_PARSE_STREAM_START_STATE = stream_start
kind st.YAML_PARSE_IMPLICIT_DOCUMENT_START_STATE = between
kind st.YAML_PARSE_DOCUMENT_START_STATE = between
kind st.YAML_PARSE_DOCUMENT_CONTENT_STATE = node_due
kind st.YAML_PARSE_DOCUMENT_END_STATE = root_end
kind st.YAML_PARSE_BLOCK_NODE_STATE = node_due
kind st.YAML_PARSE_BLOCK_NODE_OR_INDENTLESS_SEQUENCE_STATE = node_due
kind st.YAML_PARSE_FLOW_NODE_STATE = node_due
kind st.YAML_PARSE_INDENTLESS_SEQUENCE_ENTRY_STATE = indentless
kind st.YAML_PARSE_FLOW_SEQUENCE_ENTRY_MAPPING_KEY_STATE = pair_key
kind st.YAML_PARSE_FLOW_SEQUENCE_ENTRY_MAPPING_VALUE_STATE = pair
kind st.YAML_PARSE_FLOW_SEQUENCE_ENTRY_MAPPING_END_STATE = pair
kind st.YAML_PARSE_END_STATE = stream_end
kind _ = inner

-- that of what the next token is wanted for
abbrev pub kind_for : automaton.Purpose → yaml_parser_state_t → Kind
kind_for automaton.AtState s = kind s
kind_for (AfterDirective start has_version) s = between
kind_for (AfterProperties p r) s = node_due
kind_for (AfterIndentlessEntry m) s = indentless
kind_for AfterFlowSequenceValue s = pair
kind_for _ s = inner

abbrev pub kind_of : Want → Machine → Kind
kind_of w c = kind_for w.next c.state

-- where a collection goes on
pub data GoesOnWithin : Kind → Kind → Type 0 where
  in_indentless : GoesOnWithin indentless indentless
  in_inner : GoesOnWithin inner inner
  from_key : GoesOnWithin pair_key pair
  in_pair : GoesOnWithin pair pair

-- the events of nodes
pub data IsLeaf : unnamed_yaml_event_t_data → Type 0 where
  an_alias : (a : unnamed_yaml_event_t_data_alias) → IsLeaf (ev.Alias a)
  a_scalar : (s : unnamed_yaml_event_t_data_scalar) → IsLeaf (ev.Scalar s)

pub data IsStart : unnamed_yaml_event_t_data → Type 0 where
  a_sequence : (s : unnamed_yaml_event_t_data_sequence_start) → IsStart (ev.SequenceStart s)
  a_mapping : (s : unnamed_yaml_event_t_data_mapping_start) → IsStart (ev.MappingStart s)

pub data IsEnd : unnamed_yaml_event_t_data → Type 0 where
  sequence_end : IsEnd ev.SequenceEnd
  mapping_end : IsEnd ev.MappingEnd

-- a token is wanted, or an event is given
abbrev pub want : Want → Machine → Progressed
want w c = Ok (Wants w c)

-- with the token that stays, if it does
abbrev pub give : unnamed_yaml_event_t_data → Mark → Mark → Option Token → Machine → Progressed
give content start end o c = Ok (Given (event content start end) (holding o c))

-- the end of a collection, at its closing token
abbrev pub close_collection : unnamed_yaml_event_t_data → Token → Machine → Progressed
close_collection content u c = give content u.start_mark u.end_mark None (popped (popped_mark c))

-- a document's root comes next, and its end after it; or the document has ended
abbrev pub begin_document : yaml_parser_state_t → Machine → Machine
begin_document state c = record c {
  state = state;
  states = st.YAML_PARSE_DOCUMENT_END_STATE ∷ c.states;
  behind_document_end = false;
}

abbrev pub end_document : yaml_parser_state_t → (behind_document_end : Bool) → Machine → Machine
end_document state behind_document_end c =
    record c { state = state; handles = no_handles; behind_document_end = behind_document_end }

-- What the rank of an event's state may add to the number of states on the stack: that of the token, if it is kept, and
-- where the parser goes back to a state from the stack, at most 4 less than that.
abbrev pub kept_rank : Bool → yaml_parser_state_t → Content → ℕ
kept_rank true s k = rank s k
kept_rank false s k = 0

abbrev pub back_rank : Bool → ℕ
back_rank true = 4
back_rank false = 0

-- how much a token may do where it is taken
abbrev pub room_for : automaton.Purpose → yaml_parser_state_t → Content → ℕ
room_for automaton.AtState s k = rank s k
room_for _ s k = 6

abbrev pub room : Want → Machine → Content → ℕ
room w c k = room_for w.next c.state k

-- a rank is small
pub rank_small : (s : yaml_parser_state_t) (k : Content) → rank s k ≤ 5
rank_small s k = grind arith

-- what a step leads to, by the states and marks on the stacks
abbrev pub OnStacks : Type 0
OnStacks = List yaml_parser_state_t → List Mark → Progressed

-- the same parser over these stacks
abbrev pub over : Machine → List yaml_parser_state_t → List Mark → Machine
over c ss ms = record c { states = ss; marks = ms }

module _ (u : Token) (c : Machine) where
  -- where a node is due: it fails, wants the token after a property, gives a whole node, or opens a collection
  pub data NodeStep (n : ℕ) (t : Content) : OnStacks → Type 0 where
    no_node : {f : Fault} → NodeStep n t (λ ss ms. Err f)
    property : (w : Want) → kind_of w c ≡ node_due → 0 < n → NodeStep n t (λ ss ms. want w (over c ss ms))
    whole : {e : unnamed_yaml_event_t_data} {a b : Mark} (kept : Bool) → IsLeaf e → back_rank kept < n
        → NodeStep n t (λ ss ms. give e a b (token_if kept u) (popped (over c ss ms)))
    opens : {e : unnamed_yaml_event_t_data} {a b m : Mark} (s : yaml_parser_state_t) → IsStart e → kind s ≡ inner → 0 < n
        → NodeStep n t (λ ss ms. give e a b None (state_set s (pushed_mark m (over c ss ms))))
    opens_indentless : {e : unnamed_yaml_event_t_data} {a b : Mark} → IsStart e
        → rank st.YAML_PARSE_INDENTLESS_SEQUENCE_ENTRY_STATE t < n
        → NodeStep n t (λ ss ms. give e a b (Some u) (state_set st.YAML_PARSE_INDENTLESS_SEQUENCE_ENTRY_STATE (over c ss ms)))

  pub data StepKind (n : ℕ) (t : Content) : Kind → OnStacks → Type 0 where
    fails : {k : Kind} {f : Fault} → StepKind n t k (λ ss ms. Err f)
    fails_in : (f : Mark → Fault) → StepKind n t inner (λ ss ms. Err (f (top_mark ms)))
    wants : {k : Kind} (w : Want) → kind_of w c ≡ k → 0 < n → StepKind n t k (λ ss ms. want w (over c ss ms))
    wants_entry : (w : Want) (s : yaml_parser_state_t) → kind s ≡ inner → kind_of w (state_set s c) ≡ inner → 0 < n
        → StepKind n t inner (λ ss ms. want w (state_set s (over c ss ms)))
    declares : (w : Want) (h p : List ℕ) → kind_of w c ≡ between → 0 < n
        → StepKind n t between (λ ss ms. want w (with_handle h p (over c ss ms)))
    begins_stream : {a b : Mark} (s : unnamed_yaml_event_t_data_stream_start) → 0 < n → StepKind n t stream_start
        (λ ss ms. give (ev.StreamStart s) a b None (state_set st.YAML_PARSE_IMPLICIT_DOCUMENT_START_STATE (over c ss ms)))
    ends_stream : {a b : Mark} → 0 < n
        → StepKind n t between (λ ss ms. give ev.StreamEnd a b None (state_set st.YAML_PARSE_END_STATE (over c ss ms)))
    begins_document : {a b : Mark} (d : unnamed_yaml_event_t_data_document_start) (s : yaml_parser_state_t)
        (kept : Bool) → kind s ≡ node_due → suc (kept_rank kept s t) < n → StepKind n t between
        (λ ss ms. give (ev.DocumentStart d) a b (token_if kept u) (begin_document s (over c ss ms)))
    ends_document : {a b : Mark} (d : unnamed_yaml_event_t_data_document_end) (s : yaml_parser_state_t)
        (e kept : Bool) → kind s ≡ between → kept_rank kept s t < n → StepKind n t root_end
        (λ ss ms. give (ev.DocumentEnd d) a b (token_if kept u) (end_document s e (over c ss ms)))
    node : {f : OnStacks} → NodeStep n t f → StepKind n t node_due f
    entry : {k : Kind} {f : OnStacks} (s : yaml_parser_state_t) (m : ℕ) → n ≡ suc m → GoesOnWithin k (kind s)
        → NodeStep m t f → StepKind n t k (λ ss ms. f (s ∷ ss) ms)
    empty : {k : Kind} {m : Mark} (s : yaml_parser_state_t) → GoesOnWithin k (kind s) → rank s t < n
        → StepKind n t k (λ ss ms. give empty_scalar m m (Some u) (state_set s (over c ss ms)))
    begins_pair : {a b : Mark} (s : unnamed_yaml_event_t_data_mapping_start) → 0 < n → StepKind n t inner
        (λ ss ms. give (ev.MappingStart s) a b None (state_set st.YAML_PARSE_FLOW_SEQUENCE_ENTRY_MAPPING_KEY_STATE (over c ss ms)))
    ends_pair : {a b : Mark} → 1 < n → StepKind n t pair
        (λ ss ms. give ev.MappingEnd a b (Some u) (state_set st.YAML_PARSE_FLOW_SEQUENCE_ENTRY_STATE (over c ss ms)))
    closes : {e : unnamed_yaml_event_t_data} → IsEnd e → 0 < n
        → StepKind n t inner (λ ss ms. close_collection e u (over c ss ms))
    ends_indentless : {a b : Mark} → 4 < n
        → StepKind n t indentless (λ ss ms. give ev.SequenceEnd a b (Some u) (popped (over c ss ms)))

  -- the automaton's part of the parser, over these stacks
  abbrev at : List yaml_parser_state_t → List Mark → automaton_config.Stacks
  at ss ms = config_of (over c ss ms)

  -- a collection opens, where it is allowed
  opens_if : (allowed : Bool) (put : automaton.Step → Progressed) (opening : automaton_config.Stacks → automaton.Step) (p : NodePlace)
      (r : automaton.PropertiesRead) (n : ℕ) (k : Content) → NodeStep n k (λ ss ms. put (opening (at ss ms)))
      → NodeStep n k (λ ss ms. put (automaton.no_content p r.anchor r.tag r (at ss ms) (seen u k)))
      → NodeStep n k (λ ss ms. put (automaton.if_allowed allowed (opening (at ss ms)) p r (at ss ms) (seen u k)))
  opens_if true put opening p r n k a b = a
  opens_if false put opening p r n k a b = b

  module _ (h : Texts) where
    -- texts put to a step of the automaton
    abbrev texted : Content → (automaton_config.Stacks → automaton.Step) → OnStacks
    texted k step ss ms = with_texts h c u k (step (at ss ms))

    -- nodes
    module _ (a g : Option (List ℕ)) where
      none : (p : NodePlace) (b d : Bool) (r : automaton.PropertiesRead) (n : ℕ) (k : Content) → 4 < n
          → NodeStep n k (λ ss ms. put h a g c u k (automaton.no_content p b d r (at ss ms) (seen u k)))
      none p false false r n k l = no_node
      none p false true r n k l = whole true (a_scalar _) l
      none p true d r n k l = whole true (a_scalar _) l

      content : (p : NodePlace) (r : automaton.PropertiesRead) (n : ℕ) (k : Content) → 4 < n
          → NodeStep n k (λ ss ms. put h a g c u k (automaton.node_content p r (at ss ms) (seen u k) (token_type k)))
      content p r n (Scalar s) l = whole false (a_scalar _) (omega arith)
      content p r n FlowSequenceStart l = opens _ (a_sequence _) refl (omega arith)
      content p r n FlowMappingStart l = opens _ (a_mapping _) refl (omega arith)
      content p r n BlockSequenceStart l = opens_if (automaton.is_block_place p) (put h a g c u BlockSequenceStart)
          (λ x. automaton.open_collection (automaton.sequence_start r false) st.YAML_PARSE_BLOCK_SEQUENCE_ENTRY_STATE r x (seen u BlockSequenceStart))
          p r n _ (opens _ (a_sequence _) refl (omega arith)) (none p r.anchor r.tag r n _ l)
      content p r n BlockMappingStart l = opens_if (automaton.is_block_place p) (put h a g c u BlockMappingStart)
          (λ x. automaton.open_collection (automaton.mapping_start r false) st.YAML_PARSE_BLOCK_MAPPING_KEY_STATE r x (seen u BlockMappingStart))
          p r n _ (opens _ (a_mapping _) refl (omega arith)) (none p r.anchor r.tag r n _ l)
      content p r n BlockEntry l = opens_if (automaton.may_be_indentless p) (put h a g c u BlockEntry)
          (λ x. automaton.open_indentless r x (seen u BlockEntry)) p r n _ (opens_indentless (a_sequence _) (omega arith))
          (none p r.anchor r.tag r n _ l)
      content p r n k l = none p r.anchor r.tag r n k l

    -- without properties
    bare : (p : NodePlace) (n : ℕ) (k : Content) → 1 < n
        → NodeStep n k (texted k (λ x. automaton.node_content p (automaton.no_properties (seen u k)) x (seen u k) (token_type k)))
    bare p n (Scalar s) l = whole false (a_scalar _) (omega arith)
    bare p n FlowSequenceStart l = opens _ (a_sequence _) refl (omega arith)
    bare p n FlowMappingStart l = opens _ (a_mapping _) refl (omega arith)
    bare p n BlockSequenceStart l =
        let r = automaton.no_properties (seen u BlockSequenceStart) in
        opens_if (automaton.is_block_place p) (with_texts h c u BlockSequenceStart)
        (λ x. automaton.open_collection (automaton.sequence_start r false) st.YAML_PARSE_BLOCK_SEQUENCE_ENTRY_STATE r x (seen u BlockSequenceStart))
        p r n _ (opens _ (a_sequence _) refl (omega arith)) no_node
    bare p n BlockMappingStart l =
        let r = automaton.no_properties (seen u BlockMappingStart) in
        opens_if (automaton.is_block_place p) (with_texts h c u BlockMappingStart)
        (λ x. automaton.open_collection (automaton.mapping_start r false) st.YAML_PARSE_BLOCK_MAPPING_KEY_STATE r x (seen u BlockMappingStart))
        p r n _ (opens _ (a_mapping _) refl (omega arith)) no_node
    bare p n BlockEntry l =
        let r = automaton.no_properties (seen u BlockEntry) in
        opens_if (automaton.may_be_indentless p) (with_texts h c u BlockEntry) (λ x. automaton.open_indentless r x (seen u BlockEntry)) p r n _
        (opens_indentless (a_sequence _) l) no_node
    bare p n k l = no_node

    parsed : (p : NodePlace) (n : ℕ) (k : Content) → 1 < n
        → NodeStep n k (texted k (λ x. automaton.parse_node p x (seen u k) (token_type k)))
    parsed p n (Alias a) l = whole false (an_alias _) (omega arith)
    parsed p n (Anchor a) l = property _ refl (omega arith)
    parsed p n (Tag g) l = property _ refl (omega arith)
    parsed p n k l = bare p n k l

    resolves : (p : NodePlace) (r : automaton.PropertiesRead) (o : Option (List ℕ)) (n : ℕ) (k : Content) → 4 < n
        → NodeStep n k (λ ss ms. content_resolved o p r (at ss ms) h c u k)
    resolves p r None n k l = no_node
    resolves p r (Some g) n k l = content h.anchor (Some g) p r n k l

    following : (p : NodePlace) (r : automaton.PropertiesRead) (o : Option TagName) (n : ℕ) (k : Content) → 4 < n
        → NodeStep n k (λ ss ms. content_after o p r (at ss ms) h c u k)
    following p r None n k l = content h.anchor None p r n k l
    following p r (Some g) n k l = resolves p r (resolve c.handles g.handle g.suffix) n k l

    anchored : (b : Bool) (p : NodePlace) (r : automaton.PropertiesRead) (n : ℕ) (s : AnchorName) → 4 < n
        → NodeStep n (Anchor s) (texted (Anchor s) (λ x. automaton.anchor_after b p r x (seen u (Anchor s))))
    anchored false p r n s l = property _ refl (omega arith)
    anchored true p r n s l = following p r h.tag n (Anchor s) l

    with_tag : (b : Bool) (p : NodePlace) (r : automaton.PropertiesRead) (n : ℕ) (s : TagName) → 4 < n
        → NodeStep n (Tag s) (texted (Tag s) (λ x. automaton.tag_after b p r x (seen u (Tag s))))
    with_tag false p r n s l = property _ refl (omega arith)
    with_tag true p r n s l = following p r h.tag n (Tag s) l

    properties : (p : NodePlace) (r : automaton.PropertiesRead) (n : ℕ) (k : Content) → 4 < n
        → NodeStep n k (texted k (λ x. automaton.parse_after_properties p r x (seen u k) (token_type k)))
    properties p r n (Anchor a) l = anchored r.anchor p r n a l
    properties p r n (Tag g) l = with_tag r.tag p r n g l
    properties p r n k l = following p r h.tag n k l

    -- documents
    versioned : (b : Bool) (start : Mark) (n : ℕ) (k : Content) → 0 < n
        → StepKind n k between (λ ss ms. put h None None c u k (automaton.first_version b start (at ss ms) (seen u k)))
    versioned true start n (VersionDirective v) l = wants _ refl l
    versioned true start n (TagDirective v) l = declares _ v.handle v.prefix refl l
    versioned true start n k l = wants _ refl l
    versioned false start n k l = fails

    version_read : (b : Bool) (start : Mark) (n : ℕ) (k : Content) → 0 < n
        → StepKind n k between (texted k (λ x. automaton.version_directive b start x (seen u k)))
    version_read true start n k l = fails
    version_read false start n k l = versioned (is_accepted_in k) start n k l

    tag_read : (b : Bool) (start : Mark) (has_version : Bool) (n : ℕ) (d : unnamed_yaml_token_t_data_tag_directive) → 0 < n
        → StepKind n (TagDirective d) between
        (λ ss ms. put h None None c u (TagDirective d) (automaton.tag_directive b start has_version (at ss ms) (seen u (TagDirective d))))
    tag_read true start has_version n d l = fails
    tag_read false start has_version n d l = declares _ d.handle d.prefix refl l

    explicit : (start : Mark) (has_version : Bool) (n : ℕ) (k : Content) → 1 < n
        → StepKind n k between (texted k (λ x. automaton.explicit_document start has_version x (seen u k) (token_type k)))
    explicit start b n (VersionDirective v) l = version_read b start n (VersionDirective v) (omega arith)
    explicit start b n (TagDirective g) l = tag_read (is_some (get c.handles g.handle)) start b n g (omega arith)
    explicit start b n DocumentStart l = begins_document _ st.YAML_PARSE_DOCUMENT_CONTENT_STATE false refl l
    explicit start b n k l = fails

    implicit : (n : ℕ) (k : Content) → 3 < n
        → StepKind n k between (texted k (λ x. automaton.implicit_document x (seen u k)))
    implicit n k l = begins_document _ st.YAML_PARSE_BLOCK_NODE_STATE true refl l

    further : (b : Bool) (n : ℕ) (k : Content) → kind c.state ≡ between → 3 < n
        → StepKind n k between (texted k (λ x. automaton.further_document_end b x (seen u k)))
    further true n k e l = wants _ e (omega arith)
    further false n k e l = implicit n k l

    implicit_start : (n : ℕ) (k : Content) → kind c.state ≡ between → 3 < n
        → StepKind n k between (texted k (λ x. automaton.parse_implicit_document_start x (seen u k) (token_type k)))
    implicit_start n StreamEnd e l = ends_stream (omega arith)
    implicit_start n (VersionDirective v) e l = explicit u.start_mark false n (VersionDirective v) (omega arith)
    implicit_start n (TagDirective g) e l = explicit u.start_mark false n (TagDirective g) (omega arith)
    implicit_start n DocumentStart e l = explicit u.start_mark false n DocumentStart (omega arith)
    implicit_start n DocumentEnd e l = further c.behind_document_end n _ e l
    implicit_start n k e l = implicit n k l

    explicit_start : (n : ℕ) (k : Content) → 1 < n
        → StepKind n k between (texted k (λ x. automaton.parse_document_start x (seen u k) (token_type k)))
    explicit_start n StreamEnd l = ends_stream (omega arith)
    explicit_start n k l = explicit u.start_mark false n k l

    -- where a node may be nothing: in a collection, and as a document's content
    slotted : (nothing : Bool) (s : yaml_parser_state_t) (p : NodePlace) (m : Mark) (n : ℕ) (k : Content) {i : Kind}
        → GoesOnWithin i (kind s) → rank s k ≤ n → 1 < n
        → StepKind (suc n) k i (texted k (λ x. if nothing then automaton.process_empty_scalar m (automaton_config.in_state s x)
        else automaton.parse_node p (automaton_config.with_state s x) (seen u k) (token_type k)))
    slotted true s p m n k g l i = empty s g (omega arith)
    slotted false s p m n k g l i = entry s n refl g (parsed p n k i)

    rooted : (nothing : Bool) (k : Content)
        → StepKind 5 k node_due (texted k (λ x. if nothing
        then automaton.process_empty_scalar u.start_mark (automaton_config.without_state x)
        else automaton.parse_node Block x (seen u k) (token_type k)))
    rooted true k = node (whole true (a_scalar _) (omega arith))
    rooted false k = node (parsed Block _ k (omega arith))

    -- after an event the state says what comes
    at_a_state : (s : yaml_parser_state_t) (k : Content) → kind c.state ≡ kind s
        → StepKind (rank s k) k (kind s) (texted k (λ x. automaton.at_state s x (seen u k) (token_type k)))
    at_a_state st.YAML_PARSE_STREAM_START_STATE (StreamStart x) e = begins_stream _ (omega arith)
    at_a_state st.YAML_PARSE_STREAM_START_STATE k e = fails
    at_a_state st.YAML_PARSE_IMPLICIT_DOCUMENT_START_STATE k e = implicit_start _ k e (omega arith)
    at_a_state st.YAML_PARSE_DOCUMENT_START_STATE k e = explicit_start _ k (omega arith)
    at_a_state st.YAML_PARSE_DOCUMENT_CONTENT_STATE k e = rooted (is_nothing_before slot.Document (token_type k)) k
    at_a_state st.YAML_PARSE_DOCUMENT_END_STATE DocumentEnd e = ends_document _ _ _ false refl (omega arith)
    at_a_state st.YAML_PARSE_DOCUMENT_END_STATE k e = ends_document _ _ _ true refl (omega arith)
    at_a_state st.YAML_PARSE_BLOCK_NODE_STATE k e = node (parsed Block _ k (omega arith))
    at_a_state st.YAML_PARSE_BLOCK_NODE_OR_INDENTLESS_SEQUENCE_STATE k e
        = node (parsed BlockOrIndentlessSequence _ k (omega arith))
    at_a_state st.YAML_PARSE_FLOW_NODE_STATE k e = node (parsed Flow _ k (omega arith))
    at_a_state st.YAML_PARSE_BLOCK_SEQUENCE_ENTRY_STATE BlockEntry e = wants _ refl (omega arith)
    at_a_state st.YAML_PARSE_BLOCK_SEQUENCE_ENTRY_STATE BlockEnd e = closes sequence_end (omega arith)
    at_a_state st.YAML_PARSE_BLOCK_SEQUENCE_ENTRY_STATE k e = fails_in (λ (m : Mark). item_fault m u.start_mark)
    at_a_state st.YAML_PARSE_INDENTLESS_SEQUENCE_ENTRY_STATE BlockEntry e = wants _ refl (omega arith)
    at_a_state st.YAML_PARSE_INDENTLESS_SEQUENCE_ENTRY_STATE k e = ends_indentless (omega arith)
    at_a_state st.YAML_PARSE_BLOCK_MAPPING_KEY_STATE Key e = wants _ refl (omega arith)
    at_a_state st.YAML_PARSE_BLOCK_MAPPING_KEY_STATE Value e = empty _ in_inner (omega arith)
    at_a_state st.YAML_PARSE_BLOCK_MAPPING_KEY_STATE BlockEnd e = closes mapping_end (omega arith)
    at_a_state st.YAML_PARSE_BLOCK_MAPPING_KEY_STATE k e = fails_in (λ (m : Mark). part_fault m u.start_mark)
    at_a_state st.YAML_PARSE_BLOCK_MAPPING_VALUE_STATE Value e = wants _ refl (omega arith)
    at_a_state st.YAML_PARSE_BLOCK_MAPPING_VALUE_STATE k e = empty _ in_inner (omega arith)
    at_a_state st.YAML_PARSE_FLOW_SEQUENCE_FIRST_ENTRY_STATE FlowSequenceEnd e = closes sequence_end (omega arith)
    at_a_state st.YAML_PARSE_FLOW_SEQUENCE_FIRST_ENTRY_STATE Key e = begins_pair _ (omega arith)
    at_a_state st.YAML_PARSE_FLOW_SEQUENCE_FIRST_ENTRY_STATE k e
        = entry st.YAML_PARSE_FLOW_SEQUENCE_ENTRY_STATE 2 refl in_inner (parsed Flow 2 k (omega arith))
    at_a_state st.YAML_PARSE_FLOW_SEQUENCE_ENTRY_STATE FlowEntry e
        = wants_entry _ st.YAML_PARSE_FLOW_SEQUENCE_FIRST_ENTRY_STATE refl refl (omega arith)
    at_a_state st.YAML_PARSE_FLOW_SEQUENCE_ENTRY_STATE FlowSequenceEnd e = closes sequence_end (omega arith)
    at_a_state st.YAML_PARSE_FLOW_SEQUENCE_ENTRY_STATE k e = fails_in (λ (m : Mark). sequence_fault m u.start_mark)
    at_a_state st.YAML_PARSE_FLOW_SEQUENCE_ENTRY_MAPPING_KEY_STATE k e
        = slotted (is_nothing_before slot.PairKey (token_type k)) _ Flow u.start_mark 3 k from_key (omega arith)
        (omega arith)
    at_a_state st.YAML_PARSE_FLOW_SEQUENCE_ENTRY_MAPPING_VALUE_STATE Value e = wants _ refl (omega arith)
    at_a_state st.YAML_PARSE_FLOW_SEQUENCE_ENTRY_MAPPING_VALUE_STATE k e = empty _ in_pair (omega arith)
    at_a_state st.YAML_PARSE_FLOW_SEQUENCE_ENTRY_MAPPING_END_STATE k e = ends_pair (omega arith)
    at_a_state st.YAML_PARSE_FLOW_MAPPING_FIRST_KEY_STATE FlowMappingEnd e = closes mapping_end (omega arith)
    at_a_state st.YAML_PARSE_FLOW_MAPPING_FIRST_KEY_STATE Key e = wants _ refl (omega arith)
    at_a_state st.YAML_PARSE_FLOW_MAPPING_FIRST_KEY_STATE k e
        = entry st.YAML_PARSE_FLOW_MAPPING_EMPTY_VALUE_STATE 2 refl in_inner (parsed Flow 2 k (omega arith))
    at_a_state st.YAML_PARSE_FLOW_MAPPING_KEY_STATE FlowEntry e
        = wants_entry _ st.YAML_PARSE_FLOW_MAPPING_FIRST_KEY_STATE refl refl (omega arith)
    at_a_state st.YAML_PARSE_FLOW_MAPPING_KEY_STATE FlowMappingEnd e = closes mapping_end (omega arith)
    at_a_state st.YAML_PARSE_FLOW_MAPPING_KEY_STATE k e = fails_in (λ (m : Mark). mapping_fault m u.start_mark)
    at_a_state st.YAML_PARSE_FLOW_MAPPING_VALUE_STATE Value e = wants _ refl (omega arith)
    at_a_state st.YAML_PARSE_FLOW_MAPPING_VALUE_STATE k e = empty _ in_inner (omega arith)
    at_a_state st.YAML_PARSE_FLOW_MAPPING_EMPTY_VALUE_STATE k e = empty _ in_inner (omega arith)
    at_a_state _ k e = fails

    at_want : (w : automaton.Purpose) (k : Content) → StepKind (room_for w c.state k) k (kind_for w c.state)
        (texted k (λ x. automaton.step w x (seen u k) (token_type k)))
    at_want automaton.AtState k = at_a_state c.state k refl
    at_want (AfterDirective start has_version) k = explicit start has_version _ k (omega arith)
    at_want (AfterProperties p r) k = node (properties p r _ k (omega arith))
    at_want (AfterBlockEntry m) k = slotted (is_nothing_before slot.BlockEntry (token_type k)) _ Block m 5 k in_inner
        (rank_small st.YAML_PARSE_BLOCK_SEQUENCE_ENTRY_STATE k) (omega arith)
    at_want (AfterIndentlessEntry m) k
        = slotted (is_nothing_before slot.IndentlessEntry (token_type k)) _ Block m 5 k in_indentless
        (rank_small st.YAML_PARSE_INDENTLESS_SEQUENCE_ENTRY_STATE k) (omega arith)
    at_want (AfterKey m) k
        = slotted (is_nothing_before slot.BlockKey (token_type k)) _ BlockOrIndentlessSequence m 5 k in_inner
        (rank_small st.YAML_PARSE_BLOCK_MAPPING_VALUE_STATE k) (omega arith)
    at_want (AfterValue m) k
        = slotted (is_nothing_before slot.BlockValue (token_type k)) _ BlockOrIndentlessSequence m 5 k in_inner
        (rank_small st.YAML_PARSE_BLOCK_MAPPING_KEY_STATE k) (omega arith)
    at_want AfterFlowSequenceValue k
        = slotted (is_nothing_before slot.PairValue (token_type k)) _ Flow u.start_mark 5 k in_pair
        (rank_small st.YAML_PARSE_FLOW_SEQUENCE_ENTRY_MAPPING_END_STATE k) (omega arith)
    at_want AfterFlowMappingKey k
        = slotted (is_nothing_before slot.FlowKey (token_type k)) _ Flow u.start_mark 5 k in_inner
        (rank_small st.YAML_PARSE_FLOW_MAPPING_VALUE_STATE k) (omega arith)
    at_want AfterFlowMappingValue k
        = slotted (is_nothing_before slot.FlowValue (token_type k)) _ Flow u.start_mark 5 k in_inner
        (rank_small st.YAML_PARSE_FLOW_MAPPING_KEY_STATE k) (omega arith)

  -- a step of the machine, over any stacks
  pub step_kind : (w : Want) (k : Content) → StepKind (room w c k) k (kind_of w c)
      (λ ss ms. with_texts w.texts c u k (automaton.step w.next (config_of (over c ss ms)) (seen u k) (token_type k)))
  step_kind w k = at_want w.texts w.next k

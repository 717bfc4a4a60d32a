-- What the parser keeps at each position, once the tokens before it are consumed; and all that one token makes it do.
use Rattle.std.proofs.Common.{ℕ, zero, suc, List, [], ◌∷◌, Option, Some, None, Ok, Err, Bool, true, false, is_some}
use Rattle.std.specs.FinMap.{insert}
use Rattle.libyaml_grammar.specs.partial.PartialTrees.{declared, open_collection, BlockPlace, Open, PartPlace, Place, Root, block, declared_block, declared_open, declared_part, entry, explicit_root, flow_entry, flow_key, flow_value, implicit_root, indentless_entry, part_place, root, slot}
use Rattle.libyaml_types.specs.Fault.{no_fault, Fault}
use Rattle.libyaml_grammar.specs.partial.FaultTexts.{document_start_fault}
use Rattle.libyaml_grammar.specs.grammar.Tokens.{Content, Mark, Marks, TagDirective, TagName, Token, VersionDirective, marks_of, tok}
use Rattle.libyaml_grammar.specs.grammar.Trees.{Before, Directives, Documents, FlowMember, Free, Parts, Properties, Role, Stream, anchor, anchor_tag, following, directive, ended, explicit, free, implicit, key, mapping, no_directives, no_parts, no_value, opened, pair, part, sequence, single, tag}
use Rattle.libyaml_grammar.specs.grammar.Trees.{tag_anchor, tag_directive, value, version, whole, with_value}
use Rattle.libyaml_grammar.specs.grammar.Events.{Event, directive_start, first_directive, tag_directives_of, version_of, anchor_of, first_of_properties, last_of_properties}
use Rattle.libyaml_grammar.specs.partial.PartialFaults.{directive_fault, fault}
use Rattle.libyaml_grammar.proofs.exported.Positions.{Position, between, done, due, flow_after, flow_due, flow_keyed, headed, in_indentless, in_mapping, in_sequence, unopened}
use Rattle.libyaml_grammar.proofs.exported.Reading.{Step, bad, goes, keeps_order, over, pending, step}
use Rattle.libyaml_events.specs.machine.Config.{Machine, Handles, no_handles}
use Rattle.libyaml_events.specs.machine.Machine.{Progressed, step_at}
use Rattle.libyaml_events.specs.machine.Want.{Want, Texts, no_texts, AtState, Given, Wants}
use Rattle.libyaml_automaton.specs.Automaton.{AfterDirective, AfterProperties, AfterBlockEntry, AfterIndentlessEntry, AfterKey, AfterValue, AfterFlowSequenceValue, AfterFlowMappingKey, AfterFlowMappingValue}
use Rattle.libyaml_automaton.specs.Automaton as automaton
use Rattle.libyaml_types.specs.Events.{zero_mark}
use Rattle.libyaml_automaton.specs.declared.node_place.NodePlace.{NodePlace}
use Rattle.libyaml_automaton.specs.declared.node_place.NodePlace.TheVariants.{Block, BlockOrIndentlessSequence, Flow}
use Rattle.libyaml_types.specs.declared.enums.yaml_parser_state_t.TheVariants as st
use Rattle.libyaml_types.specs.declared.enums.yaml_parser_state_t.{yaml_parser_state_t}

-- the prefixes of the handles that the directives declare
abbrev pub handles_of : Directives → Handles
handles_of no_directives = no_handles
handles_of (directive ds (version v m)) = handles_of ds
handles_of (directive ds (tag_directive d m)) = insert (handles_of ds) d.handle d.prefix

-- the state after a key or value
abbrev pub after_state : Role → yaml_parser_state_t
after_state key = st.YAML_PARSE_BLOCK_MAPPING_VALUE_STATE
after_state value = st.YAML_PARSE_BLOCK_MAPPING_KEY_STATE

-- the state at a key or value
abbrev pub role_state : Role → yaml_parser_state_t
role_state key = st.YAML_PARSE_BLOCK_MAPPING_KEY_STATE
role_state value = st.YAML_PARSE_BLOCK_MAPPING_VALUE_STATE

-- the stack of states within a node: where the parser goes on after it, and after each node around it
abbrev mutual
  pub states_block : BlockPlace → List yaml_parser_state_t
  states_block (root t) = st.YAML_PARSE_DOCUMENT_END_STATE ∷ []
  states_block (entry c o m is e) = st.YAML_PARSE_BLOCK_SEQUENCE_ENTRY_STATE ∷ states_block c
  states_block (slot c) = states_part c
  states_block (indentless_entry c o is e) = st.YAML_PARSE_INDENTLESS_SEQUENCE_ENTRY_STATE ∷ states_part c

  pub states_part : PartPlace → List yaml_parser_state_t
  states_part (part_place c o m ps k v) = after_state k ∷ states_block c

abbrev mutual
  pub states_place : Place → List yaml_parser_state_t
  states_place (block c) = states_block c
  states_place (flow_entry (open_collection p o sequence s is)) = st.YAML_PARSE_FLOW_SEQUENCE_ENTRY_STATE ∷ states_place p
  states_place (flow_entry (open_collection p o mapping s is)) =
      st.YAML_PARSE_FLOW_MAPPING_EMPTY_VALUE_STATE ∷ states_place p
  states_place (flow_key (open_collection p o sequence s is) k) =
      st.YAML_PARSE_FLOW_SEQUENCE_ENTRY_MAPPING_VALUE_STATE ∷ states_place p
  states_place (flow_key (open_collection p o mapping s is) k) = st.YAML_PARSE_FLOW_MAPPING_VALUE_STATE ∷ states_place p
  states_place (flow_value (open_collection p o sequence s is) k x v) =
      st.YAML_PARSE_FLOW_SEQUENCE_ENTRY_MAPPING_END_STATE ∷ states_place p
  states_place (flow_value (open_collection p o mapping s is) k x v) = st.YAML_PARSE_FLOW_MAPPING_KEY_STATE ∷
      states_place p

-- the starts of the open collections
abbrev mutual
  pub marks_block : BlockPlace → List Mark
  marks_block (root t) = []
  marks_block (entry c o m is e) = m.start ∷ marks_block c
  marks_block (slot c) = marks_part c
  marks_block (indentless_entry c o is e) = marks_part c

  pub marks_part : PartPlace → List Mark
  marks_part (part_place c o m ps k v) = m.start ∷ marks_block c

abbrev mutual
  pub marks_place : Place → List Mark
  marks_place (block c) = marks_block c
  marks_place (flow_entry c) = marks_open c
  marks_place (flow_key c k) = marks_open c
  marks_place (flow_value c k x v) = marks_open c

  pub marks_open : Open → List Mark
  marks_open (open_collection p o k s is) = s.start ∷ marks_place p

abbrev pub around : Open → List yaml_parser_state_t
around (open_collection p o k s is) = states_place p

-- the state in which the parser looks for a node
abbrev pub state_root : Root → yaml_parser_state_t
state_root (implicit_root f) = st.YAML_PARSE_BLOCK_NODE_STATE
state_root (explicit_root b ds m) = st.YAML_PARSE_DOCUMENT_CONTENT_STATE

abbrev pub state_part : PartPlace → yaml_parser_state_t
state_part (part_place c o m ps k v) = role_state k

abbrev pub state_block : BlockPlace → yaml_parser_state_t
state_block (root t) = state_root t
state_block (entry c o m is e) = st.YAML_PARSE_BLOCK_SEQUENCE_ENTRY_STATE
state_block (slot c) = state_part c
state_block (indentless_entry c o is e) = st.YAML_PARSE_INDENTLESS_SEQUENCE_ENTRY_STATE

abbrev pub state_place : Place → yaml_parser_state_t
state_place (block c) = state_block c
state_place (flow_entry (open_collection p o sequence s is)) = st.YAML_PARSE_FLOW_SEQUENCE_FIRST_ENTRY_STATE
state_place (flow_entry (open_collection p o mapping s is)) = st.YAML_PARSE_FLOW_MAPPING_FIRST_KEY_STATE
state_place (flow_key (open_collection p o sequence s is) k) = st.YAML_PARSE_FLOW_SEQUENCE_ENTRY_MAPPING_KEY_STATE
state_place (flow_key (open_collection p o mapping s is) k) = st.YAML_PARSE_FLOW_MAPPING_FIRST_KEY_STATE
state_place (flow_value (open_collection p o sequence s is) k x v) = st.YAML_PARSE_FLOW_SEQUENCE_ENTRY_MAPPING_VALUE_STATE
state_place (flow_value (open_collection p o mapping s is) k x v) = st.YAML_PARSE_FLOW_MAPPING_VALUE_STATE

-- the stack before the place is pushed
abbrev pub unpushed_part : PartPlace → List yaml_parser_state_t
unpushed_part (part_place c o m ps k v) = states_block c

abbrev pub unpushed_block : BlockPlace → List yaml_parser_state_t
unpushed_block (root t) = st.YAML_PARSE_DOCUMENT_END_STATE ∷ []
unpushed_block (entry c o m is e) = states_block c
unpushed_block (slot c) = unpushed_part c
unpushed_block (indentless_entry c o is e) = states_part c

abbrev pub unpushed_place : Place → List yaml_parser_state_t
unpushed_place (block c) = unpushed_block c
unpushed_place (flow_entry c) = around c
unpushed_place (flow_key c k) = around c
unpushed_place (flow_value c k x v) = around c

abbrev pub want_part : PartPlace → automaton.Purpose
want_part (part_place c o m ps key v) = AfterKey v.end
want_part (part_place c o m ps value v) = AfterValue v.end

abbrev pub want_block : BlockPlace → automaton.Purpose
want_block (root t) = automaton.AtState
want_block (entry c o m is e) = AfterBlockEntry e.end
want_block (slot c) = want_part c
want_block (indentless_entry c o is e) = AfterIndentlessEntry e.end

abbrev pub want_place : Place → automaton.Purpose
want_place (block c) = want_block c
want_place (flow_entry c) = automaton.AtState
want_place (flow_key (open_collection p o sequence s is) k) = automaton.AtState
want_place (flow_key (open_collection p o mapping s is) k) = AfterFlowMappingKey
want_place (flow_value (open_collection p o sequence s is) k x v) = AfterFlowSequenceValue
want_place (flow_value (open_collection p o mapping s is) k x v) = AfterFlowMappingValue

-- which nodes may stand at a place
abbrev pub block_kind : BlockPlace → NodePlace
block_kind (root t) = Block
block_kind (entry c o m is e) = Block
block_kind (slot c) = BlockOrIndentlessSequence
block_kind (indentless_entry c o is e) = Block

abbrev pub kind : Place → NodePlace
kind (block c) = block_kind c
kind (flow_entry c) = Flow
kind (flow_key c k) = Flow
kind (flow_value c k x v) = Flow

abbrev pub has_anchor : Properties → Bool
has_anchor (tag h m) = false
has_anchor _ = true

abbrev pub has_tag : Properties → Bool
has_tag (anchor a m) = false
has_tag _ = true

abbrev pub tag_mark_of : Properties → Mark
tag_mark_of (anchor a m) = zero_mark
tag_mark_of (tag h m) = m.start
tag_mark_of (anchor_tag a m h n) = n.start
tag_mark_of (tag_anchor h m a n) = m.start

abbrev pub properties_of : Properties → automaton.PropertiesRead
properties_of ps = record {
  anchor = has_anchor ps;
  tag = has_tag ps;
  start_mark = first_of_properties ps;
  end_mark = last_of_properties ps;
  tag_mark = tag_mark_of ps;
}

abbrev pub tag_name : Properties → Option TagName
tag_name (anchor a m) = None
tag_name (tag h m) = Some h
tag_name (anchor_tag a m h n) = Some h
tag_name (tag_anchor h m a n) = Some h

abbrev pub texts_of : Properties → Texts
texts_of ps = record no_texts { anchor = anchor_of (Some ps); tag = tag_name ps }

abbrev pub config : yaml_parser_state_t → List yaml_parser_state_t → List Mark → Handles → Machine
config s ss ms hs = record {
  state = s;
  states = ss;
  marks = ms;
  handles = hs;
  behind_document_end = false;
  fault = no_fault;
}

-- where a node is due, with its place pushed or not
abbrev pub node_config : Place → Machine
node_config p = config (state_place p) (states_place p) (marks_place p) (handles_of (declared p))

abbrev pub place_config : Place → Machine
place_config p = config (state_place p) (unpushed_place p) (marks_place p) (handles_of (declared p))

abbrev pub ended_free : Free → Bool
ended_free (opened e m) = false
ended_free (ended e) = true

abbrev pub free_config : Free → Handles → Machine
free_config f hs = record (config st.YAML_PARSE_IMPLICIT_DOCUMENT_START_STATE [] [] hs)
    { behind_document_end = ended_free f }

-- where a document's start is due, after directives
abbrev pub headed_config : Before → Handles → Machine
headed_config (free f) hs = free_config f hs
headed_config (following d) hs = config st.YAML_PARSE_DOCUMENT_START_STATE [] [] hs

-- the directives of the last document
abbrev pub documents_directives : Documents → Directives
documents_directives (implicit f n) = no_directives
documents_directives (explicit b ds m x) = ds

abbrev pub between_config : Before → Machine
between_config (free f) = free_config f no_handles
between_config (following d) = config st.YAML_PARSE_DOCUMENT_END_STATE [] [] (handles_of (documents_directives d))

abbrev pub parts_state : Parts → yaml_parser_state_t
parts_state no_parts = st.YAML_PARSE_BLOCK_MAPPING_KEY_STATE
parts_state (part ps k v x) = after_state k

abbrev pub member_state : Open → FlowMember → yaml_parser_state_t
member_state (open_collection p o sequence s is) (single n) = st.YAML_PARSE_FLOW_SEQUENCE_ENTRY_STATE
member_state (open_collection p o mapping s is) (single n) = st.YAML_PARSE_FLOW_MAPPING_EMPTY_VALUE_STATE
member_state (open_collection p o sequence s is) (pair k x no_value) =
    st.YAML_PARSE_FLOW_SEQUENCE_ENTRY_MAPPING_VALUE_STATE
member_state (open_collection p o mapping s is) (pair k x no_value) = st.YAML_PARSE_FLOW_MAPPING_VALUE_STATE
member_state (open_collection p o sequence s is) (pair k x (with_value v y)) =
    st.YAML_PARSE_FLOW_SEQUENCE_ENTRY_MAPPING_END_STATE
member_state (open_collection p o mapping s is) (pair k x (with_value v y)) = st.YAML_PARSE_FLOW_MAPPING_KEY_STATE

abbrev pub done_config : Stream → Machine
done_config (whole b m) = record (headed_config b no_handles) { state = st.YAML_PARSE_END_STATE }

abbrev pub directive_texts : Directives → Texts
directive_texts ds = record no_texts { version = version_of ds; tag_directives = tag_directives_of ds }

abbrev pub after_directives : Mark → Directives → Want
after_directives start ds
    = record { next = AfterDirective start (is_some (version_of ds)); texts = directive_texts ds }

abbrev pub wants : automaton.Purpose → Want
wants n = record { next = n; texts = no_texts }

abbrev pub want_of : Position → Want
want_of (headed b ds d) = after_directives (first_directive ds (directive_start d)) (directive ds d)
want_of (due p None) = wants (want_place p)
want_of (due p (Some ps)) = record { next = AfterProperties (kind p) (properties_of ps); texts = texts_of ps }
want_of _ = AtState

abbrev pub config_of : Position → Machine
config_of unopened = config st.YAML_PARSE_STREAM_START_STATE [] [] no_handles
config_of (between b) = between_config b
config_of (headed b ds d) = headed_config b (handles_of (directive ds d))
config_of (due p None) = place_config p
config_of (due p (Some ps)) = node_config p
config_of (in_sequence c o m is) = config st.YAML_PARSE_BLOCK_SEQUENCE_ENTRY_STATE (states_block c)
    (m.start ∷ marks_block c) (handles_of (declared_block c))
config_of (in_mapping c o m ps) = config (parts_state ps) (states_block c) (m.start ∷ marks_block c)
    (handles_of (declared_block c))
config_of (in_indentless c o is e n) = config st.YAML_PARSE_INDENTLESS_SEQUENCE_ENTRY_STATE (states_part c)
    (marks_part c) (handles_of (declared_part c))
config_of (flow_due c) = place_config (flow_entry c)
config_of (flow_keyed c k x) = config (member_state c (pair k x no_value)) (around c) (marks_open c)
    (handles_of (declared_open c))
config_of (flow_after c e) = config (member_state c e) (around c) (marks_open c) (handles_of (declared_open c))
config_of (done t) = done_config t

-- what is left when a token is spent
pub data End : Type 0 where
  waits : Want → Machine → End
  fails : Fault → End
  stuck : End

-- all that a token makes the machine do, and after its events r; n bounds the steps
abbrev pub emit : Event → List Event × End → List Event × End
emit e (es, x) = (e ∷ es, x)

abbrev pub keeps_on : Option Token → Machine → (Machine → Token → List Event × End) → List Event → List Event × End
keeps_on None c f r = (r, waits AtState c)
keeps_on (Some t) c f r = f c t

abbrev pub after : Progressed → (Machine → Token → List Event × End) → List Event → List Event × End
after (Err x) f r = (r, fails x)
after (Ok (Wants w c)) f r = (r, waits w c)
after (Ok (Given e c)) f r = emit e (keeps_on c.lookahead c.machine f r)

abbrev pub spends : ℕ → Want → Machine → Content → Marks → List Event → List Event × End
spends zero w c k m r = (r, stuck)
spends (suc n) w c k m r =
    after (step_at w c (tok k m) k) (λ (d : Machine) (t : Token). spends n AtState d t.content (marks_of t) r) r

-- what the grammar says of it
abbrev pub directive_ends : Bool → Directives → Content → Marks → End → End
directive_ends true ds k m x = x
directive_ends false ds k m x = fails (directive_fault ds k m.start)

abbrev pub go_ends : Directives → Content → Marks → End → End
go_ends ds (VersionDirective v) m x = directive_ends (keeps_order ds no_directives (VersionDirective v)) ds
    (VersionDirective v) m x
go_ends ds (TagDirective h) m x = directive_ends (keeps_order ds no_directives (TagDirective h)) ds (TagDirective h) m x
go_ends ds k m x = x

abbrev pub step_ends : Step → Directives → Content → Marks → End
step_ends (goes q) ds k m = go_ends ds k m (waits (want_of q) (config_of q))
step_ends (bad c) ds k m = fails (fault c k m.start)
step_ends over ds k m = fails (document_start_fault m.start)

abbrev pub ends : Position → Content → Marks → End
ends q k m = step_ends (step q k m) (pending q) k m

-- Which types of token may come next (docs/DEFINITIONS.md, "Acceptable tokens"). In each function k is the type of the
-- token.
use Rattle.std.specs.Prelude.{◌==◌, ◌||◌, List, Bool, true, false, not}
use Rattle.std.specs.Int.{bit_at}
use Rattle.libyaml_types.specs.Numbers.{token_type_number}
use Rattle.libyaml_types.specs.declared.enums.yaml_token_type_t.{yaml_token_type_t}
use Rattle.libyaml_types.specs.declared.enums.yaml_token_type_t.TheVariants as kinds
use Rattle.libyaml_types.specs.declared.enums.yaml_parser_state_t.{yaml_parser_state_t}
use Rattle.libyaml_types.specs.declared.enums.yaml_parser_state_t.TheVariants as st
use Rattle.libyaml_automaton.specs.declared.node_place.NodePlace.{NodePlace}
use Rattle.libyaml_automaton.specs.declared.node_place.NodePlace.TheVariants.{Block, BlockOrIndentlessSequence, Flow}
use Rattle.libyaml_automaton.specs.declared.slot.Slot.{Slot}
use Rattle.libyaml_automaton.specs.declared.slot.Slot.TheVariants as slot
use Rattle.libyaml_automaton.specs.declared.token_types.TokenTypes.{TokenTypes}
use Rattle.libyaml_automaton.specs.Automaton.{Purpose, AtState, AfterDirective, AfterProperties, AfterBlockEntry, AfterIndentlessEntry, AfterKey, AfterValue, AfterFlowSequenceValue, AfterFlowMappingKey, AfterFlowMappingValue, is_block_place, may_be_indentless}
use Rattle.libyaml_automaton.specs.Config.{Stacks, top, below}
use Rattle.libyaml_automaton.specs.Slots.{is_nothing_before, slot_place}

-- the set holds this type: its bit is set
abbrev pub has : TokenTypes → yaml_token_type_t → Bool
has s k = bit_at s.bits (token_type_number k) == 1

abbrev pub is_same : (a k : yaml_token_type_t) → Bool
is_same a k = token_type_number k == token_type_number a

-- what begins a node's content, after its properties
abbrev pub begins_content : NodePlace → yaml_token_type_t → Bool
begins_content p kinds.YAML_SCALAR_TOKEN = true
begins_content p kinds.YAML_FLOW_SEQUENCE_START_TOKEN = true
begins_content p kinds.YAML_FLOW_MAPPING_START_TOKEN = true
begins_content p kinds.YAML_BLOCK_SEQUENCE_START_TOKEN = is_block_place p
begins_content p kinds.YAML_BLOCK_MAPPING_START_TOKEN = is_block_place p
begins_content p kinds.YAML_BLOCK_ENTRY_TOKEN = may_be_indentless p
begins_content p _ = false

-- and a node
abbrev pub begins_node : NodePlace → yaml_token_type_t → Bool
begins_node p kinds.YAML_ALIAS_TOKEN = true
begins_node p kinds.YAML_ANCHOR_TOKEN = true
begins_node p kinds.YAML_TAG_TOKEN = true
begins_node p k = begins_content p k

abbrev pub taken_at_slot : Slot → yaml_token_type_t → Bool
taken_at_slot s k = is_nothing_before s k || begins_node (slot_place s) k

-- what begins an explicit document, or ends the stream
abbrev pub begins_explicit : yaml_token_type_t → Bool
begins_explicit kinds.YAML_VERSION_DIRECTIVE_TOKEN = true
begins_explicit kinds.YAML_TAG_DIRECTIVE_TOKEN = true
begins_explicit kinds.YAML_DOCUMENT_START_TOKEN = true
begins_explicit kinds.YAML_STREAM_END_TOKEN = true
begins_explicit _ = false

abbrev pub taken_after_document : yaml_token_type_t → Bool
taken_after_document kinds.YAML_DOCUMENT_END_TOKEN = true
taken_after_document k = begins_explicit k

abbrev pub before_document : (behind_document_end : Bool) → yaml_token_type_t → Bool
before_document b kinds.YAML_DOCUMENT_END_TOKEN = b
before_document b k = begins_explicit k || begins_node Block k

-- what goes on or ends a collection
abbrev pub after_item : yaml_token_type_t → Bool
after_item kinds.YAML_BLOCK_ENTRY_TOKEN = true
after_item kinds.YAML_BLOCK_END_TOKEN = true
after_item _ = false

abbrev pub after_part : yaml_token_type_t → Bool
after_part kinds.YAML_KEY_TOKEN = true
after_part kinds.YAML_VALUE_TOKEN = true
after_part kinds.YAML_BLOCK_END_TOKEN = true
after_part _ = false

abbrev pub after_entry : yaml_token_type_t → Bool
after_entry kinds.YAML_FLOW_ENTRY_TOKEN = true
after_entry kinds.YAML_FLOW_SEQUENCE_END_TOKEN = true
after_entry _ = false

abbrev pub after_pair : yaml_token_type_t → Bool
after_pair kinds.YAML_FLOW_ENTRY_TOKEN = true
after_pair kinds.YAML_FLOW_MAPPING_END_TOKEN = true
after_pair _ = false

abbrev pub at_entry : yaml_token_type_t → Bool
at_entry kinds.YAML_KEY_TOKEN = true
at_entry kinds.YAML_FLOW_SEQUENCE_END_TOKEN = true
at_entry k = begins_node Flow k

abbrev pub at_pair : yaml_token_type_t → Bool
at_pair kinds.YAML_KEY_TOKEN = true
at_pair kinds.YAML_FLOW_MAPPING_END_TOKEN = true
at_pair k = begins_node Flow k

-- in each state but that of a sequence without tokens of its own
abbrev pub taken_in_state : yaml_parser_state_t → (behind_document_end : Bool) → yaml_token_type_t → Bool
taken_in_state st.YAML_PARSE_STREAM_START_STATE b k = is_same kinds.YAML_STREAM_START_TOKEN k
taken_in_state st.YAML_PARSE_IMPLICIT_DOCUMENT_START_STATE b k = before_document b k
taken_in_state st.YAML_PARSE_DOCUMENT_START_STATE b k = begins_explicit k
taken_in_state st.YAML_PARSE_DOCUMENT_CONTENT_STATE b k = taken_at_slot slot.Document k
taken_in_state st.YAML_PARSE_DOCUMENT_END_STATE b k = taken_after_document k
taken_in_state st.YAML_PARSE_BLOCK_NODE_STATE b k = begins_node Block k
taken_in_state st.YAML_PARSE_BLOCK_NODE_OR_INDENTLESS_SEQUENCE_STATE b k = begins_node BlockOrIndentlessSequence k
taken_in_state st.YAML_PARSE_FLOW_NODE_STATE b k = begins_node Flow k
taken_in_state st.YAML_PARSE_BLOCK_SEQUENCE_ENTRY_STATE b k = after_item k
taken_in_state st.YAML_PARSE_BLOCK_MAPPING_KEY_STATE b k = after_part k
taken_in_state st.YAML_PARSE_BLOCK_MAPPING_VALUE_STATE b k = after_part k
taken_in_state st.YAML_PARSE_FLOW_SEQUENCE_FIRST_ENTRY_STATE b k = at_entry k
taken_in_state st.YAML_PARSE_FLOW_SEQUENCE_ENTRY_STATE b k = after_entry k
taken_in_state st.YAML_PARSE_FLOW_SEQUENCE_ENTRY_MAPPING_KEY_STATE b k = taken_at_slot slot.PairKey k
taken_in_state st.YAML_PARSE_FLOW_SEQUENCE_ENTRY_MAPPING_VALUE_STATE b k = is_same kinds.YAML_VALUE_TOKEN k || after_entry k
taken_in_state st.YAML_PARSE_FLOW_SEQUENCE_ENTRY_MAPPING_END_STATE b k = after_entry k
taken_in_state st.YAML_PARSE_FLOW_MAPPING_FIRST_KEY_STATE b k = at_pair k
taken_in_state st.YAML_PARSE_FLOW_MAPPING_KEY_STATE b k = after_pair k
taken_in_state st.YAML_PARSE_FLOW_MAPPING_VALUE_STATE b k = is_same kinds.YAML_VALUE_TOKEN k || after_pair k
taken_in_state st.YAML_PARSE_FLOW_MAPPING_EMPTY_VALUE_STATE b k = after_pair k
taken_in_state _ b k = false

-- such a sequence goes on, or ends before what the state below it takes
abbrev pub taken_in_stack : yaml_parser_state_t → List yaml_parser_state_t → (behind_document_end : Bool) → yaml_token_type_t → Bool
taken_in_stack st.YAML_PARSE_INDENTLESS_SEQUENCE_ENTRY_STATE ss b k = is_same kinds.YAML_BLOCK_ENTRY_TOKEN k || taken_in_state (top ss) b k
taken_in_stack s ss b k = taken_in_state s b k

-- after a directive; a second version is none
abbrev pub taken_after_directive : (has_version : Bool) → yaml_token_type_t → Bool
taken_after_directive v kinds.YAML_VERSION_DIRECTIVE_TOKEN = not v
taken_after_directive v kinds.YAML_TAG_DIRECTIVE_TOKEN = true
taken_after_directive v kinds.YAML_DOCUMENT_START_TOKEN = true
taken_after_directive v _ = false

-- after properties: a further one, or the content
abbrev pub taken_after_properties : NodePlace → (has_anchor has_tag : Bool) → yaml_token_type_t → Bool
taken_after_properties p a t kinds.YAML_ANCHOR_TOKEN = not a
taken_after_properties p a t kinds.YAML_TAG_TOKEN = not t
taken_after_properties p a t k = begins_content p k

-- a token of type k may come next; after properties alone what follows a node may
abbrev pub acceptable : Purpose → Stacks → yaml_token_type_t → Bool
acceptable AtState c k = taken_in_stack c.state c.states c.behind_document_end k
acceptable (AfterDirective start v) c k = taken_after_directive v k
acceptable (AfterProperties p r) c k
    = taken_after_properties p r.anchor r.tag k || taken_in_stack (top c.states) (below c.states) c.behind_document_end k
acceptable (AfterBlockEntry end) c k = taken_at_slot slot.BlockEntry k
acceptable (AfterIndentlessEntry end) c k = taken_at_slot slot.IndentlessEntry k
acceptable (AfterKey end) c k = taken_at_slot slot.BlockKey k
acceptable (AfterValue end) c k = taken_at_slot slot.BlockValue k
acceptable AfterFlowSequenceValue c k = taken_at_slot slot.PairValue k
acceptable AfterFlowMappingKey c k = taken_at_slot slot.FlowKey k
acceptable AfterFlowMappingValue c k = taken_at_slot slot.FlowValue k

-- The types of token that complete what was taken (docs/DEFINITIONS.md, "Acceptable tokens").
use Rattle.std.specs.Prelude.{◌∷◌, List, [], Option, Some, None}
use Rattle.std.specs.List.{cons_option}
use Rattle.libyaml_types.specs.declared.enums.yaml_token_type_t.{yaml_token_type_t}
use Rattle.libyaml_types.specs.declared.enums.yaml_token_type_t.TheVariants as kinds
use Rattle.libyaml_types.specs.declared.enums.yaml_parser_state_t.{yaml_parser_state_t}
use Rattle.libyaml_types.specs.declared.enums.yaml_parser_state_t.TheVariants as st
use Rattle.libyaml_automaton.specs.Automaton.{Purpose, AtState, AfterDirective, AfterProperties, AfterBlockEntry, AfterIndentlessEntry, AfterKey, AfterValue, AfterFlowSequenceValue, AfterFlowMappingKey, AfterFlowMappingValue}
use Rattle.libyaml_automaton.specs.Config.{Stacks}

-- what ends the collection or the stream in which such a state stands
abbrev pub closer_of : yaml_parser_state_t → Option yaml_token_type_t
closer_of st.YAML_PARSE_STREAM_START_STATE = Some kinds.YAML_STREAM_END_TOKEN
closer_of st.YAML_PARSE_IMPLICIT_DOCUMENT_START_STATE = Some kinds.YAML_STREAM_END_TOKEN
closer_of st.YAML_PARSE_DOCUMENT_START_STATE = Some kinds.YAML_STREAM_END_TOKEN
closer_of st.YAML_PARSE_DOCUMENT_END_STATE = Some kinds.YAML_STREAM_END_TOKEN
closer_of st.YAML_PARSE_BLOCK_SEQUENCE_ENTRY_STATE = Some kinds.YAML_BLOCK_END_TOKEN
closer_of st.YAML_PARSE_BLOCK_MAPPING_KEY_STATE = Some kinds.YAML_BLOCK_END_TOKEN
closer_of st.YAML_PARSE_BLOCK_MAPPING_VALUE_STATE = Some kinds.YAML_BLOCK_END_TOKEN
closer_of st.YAML_PARSE_FLOW_SEQUENCE_FIRST_ENTRY_STATE = Some kinds.YAML_FLOW_SEQUENCE_END_TOKEN
closer_of st.YAML_PARSE_FLOW_SEQUENCE_ENTRY_STATE = Some kinds.YAML_FLOW_SEQUENCE_END_TOKEN
closer_of st.YAML_PARSE_FLOW_SEQUENCE_ENTRY_MAPPING_KEY_STATE = Some kinds.YAML_FLOW_SEQUENCE_END_TOKEN
closer_of st.YAML_PARSE_FLOW_SEQUENCE_ENTRY_MAPPING_VALUE_STATE = Some kinds.YAML_FLOW_SEQUENCE_END_TOKEN
closer_of st.YAML_PARSE_FLOW_SEQUENCE_ENTRY_MAPPING_END_STATE = Some kinds.YAML_FLOW_SEQUENCE_END_TOKEN
closer_of st.YAML_PARSE_FLOW_MAPPING_FIRST_KEY_STATE = Some kinds.YAML_FLOW_MAPPING_END_TOKEN
closer_of st.YAML_PARSE_FLOW_MAPPING_KEY_STATE = Some kinds.YAML_FLOW_MAPPING_END_TOKEN
closer_of st.YAML_PARSE_FLOW_MAPPING_VALUE_STATE = Some kinds.YAML_FLOW_MAPPING_END_TOKEN
closer_of st.YAML_PARSE_FLOW_MAPPING_EMPTY_VALUE_STATE = Some kinds.YAML_FLOW_MAPPING_END_TOKEN
closer_of _ = None

-- what ends all that is open around a node, from the inside out
abbrev pub closings : List yaml_parser_state_t → List yaml_token_type_t
closings [] = []
closings (s ∷ ss) = cons_option (closer_of s) (closings ss)

-- what has to come first: the stream's start, or the node that is due
abbrev pub due_in_state : yaml_parser_state_t → Option yaml_token_type_t
due_in_state st.YAML_PARSE_STREAM_START_STATE = Some kinds.YAML_STREAM_START_TOKEN
due_in_state st.YAML_PARSE_DOCUMENT_CONTENT_STATE = Some kinds.YAML_SCALAR_TOKEN
due_in_state st.YAML_PARSE_BLOCK_NODE_STATE = Some kinds.YAML_SCALAR_TOKEN
due_in_state st.YAML_PARSE_BLOCK_NODE_OR_INDENTLESS_SEQUENCE_STATE = Some kinds.YAML_SCALAR_TOKEN
due_in_state st.YAML_PARSE_FLOW_NODE_STATE = Some kinds.YAML_SCALAR_TOKEN
due_in_state st.YAML_PARSE_FLOW_SEQUENCE_ENTRY_MAPPING_KEY_STATE = Some kinds.YAML_SCALAR_TOKEN
due_in_state _ = None

-- after directives the document's start
abbrev pub due_first : Purpose → yaml_parser_state_t → Option yaml_token_type_t
due_first AtState s = due_in_state s
due_first (AfterDirective start v) s = Some kinds.YAML_DOCUMENT_START_TOKEN
due_first _ s = Some kinds.YAML_SCALAR_TOKEN

-- and then what ends the innermost collection, whose state is not on the stack
abbrev pub closing_here : Purpose → yaml_parser_state_t → Option yaml_token_type_t
closing_here AtState s = closer_of s
closing_here (AfterDirective start v) s = Some kinds.YAML_STREAM_END_TOKEN
closing_here (AfterProperties p r) s = None
closing_here (AfterBlockEntry end) s = Some kinds.YAML_BLOCK_END_TOKEN
closing_here (AfterIndentlessEntry end) s = None
closing_here (AfterKey end) s = Some kinds.YAML_BLOCK_END_TOKEN
closing_here (AfterValue end) s = Some kinds.YAML_BLOCK_END_TOKEN
closing_here AfterFlowSequenceValue s = Some kinds.YAML_FLOW_SEQUENCE_END_TOKEN
closing_here AfterFlowMappingKey s = Some kinds.YAML_FLOW_MAPPING_END_TOKEN
closing_here AfterFlowMappingValue s = Some kinds.YAML_FLOW_MAPPING_END_TOKEN

abbrev pub completing : Purpose → Stacks → List yaml_token_type_t
completing p c = cons_option (due_first p c.state) (cons_option (closing_here p c.state) (closings c.states))

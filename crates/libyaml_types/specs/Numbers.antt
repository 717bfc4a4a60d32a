-- The numbers of the enums: their order in libyaml, from 0 (docs/DEFINITIONS.md, "Numbers").
use Rattle.std.specs.Prelude.{ℕ}
use Rattle.libyaml_types.specs.declared.enums.yaml_encoding_t.{yaml_encoding_t}
use Rattle.libyaml_types.specs.declared.enums.yaml_encoding_t.TheVariants.{YAML_ANY_ENCODING, YAML_UTF8_ENCODING, YAML_UTF16LE_ENCODING, YAML_UTF16BE_ENCODING}
use Rattle.libyaml_types.specs.declared.enums.yaml_break_t.{yaml_break_t}
use Rattle.libyaml_types.specs.declared.enums.yaml_break_t.TheVariants.{YAML_ANY_BREAK, YAML_CR_BREAK, YAML_LN_BREAK, YAML_CRLN_BREAK}
use Rattle.libyaml_types.specs.declared.enums.yaml_error_type_t.{yaml_error_type_t}
use Rattle.libyaml_types.specs.declared.enums.yaml_error_type_t.TheVariants.{YAML_NO_ERROR, YAML_MEMORY_ERROR, YAML_READER_ERROR, YAML_SCANNER_ERROR, YAML_PARSER_ERROR, YAML_COMPOSER_ERROR, YAML_WRITER_ERROR, YAML_EMITTER_ERROR}
use Rattle.libyaml_types.specs.declared.enums.yaml_scalar_style_t.{yaml_scalar_style_t}
use Rattle.libyaml_types.specs.declared.enums.yaml_scalar_style_t.TheVariants.{YAML_ANY_SCALAR_STYLE, YAML_PLAIN_SCALAR_STYLE, YAML_SINGLE_QUOTED_SCALAR_STYLE, YAML_DOUBLE_QUOTED_SCALAR_STYLE, YAML_LITERAL_SCALAR_STYLE, YAML_FOLDED_SCALAR_STYLE}
use Rattle.libyaml_types.specs.declared.enums.yaml_sequence_style_t.{yaml_sequence_style_t}
use Rattle.libyaml_types.specs.declared.enums.yaml_sequence_style_t.TheVariants.{YAML_ANY_SEQUENCE_STYLE, YAML_BLOCK_SEQUENCE_STYLE, YAML_FLOW_SEQUENCE_STYLE}
use Rattle.libyaml_types.specs.declared.enums.yaml_mapping_style_t.{yaml_mapping_style_t}
use Rattle.libyaml_types.specs.declared.enums.yaml_mapping_style_t.TheVariants.{YAML_ANY_MAPPING_STYLE, YAML_BLOCK_MAPPING_STYLE, YAML_FLOW_MAPPING_STYLE}
use Rattle.libyaml_types.specs.declared.enums.yaml_token_type_t.{yaml_token_type_t}
use Rattle.libyaml_types.specs.declared.enums.yaml_token_type_t.TheVariants.{YAML_NO_TOKEN, YAML_STREAM_START_TOKEN, YAML_STREAM_END_TOKEN, YAML_VERSION_DIRECTIVE_TOKEN, YAML_TAG_DIRECTIVE_TOKEN, YAML_DOCUMENT_START_TOKEN, YAML_DOCUMENT_END_TOKEN, YAML_BLOCK_SEQUENCE_START_TOKEN}
use Rattle.libyaml_types.specs.declared.enums.yaml_token_type_t.TheVariants.{YAML_BLOCK_MAPPING_START_TOKEN, YAML_BLOCK_END_TOKEN, YAML_FLOW_SEQUENCE_START_TOKEN, YAML_FLOW_SEQUENCE_END_TOKEN, YAML_FLOW_MAPPING_START_TOKEN, YAML_FLOW_MAPPING_END_TOKEN, YAML_BLOCK_ENTRY_TOKEN, YAML_FLOW_ENTRY_TOKEN}
use Rattle.libyaml_types.specs.declared.enums.yaml_token_type_t.TheVariants.{YAML_KEY_TOKEN, YAML_VALUE_TOKEN, YAML_ALIAS_TOKEN, YAML_ANCHOR_TOKEN, YAML_TAG_TOKEN, YAML_SCALAR_TOKEN}
use Rattle.libyaml_types.specs.declared.enums.yaml_event_type_t.{yaml_event_type_t}
use Rattle.libyaml_types.specs.declared.enums.yaml_event_type_t.TheVariants.{YAML_NO_EVENT, YAML_STREAM_START_EVENT, YAML_STREAM_END_EVENT, YAML_DOCUMENT_START_EVENT, YAML_DOCUMENT_END_EVENT, YAML_ALIAS_EVENT, YAML_SCALAR_EVENT, YAML_SEQUENCE_START_EVENT, YAML_SEQUENCE_END_EVENT}
use Rattle.libyaml_types.specs.declared.enums.yaml_event_type_t.TheVariants.{YAML_MAPPING_START_EVENT, YAML_MAPPING_END_EVENT}
use Rattle.libyaml_types.specs.declared.enums.yaml_node_type_t.{yaml_node_type_t}
use Rattle.libyaml_types.specs.declared.enums.yaml_node_type_t.TheVariants.{YAML_NO_NODE, YAML_SCALAR_NODE, YAML_SEQUENCE_NODE, YAML_MAPPING_NODE}
use Rattle.libyaml_types.specs.declared.enums.yaml_parser_state_t.{yaml_parser_state_t}
use Rattle.libyaml_types.specs.declared.enums.yaml_parser_state_t.TheVariants.{YAML_PARSE_STREAM_START_STATE, YAML_PARSE_IMPLICIT_DOCUMENT_START_STATE, YAML_PARSE_DOCUMENT_START_STATE, YAML_PARSE_DOCUMENT_CONTENT_STATE, YAML_PARSE_DOCUMENT_END_STATE, YAML_PARSE_BLOCK_NODE_STATE}
use Rattle.libyaml_types.specs.declared.enums.yaml_parser_state_t.TheVariants.{YAML_PARSE_BLOCK_NODE_OR_INDENTLESS_SEQUENCE_STATE, YAML_PARSE_FLOW_NODE_STATE, YAML_PARSE_BLOCK_SEQUENCE_FIRST_ENTRY_STATE, YAML_PARSE_BLOCK_SEQUENCE_ENTRY_STATE, YAML_PARSE_INDENTLESS_SEQUENCE_ENTRY_STATE}
use Rattle.libyaml_types.specs.declared.enums.yaml_parser_state_t.TheVariants.{YAML_PARSE_BLOCK_MAPPING_FIRST_KEY_STATE, YAML_PARSE_BLOCK_MAPPING_KEY_STATE, YAML_PARSE_BLOCK_MAPPING_VALUE_STATE, YAML_PARSE_FLOW_SEQUENCE_FIRST_ENTRY_STATE, YAML_PARSE_FLOW_SEQUENCE_ENTRY_STATE}
use Rattle.libyaml_types.specs.declared.enums.yaml_parser_state_t.TheVariants.{YAML_PARSE_FLOW_SEQUENCE_ENTRY_MAPPING_KEY_STATE, YAML_PARSE_FLOW_SEQUENCE_ENTRY_MAPPING_VALUE_STATE, YAML_PARSE_FLOW_SEQUENCE_ENTRY_MAPPING_END_STATE, YAML_PARSE_FLOW_MAPPING_FIRST_KEY_STATE}
use Rattle.libyaml_types.specs.declared.enums.yaml_parser_state_t.TheVariants.{YAML_PARSE_FLOW_MAPPING_KEY_STATE, YAML_PARSE_FLOW_MAPPING_VALUE_STATE, YAML_PARSE_FLOW_MAPPING_EMPTY_VALUE_STATE, YAML_PARSE_END_STATE}
use Rattle.libyaml_types.specs.declared.refusal.yaml_refusal_t.{yaml_refusal_t}
use Rattle.libyaml_types.specs.declared.refusal.yaml_refusal_t.TheVariants.{NotUtf8, Memory, TooManyNodes}

-- yaml_encoding_t
abbrev pub encoding_number : yaml_encoding_t → ℕ
encoding_number YAML_ANY_ENCODING = 0
encoding_number YAML_UTF8_ENCODING = 1
encoding_number YAML_UTF16LE_ENCODING = 2
encoding_number YAML_UTF16BE_ENCODING = 3

-- yaml_break_t
abbrev pub break_number : yaml_break_t → ℕ
break_number YAML_ANY_BREAK = 0
break_number YAML_CR_BREAK = 1
break_number YAML_LN_BREAK = 2
break_number YAML_CRLN_BREAK = 3

-- yaml_error_type_t
abbrev pub error_type_number : yaml_error_type_t → ℕ
error_type_number YAML_NO_ERROR = 0
error_type_number YAML_MEMORY_ERROR = 1
error_type_number YAML_READER_ERROR = 2
error_type_number YAML_SCANNER_ERROR = 3
error_type_number YAML_PARSER_ERROR = 4
error_type_number YAML_COMPOSER_ERROR = 5
error_type_number YAML_WRITER_ERROR = 6
error_type_number YAML_EMITTER_ERROR = 7

-- yaml_scalar_style_t
abbrev pub scalar_style_number : yaml_scalar_style_t → ℕ
scalar_style_number YAML_ANY_SCALAR_STYLE = 0
scalar_style_number YAML_PLAIN_SCALAR_STYLE = 1
scalar_style_number YAML_SINGLE_QUOTED_SCALAR_STYLE = 2
scalar_style_number YAML_DOUBLE_QUOTED_SCALAR_STYLE = 3
scalar_style_number YAML_LITERAL_SCALAR_STYLE = 4
scalar_style_number YAML_FOLDED_SCALAR_STYLE = 5

-- yaml_sequence_style_t
abbrev pub sequence_style_number : yaml_sequence_style_t → ℕ
sequence_style_number YAML_ANY_SEQUENCE_STYLE = 0
sequence_style_number YAML_BLOCK_SEQUENCE_STYLE = 1
sequence_style_number YAML_FLOW_SEQUENCE_STYLE = 2

-- yaml_mapping_style_t
abbrev pub mapping_style_number : yaml_mapping_style_t → ℕ
mapping_style_number YAML_ANY_MAPPING_STYLE = 0
mapping_style_number YAML_BLOCK_MAPPING_STYLE = 1
mapping_style_number YAML_FLOW_MAPPING_STYLE = 2

-- yaml_token_type_t
abbrev pub token_type_number : yaml_token_type_t → ℕ
token_type_number YAML_NO_TOKEN = 0
token_type_number YAML_STREAM_START_TOKEN = 1
token_type_number YAML_STREAM_END_TOKEN = 2
token_type_number YAML_VERSION_DIRECTIVE_TOKEN = 3
token_type_number YAML_TAG_DIRECTIVE_TOKEN = 4
token_type_number YAML_DOCUMENT_START_TOKEN = 5
token_type_number YAML_DOCUMENT_END_TOKEN = 6
token_type_number YAML_BLOCK_SEQUENCE_START_TOKEN = 7
token_type_number YAML_BLOCK_MAPPING_START_TOKEN = 8
token_type_number YAML_BLOCK_END_TOKEN = 9
token_type_number YAML_FLOW_SEQUENCE_START_TOKEN = 10
token_type_number YAML_FLOW_SEQUENCE_END_TOKEN = 11
token_type_number YAML_FLOW_MAPPING_START_TOKEN = 12
token_type_number YAML_FLOW_MAPPING_END_TOKEN = 13
token_type_number YAML_BLOCK_ENTRY_TOKEN = 14
token_type_number YAML_FLOW_ENTRY_TOKEN = 15
token_type_number YAML_KEY_TOKEN = 16
token_type_number YAML_VALUE_TOKEN = 17
token_type_number YAML_ALIAS_TOKEN = 18
token_type_number YAML_ANCHOR_TOKEN = 19
token_type_number YAML_TAG_TOKEN = 20
token_type_number YAML_SCALAR_TOKEN = 21

-- yaml_event_type_t
abbrev pub event_type_number : yaml_event_type_t → ℕ
event_type_number YAML_NO_EVENT = 0
event_type_number YAML_STREAM_START_EVENT = 1
event_type_number YAML_STREAM_END_EVENT = 2
event_type_number YAML_DOCUMENT_START_EVENT = 3
event_type_number YAML_DOCUMENT_END_EVENT = 4
event_type_number YAML_ALIAS_EVENT = 5
event_type_number YAML_SCALAR_EVENT = 6
event_type_number YAML_SEQUENCE_START_EVENT = 7
event_type_number YAML_SEQUENCE_END_EVENT = 8
event_type_number YAML_MAPPING_START_EVENT = 9
event_type_number YAML_MAPPING_END_EVENT = 10

-- yaml_node_type_t
abbrev pub node_type_number : yaml_node_type_t → ℕ
node_type_number YAML_NO_NODE = 0
node_type_number YAML_SCALAR_NODE = 1
node_type_number YAML_SEQUENCE_NODE = 2
node_type_number YAML_MAPPING_NODE = 3

-- yaml_parser_state_t
abbrev pub parser_state_number : yaml_parser_state_t → ℕ
parser_state_number YAML_PARSE_STREAM_START_STATE = 0
parser_state_number YAML_PARSE_IMPLICIT_DOCUMENT_START_STATE = 1
parser_state_number YAML_PARSE_DOCUMENT_START_STATE = 2
parser_state_number YAML_PARSE_DOCUMENT_CONTENT_STATE = 3
parser_state_number YAML_PARSE_DOCUMENT_END_STATE = 4
parser_state_number YAML_PARSE_BLOCK_NODE_STATE = 5
parser_state_number YAML_PARSE_BLOCK_NODE_OR_INDENTLESS_SEQUENCE_STATE = 6
parser_state_number YAML_PARSE_FLOW_NODE_STATE = 7
parser_state_number YAML_PARSE_BLOCK_SEQUENCE_FIRST_ENTRY_STATE = 8
parser_state_number YAML_PARSE_BLOCK_SEQUENCE_ENTRY_STATE = 9
parser_state_number YAML_PARSE_INDENTLESS_SEQUENCE_ENTRY_STATE = 10
parser_state_number YAML_PARSE_BLOCK_MAPPING_FIRST_KEY_STATE = 11
parser_state_number YAML_PARSE_BLOCK_MAPPING_KEY_STATE = 12
parser_state_number YAML_PARSE_BLOCK_MAPPING_VALUE_STATE = 13
parser_state_number YAML_PARSE_FLOW_SEQUENCE_FIRST_ENTRY_STATE = 14
parser_state_number YAML_PARSE_FLOW_SEQUENCE_ENTRY_STATE = 15
parser_state_number YAML_PARSE_FLOW_SEQUENCE_ENTRY_MAPPING_KEY_STATE = 16
parser_state_number YAML_PARSE_FLOW_SEQUENCE_ENTRY_MAPPING_VALUE_STATE = 17
parser_state_number YAML_PARSE_FLOW_SEQUENCE_ENTRY_MAPPING_END_STATE = 18
parser_state_number YAML_PARSE_FLOW_MAPPING_FIRST_KEY_STATE = 19
parser_state_number YAML_PARSE_FLOW_MAPPING_KEY_STATE = 20
parser_state_number YAML_PARSE_FLOW_MAPPING_VALUE_STATE = 21
parser_state_number YAML_PARSE_FLOW_MAPPING_EMPTY_VALUE_STATE = 22
parser_state_number YAML_PARSE_END_STATE = 23

-- yaml_refusal_t: the causes are numbered from 1
abbrev pub refusal_number : yaml_refusal_t → ℕ
refusal_number NotUtf8 = 1
refusal_number Memory = 2
refusal_number TooManyNodes = 3

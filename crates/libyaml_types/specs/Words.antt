-- What is shown of a kind of error, of a mark, and of the type of an event or a node (docs/DEFINITIONS.md, "Errors"
-- and "Numbers").
use Rattle.std.specs.Prelude.{ℕ, ◌+◌, ◌++◌, List, codes}
use Rattle.std.specs.Fmt.{decimal}
use Rattle.libyaml_types.specs.declared.mark.yaml_mark_t.{yaml_mark_t}
use Rattle.libyaml_types.specs.declared.enums.yaml_error_type_t.{yaml_error_type_t}
use Rattle.libyaml_types.specs.declared.enums.yaml_error_type_t.TheVariants.{YAML_NO_ERROR, YAML_MEMORY_ERROR, YAML_READER_ERROR, YAML_SCANNER_ERROR, YAML_PARSER_ERROR, YAML_COMPOSER_ERROR, YAML_WRITER_ERROR, YAML_EMITTER_ERROR}
use Rattle.libyaml_types.specs.declared.enums.yaml_event_type_t.{yaml_event_type_t}
use Rattle.libyaml_types.specs.declared.enums.yaml_event_type_t.TheVariants.{YAML_NO_EVENT, YAML_STREAM_START_EVENT, YAML_STREAM_END_EVENT, YAML_DOCUMENT_START_EVENT, YAML_DOCUMENT_END_EVENT, YAML_ALIAS_EVENT, YAML_SCALAR_EVENT, YAML_SEQUENCE_START_EVENT, YAML_SEQUENCE_END_EVENT}
use Rattle.libyaml_types.specs.declared.enums.yaml_event_type_t.TheVariants.{YAML_MAPPING_START_EVENT, YAML_MAPPING_END_EVENT}
use Rattle.libyaml_types.specs.declared.enums.yaml_node_type_t.{yaml_node_type_t}
use Rattle.libyaml_types.specs.declared.enums.yaml_node_type_t.TheVariants.{YAML_NO_NODE, YAML_SCALAR_NODE, YAML_SEQUENCE_NODE, YAML_MAPPING_NODE}

abbrev pub error_words : yaml_error_type_t → List ℕ
error_words YAML_NO_ERROR = codes "no error"
error_words YAML_MEMORY_ERROR = codes "out of memory"
error_words YAML_READER_ERROR = codes "reader error"
error_words YAML_SCANNER_ERROR = codes "scanner error"
error_words YAML_PARSER_ERROR = codes "parser error"
error_words YAML_COMPOSER_ERROR = codes "composer error"
error_words YAML_WRITER_ERROR = codes "writer error"
error_words YAML_EMITTER_ERROR = codes "emitter error"

-- a mark's line and column, from 1
abbrev pub place_in_words : yaml_mark_t → List ℕ
place_in_words m = codes "line " ++ decimal (m.line + 1) ++ codes ", column " ++ decimal (m.column + 1)

-- the name of an event's type
abbrev pub event_type_name : yaml_event_type_t → List ℕ
event_type_name YAML_NO_EVENT = codes "no event"
event_type_name YAML_STREAM_START_EVENT = codes "stream start"
event_type_name YAML_STREAM_END_EVENT = codes "stream end"
event_type_name YAML_DOCUMENT_START_EVENT = codes "document start"
event_type_name YAML_DOCUMENT_END_EVENT = codes "document end"
event_type_name YAML_ALIAS_EVENT = codes "alias"
event_type_name YAML_SCALAR_EVENT = codes "scalar"
event_type_name YAML_SEQUENCE_START_EVENT = codes "sequence start"
event_type_name YAML_SEQUENCE_END_EVENT = codes "sequence end"
event_type_name YAML_MAPPING_START_EVENT = codes "mapping start"
event_type_name YAML_MAPPING_END_EVENT = codes "mapping end"

-- the name of a node's type
abbrev pub node_type_name : yaml_node_type_t → List ℕ
node_type_name YAML_NO_NODE = codes "no node"
node_type_name YAML_SCALAR_NODE = codes "scalar"
node_type_name YAML_SEQUENCE_NODE = codes "sequence"
node_type_name YAML_MAPPING_NODE = codes "mapping"

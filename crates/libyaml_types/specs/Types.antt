-- What a token or an event is, by its content: its type, and an event's anchor (docs/DEFINITIONS.md, "Numbers" and
-- "Events made by calls").
use Rattle.std.specs.Prelude.{ℕ, List, Option, Some, None}
use Rattle.libyaml_types.specs.declared.enums.yaml_token_type_t.{yaml_token_type_t}
use Rattle.libyaml_types.specs.declared.enums.yaml_token_type_t.TheVariants.{YAML_NO_TOKEN, YAML_STREAM_START_TOKEN, YAML_STREAM_END_TOKEN, YAML_VERSION_DIRECTIVE_TOKEN, YAML_TAG_DIRECTIVE_TOKEN, YAML_DOCUMENT_START_TOKEN, YAML_DOCUMENT_END_TOKEN, YAML_BLOCK_SEQUENCE_START_TOKEN}
use Rattle.libyaml_types.specs.declared.enums.yaml_token_type_t.TheVariants.{YAML_BLOCK_MAPPING_START_TOKEN, YAML_BLOCK_END_TOKEN, YAML_FLOW_SEQUENCE_START_TOKEN, YAML_FLOW_SEQUENCE_END_TOKEN, YAML_FLOW_MAPPING_START_TOKEN, YAML_FLOW_MAPPING_END_TOKEN, YAML_BLOCK_ENTRY_TOKEN, YAML_FLOW_ENTRY_TOKEN}
use Rattle.libyaml_types.specs.declared.enums.yaml_token_type_t.TheVariants.{YAML_KEY_TOKEN, YAML_VALUE_TOKEN, YAML_ALIAS_TOKEN, YAML_ANCHOR_TOKEN, YAML_TAG_TOKEN, YAML_SCALAR_TOKEN}
use Rattle.libyaml_types.specs.declared.enums.yaml_event_type_t.{yaml_event_type_t}
use Rattle.libyaml_types.specs.declared.enums.yaml_event_type_t.TheVariants.{YAML_NO_EVENT, YAML_STREAM_START_EVENT, YAML_STREAM_END_EVENT, YAML_DOCUMENT_START_EVENT, YAML_DOCUMENT_END_EVENT, YAML_ALIAS_EVENT, YAML_SCALAR_EVENT, YAML_SEQUENCE_START_EVENT, YAML_SEQUENCE_END_EVENT}
use Rattle.libyaml_types.specs.declared.enums.yaml_event_type_t.TheVariants.{YAML_MAPPING_START_EVENT, YAML_MAPPING_END_EVENT}
use Rattle.libyaml_types.specs.declared.token.unnamed_yaml_token_t_data.{unnamed_yaml_token_t_data}
use Rattle.libyaml_types.specs.declared.token.unnamed_yaml_token_t_data.TheVariants as tok
use Rattle.libyaml_types.specs.declared.event.unnamed_yaml_event_t_data.{unnamed_yaml_event_t_data}
use Rattle.libyaml_types.specs.declared.event.unnamed_yaml_event_t_data.TheVariants as ev

abbrev pub token_type : unnamed_yaml_token_t_data → yaml_token_type_t
token_type tok.NoToken = YAML_NO_TOKEN
token_type (tok.StreamStart x) = YAML_STREAM_START_TOKEN
token_type tok.StreamEnd = YAML_STREAM_END_TOKEN
token_type (tok.VersionDirective x) = YAML_VERSION_DIRECTIVE_TOKEN
token_type (tok.TagDirective x) = YAML_TAG_DIRECTIVE_TOKEN
token_type tok.DocumentStart = YAML_DOCUMENT_START_TOKEN
token_type tok.DocumentEnd = YAML_DOCUMENT_END_TOKEN
token_type tok.BlockSequenceStart = YAML_BLOCK_SEQUENCE_START_TOKEN
token_type tok.BlockMappingStart = YAML_BLOCK_MAPPING_START_TOKEN
token_type tok.BlockEnd = YAML_BLOCK_END_TOKEN
token_type tok.FlowSequenceStart = YAML_FLOW_SEQUENCE_START_TOKEN
token_type tok.FlowSequenceEnd = YAML_FLOW_SEQUENCE_END_TOKEN
token_type tok.FlowMappingStart = YAML_FLOW_MAPPING_START_TOKEN
token_type tok.FlowMappingEnd = YAML_FLOW_MAPPING_END_TOKEN
token_type tok.BlockEntry = YAML_BLOCK_ENTRY_TOKEN
token_type tok.FlowEntry = YAML_FLOW_ENTRY_TOKEN
token_type tok.Key = YAML_KEY_TOKEN
token_type tok.Value = YAML_VALUE_TOKEN
token_type (tok.Alias x) = YAML_ALIAS_TOKEN
token_type (tok.Anchor x) = YAML_ANCHOR_TOKEN
token_type (tok.Tag x) = YAML_TAG_TOKEN
token_type (tok.Scalar x) = YAML_SCALAR_TOKEN

abbrev pub event_type : unnamed_yaml_event_t_data → yaml_event_type_t
event_type ev.NoEvent = YAML_NO_EVENT
event_type (ev.StreamStart x) = YAML_STREAM_START_EVENT
event_type ev.StreamEnd = YAML_STREAM_END_EVENT
event_type (ev.DocumentStart x) = YAML_DOCUMENT_START_EVENT
event_type (ev.DocumentEnd x) = YAML_DOCUMENT_END_EVENT
event_type (ev.Alias x) = YAML_ALIAS_EVENT
event_type (ev.Scalar x) = YAML_SCALAR_EVENT
event_type (ev.SequenceStart x) = YAML_SEQUENCE_START_EVENT
event_type ev.SequenceEnd = YAML_SEQUENCE_END_EVENT
event_type (ev.MappingStart x) = YAML_MAPPING_START_EVENT
event_type ev.MappingEnd = YAML_MAPPING_END_EVENT

-- the anchor of a node's event, and the anchor that an alias names
abbrev pub event_anchor : unnamed_yaml_event_t_data → Option (List ℕ)
event_anchor ev.NoEvent = None
event_anchor (ev.StreamStart x) = None
event_anchor ev.StreamEnd = None
event_anchor (ev.DocumentStart x) = None
event_anchor (ev.DocumentEnd x) = None
event_anchor (ev.Alias x) = Some x.anchor
event_anchor (ev.Scalar x) = x.anchor
event_anchor (ev.SequenceStart x) = x.anchor
event_anchor ev.SequenceEnd = None
event_anchor (ev.MappingStart x) = x.anchor
event_anchor ev.MappingEnd = None

-- Tokens as lines (docs/DEFINITIONS.md, "Lines").
use Rattle.std.specs.Prelude.{ℕ, List, [], ◌∷◌, Option, Some, None}
use Rattle.libyaml_types.specs.declared.enums.yaml_token_type_t.{yaml_token_type_t}
use Rattle.libyaml_types.specs.declared.enums.yaml_token_type_t.TheVariants.{YAML_NO_TOKEN, YAML_STREAM_START_TOKEN, YAML_STREAM_END_TOKEN, YAML_VERSION_DIRECTIVE_TOKEN, YAML_TAG_DIRECTIVE_TOKEN, YAML_DOCUMENT_START_TOKEN, YAML_DOCUMENT_END_TOKEN, YAML_BLOCK_SEQUENCE_START_TOKEN}
use Rattle.libyaml_types.specs.declared.enums.yaml_token_type_t.TheVariants.{YAML_BLOCK_MAPPING_START_TOKEN, YAML_BLOCK_END_TOKEN, YAML_FLOW_SEQUENCE_START_TOKEN, YAML_FLOW_SEQUENCE_END_TOKEN, YAML_FLOW_MAPPING_START_TOKEN, YAML_FLOW_MAPPING_END_TOKEN, YAML_BLOCK_ENTRY_TOKEN, YAML_FLOW_ENTRY_TOKEN}
use Rattle.libyaml_types.specs.declared.enums.yaml_token_type_t.TheVariants.{YAML_KEY_TOKEN, YAML_VALUE_TOKEN, YAML_ALIAS_TOKEN, YAML_ANCHOR_TOKEN, YAML_TAG_TOKEN, YAML_SCALAR_TOKEN}
use Rattle.libyaml_types.specs.declared.token.unnamed_yaml_token_t_data.{unnamed_yaml_token_t_data}
use Rattle.libyaml_types.specs.declared.token.unnamed_yaml_token_t_data.TheVariants as tok
use Rattle.libyaml_types.specs.declared.token.yaml_token_t.{yaml_token_t}
use Rattle.line_reading.specs.tokens.Field.{◌>>=◌, mark_at, version_in_field, text_of, encoding_of, scalar_style_of}
use Rattle.line_reading.specs.tokens.Pieces.{pieces_of}
use Rattle.line_reading.specs.tokens.Prefixes.{before_byte, after_byte}
use Rattle.line_reading.specs.tokens.TokenName.{token_type_of}

-- the content of a token without payload
abbrev pub bare_content : yaml_token_type_t → Option unnamed_yaml_token_t_data
bare_content YAML_NO_TOKEN = Some tok.NoToken
bare_content YAML_STREAM_END_TOKEN = Some tok.StreamEnd
bare_content YAML_DOCUMENT_START_TOKEN = Some tok.DocumentStart
bare_content YAML_DOCUMENT_END_TOKEN = Some tok.DocumentEnd
bare_content YAML_BLOCK_SEQUENCE_START_TOKEN = Some tok.BlockSequenceStart
bare_content YAML_BLOCK_MAPPING_START_TOKEN = Some tok.BlockMappingStart
bare_content YAML_BLOCK_END_TOKEN = Some tok.BlockEnd
bare_content YAML_FLOW_SEQUENCE_START_TOKEN = Some tok.FlowSequenceStart
bare_content YAML_FLOW_SEQUENCE_END_TOKEN = Some tok.FlowSequenceEnd
bare_content YAML_FLOW_MAPPING_START_TOKEN = Some tok.FlowMappingStart
bare_content YAML_FLOW_MAPPING_END_TOKEN = Some tok.FlowMappingEnd
bare_content YAML_BLOCK_ENTRY_TOKEN = Some tok.BlockEntry
bare_content YAML_FLOW_ENTRY_TOKEN = Some tok.FlowEntry
bare_content YAML_KEY_TOKEN = Some tok.Key
bare_content YAML_VALUE_TOKEN = Some tok.Value
bare_content _ = None

-- the content of a token whose payload is one field
abbrev pub content_of_one : yaml_token_type_t → List ℕ → Option unnamed_yaml_token_t_data
content_of_one YAML_STREAM_START_TOKEN field = do
  encoding ← encoding_of field
  Some (tok.StreamStart (record { encoding = encoding }))
content_of_one YAML_VERSION_DIRECTIVE_TOKEN field = do
  version ← version_in_field field
  Some (tok.VersionDirective version)
content_of_one YAML_ALIAS_TOKEN field = do
  value ← text_of field
  Some (tok.Alias (record { value = value }))
content_of_one YAML_ANCHOR_TOKEN field = do
  value ← text_of field
  Some (tok.Anchor (record { value = value }))
content_of_one _ field = None

-- the content of a token whose payload is two fields
abbrev pub content_of_two : yaml_token_type_t → List ℕ → List ℕ → Option unnamed_yaml_token_t_data
content_of_two YAML_TAG_DIRECTIVE_TOKEN first second = do
  handle ← text_of first
  prefix ← text_of second
  Some (tok.TagDirective (record { handle = handle; prefix = prefix }))
content_of_two YAML_TAG_TOKEN first second = do
  handle ← text_of first
  suffix ← text_of second
  Some (tok.Tag (record { handle = handle; suffix = suffix }))
content_of_two YAML_SCALAR_TOKEN first second = do
  value ← text_of first
  style ← scalar_style_of second
  Some (tok.Scalar (record { value = value; style = style }))
content_of_two _ first second = None

-- the content of a token, by its type and its further fields
abbrev pub content_of : yaml_token_type_t → List (List ℕ) → Option unnamed_yaml_token_t_data
content_of type [] = bare_content type
content_of type (field ∷ []) = content_of_one type field
content_of type (first ∷ second ∷ []) = content_of_two type first second
content_of type _ = None

-- the token of a line: its name, which ends at the first space, its start and its end, and what its type holds in further fields
abbrev pub token_of_line : List ℕ → Option yaml_token_t
token_of_line line = do
  marks ← after_byte 32 line
  type ← token_type_of (before_byte 32 line)
  start ← mark_at marks
  after_start ← start.1
  end ← mark_at after_start
  content ← content_of type (pieces_of 32 end.1)
  Some (record { content = content; start_mark = start.0; end_mark = end.0 })

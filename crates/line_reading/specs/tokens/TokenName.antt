-- The names of tokens (docs/DEFINITIONS.md, "Lines").
use Rattle.std.specs.Prelude.{ℕ, List, Option, Some, None, if◌then◌else◌, codes, bytes_eq}
use Rattle.libyaml_types.specs.declared.enums.yaml_token_type_t.{yaml_token_type_t}
use Rattle.libyaml_types.specs.declared.enums.yaml_token_type_t.TheVariants.{YAML_NO_TOKEN, YAML_STREAM_START_TOKEN, YAML_STREAM_END_TOKEN, YAML_VERSION_DIRECTIVE_TOKEN, YAML_TAG_DIRECTIVE_TOKEN, YAML_DOCUMENT_START_TOKEN, YAML_DOCUMENT_END_TOKEN, YAML_BLOCK_SEQUENCE_START_TOKEN}
use Rattle.libyaml_types.specs.declared.enums.yaml_token_type_t.TheVariants.{YAML_BLOCK_MAPPING_START_TOKEN, YAML_BLOCK_END_TOKEN, YAML_FLOW_SEQUENCE_START_TOKEN, YAML_FLOW_SEQUENCE_END_TOKEN, YAML_FLOW_MAPPING_START_TOKEN, YAML_FLOW_MAPPING_END_TOKEN, YAML_BLOCK_ENTRY_TOKEN, YAML_FLOW_ENTRY_TOKEN}
use Rattle.libyaml_types.specs.declared.enums.yaml_token_type_t.TheVariants.{YAML_KEY_TOKEN, YAML_VALUE_TOKEN, YAML_ALIAS_TOKEN, YAML_ANCHOR_TOKEN, YAML_TAG_TOKEN, YAML_SCALAR_TOKEN}

-- a token's type by its name in lines
abbrev pub token_type_of : List ℕ → Option yaml_token_type_t
token_type_of name =
    if bytes_eq name (codes "NO-TOKEN") then Some YAML_NO_TOKEN else (
    if bytes_eq name (codes "STREAM-START") then Some YAML_STREAM_START_TOKEN else (
    if bytes_eq name (codes "STREAM-END") then Some YAML_STREAM_END_TOKEN else (
    if bytes_eq name (codes "VERSION-DIRECTIVE") then Some YAML_VERSION_DIRECTIVE_TOKEN else (
    if bytes_eq name (codes "TAG-DIRECTIVE") then Some YAML_TAG_DIRECTIVE_TOKEN else (
    if bytes_eq name (codes "DOCUMENT-START") then Some YAML_DOCUMENT_START_TOKEN else (
    if bytes_eq name (codes "DOCUMENT-END") then Some YAML_DOCUMENT_END_TOKEN else (
    if bytes_eq name (codes "BLOCK-SEQUENCE-START") then Some YAML_BLOCK_SEQUENCE_START_TOKEN else (
    if bytes_eq name (codes "BLOCK-MAPPING-START") then Some YAML_BLOCK_MAPPING_START_TOKEN else (
    if bytes_eq name (codes "BLOCK-END") then Some YAML_BLOCK_END_TOKEN else (
    if bytes_eq name (codes "FLOW-SEQUENCE-START") then Some YAML_FLOW_SEQUENCE_START_TOKEN else (
    if bytes_eq name (codes "FLOW-SEQUENCE-END") then Some YAML_FLOW_SEQUENCE_END_TOKEN else (
    if bytes_eq name (codes "FLOW-MAPPING-START") then Some YAML_FLOW_MAPPING_START_TOKEN else (
    if bytes_eq name (codes "FLOW-MAPPING-END") then Some YAML_FLOW_MAPPING_END_TOKEN else (
    if bytes_eq name (codes "BLOCK-ENTRY") then Some YAML_BLOCK_ENTRY_TOKEN else (
    if bytes_eq name (codes "FLOW-ENTRY") then Some YAML_FLOW_ENTRY_TOKEN else (
    if bytes_eq name (codes "KEY") then Some YAML_KEY_TOKEN else (
    if bytes_eq name (codes "VALUE") then Some YAML_VALUE_TOKEN else (
    if bytes_eq name (codes "ALIAS") then Some YAML_ALIAS_TOKEN else (
    if bytes_eq name (codes "ANCHOR") then Some YAML_ANCHOR_TOKEN else (
    if bytes_eq name (codes "TAG") then Some YAML_TAG_TOKEN else (
    if bytes_eq name (codes "SCALAR") then Some YAML_SCALAR_TOKEN else None)))))))))))))))))))))

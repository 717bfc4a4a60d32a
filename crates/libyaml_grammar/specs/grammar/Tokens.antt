-- Tokens as a scanner gives them (docs/DEFINITIONS.md, "Tokens"): a content with its payload, and two marks.
-- A tree keeps the payload records of libyaml_types and the marks, and the constructor says which token it is.
use Rattle.std.specs.Prelude.{[]}
use Rattle.libyaml_types.specs.declared.enums.yaml_scalar_style_t.TheVariants.{YAML_PLAIN_SCALAR_STYLE}
use Rattle.libyaml_types.specs.declared.mark.yaml_mark_t.{yaml_mark_t}
use Rattle.libyaml_types.specs.declared.token.yaml_token_t.{yaml_token_t}
use Rattle.libyaml_types.specs.declared.token.unnamed_yaml_token_t_data.{unnamed_yaml_token_t_data}
use Rattle.libyaml_types.specs.declared.token.unnamed_yaml_token_t_data_stream_start.{unnamed_yaml_token_t_data_stream_start}
use Rattle.libyaml_types.specs.declared.token.unnamed_yaml_token_t_data_version_directive.{unnamed_yaml_token_t_data_version_directive}
use Rattle.libyaml_types.specs.declared.token.unnamed_yaml_token_t_data_tag_directive.{unnamed_yaml_token_t_data_tag_directive}
use Rattle.libyaml_types.specs.declared.token.unnamed_yaml_token_t_data_alias.{unnamed_yaml_token_t_data_alias}
use Rattle.libyaml_types.specs.declared.token.unnamed_yaml_token_t_data_anchor.{unnamed_yaml_token_t_data_anchor}
use Rattle.libyaml_types.specs.declared.token.unnamed_yaml_token_t_data_tag.{unnamed_yaml_token_t_data_tag}
use Rattle.libyaml_types.specs.declared.token.unnamed_yaml_token_t_data_scalar.{unnamed_yaml_token_t_data_scalar}
use Rattle.libyaml_types.specs.Events.{zero_mark}
pub use Rattle.libyaml_types.specs.declared.token.unnamed_yaml_token_t_data.TheVariants.{NoToken, StreamStart, StreamEnd, VersionDirective, TagDirective, DocumentStart, DocumentEnd, BlockSequenceStart, BlockMappingStart, BlockEnd, FlowSequenceStart, FlowSequenceEnd, FlowMappingStart, FlowMappingEnd}
pub use Rattle.libyaml_types.specs.declared.token.unnamed_yaml_token_t_data.TheVariants.{BlockEntry, FlowEntry, Key, Value, Alias, Anchor, Tag, Scalar}

abbrev pub Mark : Type 0
Mark = yaml_mark_t

abbrev pub Token : Type 0
Token = yaml_token_t

abbrev pub Content : Type 0
Content = unnamed_yaml_token_t_data

-- the payloads
abbrev pub StreamHead : Type 0
StreamHead = unnamed_yaml_token_t_data_stream_start

abbrev pub VersionAsked : Type 0
VersionAsked = unnamed_yaml_token_t_data_version_directive

abbrev pub HandleDeclared : Type 0
HandleDeclared = unnamed_yaml_token_t_data_tag_directive

abbrev pub AliasName : Type 0
AliasName = unnamed_yaml_token_t_data_alias

abbrev pub AnchorName : Type 0
AnchorName = unnamed_yaml_token_t_data_anchor

abbrev pub TagName : Type 0
TagName = unnamed_yaml_token_t_data_tag

abbrev pub ScalarText : Type 0
ScalarText = unnamed_yaml_token_t_data_scalar

-- where a token begins and ends
pub record Marks : Type 0 where
  pub start : Mark
  pub end : Mark

abbrev pub tok : Content → Marks → Token
tok k m = record { content = k; start_mark = m.start; end_mark = m.end }

abbrev pub marks_of : Token → Marks
marks_of t = record { start = t.start_mark; end = t.end_mark }

-- an empty plain scalar
abbrev pub empty_plain : ScalarText
empty_plain = record { value = []; style = YAML_PLAIN_SCALAR_STYLE }

abbrev pub zero_marks : Marks
zero_marks = record { start = zero_mark; end = zero_mark }

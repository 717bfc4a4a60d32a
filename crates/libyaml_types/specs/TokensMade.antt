-- The tokens that calls make of their arguments (docs/DEFINITIONS.md, "Tokens made by calls"): each with its content between
-- these two marks.
use Rattle.std.specs.Prelude.{ℕ, ℤ, List, IsUtf8}
use Rattle.libyaml_types.specs.declared.enums.yaml_encoding_t.{yaml_encoding_t}
use Rattle.libyaml_types.specs.declared.enums.yaml_scalar_style_t.{yaml_scalar_style_t}
use Rattle.libyaml_types.specs.declared.mark.yaml_mark_t.{yaml_mark_t}
use Rattle.libyaml_types.specs.declared.token.yaml_token_t.{yaml_token_t}
use Rattle.libyaml_types.specs.declared.token.unnamed_yaml_token_t_data.{unnamed_yaml_token_t_data}
use Rattle.libyaml_types.specs.declared.token.unnamed_yaml_token_t_data.TheVariants as tok

-- a token of this content
abbrev pub made_token : unnamed_yaml_token_t_data → (start_mark end_mark : yaml_mark_t) → yaml_token_t
made_token content m n = record { content = content; start_mark = m; end_mark = n }

abbrev pub stream_start_token : yaml_encoding_t → (start_mark end_mark : yaml_mark_t) → yaml_token_t
stream_start_token encoding = made_token (tok.StreamStart (record { encoding = encoding }))

abbrev pub version_directive_token : (major minor : ℤ) → (start_mark end_mark : yaml_mark_t) → yaml_token_t
version_directive_token major minor = made_token (tok.VersionDirective (record { major = major; minor = minor }))

abbrev pub tag_directive_token : (handle prefix : List ℕ) → (start_mark end_mark : yaml_mark_t) → yaml_token_t
tag_directive_token handle prefix = made_token (tok.TagDirective (record { handle = handle; prefix = prefix }))

abbrev pub alias_token : (name : List ℕ) → (start_mark end_mark : yaml_mark_t) → yaml_token_t
alias_token name = made_token (tok.Alias (record { value = name }))

abbrev pub anchor_token : (name : List ℕ) → (start_mark end_mark : yaml_mark_t) → yaml_token_t
anchor_token name = made_token (tok.Anchor (record { value = name }))

abbrev pub tag_token : (handle suffix : List ℕ) → (start_mark end_mark : yaml_mark_t) → yaml_token_t
tag_token handle suffix = made_token (tok.Tag (record { handle = handle; suffix = suffix }))

abbrev pub scalar_token : (value : List ℕ) → yaml_scalar_style_t → (start_mark end_mark : yaml_mark_t) → yaml_token_t
scalar_token value style = made_token (tok.Scalar (record { value = value; style = style }))

-- both texts of a tag, or of a tag directive
pub record BothAreUtf8 (handle text : List ℕ) : Type 0 where
  pub handle_is : IsUtf8 handle
  pub text_is : IsUtf8 text

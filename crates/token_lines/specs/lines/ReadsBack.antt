-- Reading a field of a line undoes writing it (docs/DEFINITIONS.md, "Lines").
use Rattle.std.specs.Prelude.{◌≡◌, ◌<◌, ◌^◌, ℕ, List, All, true, Some}
use Rattle.std.specs.Str.{is_utf8}
use Rattle.percent_encoding.specs.Percent.{percent_decode}
use Rattle.libyaml_types.specs.declared.enums.yaml_encoding_t.{yaml_encoding_t}
use Rattle.libyaml_types.specs.declared.enums.yaml_scalar_style_t.{yaml_scalar_style_t}
use Rattle.line_writing.specs.Escape.{escaped}
use Rattle.line_reading.specs.tokens.Field.{encoding_of, scalar_style_of, text_of}
use Rattle.line_writing.specs.FieldTexts.{encoding_text, scalar_style_text, string_text}

-- the bytes that the escaped form of any bytes stands for are those bytes
abbrev pub BytesReadBack : Type 0
BytesReadBack = (bytes : List ℕ) → All (λ b. b < 2 ^ 8) bytes → percent_decode (escaped bytes) ≡ bytes

-- the field of any string is read as that string
abbrev pub StringsReadBack : Type 0
StringsReadBack = (string : List ℕ) → All (λ b. b < 2 ^ 8) string → is_utf8 string ≡ true
    → text_of (string_text string) ≡ Some string

-- and it is one field of one line: each of its bytes is above the space
abbrev pub StringsAreFields : Type 0
StringsAreFields = (string : List ℕ) → All (λ b. b < 2 ^ 8) string → All (λ b. 0x20 < b) (string_text string)

-- the word of any encoding is read as that encoding
abbrev pub EncodingsReadBack : Type 0
EncodingsReadBack = (encoding : yaml_encoding_t) → encoding_of (encoding_text encoding) ≡ Some encoding

-- the word of any scalar style is read as that style
abbrev pub StylesReadBack : Type 0
StylesReadBack = (style : yaml_scalar_style_t) → scalar_style_of (scalar_style_text style) ≡ Some style

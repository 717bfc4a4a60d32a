-- The fields of a token line (docs/DEFINITIONS.md, "Lines").
use Rattle.std.specs.Prelude.{ℕ, List, [], ◌∷◌, ◌==◌, Option, Some, None, option_and_then, option_map, if◌then◌else◌, codes, bytes_eq}
use Rattle.std.specs.List.{slice_split}
use Rattle.std.specs.Str.{is_utf8}
use Rattle.percent_encoding.specs.Percent.{percent_decode}
use Rattle.libyaml_types.specs.declared.mark.yaml_mark_t.{yaml_mark_t}
use Rattle.libyaml_types.specs.declared.token.unnamed_yaml_token_t_data_version_directive.{unnamed_yaml_token_t_data_version_directive}
use Rattle.libyaml_types.specs.declared.enums.yaml_encoding_t.{yaml_encoding_t}
use Rattle.libyaml_types.specs.declared.enums.yaml_encoding_t.TheVariants.{YAML_ANY_ENCODING, YAML_UTF8_ENCODING, YAML_UTF16LE_ENCODING, YAML_UTF16BE_ENCODING}
use Rattle.libyaml_types.specs.declared.enums.yaml_scalar_style_t.{yaml_scalar_style_t}
use Rattle.libyaml_types.specs.declared.enums.yaml_scalar_style_t.TheVariants.{YAML_ANY_SCALAR_STYLE, YAML_PLAIN_SCALAR_STYLE, YAML_SINGLE_QUOTED_SCALAR_STYLE, YAML_DOUBLE_QUOTED_SCALAR_STYLE, YAML_LITERAL_SCALAR_STYLE, YAML_FOLDED_SCALAR_STYLE}
use Rattle.line_reading.specs.tokens.Number.{number_of, signed_of}
use Rattle.line_reading.specs.tokens.Prefixes.{digits_of, after_digits, after_first, after_field}

infixl 10 ◌>>=◌
abbrev pub ◌>>=◌ : {A B : Type 0} → Option A → (A → Option B) → Option B
o >>= f = option_and_then f o

-- a number that begins the bytes, and what follows its digits
abbrev pub number_at : List ℕ → Option (ℕ × List ℕ)
number_at bytes = option_map (λ n. (n, after_digits bytes)) (number_of (digits_of bytes))

-- a mark that begins the bytes: index, line and column between colons; and the further fields, if there are some
abbrev pub mark_at : List ℕ → Option (yaml_mark_t × Option (List ℕ))
mark_at bytes = do
  index ← number_at bytes
  after_index ← after_first 58 index.1
  line ← number_at after_index
  after_line ← after_first 58 line.1
  column ← number_at after_line
  further ← after_field column.1
  Some (record { index = index.0; line = line.0; column = column.0 }, further)

-- a version: major and minor with a point between them
abbrev pub version_of_numbers : List (List ℕ) → Option unnamed_yaml_token_t_data_version_directive
version_of_numbers (m ∷ n ∷ []) = do
  major ← signed_of m
  minor ← signed_of n
  Some (record { major = major; minor = minor })
version_of_numbers _ = None

abbrev pub version_in_field : List ℕ → Option unnamed_yaml_token_t_data_version_directive
version_in_field field = version_of_numbers (slice_split (λ b. b == 46) field)

-- bytes that are UTF-8
abbrev pub utf8_text : List ℕ → Option (List ℕ)
utf8_text bytes = if is_utf8 bytes then Some bytes else None

-- a text: `=` and escaped bytes that stand for UTF-8
abbrev pub text_of : List ℕ → Option (List ℕ)
text_of [] = None
text_of (b ∷ escaped) = if b == 61 then utf8_text (percent_decode escaped) else None

-- an encoding by its name
abbrev pub encoding_of : List ℕ → Option yaml_encoding_t
encoding_of field =
    if bytes_eq field (codes "any") then Some YAML_ANY_ENCODING else (
    if bytes_eq field (codes "utf8") then Some YAML_UTF8_ENCODING else (
    if bytes_eq field (codes "utf16le") then Some YAML_UTF16LE_ENCODING else (
    if bytes_eq field (codes "utf16be") then Some YAML_UTF16BE_ENCODING else None)))

-- a scalar style by its name
abbrev pub scalar_style_of : List ℕ → Option yaml_scalar_style_t
scalar_style_of field =
    if bytes_eq field (codes "any") then Some YAML_ANY_SCALAR_STYLE else (
    if bytes_eq field (codes "plain") then Some YAML_PLAIN_SCALAR_STYLE else (
    if bytes_eq field (codes "single") then Some YAML_SINGLE_QUOTED_SCALAR_STYLE else (
    if bytes_eq field (codes "double") then Some YAML_DOUBLE_QUOTED_SCALAR_STYLE else (
    if bytes_eq field (codes "literal") then Some YAML_LITERAL_SCALAR_STYLE else (
    if bytes_eq field (codes "folded") then Some YAML_FOLDED_SCALAR_STYLE else None)))))

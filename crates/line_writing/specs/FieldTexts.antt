-- The texts of the fields of a line, and of a line of such fields (docs/DEFINITIONS.md, "Lines").
use Rattle.std.specs.Prelude.{ℕ, List, [], ◌∷◌, ◌++◌, Bool, true, false, Option, Some, None, codes}
use Rattle.std.specs.List.{join_with_byte}
use Rattle.std.specs.Fmt.{decimal, signed_decimal}
use Rattle.libyaml_types.specs.declared.mark.yaml_mark_t.{yaml_mark_t}
use Rattle.libyaml_types.specs.declared.directive.yaml_version_directive_t.{yaml_version_directive_t}
use Rattle.libyaml_types.specs.declared.directive.yaml_tag_directive_t.{yaml_tag_directive_t}
use Rattle.libyaml_types.specs.declared.enums.yaml_encoding_t.{yaml_encoding_t}
use Rattle.libyaml_types.specs.declared.enums.yaml_encoding_t.TheVariants.{YAML_ANY_ENCODING, YAML_UTF8_ENCODING, YAML_UTF16LE_ENCODING, YAML_UTF16BE_ENCODING}
use Rattle.libyaml_types.specs.declared.enums.yaml_scalar_style_t.{yaml_scalar_style_t}
use Rattle.libyaml_types.specs.declared.enums.yaml_scalar_style_t.TheVariants.{YAML_ANY_SCALAR_STYLE, YAML_PLAIN_SCALAR_STYLE, YAML_SINGLE_QUOTED_SCALAR_STYLE, YAML_DOUBLE_QUOTED_SCALAR_STYLE, YAML_LITERAL_SCALAR_STYLE, YAML_FOLDED_SCALAR_STYLE}
use Rattle.libyaml_types.specs.declared.enums.yaml_sequence_style_t.{yaml_sequence_style_t}
use Rattle.libyaml_types.specs.declared.enums.yaml_sequence_style_t.TheVariants.{YAML_ANY_SEQUENCE_STYLE, YAML_BLOCK_SEQUENCE_STYLE, YAML_FLOW_SEQUENCE_STYLE}
use Rattle.libyaml_types.specs.declared.enums.yaml_mapping_style_t.{yaml_mapping_style_t}
use Rattle.libyaml_types.specs.declared.enums.yaml_mapping_style_t.TheVariants.{YAML_ANY_MAPPING_STYLE, YAML_BLOCK_MAPPING_STYLE, YAML_FLOW_MAPPING_STYLE}
use Rattle.line_writing.specs.Escape.{escaped}

-- fields with one space between two neighbours, and the line feed that ends them
abbrev pub line_text : List (List ℕ) → List ℕ
line_text fields = join_with_byte 0x20 fields ++ codes "\n"

-- the fields, each after a space
abbrev pub after_spaces : List (List ℕ) → List ℕ
after_spaces [] = []
after_spaces (f ∷ fs) = 0x20 ∷ (f ++ after_spaces fs)

-- the last fields of a line, each after a space, and the line feed that ends it
abbrev pub line_rest : List (List ℕ) → List ℕ
line_rest fields = after_spaces fields ++ codes "\n"

-- a field that is absent
abbrev pub absent : List ℕ
absent = codes "-"

-- index, line and column, with `:` between them
abbrev pub mark_text : yaml_mark_t → List ℕ
mark_text m = decimal m.index ++ codes ":" ++ decimal m.line ++ codes ":" ++ decimal m.column

-- major and minor, with `.` between them
abbrev pub version_text : yaml_version_directive_t → List ℕ
version_text v = signed_decimal v.major ++ codes "." ++ signed_decimal v.minor

abbrev pub optional_version_text : Option yaml_version_directive_t → List ℕ
optional_version_text None = absent
optional_version_text (Some v) = version_text v

abbrev pub flag_text : Bool → List ℕ
flag_text false = codes "0"
flag_text true = codes "1"

-- `=` and the escaped string
abbrev pub string_text : List ℕ → List ℕ
string_text s = codes "=" ++ escaped s

abbrev pub optional_string_text : Option (List ℕ) → List ℕ
optional_string_text None = absent
optional_string_text (Some s) = string_text s

-- the handle and the prefix of each directive
abbrev pub directive_fields : List yaml_tag_directive_t → List (List ℕ)
directive_fields [] = []
directive_fields (d ∷ ds) = string_text d.handle ∷ string_text d.prefix ∷ directive_fields ds

abbrev pub encoding_text : yaml_encoding_t → List ℕ
encoding_text YAML_ANY_ENCODING = codes "any"
encoding_text YAML_UTF8_ENCODING = codes "utf8"
encoding_text YAML_UTF16LE_ENCODING = codes "utf16le"
encoding_text YAML_UTF16BE_ENCODING = codes "utf16be"

abbrev pub scalar_style_text : yaml_scalar_style_t → List ℕ
scalar_style_text YAML_ANY_SCALAR_STYLE = codes "any"
scalar_style_text YAML_PLAIN_SCALAR_STYLE = codes "plain"
scalar_style_text YAML_SINGLE_QUOTED_SCALAR_STYLE = codes "single"
scalar_style_text YAML_DOUBLE_QUOTED_SCALAR_STYLE = codes "double"
scalar_style_text YAML_LITERAL_SCALAR_STYLE = codes "literal"
scalar_style_text YAML_FOLDED_SCALAR_STYLE = codes "folded"

abbrev pub sequence_style_text : yaml_sequence_style_t → List ℕ
sequence_style_text YAML_ANY_SEQUENCE_STYLE = codes "any"
sequence_style_text YAML_BLOCK_SEQUENCE_STYLE = codes "block"
sequence_style_text YAML_FLOW_SEQUENCE_STYLE = codes "flow"

abbrev pub mapping_style_text : yaml_mapping_style_t → List ℕ
mapping_style_text YAML_ANY_MAPPING_STYLE = codes "any"
mapping_style_text YAML_BLOCK_MAPPING_STYLE = codes "block"
mapping_style_text YAML_FLOW_MAPPING_STYLE = codes "flow"

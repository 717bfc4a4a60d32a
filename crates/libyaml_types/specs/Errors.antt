-- The errors that a token source may return: out of memory, or an error of its reader or scanner.
use Rattle.std.specs.Prelude.{Bool, true, false, IsTrue}
use Rattle.libyaml_types.specs.declared.enums.yaml_error_type_t.{yaml_error_type_t}
use Rattle.libyaml_types.specs.declared.enums.yaml_error_type_t.TheVariants.{YAML_NO_ERROR, YAML_MEMORY_ERROR, YAML_READER_ERROR, YAML_SCANNER_ERROR, YAML_PARSER_ERROR, YAML_COMPOSER_ERROR, YAML_WRITER_ERROR, YAML_EMITTER_ERROR}

abbrev pub is_source_error : yaml_error_type_t → Bool
is_source_error YAML_NO_ERROR = false
is_source_error YAML_MEMORY_ERROR = true
is_source_error YAML_READER_ERROR = true
is_source_error YAML_SCANNER_ERROR = true
is_source_error YAML_PARSER_ERROR = false
is_source_error YAML_COMPOSER_ERROR = false
is_source_error YAML_WRITER_ERROR = false
is_source_error YAML_EMITTER_ERROR = false

abbrev pub IsSourceError : yaml_error_type_t → Type 0
IsSourceError e = IsTrue (is_source_error e)

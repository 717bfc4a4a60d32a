-- The text of an error: what went wrong and where, and in what, if that is known (docs/DEFINITIONS.md, "Lines").
use Rattle.std.specs.Prelude.{ℕ, List, [], ◌∷◌, ◌++◌, Option, Some, None, codes}
use Rattle.libyaml_types.specs.declared.mark.yaml_mark_t.{yaml_mark_t}
use Rattle.libyaml_types.specs.declared.enums.yaml_error_type_t.{yaml_error_type_t}
use Rattle.libyaml_types.specs.declared.enums.yaml_error_type_t.TheVariants.{YAML_NO_ERROR, YAML_MEMORY_ERROR, YAML_READER_ERROR, YAML_SCANNER_ERROR, YAML_PARSER_ERROR, YAML_COMPOSER_ERROR, YAML_WRITER_ERROR, YAML_EMITTER_ERROR}
use Rattle.libyaml_types.specs.Fault.{Fault}
use Rattle.line_writing.specs.FieldTexts.{line_text, absent, mark_text}

abbrev pub fault_kind : yaml_error_type_t → List ℕ
fault_kind YAML_NO_ERROR = codes "none"
fault_kind YAML_MEMORY_ERROR = codes "memory"
fault_kind YAML_READER_ERROR = codes "reader"
fault_kind YAML_SCANNER_ERROR = codes "scanner"
fault_kind YAML_PARSER_ERROR = codes "parser"
fault_kind YAML_COMPOSER_ERROR = codes "composer"
fault_kind YAML_WRITER_ERROR = codes "writer"
fault_kind YAML_EMITTER_ERROR = codes "emitter"

-- the problem as it is
abbrev pub problem_text : Option (List ℕ) → List ℕ
problem_text None = absent
problem_text (Some p) = p

abbrev pub problem_line : Fault → List ℕ
problem_line f = line_text (codes "FAULT" ∷ fault_kind f.error ∷ mark_text f.problem_mark ∷ problem_text f.problem ∷ [])

-- the line of a context, where there is one
abbrev pub context_line : Option (List ℕ) → yaml_mark_t → List ℕ
context_line None m = []
context_line (Some c) m = line_text (codes "CONTEXT" ∷ mark_text m ∷ c ∷ [])

abbrev pub fault_text : Fault → List ℕ
fault_text f = problem_line f ++ context_line f.context f.context_mark

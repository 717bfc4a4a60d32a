-- What an error says, for a reader: its problem and its context, each with its place_in_words (docs/DEFINITIONS.md, "Errors").
use Rattle.std.specs.Prelude.{ℕ, ◌++◌, List, [], Option, Some, None, codes}
use Rattle.libyaml_types.specs.declared.mark.yaml_mark_t.{yaml_mark_t}
use Rattle.libyaml_types.specs.declared.enums.yaml_error_type_t.{yaml_error_type_t}
use Rattle.libyaml_types.specs.Words.{error_words, place_in_words}
use Rattle.libyaml_types.specs.Fault.{Fault}

-- words and where they belong
abbrev pub said_at : List ℕ → yaml_mark_t → List ℕ
said_at words m = words ++ codes " at " ++ place_in_words m

-- the problem at its place, or else the kind of the error
abbrev pub problem_said : yaml_error_type_t → Option (List ℕ) → yaml_mark_t → List ℕ
problem_said e None m = error_words e
problem_said e (Some words) m = said_at words m

abbrev pub context_said : Option (List ℕ) → yaml_mark_t → List ℕ
context_said None m = []
context_said (Some words) m = codes "; " ++ said_at words m

abbrev pub message : Fault → List ℕ
message f = problem_said f.error f.problem f.problem_mark ++ context_said f.context f.context_mark

-- The errors of a line source (docs/DEFINITIONS.md, "Lines").
use Rattle.std.specs.Prelude.{ℕ, negsuc, List, Some, None, codes}
use Rattle.libyaml_types.specs.declared.enums.yaml_error_type_t.{yaml_error_type_t}
use Rattle.libyaml_types.specs.declared.enums.yaml_error_type_t.TheVariants.{YAML_READER_ERROR, YAML_SCANNER_ERROR}
use Rattle.libyaml_types.specs.Fault.{Fault, memory_fault}
use Rattle.libyaml_types.specs.Events.{zero_mark}
use Rattle.line_reading.specs.declared.line_problem.LineProblem.{LineProblem}
use Rattle.line_reading.specs.declared.line_problem.LineProblem.TheVariants.{Memory, ReadFailed, LineTooLong, BadTokenLine, TooManyTokens, NoMoreTokens}

-- A problem of the source that has given n tokens: the mark's line is the line's index, counted from 0
abbrev pub problem_at : yaml_error_type_t → List ℕ → ℕ → Fault
problem_at error problem n = record {
  error = error;
  problem = Some problem;
  problem_offset = n;
  problem_value = negsuc 0;
  problem_mark = record { index = n; line = n; column = 0 };
  context = None;
  context_mark = zero_mark;
}

abbrev pub line_fault : LineProblem → ℕ → Fault
line_fault Memory n = memory_fault
line_fault ReadFailed n = problem_at YAML_READER_ERROR (codes "read failed") n
line_fault LineTooLong n = problem_at YAML_READER_ERROR (codes "line too long") n
line_fault BadTokenLine n = problem_at YAML_SCANNER_ERROR (codes "bad token line") n
line_fault TooManyTokens n = problem_at YAML_READER_ERROR (codes "too many tokens") n
line_fault NoMoreTokens n = problem_at YAML_READER_ERROR (codes "no more tokens") n

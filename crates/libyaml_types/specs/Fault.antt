-- what an error says
use Rattle.std.specs.Prelude.{ℕ, ℤ, pos, List, Option, None, Some, Result, Ok, Err}
use Rattle.std.specs.Option.{option_copied}
use Rattle.libyaml_types.specs.declared.mark.yaml_mark_t.{yaml_mark_t}
use Rattle.libyaml_types.specs.declared.token.yaml_token_t.{yaml_token_t}
use Rattle.libyaml_types.specs.Events.{zero_mark}
use Rattle.libyaml_types.specs.declared.enums.yaml_error_type_t.TheVariants.{YAML_NO_ERROR, YAML_MEMORY_ERROR, YAML_SCANNER_ERROR}
use Rattle.libyaml_types.specs.declared.enums.yaml_error_type_t.{yaml_error_type_t}
use Rattle.libyaml_types.specs.declared.fault.yaml_parser_t_prefix.{yaml_parser_t_prefix}
use Rattle.libyaml_types.specs.declared.fault.yaml_source_fault_t.{yaml_source_fault_t}

pub record Fault : Type 0 where
  pub error : yaml_error_type_t
  pub problem : Option (List ℕ)
  pub problem_offset : ℕ
  pub problem_value : ℤ
  pub problem_mark : yaml_mark_t
  pub context : Option (List ℕ)
  pub context_mark : yaml_mark_t

-- what is kept before any error
abbrev pub no_fault : Fault
no_fault = record {
  error = YAML_NO_ERROR;
  problem = None;
  problem_offset = 0;
  problem_value = pos 0;
  problem_mark = zero_mark;
  context = None;
  context_mark = zero_mark;
}

-- a failed allocation: its error alone
abbrev pub memory_fault : Fault
memory_fault = record no_fault { error = YAML_MEMORY_ERROR }

-- a scanner's error of a problem at a mark, and nothing else
abbrev pub scanner_fault : (problem : List ℕ) → (mark : yaml_mark_t) → Fault
scanner_fault problem mark = record no_fault { error = YAML_SCANNER_ERROR; problem = Some problem; problem_mark = mark }

abbrev pub fault_of : yaml_parser_t_prefix → Fault
fault_of p = record {
  error = p.error;
  problem = option_copied p.problem;
  problem_offset = p.problem_offset;
  problem_value = p.problem_value;
  problem_mark = p.problem_mark;
  context = option_copied p.context;
  context_mark = p.context_mark;
}

abbrev pub source_fault : yaml_source_fault_t → Fault
source_fault f = fault_of f.prefix

-- a source's result: a token or an error
abbrev pub SourceResult : Type 0
SourceResult = Result yaml_token_t Fault

abbrev pub answer_of : Result yaml_token_t yaml_source_fault_t → SourceResult
answer_of (Ok t) = Ok t
answer_of (Err f) = Err (source_fault f)

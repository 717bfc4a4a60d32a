-- A source over a scanner (docs/DEFINITIONS.md, "A source over a scanner").
use Rattle.std.specs.Prelude.{◌≡◌, ◌<◌, ◌≤◌, ℕ, ◌+◌, Option, Some, None, Ok, Err, negsuc, codes}
use Rattle.libyaml_types.specs.declared.mark.yaml_mark_t.{yaml_mark_t}
use Rattle.libyaml_types.specs.declared.enums.yaml_error_type_t.TheVariants.{YAML_READER_ERROR}
use Rattle.libyaml_types.specs.Fault.{Fault, SourceResult, no_fault}

-- a source: its scanner, how many tokens it has given and how many it may give, where the last of them ends, and
-- the error that it keeps
pub record Scanned (S : Type 0) : Type 0 where
  pub scanner : S
  pub given : ℕ
  pub max_tokens : ℕ
  pub end : yaml_mark_t
  pub fault : Option Fault

-- the error after the last token that a source may give
abbrev pub too_many_tokens : (given : ℕ) → (end : yaml_mark_t) → Fault
too_many_tokens given end = record no_fault {
  error = YAML_READER_ERROR;
  problem = Some (codes "too many tokens");
  problem_offset = given;
  problem_value = negsuc 0;
  problem_mark = end;
}

-- how many tokens a result is, where the last token ends after it, and which error it is
abbrev pub tokens_in_answer : SourceResult → ℕ
tokens_in_answer (Ok token) = 1
tokens_in_answer (Err fault) = 0

abbrev pub end_after : yaml_mark_t → SourceResult → yaml_mark_t
end_after end (Ok token) = token.end_mark
end_after end (Err fault) = end

abbrev pub fault_in_answer : SourceResult → Option Fault
fault_in_answer (Ok token) = None
fault_in_answer (Err fault) = Some fault

-- a source that asks its scanner: it keeps no error, and may give a token
abbrev pub Asks : {S : Type 0} → Scanned S → Type 0
Asks s = (s.fault ≡ None) × (s.given < s.max_tokens)

-- what a call returns, and where that leaves the source
pub record ScannerGives {S : Type 0} (scans : S → SourceResult → S → Type 0) (s : Scanned S) (answer : SourceResult) (t : Scanned S)
    : Type 0 where
  pub asked : Asks s → scans s.scanner answer t.scanner
  pub not_asked : ¬ Asks s → t.scanner ≡ s.scanner
  pub kept : (fault : Fault) → s.fault ≡ Some fault → answer ≡ Err fault
  pub too_many : s.fault ≡ None → s.max_tokens ≤ s.given → answer ≡ Err (too_many_tokens s.given s.end)
  pub given : t.given ≡ s.given + tokens_in_answer answer
  pub max_tokens : t.max_tokens ≡ s.max_tokens
  pub end : t.end ≡ end_after s.end answer
  pub fault : t.fault ≡ fault_in_answer answer

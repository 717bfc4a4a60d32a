-- Two outcomes of one run over lines wrote the same.
use Rattle.std.proofs.Common.{◌≡◌, ℕ, List, Option, Some, arith}
use Rattle.libyaml_types.specs.Fault.{Fault}
use Rattle.libyaml_grammar.specs.runs.Runs.{Ending}
use Rattle.token_lines.specs.declared.run.Outcome.{Outcome}
use Rattle.token_lines.specs.declared.run.run_end_t.{run_end_t}
use Rattle.token_lines.specs.lines.LineRun.{Writes, outcome_of}
use Rattle.token_lines.specs.lines.OneOutput.{OneOutput}

pub one_writes : (P Q : Fault → Type 0) (o u : run_end_t) (first second : Outcome) → first ≡ outcome_of o
    → second ≡ outcome_of u → (written : List ℕ)
    (after later : Option (List ℕ)) (lines : List (List ℕ)) (ending : Ending) → Writes P o (Some written) after lines ending
    → Writes Q u (Some written) later lines ending → OneOutput P Q first second (Some written) after later
one_writes P Q o u first second is so written after later lines ending g h = grind arith

-- How a run's steps make what it writes.
use Rattle.std.proofs.Common.{◌≡◌, ◌⊎◌, ℕ, List, Option, Some, arith}
use Rattle.std.specs.List.{concat}
use Rattle.std.specs.Io.KnownBytes.{Appends, Keeps}
use Rattle.libyaml_grammar.specs.runs.Runs.{Ending, Ends}
use Rattle.libyaml_types.specs.Fault.{Fault}
use Rattle.token_lines.specs.declared.run.run_end_t.{run_end_t}
use Rattle.token_lines.specs.declared.run.run_end_t.TheVariants.{Ended, OutputFailed}
use Rattle.token_lines.specs.lines.LineRun.{Writes, ending_told, run_bytes}

pub keeps_then : (b c d : Option (List ℕ)) (bs : List ℕ) → Keeps b c → Appends c d bs → Appends b d bs
keeps_then b c d bs k h = grind arith

-- all was written, by a run that told this ending
pub told_whole : {MayBreak : Fault → Type 0} (r : run_end_t) (a b : Option (List ℕ)) (lines : List (List ℕ))
    (told ending : Ending) → ending_told r ≡ Some told → ending ≡ told → Appends a b (run_bytes lines told)
    → Writes MayBreak r a b lines ending
told_whole r a b lines told ending is e h = grind arith

pub writes_ended : (MayBreak : Fault → Type 0) (r : run_end_t) (a b : Option (List ℕ)) (lines : List (List ℕ))
    (ending : Ending) → (r ≡ Ended)
    ⊎ (r ≡ OutputFailed) → (ending ≡ Ends) × Appends a b (concat lines) → Writes MayBreak r a b lines ending
writes_ended MayBreak r a b lines ending h h' = grind arith

pub Keeps-same : (a : Option (List ℕ)) → Keeps a a
Keeps-same a = grind arith

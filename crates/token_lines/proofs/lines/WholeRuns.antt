-- That a run in memory which tells its end wrote all that belongs to it.
use Rattle.std.proofs.Common.{◌≡◌, ℕ, List, [], Option, Some, None, arith}
use Rattle.libyaml_types.specs.Fault.{Fault}
use Rattle.libyaml_grammar.specs.runs.Runs.{Ending, Fails}
use Rattle.line_reading.specs.sources.NextLine.{BreaksOffAt}
use Rattle.token_lines.specs.declared.memory.memory_run_t.{memory_run_t}
use Rattle.token_lines.specs.declared.run.run_end_t.{run_end_t}
use Rattle.token_lines.specs.lines.InMemory.{HandsOut, InMemory, outcome_told}
use Rattle.token_lines.specs.lines.LineRun.{Writes, ending_told}

same : (x y : Ending) → ◌≡◌ {A = Option Ending} (Some x) (Some y) → x ≡ y
same x y e = cc

none : (x : Ending) → ◌≡◌ {A = Option Ending} (Some x) None → ⊥
none x e = cc

-- the bytes of a run that began with nothing written were handed out, and it told this ending
pub in_memory : (n : ℕ) (end : run_end_t) (x : Ending) → ending_told end ≡ Some x
    → ((f : Fault) → x ≡ Fails f → BreaksOffAt n f → ⊥) → (bytes old new : List ℕ) (run : memory_run_t)
    → HandsOut (outcome_told x) bytes old new run → (lines : List (List ℕ)) (ending : Ending)
    → Writes (BreaksOffAt n) end (Some []) (Some bytes) lines ending → InMemory lines ending old new run
in_memory n end x is other bytes old new run h lines ending h' = grind arith

-- a slice has the bytes that were written
pub as_slice : (MayBreak : Fault → Type 0) (end : run_end_t) (old written bytes : List ℕ) (lines : List (List ℕ))
    (ending : Ending) → old ≡ [] → bytes ≡ written
    → Writes MayBreak end (Some old) (Some written) lines ending → Writes MayBreak end (Some []) (Some bytes) lines ending
as_slice MayBreak end old written bytes lines ending none same w =
    rw (← same) at (rw none at w)

-- Two runs in memory over the same token lines and into the same buffer that a contract allows
-- (docs/DEFINITIONS.md, "One outcome").
use Rattle.std.specs.Prelude.{◌≡◌, ℕ, List}
use Rattle.token_lines.specs.declared.memory.memory_outcome_t.TheVariants.{OutOfMemory}
use Rattle.token_lines.specs.declared.memory.memory_run_t.{memory_run_t}

-- what is told and the buffer are the same; or memory ran out in one of them
pub data OneInMemory (first second : memory_run_t) (after later : List ℕ) : Type 0 where
  alike : first ≡ second → after ≡ later → OneInMemory first second after later
  first_runs_out : first.outcome ≡ OutOfMemory → OneInMemory first second after later
  second_runs_out : second.outcome ≡ OutOfMemory → OneInMemory first second after later

-- A run over token lines in memory (docs/DEFINITIONS.md, "Runs over memory").
use Rattle.std.specs.Prelude.{◌≡◌, ◌++◌, ◌⊎◌, ℕ, List, length, min, take, drop, codes}
use Rattle.libyaml_types.specs.declared.event.yaml_event_t.{yaml_event_t}
use Rattle.libyaml_grammar.specs.runs.Runs.{Ending, Ends, Fails, IsRun}
use Rattle.libyaml_graphs.specs.loads.Loads.{IsLoads, Load}
use Rattle.line_reading.specs.sources.ReadLines.{read_lines}
use Rattle.token_lines.specs.events.EventRun.{event_lines}
use Rattle.token_lines.specs.lines.LineRun.{run_bytes}
use Rattle.token_lines.specs.nodes.NodeRun.{loads_ending, loads_lines}
use Rattle.token_lines.specs.declared.memory.memory_outcome_t.{memory_outcome_t}
use Rattle.token_lines.specs.declared.memory.memory_outcome_t.TheVariants.{Ended, Faulted, OutOfMemory}
use Rattle.token_lines.specs.declared.memory.memory_run_t.{memory_run_t}

-- the text of the error of a failed allocation
abbrev pub memory_text : List ℕ
memory_text = codes "FAULT memory 0:0:0 -\n"

-- how a run that ends so is told
abbrev pub outcome_told : Ending → memory_outcome_t
outcome_told Ends = Ended
outcome_told (Fails f) = Faulted

-- what is told of these bytes: how many they are, and how many of them had room
abbrev pub run_told : memory_outcome_t → (bytes old : List ℕ) → memory_run_t
run_told outcome bytes old = record { outcome = outcome; written = min (length bytes) (length old); wanted = length bytes }

-- the buffer then: its first bytes are these, and those that follow them are as they were
abbrev pub filled : (bytes old : List ℕ) → List ℕ
filled bytes old = take (min (length bytes) (length old)) bytes ++ drop (min (length bytes) (length old)) old

-- these bytes were put into a buffer
abbrev pub HandsOut : memory_outcome_t → (bytes old new : List ℕ) → memory_run_t → Type 0
HandsOut outcome bytes old new run = (run ≡ run_told outcome bytes old) × (new ≡ filled bytes old)

-- The bytes of a run that has these lines and this ending were handed out; or where an allocation failed, the text of that
-- error alone.
abbrev pub InMemory : (lines : List (List ℕ)) → Ending → (old new : List ℕ) → memory_run_t → Type 0
InMemory lines ending old new run = HandsOut (outcome_told ending) (run_bytes lines ending) old new run
    ⊎ HandsOut OutOfMemory memory_text old new run

-- the lines of the events of these token lines, of which at most so many are read
abbrev pub EventsInMemory : (tokens : List ℕ) (max : ℕ) (old new : List ℕ) → memory_run_t → Type 0
EventsInMemory tokens max old new run = (events : List yaml_event_t) (ending : Ending)
    → IsRun (read_lines tokens max).tokens (read_lines tokens max).fault events ending
    → InMemory (event_lines events) ending old new run

-- the lines of their documents and nodes
abbrev pub NodesInMemory : (tokens : List ℕ) (max : ℕ) (old new : List ℕ) → memory_run_t → Type 0
NodesInMemory tokens max old new run = (loads : List Load)
    → IsLoads (read_lines tokens max).tokens (read_lines tokens max).fault loads
    → InMemory (loads_lines loads) (loads_ending loads) old new run

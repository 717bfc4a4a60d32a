-- The run of an input's token lines, and what is written of it (docs/DEFINITIONS.md, "Runs over lines").
use Rattle.std.specs.Prelude.{ℕ, List, Option, map, IfSome}
use Rattle.libyaml_types.specs.declared.event.yaml_event_t.{yaml_event_t}
use Rattle.libyaml_types.specs.Fault.{Fault}
use Rattle.libyaml_grammar.specs.runs.Runs.{Ending, IsRun}
use Rattle.line_reading.specs.sources.ReadLines.{read_lines}
use Rattle.line_writing.specs.EventText.{event_line}
use Rattle.token_lines.specs.declared.run.run_end_t.{run_end_t}
use Rattle.token_lines.specs.lines.LineRun.{Writes}

-- a run reads at most so many tokens
abbrev pub most_tokens : ℕ
most_tokens = 1000000

-- the lines of events
abbrev pub event_lines : List yaml_event_t → List (List ℕ)
event_lines events = map event_line events

-- the run of the token lines of an input
abbrev pub IsRunOf : List ℕ → List yaml_event_t → Ending → Type 0
IsRunOf bytes events ending = IsRun (read_lines bytes most_tokens).tokens (read_lines bytes most_tokens).fault events ending

-- what a run writes of an input, where its bytes are known
abbrev pub WritesRunOf : (bytes : Option (List ℕ)) → (MayBreak : Fault → Type 0) → run_end_t
    → (old new : Option (List ℕ)) → Type 0
WritesRunOf bytes MayBreak end old new =
    IfSome bytes (λ known. (events : List yaml_event_t) (ending : Ending) → IsRunOf known events ending
    → Writes MayBreak end old new (event_lines events) ending)

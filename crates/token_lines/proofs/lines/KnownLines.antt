-- What is written of an input whose bytes are known, by what is written of each run of its lines.
use Rattle.std.proofs.Common.{◌≡◌, ℕ, List, Option, Some, None, IfSome, refl}
use Rattle.libyaml_types.specs.declared.event.yaml_event_t.{yaml_event_t}
use Rattle.libyaml_types.specs.declared.token.yaml_token_t.{yaml_token_t}
use Rattle.libyaml_types.specs.Fault.{Fault}
use Rattle.libyaml_grammar.specs.runs.Runs.{Ending, IsRun}
use Rattle.libyaml_types.specs.Source.{coming}
use Rattle.libyaml_graphs.specs.loads.Bounds.{bounded_loads}
use Rattle.libyaml_graphs.proofs.exported.BoundedPrefixes.{prefix_of_loads}
use Rattle.line_reading.specs.sources.LineSource.{coming_of}
use Rattle.token_lines.specs.declared.run.run_end_t.{run_end_t}
use Rattle.token_lines.specs.events.EventRun.{IsRunOf, most_tokens}
use Rattle.token_lines.specs.nodes.LastLoad.{most_entries}
use Rattle.token_lines.specs.nodes.NodeRun.{WritesLoads, WritesNodesOf}
use Rattle.token_lines.proofs.nodes.NoBound.{writes_all}

-- what is written of every run of a known input's lines
pub writes_of_lines : (bytes : Option (List ℕ)) (Wrote : List yaml_event_t → Ending → Type 0)
    → ((tokens : List yaml_token_t) (f : Fault) → coming_of bytes 0 most_tokens ≡ Some (coming tokens f)
    → (events : List yaml_event_t) (ending : Ending)
    → IsRun tokens f events ending → Wrote events ending)
    → IfSome bytes (λ known. (events : List yaml_event_t) (ending : Ending) → IsRunOf known events ending
    → Wrote events ending)
writes_of_lines None Wrote h = tt
writes_of_lines (Some bytes) Wrote h = λ events ending run. h _ _ refl events ending run

-- what is written of the loads of every run of a known input's lines
pub writes_of_runs : (bytes : Option (List ℕ)) (MayBreak : Fault → Type 0) (end : run_end_t) (old new : Option (List ℕ))
    → IfSome bytes (λ known. (events : List yaml_event_t) (ending : Ending) → IsRunOf known events ending
    → WritesLoads MayBreak end old new (bounded_loads most_entries events ending))
    → WritesNodesOf bytes MayBreak end old new
writes_of_runs None MayBreak end old new h = tt
writes_of_runs (Some bytes) MayBreak end old new h =
    λ loads is. rw (← is.all) at
    (writes_all MayBreak end old new _ _ (prefix_of_loads is.events is.ending most_entries) (h is.events is.ending
    is.run))

use Rattle.std.proofs.Common.{ℕ, List, ap, sym, ◌∙◌, inl, inr}
use Rattle.libyaml_grammar.specs.runs.Runs.{Ending}
use Rattle.libyaml_grammar.proofs.exported.Running.{some_run_proof}
use Rattle.libyaml_graphs.proofs.exported.RunLoads.{some_loads}
use Rattle.line_reading.specs.sources.ReadLines.{read_lines}
use Rattle.token_lines.specs.declared.memory.memory_run_t.{memory_run_t}
use Rattle.token_lines.specs.events.EventRun.{event_lines}
use Rattle.token_lines.specs.lines.InMemory.{InMemory}
use Rattle.token_lines.specs.lines.OneInMemory.{OneInMemory, alike, first_runs_out, second_runs_out}
use Rattle.token_lines.specs.nodes.NodeRun.{loads_ending, loads_lines}
use Rattle.token_lines.proofs.laws.determined.one_run_in_memory.Goals as goal

one : (lines : List (List ℕ)) (ending : Ending) (old after later : List ℕ) (a b : memory_run_t)
    → InMemory lines ending old after a → InMemory lines ending old later b → OneInMemory a b after later
one lines ending old after later a b (inr g) h = first_runs_out (ap (λ (r : memory_run_t). r.outcome) g.0)
one lines ending old after later a b g (inr h) = second_runs_out (ap (λ (r : memory_run_t). r.outcome) h.0)
one lines ending old after later a b (inl g) (inl h) = alike (g.0 ∙ sym h.0) (g.1 ∙ sym h.1)

pub returns-clause-events : goal.returns-clause-events
returns-clause-events c tokens old after later max first second a b =
    let lines = read_lines tokens max in
    let (e, x, run) = some_run_proof lines.tokens lines.fault in
    one (event_lines e) x old after later first second (a e x run) (b e x run)

pub returns-clause-nodes : goal.returns-clause-nodes
returns-clause-nodes c tokens old after later max first second a b =
    let lines = read_lines tokens max in
    let (loads, are) = some_loads lines.tokens lines.fault in
    one (loads_lines loads) (loads_ending loads) old after later first second (a loads are) (b loads are)

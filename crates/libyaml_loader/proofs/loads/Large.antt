-- A loaded document is at most twice as large as its events.
use Rattle.std.proofs.Common.{◌≤◌, ◌*◌, arith, ℕ, List, [], ◌++◌, length, Ok, Err, IfOk, ap, append-nil}
use Rattle.libyaml_types.specs.declared.source.yaml_token_source_t.{Ghosts}
use Rattle.libyaml_grammar.specs.runs.Runs.{Ends}
use Rattle.libyaml_grammar.specs.grammar.Events.{Event}
use Rattle.libyaml_events.specs.machine.Config.{Parser}
use Rattle.libyaml_graphs.specs.loads.Bounds.{first_stop, next_bounded}
use Rattle.libyaml_graphs.specs.loads.Linear.{size}
use Rattle.libyaml_graphs.specs.loads.Loads.{left_over}
use Rattle.libyaml_graphs.proofs.exported.RunLoads.{next_linear}
use Rattle.libyaml_events.specs.sources.CallsInTurn.{Took}
use Rattle.libyaml_loader.specs.loads.Loading.{DocumentOrError, LoadsFrom, at_end, whole}

pub linear : (n : ℕ) {S : Type 0} (g : Ghosts S) (old new : Parser S) (r : DocumentOrError)
    → LoadsFrom g (next_bounded n) left_over old r new
    → IfOk r (λ d. (taken : List Event) × Took g old new taken × (size d.nodes ≤ 2 * length taken))
linear n g old new (Err x) h = tt
linear n g old new (Ok d) (whole taken took loads left between) =
    let a = next_linear (first_stop n [] []) (taken ++ []) Ends d (loads [] Ends) in
    let b = ap length (append-nil taken) in
    (taken, took, omega arith)
linear n g old new (Ok d) (at_end taken took load left runs empty ended) = grind arith

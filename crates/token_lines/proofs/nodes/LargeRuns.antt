-- The documents that a run loaded are together at most eight nodes and entries for each token that was asked for.
use Rattle.std.proofs.Common.{◌≤◌, ◌*◌, arith, ℕ, List, [], length, ap, sym, ◌∙◌}
use Rattle.std.proofs.lemmas.List.{append-nil}
use Rattle.libyaml_types.specs.declared.event.yaml_event_t.{yaml_event_t}
use Rattle.libyaml_types.specs.Fault.{SourceResult}
use Rattle.libyaml_documents.specs.Documents.{Document}
use Rattle.libyaml_events.specs.machine.Config.{Parser}
use Rattle.libyaml_events.proofs.exported.Histories as histories
use Rattle.libyaml_grammar.specs.runs.Runs.{Ends}
use Rattle.libyaml_graphs.specs.loads.Bounds.{bounded_loads, first_stop}
use Rattle.libyaml_graphs.specs.loads.Linear.{documents_size}
use Rattle.libyaml_graphs.proofs.exported.RunLoads.{first_linear}
use Rattle.libyaml_loader.specs.loads.LoadsInTurn.{LoadedInTurn}

pub loaded_linear : {S : Type 0} (gives : S → SourceResult → S → Type 0) (n : ℕ)
    → (first p : Parser S) (documents : List Document) → (a : LoadedInTurn gives n first p documents [] [])
    → documents_size documents ≤ 8 * length a.carried.more
loaded_linear gives n first p documents a =
    let h = first_linear (first_stop n [] []) a.taken Ends documents (bounded_loads n [] Ends)
    (ap (λ (e : List yaml_event_t). bounded_loads n e Ends) (sym (append-nil a.taken)) ∙ a.loads [] Ends) in
    let i : length a.taken ≤ 4 * length a.carried.more
    = histories.at_most_four p a.carried.more a.taken a.carried.history in
    omega arith

-- How a loader goes on by events that it is handed (docs/DEFINITIONS.md, "Documents pushed").
use Rattle.std.specs.Prelude.{◌≡◌, ◌++◌, ℕ, List, [], ◌∷◌, map, Option, Some, None, Ok, Err}
use Rattle.libyaml_documents.specs.Documents.{Document}
use Rattle.libyaml_types.specs.Fault.{Fault}
use Rattle.libyaml_grammar.specs.grammar.Events.{Event}
use Rattle.libyaml_grammar.specs.runs.Runs.{Ending}
use Rattle.libyaml_graphs.specs.graphs.GraphParts.{Closing, closing_of, opening_of, part_of}
use Rattle.libyaml_graphs.specs.loads.Bounds.{bounded_loads}
use Rattle.libyaml_graphs.specs.loads.Loads.{Load, after_document, end_of_document}
use Rattle.libyaml_graphs.specs.machine.Loader.{Loader, State, between, bounded_option, fresh, if_going, load_from, within}

-- a load, and after a document that is whole these
abbrev pub whole_then : Option Closing → Load → List Load → List Load
whole_then c (Err f) l = Err f ∷ []
whole_then None (Ok d) l = Ok d ∷ []
whole_then (Some c) (Ok d) l = Ok d ∷ l

-- The loads of the events to come, where no document is open, or one is: within the bound n.
abbrev pub loads_from : ℕ → State → List Event → Ending → List Load
loads_from n between e x = bounded_loads n e x
loads_from n (within o l) e x = whole_then (end_of_document e) (load_from n (within o l) e x)
    (bounded_loads n (after_document e) x)

-- documents as loads
abbrev pub as_loads : List Document → List Load
as_loads documents = map (λ (d : Document). Ok d) documents

-- where a loader stands after an event: one that refuses it drops its document
abbrev pub after_event : ℕ → State → Event → State
after_event n between e = elim (opening_of e) [ None ↦ between | Some o ↦ within o fresh ]
after_event n (within o l) e
    = elim (closing_of e) [
      | Some c ↦ between
      | None ↦ if_going (λ (f : Fault). between)
          (bounded_option n l (part_of e)) (λ (k : Loader). within o k)
    ]

abbrev pub after_events : ℕ → State → List Event → State
after_events n s [] = s
after_events n s (e ∷ r) = after_events n (after_event n s e) r

-- From the one state these events lead to the other, and give these documents: whatever events come after them.
pub record Leads (n : ℕ) (old : State) (events : List Event) (documents : List Document) (new : State) : Type 0 where
  pub loads : (rest : List Event) (x : Ending) → loads_from n old (events ++ rest) x ≡ as_loads documents
      ++ loads_from n new rest x
  pub state : new ≡ after_events n old events

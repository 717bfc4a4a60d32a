-- A whole loop over a parser's events within bounds (docs/DEFINITIONS.md, "Bounded events").
use Rattle.std.specs.Prelude.{◌≡◌, ◌≤◌, ◌<◌, ◌⊎◌, ◌++◌, ◌∷◌, ℕ, List, [], Option, Some, None, Ok, Err}
use Rattle.std.specs.List.{AllByRecursion}
use Rattle.libyaml_types.specs.Fault.{Fault, fault_of, memory_fault}
use Rattle.libyaml_types.specs.declared.fault.yaml_parser_t_prefix.{yaml_parser_t_prefix}
use Rattle.libyaml_types.specs.declared.source.yaml_token_source_t.{Ghosts}
use Rattle.libyaml_grammar.specs.grammar.Events.{Event}
use Rattle.libyaml_grammar.specs.grammar.Nesting.{NestsSoFar}
use Rattle.libyaml_grammar.specs.runs.Runs.{Ending, Ends, Fails}
use Rattle.libyaml_documents.specs.Documents.{Document}
use Rattle.libyaml_events.specs.machine.Config.{Parser}
use Rattle.libyaml_graphs.specs.loads.Bounds.{bounded_loads}
use Rattle.libyaml_graphs.specs.loads.Leads.{as_loads}
use Rattle.libyaml_graphs.specs.loads.Loads.{Load, last_load}
use Rattle.yaml_expansion.specs.Expansion.{HasExpandedSize, IsCyclic}
use Rattle.document_sizes.specs.Counting.{bound_of}
use Rattle.yaml_bounds.specs.Bounds.{endless_fault, large_fault, many_nodes_fault}
use Rattle.yaml_bounds.specs.BoundedEvents.{BoundedEvents, YieldsBounded}

-- these events came, and then no item, or this error
pub data LoopBounded {S : Type 0} (g : Ghosts S) : BoundedEvents S → List Event → Ending → BoundedEvents S → Type 0 where
  no_item : {old new : BoundedEvents S} → YieldsBounded g old None new → LoopBounded g old [] Ends new
  fault : (f : yaml_parser_t_prefix) → {old new : BoundedEvents S} → YieldsBounded g old (Some (Err f)) new
      → LoopBounded g old [] (Fails (fault_of f)) new
  event : (e : Event) (later : List Event) (ending : Ending) (next : BoundedEvents S) → {old new : BoundedEvents S}
      → YieldsBounded g old (Some (Ok e)) next → LoopBounded g next later ending new
      → LoopBounded g old (e ∷ later) ending new

-- With whatever events a parser may give after these, the loads go on with this document.
abbrev pub GoesOnWith : (n : ℕ) → List Document → List Event → Document → Type 0
GoesOnWith n documents events d = (later : List Event) × (ending : Ending) × (more : List Load) × NestsSoFar (events ++ later)
    × (bounded_loads n (events ++ later) ending ≡ as_loads documents ++ Ok d ∷ more)

-- The document that is open has more nodes with its aliases written out than the bound, or a tree without end, whatever comes
-- after these events.
abbrev pub GetsTooLarge : (n max : ℕ) → List Document → List Event → Type 0
GetsTooLarge n max documents events = (d : Document) → GoesOnWith n documents events d → (d.nodes ≡ [] → ⊥)
    → (size : ℕ) → HasExpandedSize d.nodes size → bound_of max < size

abbrev pub GetsEndless : (n : ℕ) → List Document → List Event → Type 0
GetsEndless n documents events = (d : Document) → GoesOnWith n documents events d → (d.nodes ≡ [] → ⊥) → IsCyclic d.nodes

-- Why no event more came, where these are the rest of a run with the ending x: none is left; or the next one isn't within a
-- bound, or loading fails there, whatever comes after it; or memory ran out, or the source failed early.
pub data StopsBy (n : ℕ) (max : Option ℕ) (MayBreak : Fault → Type 0) (yielded : List Event) (documents : List Document)
    (ending : Ending) (rest : List Event) (x : Ending) : Type 0 where
  all : rest ≡ [] → ending ≡ x → StopsBy n max MayBreak yielded documents ending rest x
  too_many : (e : Event) (later : List Event) → rest ≡ e ∷ later → ending ≡ Fails (many_nodes_fault e.start_mark)
      → ((any : List Event) (y : Ending) → bounded_loads n (yielded ++ e ∷ any) y ≡ as_loads documents ++ Err memory_fault ∷ [])
      → StopsBy n max MayBreak yielded documents ending rest x
  gets_too_large : (m : ℕ) (e : Event) (later : List Event) → max ≡ Some m → rest ≡ e ∷ later
      → ending ≡ Fails (large_fault e.start_mark) → GetsTooLarge n m documents (yielded ++ e ∷ [])
      → StopsBy n max MayBreak yielded documents ending rest x
  gets_endless : (m : ℕ) (e : Event) (later : List Event) → max ≡ Some m → rest ≡ e ∷ later
      → ending ≡ Fails (endless_fault e.start_mark) → GetsEndless n documents (yielded ++ e ∷ [])
      → StopsBy n max MayBreak yielded documents ending rest x
  refused : (f : Fault) (e : Event) (later : List Event) → rest ≡ e ∷ later → ending ≡ Fails f
      → ((any : List Event) (y : Ending) → bounded_loads n (yielded ++ e ∷ any) y ≡ as_loads documents ++ Err f ∷ [])
      → StopsBy n max MayBreak yielded documents ending rest x
  cut_short : (f : Fault) → ending ≡ Fails f → (f ≡ memory_fault) ⊎ MayBreak f
      → StopsBy n max MayBreak yielded documents ending rest x

-- the document's expanded size is at most the bound
abbrev pub HasSizeWithin : ℕ → Document → Type 0
HasSizeWithin max d = (size : ℕ) × HasExpandedSize d.nodes size × (size ≤ bound_of max)

-- The events that a loop yielded are the first of a run's: in them no load fails, and each document is within the bound.
pub record AreBoundedOf {S : Type 0} (MayBreak : S → Fault → Type 0) (new : Parser S) (n : ℕ) (max : Option ℕ) (yielded : List Event)
    (ending : Ending) (events : List Event) (x : Ending) : Type 0 where
  pub documents : List Document
  pub rest : List Event
  pub first : events ≡ yielded ++ rest
  pub faultless : (y : Ending) → bounded_loads n yielded y ≡ as_loads documents ++ last_load y ∷ []
  pub sizes : (m : ℕ) → max ≡ Some m → AllByRecursion (HasSizeWithin m) documents
  pub stops : StopsBy n max (MayBreak new.source) yielded documents ending rest x

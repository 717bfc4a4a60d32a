-- What composes events and makes no documents: what it keeps, where it stands, and what it does with an event
-- (docs/DEFINITIONS.md, "Composed events").
use Rattle.std.specs.Prelude.{◌≡◌, ◌∷◌, ℕ, pos, List, [], Option, Some, Bool, true, false, Err}
use Rattle.libyaml_types.specs.Fault.{Fault, memory_fault}
use Rattle.libyaml_grammar.specs.grammar.Events.{Event}
use Rattle.libyaml_grammar.specs.runs.Runs.{Ending}
use Rattle.libyaml_documents.specs.Documents.{Document}
use Rattle.libyaml_graphs.specs.graphs.GraphParts.{Opening, Part, leaf_part, part_of, start_part}
use Rattle.libyaml_graphs.specs.graphs.Graphs.{id_or}
use Rattle.libyaml_graphs.specs.loads.Leads.{Leads, loads_from}
use Rattle.libyaml_graphs.specs.machine.Loader.{Anchors, State, between, no_anchors, within}
use Rattle.libyaml_composer.specs.Composing.{Composer}
use Rattle.libyaml_composer.specs.DocumentSoFar.{DocumentSoFar, loader_by}
use Rattle.libyaml_composer.specs.Numbers.{is_id}
use Rattle.libyaml_composer.specs.Represents.{Represents}
use Rattle.libyaml_loader.specs.composed.Anchoring.{event_node}
use Rattle.libyaml_loader.specs.document.Stack.{first_composer}

-- what is kept between two events: counts, the open collections and the anchors of the document that is open
pub record EventComposer : Type 0 where
  pub collections : Composer
  pub anchors : Anchors

-- no document is open, and each list of a document may have n entries
abbrev pub new_event_composer : ℕ → EventComposer
new_event_composer n = record { collections = first_composer n; anchors = no_anchors }

-- how many entries each list of a document may have
abbrev pub entries_bound : EventComposer → ℕ
entries_bound c = c.collections.most

-- It stands where the loader does that keeps these nodes too: between documents, or within one.
pub data StandsAt (c : EventComposer) (here : State) : Type 0 where
  is_between : c.collections.is_within ≡ false → here ≡ between → StandsAt c here
  is_within : (o : Opening) (h : DocumentSoFar) → Represents c.collections h o → h.anchors ≡ c.anchors
      → here ≡ within o (loader_by c.collections h) → StandsAt c here

-- The event is no error of a load: the loads go on from where the composer stood to where it then stands, past the
-- document that ends with the event, if one does.
pub record IsComposed (old : EventComposer) (here : State) (e : Event) (new : EventComposer) : Type 0 where
  pub documents : List Document
  pub there : State
  pub leads : Leads (entries_bound old) here (e ∷ []) documents there
  pub stands : StandsAt new there
  pub bound : entries_bound new ≡ entries_bound old

-- Memory is needed: a node has an anchor or a collection begins, and no node before has the same anchor.
abbrev pub needs_memory_by : (is_repeated : Bool) → Option Part → Bool
needs_memory_by false (Some (leaf_part (Some a) x)) = true
needs_memory_by false (Some (start_part a x)) = true
needs_memory_by _ _ = false

abbrev pub needs_memory : Anchors → Event → Bool
needs_memory xs e = needs_memory_by (is_id (pos (id_or (event_node xs e)))) (part_of e)

-- The event is refused: the loads end there with this error, whatever comes after it; or an allocation failed.
pub data EventRefused (old : EventComposer) (here : State) (e : Event) (f : Fault) : Type 0 where
  by_loads : ((rest : List Event) (x : Ending) → loads_from (entries_bound old) here (e ∷ rest) x ≡ Err f ∷ [])
      → EventRefused old here e f
  by_memory : f ≡ memory_fault → needs_memory old.anchors e ≡ true → EventRefused old here e f

-- wherever it stood
abbrev pub ComposesTo : (old : EventComposer) → Event → (new : EventComposer) → Type 0
ComposesTo old e new = (here : State) → StandsAt old here → IsComposed old here e new

abbrev pub RefusesBy : (old : EventComposer) → Event → Fault → Type 0
RefusesBy old e f = (here : State) → StandsAt old here → EventRefused old here e f

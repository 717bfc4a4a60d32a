-- What a place says of the document that a load gives (docs/DEFINITIONS.md, "Placed events").
use Rattle.std.specs.Prelude.{◌≡◌, ◌∷◌, ℕ, ℤ, List, Option, Some, Ok, option_and_then, slice_get}
use Rattle.libyaml_grammar.specs.grammar.Events.{Event}
use Rattle.libyaml_grammar.specs.runs.Runs.{Ending}
use Rattle.libyaml_documents.specs.Documents.{Document}
use Rattle.libyaml_documents.specs.Nodes.{items_of, node_at, pairs_of}
use Rattle.libyaml_documents.specs.declared.node.yaml_node_t.{yaml_node_t}
use Rattle.libyaml_documents.specs.declared.pairs.yaml_node_pair_t.{yaml_node_pair_t}
use Rattle.libyaml_graphs.specs.graphs.GraphParts.{Closing}
use Rattle.libyaml_graphs.specs.loads.Loads.{end_of_document}
use Rattle.libyaml_graphs.specs.machine.Loader.{State, load_from}
use Rattle.libyaml_loader.specs.declared.places.yaml_place_t.{yaml_place_t}
use Rattle.libyaml_loader.specs.declared.places.yaml_role_t.{yaml_role_t}
use Rattle.libyaml_loader.specs.composed.EventComposer.{EventComposer, StandsAt, entries_bound}
use Rattle.libyaml_loader.specs.composed.Places.{PlacesEvent}

-- the item, and the pair, at an index of the node of this id
abbrev pub held_item : List yaml_node_t → (parent : ℤ) → (index : ℕ) → Option ℤ
held_item nodes parent index = option_and_then (λ node. slice_get (items_of node.content) index) (node_at nodes parent)

abbrev pub held_pair : List yaml_node_t → (parent : ℤ) → (index : ℕ) → Option yaml_node_pair_t
held_pair nodes parent index = option_and_then (λ node. slice_get (pairs_of node.content) index) (node_at nodes parent)

-- Whatever events come after this one: if the load of the document that is open gives it whole, this holds of its nodes.
abbrev pub HoldsOnceLoaded : EventComposer → State → Event → (List yaml_node_t → Type 0) → Type 0
HoldsOnceLoaded old here e Holds = (rest : List Event) (x : Ending) (c : Closing) (d : Document) → end_of_document rest ≡ Some c
    → load_from (entries_bound old) here (e ∷ rest) x ≡ Ok d → Holds d.nodes

-- of each place with this role, wherever the composer stood
abbrev pub ForPlaced : yaml_role_t → (yaml_place_t → List yaml_node_t → Type 0) → Type 0
ForPlaced role Holds = (old new : EventComposer) (e : Event) (p : yaml_place_t) (here : State) → PlacesEvent old e (Some p) new
    → p.role ≡ role → StandsAt old here → HoldsOnceLoaded old here e (Holds p)

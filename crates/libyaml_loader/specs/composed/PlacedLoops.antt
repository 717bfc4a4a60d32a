-- A whole loop over the placed events of a parser (docs/DEFINITIONS.md, "Placed events").
use Rattle.std.specs.Prelude.{◌≡◌, ◌≢◌, ◌++◌, ◌∷◌, ℕ, ℤ, pos, List, [], map, Option, Some, None, Ok, Err}
use Rattle.libyaml_types.specs.Fault.{fault_of}
use Rattle.libyaml_types.specs.declared.fault.yaml_parser_t_prefix.{yaml_parser_t_prefix}
use Rattle.libyaml_types.specs.declared.source.yaml_token_source_t.{Ghosts}
use Rattle.libyaml_grammar.specs.grammar.Events.{Event}
use Rattle.libyaml_grammar.specs.runs.Runs.{Ending, Ends, Fails}
use Rattle.libyaml_documents.specs.Documents.{Document}
use Rattle.libyaml_documents.specs.declared.node.yaml_node_t.{yaml_node_t}
use Rattle.libyaml_documents.specs.declared.pairs.yaml_node_pair_t.{yaml_node_pair_t}
use Rattle.libyaml_graphs.specs.loads.Bounds.{bounded_loads}
use Rattle.libyaml_graphs.specs.loads.Leads.{as_loads}
use Rattle.libyaml_graphs.specs.loads.Loads.{Load, last_load}
use Rattle.libyaml_loader.specs.declared.places.yaml_place_t.{yaml_place_t}
use Rattle.libyaml_loader.specs.declared.places.yaml_role_t.{yaml_role_t}
use Rattle.libyaml_loader.specs.declared.places.yaml_role_t.TheVariants.{Root, Item, Key, Value}
use Rattle.libyaml_loader.specs.composed.ComposedEvents.{ComposedEvents}
use Rattle.libyaml_loader.specs.composed.PlacedDocuments.{held_item, held_pair}
use Rattle.libyaml_loader.specs.composed.PlacedEvents.{YieldsPlaced}

-- these events came with their places, and then no item, or this error
pub data LoopPlaces {S : Type 0} (g : Ghosts S) : ComposedEvents S → List (Event × Option yaml_place_t) → Ending → ComposedEvents S
    → Type 0 where
  no_item : {old new : ComposedEvents S} → YieldsPlaced g old None new → LoopPlaces g old [] Ends new
  fault : (f : yaml_parser_t_prefix) → {old new : ComposedEvents S} → YieldsPlaced g old (Some (Err f)) new
      → LoopPlaces g old [] (Fails (fault_of f)) new
  event : (e : Event) (place : Option yaml_place_t) (later : List (Event × Option yaml_place_t)) (ending : Ending)
      (next : ComposedEvents S) → {old new : ComposedEvents S} → YieldsPlaced g old (Some (Ok (e, place))) next
      → LoopPlaces g next later ending new → LoopPlaces g old ((e, place) ∷ later) ending new

abbrev pub events_in : List (Event × Option yaml_place_t) → List Event
events_in items = map (λ i. i.0) items

-- the nodes have this id there; a root has no parent
abbrev pub HasEntry : yaml_role_t → List yaml_node_t → (parent : ℤ) → (index : ℕ) → (id : ℤ) → Type 0
HasEntry Root nodes parent index id = parent ≡ pos 0
HasEntry Item nodes parent index id = held_item nodes parent index ≡ Some id
HasEntry Key nodes parent index id = (pair : yaml_node_pair_t) × (held_pair nodes parent index ≡ Some pair) × (pair.key ≡ id)
HasEntry Value nodes parent index id = (pair : yaml_node_pair_t) × (held_pair nodes parent index ≡ Some pair) × (pair.value ≡ id)

-- Each place is in the document of its event: the one that the loads give after those that ended before the event.
abbrev pub ArePlacesIn : ℕ → List (Event × Option yaml_place_t) → List Load → Type 0
ArePlacesIn n items loads = (before later : List (Event × Option yaml_place_t)) (e : Event) (p : yaml_place_t)
    (documents : List Document) (d : Document) (more : List Load) → items ≡ before ++ (e, Some p) ∷ later
    → ((y : Ending) → bounded_loads n (events_in before) y ≡ as_loads documents ++ last_load y ∷ [])
    → loads ≡ as_loads documents ++ Ok d ∷ more → d.nodes ≢ [] → HasEntry p.role d.nodes p.parent p.index p.id

-- What is told of an event to whoever makes no nodes: what is to be done to the document, and where its node or alias goes
-- (docs/DEFINITIONS.md, "Composed events").
use Rattle.std.specs.Prelude.{◌≡◌, ℕ, pos}
use Rattle.libyaml_types.specs.Fault.{Fault}
use Rattle.libyaml_types.specs.Types.{event_type}
use Rattle.libyaml_grammar.specs.grammar.Events.{Event}
use Rattle.libyaml_graphs.specs.graphs.Graphs.{id_or}
use Rattle.libyaml_graphs.specs.graphs.GraphParts.{part_of}
use Rattle.libyaml_composer.specs.declared.deed.Deed.{Deed}
use Rattle.libyaml_composer.specs.declared.deed.Deed.TheVariants as deed
use Rattle.libyaml_composer.specs.declared.records.place_t.{place_t}
use Rattle.libyaml_composer.specs.Composing.{composer_step, told}
use Rattle.libyaml_loader.specs.composed.Anchoring.{anchors_after, event_first_mark, event_node}
use Rattle.libyaml_loader.specs.composed.EventComposer.{EventComposer}
use Rattle.libyaml_loader.specs.document.Context.{refusal_of}
use Rattle.libyaml_loader.specs.document.Refusals.{fault_by}
use Rattle.libyaml_loader.specs.document.Stack.{roomy}

-- where nothing goes
abbrev pub no_place : place_t
no_place = record { node = pos 0; child = pos 0; parent = pos 0; key = pos 0 }

-- The composer's deed and place, with room for so many collections, by the anchors that are kept; a node is then registered by
-- its anchor.
pub record TellsDeed (old : EventComposer) (e : Event) (d : Deed) (p : place_t) (new : EventComposer) : Type 0 where
  pub room : ℕ
  pub told : told d p new.collections
      ≡ composer_step (event_type e.content) (pos (id_or (event_node old.anchors e))) no_place (roomy room old.collections)
  pub has_room : d ≡ deed.FullStack → ⊥
  pub anchors : new.anchors ≡ anchors_after d p.node (part_of e) old.anchors

-- the error of a load where this deed refuses the event
abbrev pub load_fault : Deed → EventComposer → Event → Fault
load_fault d c e = fault_by (refusal_of d) (event_first_mark c.anchors e) e.start_mark

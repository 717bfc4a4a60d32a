-- What was written of a document's nodes, beside the document (docs/DEFINITIONS.md, "Placed events").
use Rattle.std.specs.Prelude.{◌≡◌, ◌++◌, ◌∷◌, ℕ, List, [], length, Option, Some, None, Bool, true, false, is_some}
use Rattle.libyaml_types.specs.Types.{event_anchor}
use Rattle.libyaml_types.specs.declared.event.unnamed_yaml_event_t_data.TheVariants as ev
use Rattle.libyaml_types.specs.declared.event.unnamed_yaml_event_t_data.{unnamed_yaml_event_t_data}
use Rattle.libyaml_grammar.specs.grammar.Events.{Event}
use Rattle.libyaml_graphs.specs.graphs.GraphParts.{Opening, opening_of}
use Rattle.libyaml_loader.specs.declared.places.yaml_place_t.{yaml_place_t}
use Rattle.libyaml_loader.specs.composed.EventComposer.{EventComposer}

-- of a node its anchor, and whether a tag was given
pub record WrittenNode : Type 0 where
  pub anchor : Option (List ℕ)
  pub is_tag_given : Bool

-- the nodes in the order of their ids, and where aliases stand
pub record Written : Type 0 where
  pub nodes : List WrittenNode
  pub aliases : List yaml_place_t

abbrev pub nothing_written : Written
nothing_written = record { nodes = []; aliases = [] }

abbrev pub has_given_tag : unnamed_yaml_event_t_data → Bool
has_given_tag (ev.Scalar s) = is_some s.tag
has_given_tag (ev.SequenceStart s) = is_some s.tag
has_given_tag (ev.MappingStart s) = is_some s.tag
has_given_tag _ = false

abbrev pub written_node : Event → WrittenNode
written_node e = record { anchor = event_anchor e.content; is_tag_given = has_given_tag e.content }

-- an alias or a node that has this place
abbrev pub with_placed_event : unnamed_yaml_event_t_data → WrittenNode → yaml_place_t → Written → Written
with_placed_event (ev.Alias a) n p w = record w { aliases = w.aliases ++ p ∷ [] }
with_placed_event (ev.Scalar s) n p w = record w { nodes = w.nodes ++ n ∷ [] }
with_placed_event (ev.SequenceStart s) n p w = record w { nodes = w.nodes ++ n ∷ [] }
with_placed_event (ev.MappingStart s) n p w = record w { nodes = w.nodes ++ n ∷ [] }
with_placed_event _ n p w = w

abbrev pub with_place : Event → Option yaml_place_t → Written → Written
with_place e None w = w
with_place e (Some p) w = with_placed_event e.content (written_node e) p w

-- a document begins
abbrev pub begun_by : Option Opening → Written → Written
begun_by None w = w
begun_by (Some o) w = nothing_written

abbrev pub written_after : Event → Option yaml_place_t → Written → Written
written_after e place w = with_place e place (begun_by (opening_of e) w)

-- it has as many nodes as the composer counts of the document that is open
abbrev pub IsWrittenOf : EventComposer → Written → Type 0
IsWrittenOf c w = c.collections.is_within ≡ true → length w.nodes ≡ c.collections.nodes

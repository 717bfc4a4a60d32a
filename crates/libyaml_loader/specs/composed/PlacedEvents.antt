-- An iterator over a parser's events that also says where each belongs (docs/DEFINITIONS.md, "Placed events").
use Rattle.std.specs.Prelude.{Option, Some, None, Result, Ok, Err}
use Rattle.libyaml_types.specs.declared.fault.yaml_parser_t_prefix.{yaml_parser_t_prefix}
use Rattle.libyaml_types.specs.declared.source.yaml_token_source_t.{Ghosts}
use Rattle.libyaml_grammar.specs.grammar.Events.{Event}
use Rattle.libyaml_loader.specs.declared.places.yaml_place_t.{yaml_place_t}
use Rattle.libyaml_loader.specs.composed.ComposedEvents.{ComposedEvents, YieldsComposed}
use Rattle.libyaml_loader.specs.composed.Places.{PlacesEvent}

-- the items of composed events, each event with its place
abbrev pub YieldsPlaced : {S : Type 0} → Ghosts S → ComposedEvents S
    → Option (Result (Event × Option yaml_place_t) yaml_parser_t_prefix) → ComposedEvents S → Type 0
YieldsPlaced g old None new = YieldsComposed g old None new
YieldsPlaced g old (Some (Ok (e, place))) new = YieldsComposed g old (Some (Ok e)) new
    × PlacesEvent old.composer e place new.composer
YieldsPlaced g old (Some (Err f)) new = YieldsComposed g old (Some (Err f)) new

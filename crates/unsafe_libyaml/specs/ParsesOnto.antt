-- A call of the parser whose event is appended to a list.
use Rattle.std.specs.Prelude.{◌≡◌, ◌++◌, ◌∷◌, List, [], Bool, Ok, Err, Result}
use Rattle.libyaml_types.specs.declared.enums.yaml_error_type_t.{yaml_error_type_t}
use Rattle.libyaml_types.specs.declared.event.yaml_event_t.{yaml_event_t}
use Rattle.libyaml_types.specs.declared.source.yaml_token_source_t.{Ghosts}
use Rattle.libyaml_events.specs.sources.History.{is_stream_end}
use Rattle.libyaml_events.specs.machine.Config.{Parser}
use Rattle.libyaml_events.specs.sources.ParsesNext.{ParsesNext}

-- a call that gave an event, or an error
abbrev pub ParsesOnto : {S : Type 0} → (g : Ghosts S) → (old : Parser S) → (before : List yaml_event_t)
    → (is_last : Result Bool yaml_error_type_t) → (new : Parser S) → (after : List yaml_event_t) → Type 0
ParsesOnto g old before (Ok is_last) new after = (event : yaml_event_t) × ParsesNext g old (Ok event) new
    × (after ≡ before ++ event ∷ [])
    × (is_last ≡ is_stream_end event)
ParsesOnto g old before (Err x) new after = ParsesNext g old (Err x) new × (after ≡ before)

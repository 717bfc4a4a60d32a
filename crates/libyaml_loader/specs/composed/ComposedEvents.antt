-- An iterator over a parser's events that composes them (docs/DEFINITIONS.md, "Composed events").
use Rattle.std.specs.Prelude.{◌≡◌, Option, Some, None, Result, Ok, Err}
use Rattle.libyaml_types.specs.Fault.{fault_of}
use Rattle.libyaml_types.specs.declared.fault.yaml_parser_t_prefix.{yaml_parser_t_prefix}
use Rattle.libyaml_types.specs.declared.source.yaml_token_source_t.{Ghosts}
use Rattle.libyaml_grammar.specs.grammar.Events.{Event}
use Rattle.libyaml_events.specs.machine.Config.{Parser}
use Rattle.libyaml_events.specs.sources.History.{keeping}
use Rattle.libyaml_events.specs.sources.Iterates.{YieldsEvent}
use Rattle.libyaml_loader.specs.composed.EventComposer.{ComposesTo, EventComposer, RefusesBy}

-- a parser, and what composes the events that it gives
pub record ComposedEvents (S : Type 0) : Type 0 where
  pub parser : Parser S
  pub composer : EventComposer

abbrev pub composed_events : {S : Type 0} → Parser S → EventComposer → ComposedEvents S
composed_events p c = record { parser = p; composer = c }

-- An error, once: the parser's; or the loader's at the next event, which the parser then keeps.
pub data YieldsFault {S : Type 0} (g : Ghosts S) (old : ComposedEvents S) (f : yaml_parser_t_prefix)
    (new : ComposedEvents S) : Type 0 where
  by_parser : YieldsEvent g old.parser (Some (Err f)) new.parser → YieldsFault g old f new
  by_loader : (e : Event) (parser : Parser S) → YieldsEvent g old.parser (Some (Ok e)) parser
      → RefusesBy old.composer e (fault_of f) → new.parser ≡ keeping (fault_of f) parser → YieldsFault g old f new

-- The parser's next event, as it is, if it is no error of a load; or the error once; after these no item.
abbrev pub YieldsComposed : {S : Type 0} → Ghosts S → ComposedEvents S → Option (Result Event yaml_parser_t_prefix)
    → ComposedEvents S → Type 0
YieldsComposed g old None new = YieldsEvent g old.parser None new.parser × (new.composer ≡ old.composer)
YieldsComposed g old (Some (Ok e)) new = YieldsEvent g old.parser (Some (Ok e)) new.parser
    × ComposesTo old.composer e new.composer
YieldsComposed g old (Some (Err f)) new = YieldsFault g old f new

-- An iterator over a parser's events within bounds (docs/DEFINITIONS.md, "Bounded events").
use Rattle.std.specs.Prelude.{◌≡◌, Option, Some, None, Result, Ok, Err}
use Rattle.libyaml_types.specs.Fault.{fault_of}
use Rattle.libyaml_types.specs.declared.fault.yaml_parser_t_prefix.{yaml_parser_t_prefix}
use Rattle.libyaml_types.specs.declared.source.yaml_token_source_t.{Ghosts}
use Rattle.libyaml_grammar.specs.grammar.Events.{Event}
use Rattle.libyaml_events.specs.machine.Config.{Parser}
use Rattle.libyaml_events.specs.sources.History.{keeping}
use Rattle.libyaml_events.specs.sources.Iterates.{YieldsEvent}
use Rattle.yaml_bounds.specs.declared.bounded_composer.bounded_composer_t.{bounded_composer_t}
use Rattle.yaml_bounds.specs.Bounds.{RefusesNode, TakesNode}

-- a parser, and what composes the events that it gives
pub record BoundedEvents (S : Type 0) : Type 0 where
  pub parser : Parser S
  pub composer : bounded_composer_t

abbrev pub bounded_events : {S : Type 0} → Parser S → bounded_composer_t → BoundedEvents S
bounded_events p c = record { parser = p; composer = c }

-- An error, once: the parser's; or at the next event, which the parser then keeps.
pub data EndsByFault {S : Type 0} (g : Ghosts S) (old : BoundedEvents S) (f : yaml_parser_t_prefix) (new : BoundedEvents S) : Type 0 where
  by_parser : YieldsEvent g old.parser (Some (Err f)) new.parser → EndsByFault g old f new
  by_event : (e : Event) (parser : Parser S) → YieldsEvent g old.parser (Some (Ok e)) parser
      → RefusesNode old.composer e (fault_of f) → new.parser ≡ keeping (fault_of f) parser → EndsByFault g old f new

-- The parser's next event, as it is, if it is taken; or the error once; after these no item.
abbrev pub YieldsBounded : {S : Type 0} → Ghosts S → BoundedEvents S → Option (Result Event yaml_parser_t_prefix) → BoundedEvents S
    → Type 0
YieldsBounded g old None new = YieldsEvent g old.parser None new.parser × (new.composer ≡ old.composer)
YieldsBounded g old (Some (Ok e)) new = YieldsEvent g old.parser (Some (Ok e)) new.parser × TakesNode old.composer e new.composer
YieldsBounded g old (Some (Err f)) new = EndsByFault g old f new

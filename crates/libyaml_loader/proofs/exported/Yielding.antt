-- What an iterator over a parser's events relies on: after an event the parser keeps no error, and an event that is refused
-- registers no anchor.
use Rattle.std.proofs.Common.{◌≡◌, Ok, Some, false, inl, inr, arith}
use Rattle.libyaml_types.specs.declared.source.yaml_token_source_t.{Ghosts}
use Rattle.libyaml_grammar.specs.grammar.Events.{Event}
use Rattle.libyaml_events.specs.machine.Config.{Parser}
use Rattle.libyaml_events.specs.sources.History.{Remembers, has_failed}
use Rattle.libyaml_events.specs.sources.Iterates.{YieldsEvent}
pub use Rattle.libyaml_loader.proofs.composed.Telling.{refused_anchors}

pub after_event : {S : Type 0} (g : Ghosts S) (old new : Parser S) (e : Event) → Remembers old
    → YieldsEvent g old (Some (Ok e)) new → has_failed new ≡ false
after_event g old new e (inl failed) y = grind arith
after_event g old new e (inr (asked, given, h)) y = grind arith

use Rattle.std.specs.Prelude.{◌≡◌, false}
use Rattle.libyaml_events.specs.parsers.EventsLeft.{events_left}
use Rattle.libyaml_events.specs.sources.History.{is_over}
use Rattle.unsafe_libyaml.proofs.WholeRuns.{GaveSoFar}
use Rattle.unsafe_libyaml.proofs.parse_all.yaml_parser_parse_all.Given as goal

abbrev pub invariant-loop-events : goal.invariant-loop-events
invariant-loop-events g l = GaveSoFar g.S.yaml_token_source_t.gives l.fn.source l.parser l.events.items
    × (is_over l.parser ≡ false)

abbrev pub decreases-loop-events : goal.decreases-loop-events
decreases-loop-events g l = events_left g.S.yaml_token_source_t.bound l.parser

use Rattle.std.specs.Prelude.{◌≡◌, ◌≤◌, true}
use Rattle.libyaml_types.specs.Events.{zero_mark}
use Rattle.libyaml_events.specs.parsers.EventsLeft.{events_left}
use Rattle.libyaml_events.specs.sources.History.{is_over}
use Rattle.libyaml_loader.specs.loads.HalfDocument.{last_end}
use Rattle.libyaml_loader.specs.pushes.Composing.{IsSound, composer_state}
use Rattle.libyaml_loader.proofs.loads.OnTheWay.{OnTheWay}
use Rattle.libyaml_loader.proofs.load_partial.next_or_half.Given as goal

abbrev pub invariant-loop-error : goal.invariant-loop-error
invariant-loop-error g l = (way : OnTheWay g.S.yaml_token_source_t l.initial.composer.max_entries l.initial.parser
    l.parser (composer_state l.composer))
    × (l.end_mark ≡ last_end zero_mark way.taken)
    × IsSound l.composer × (l.composer.max_entries ≡ l.initial.composer.max_entries)
    × (events_left g.S.yaml_token_source_t.bound l.parser ≤ events_left g.S.yaml_token_source_t.bound l.initial.parser)
    × (is_over l.initial.parser ≡ true → l.parser ≡ l.initial.parser)

abbrev pub decreases-loop-error : goal.decreases-loop-error
decreases-loop-error g l = events_left g.S.yaml_token_source_t.bound l.parser

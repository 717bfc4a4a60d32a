use Rattle.std.proofs.Common.{◌≡◌, List, true, false}
use Rattle.libyaml_types.specs.declared.event.yaml_event_t.{yaml_event_t}
use Rattle.libyaml_types.specs.declared.token.yaml_token_t.{yaml_token_t}
use Rattle.line_writing.specs.EventText.{event_line}
use Rattle.token_lines.specs.events.InTurn.{AllWritten}
use Rattle.libyaml_events.specs.sources.History.{History, is_over}
use Rattle.libyaml_events.specs.parsers.EventsLeft.{events_left}
use Rattle.token_lines.proofs.run.events.write_events.Given as goal

abbrev pub invariant-loop-last : goal.invariant-loop-last
invariant-loop-last g l = record {
  ended : is_over l.initial.parser ≡ true → (l.parser ≡ l.initial.parser) × (l.writer ≡ l.initial.writer);
  in_turn : is_over l.initial.parser ≡ false → (asked : List yaml_token_t) (given : List yaml_event_t)
      → History l.initial.parser asked given
      → AllWritten event_line g.S.yaml_token_source_t.gives l.initial.parser l.parser
      (g.W.Write.contents l.initial.writer) (g.W.Write.contents l.writer) asked given;
  bound : l.parser.max_entries ≡ l.initial.parser.max_entries;
}

abbrev pub decreases-loop-last : goal.decreases-loop-last
decreases-loop-last g l = events_left g.S.yaml_token_source_t.bound l.parser

use Rattle.std.proofs.Common.{◌≡◌, true}
use Rattle.libyaml_events.specs.parsers.EventsLeft.{events_left}
use Rattle.libyaml_events.specs.sources.History.{ForHistory, between_documents, has_failed}
use Rattle.libyaml_loader.specs.document.Ids.{magnitude}
use Rattle.token_lines.specs.nodes.LastLoad.{AllLoaded}
use Rattle.token_lines.proofs.run.nodes.write_nodes.Given as goal

abbrev pub invariant-loop-last : goal.invariant-loop-last
invariant-loop-last g l = record {
  between : between_documents l.parser ≡ true;
  bound : l.parser.max_entries ≡ l.initial.parser.max_entries;
  kept : has_failed l.initial.parser ≡ true → (l.parser ≡ l.initial.parser) × (l.writer ≡ l.initial.writer);
  in_turn : ForHistory l.initial.parser (AllLoaded g.S.yaml_token_source_t.gives
      (magnitude l.initial.parser.max_entries) l.initial.parser l.parser (g.W.Write.contents l.initial.writer)
      (g.W.Write.contents l.writer));
}

abbrev pub decreases-loop-last : goal.decreases-loop-last
decreases-loop-last g l = events_left g.S.yaml_token_source_t.bound l.parser

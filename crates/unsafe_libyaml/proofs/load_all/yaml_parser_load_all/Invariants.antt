use Rattle.libyaml_events.specs.parsers.EventsLeft.{events_left}
use Rattle.unsafe_libyaml.proofs.WholeLoads.{Loaded}
use Rattle.unsafe_libyaml.proofs.load_all.yaml_parser_load_all.Given as goal

abbrev pub invariant-loop-document : goal.invariant-loop-document
invariant-loop-document g l = Loaded g.S.yaml_token_source_t l.fn.source l.parser l.documents.items

abbrev pub decreases-loop-document : goal.decreases-loop-document
decreases-loop-document g l = events_left g.S.yaml_token_source_t.bound l.parser

use Rattle.libyaml_loader.proofs.composed.PlacedLoops.{loop_composes, places_in}
use Rattle.libyaml_loader.proofs.laws.placed_loops_are_loaded.Goals as goal

pub returns-clause-events : goal.returns-clause-events
returns-clause-events g c = loop_composes g.S.yaml_token_source_t g.met.S.yaml_token_source_t.follows

pub returns-clause-places : goal.returns-clause-places
returns-clause-places g c = places_in g.S.yaml_token_source_t g.met.S.yaml_token_source_t.follows

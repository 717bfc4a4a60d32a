use Rattle.libyaml_loader.proofs.composed.Loops.{of_list, of_run}
use Rattle.libyaml_loader.proofs.laws.composed_events_are_loads.Goals as goal

pub returns-clause-of_list : goal.returns-clause-of_list
returns-clause-of_list g c = of_list g.S.yaml_token_source_t g.met.S.yaml_token_source_t.follows

pub returns-clause-of_run : goal.returns-clause-of_run
returns-clause-of_run g c = of_run g.S.yaml_token_source_t g.met.S.yaml_token_source_t.follows

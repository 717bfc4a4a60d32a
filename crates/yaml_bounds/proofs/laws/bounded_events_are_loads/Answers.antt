use Rattle.yaml_bounds.proofs.Loops.{of_list}
use Rattle.yaml_bounds.proofs.laws.bounded_events_are_loads.Goals as goal

pub returns : goal.returns
returns g c = record { of_list = of_list g.S.yaml_token_source_t g.met.S.yaml_token_source_t.follows }

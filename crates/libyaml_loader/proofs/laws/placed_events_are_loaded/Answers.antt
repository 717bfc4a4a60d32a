use Rattle.libyaml_loader.proofs.composed.OnePlace.{one_place}
use Rattle.libyaml_loader.proofs.composed.Placed.{first_so, items_so, keys_so, nodes_so, root_so, values_so}
use Rattle.libyaml_loader.proofs.laws.placed_events_are_loaded.Goals as goal

pub returns-clause-items : goal.returns-clause-items
returns-clause-items c = items_so

pub returns-clause-values : goal.returns-clause-values
returns-clause-values c = values_so

pub returns-clause-keys : goal.returns-clause-keys
returns-clause-keys c = keys_so

pub returns-clause-nodes : goal.returns-clause-nodes
returns-clause-nodes c = nodes_so

pub returns-clause-roots : goal.returns-clause-roots
returns-clause-roots c = root_so

pub returns-clause-first : goal.returns-clause-first
returns-clause-first c = first_so

pub returns-clause-one : goal.returns-clause-one
returns-clause-one c = one_place

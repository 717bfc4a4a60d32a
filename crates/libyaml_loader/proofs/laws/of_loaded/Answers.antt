use Rattle.libyaml_loader.proofs.pushes.Pushing.{begins_loads, linear_loads, loads_so_far, none_kept, stopped_at, whole_loads}
use Rattle.libyaml_loader.proofs.laws.of_loaded.Goals as goal

pub returns-clause-so_far : goal.returns-clause-so_far
returns-clause-so_far c l = loads_so_far l

pub returns-clause-whole : goal.returns-clause-whole
returns-clause-whole c l = whole_loads l

pub returns-clause-ended : goal.returns-clause-ended
returns-clause-ended c l = stopped_at l

pub returns-clause-faultless : goal.returns-clause-faultless
returns-clause-faultless c l = none_kept l

pub returns-clause-begins : goal.returns-clause-begins
returns-clause-begins c l = begins_loads l

pub returns-clause-linear : goal.returns-clause-linear
returns-clause-linear c l = linear_loads l

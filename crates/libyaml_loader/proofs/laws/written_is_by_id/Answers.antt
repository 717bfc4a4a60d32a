use Rattle.std.proofs.Common.{Some, refl}
use Rattle.libyaml_loader.proofs.composed.Writings.{counts_on, id_of_node}
use Rattle.libyaml_loader.proofs.laws.written_is_by_id.Goals as goal

pub returns-clause-counts : goal.returns-clause-counts
returns-clause-counts c old new e place w h none counts = counts_on old new e place w h none counts

pub returns-clause-ids : goal.returns-clause-ids
returns-clause-ids c old new e p w h node counts = id_of_node old new e (Some p) w h p refl node counts

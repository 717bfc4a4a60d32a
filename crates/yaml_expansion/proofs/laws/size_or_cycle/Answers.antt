use Rattle.yaml_expansion.proofs.OneOfBoth.{size_or_cycle, not_both}
use Rattle.yaml_expansion.proofs.laws.size_or_cycle.Goals as goal

pub returns-clause-either : goal.returns-clause-either
returns-clause-either c = size_or_cycle

pub returns-clause-not_both : goal.returns-clause-not_both
returns-clause-not_both c = not_both

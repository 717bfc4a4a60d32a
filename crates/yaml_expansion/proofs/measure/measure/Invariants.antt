use Rattle.std.proofs.Common.{◌≡◌}
use Rattle.yaml_expansion.specs.Walks.{IsUnderWay, work}
use Rattle.yaml_expansion.proofs.measure.measure.Given as goal

abbrev pub invariant-loop-walk : goal.invariant-loop-walk
invariant-loop-walk l = record { at : IsUnderWay l.nodes l.walk; max : l.walk.max ≡ l.max }

abbrev pub decreases-loop-walk : goal.decreases-loop-walk
decreases-loop-walk l = work l.nodes l.walk.marks.items

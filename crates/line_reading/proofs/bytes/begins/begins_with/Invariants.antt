use Rattle.std.proofs.Common.{◌-◌}
use Rattle.line_reading.proofs.Begun.{AlikeBelow}
use Rattle.line_reading.proofs.bytes.begins.begins_with.Given as goal

abbrev pub invariant-loop-at : goal.invariant-loop-at
invariant-loop-at l = AlikeBelow l.bytes l.start l.at

abbrev pub decreases-loop-at : goal.decreases-loop-at
decreases-loop-at l = l.last - l.at

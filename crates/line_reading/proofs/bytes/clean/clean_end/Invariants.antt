use Rattle.std.proofs.Common.{◌-◌, ◌≤◌, length}
use Rattle.std.specs.Slice.Scan.{HoldsNowhere}
use Rattle.line_reading.specs.Clean.{is_odd_at}
use Rattle.line_reading.proofs.bytes.clean.clean_end.Given as goal

abbrev pub invariant-loop-at : goal.invariant-loop-at
invariant-loop-at l = (l.from ≤ l.at) × (l.at ≤ length l.bytes) × HoldsNowhere (is_odd_at l.bytes) l.from l.at

abbrev pub decreases-loop-at : goal.decreases-loop-at
decreases-loop-at l = length l.bytes - l.at

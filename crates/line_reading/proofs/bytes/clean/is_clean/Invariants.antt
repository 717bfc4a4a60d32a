use Rattle.std.proofs.Common.{◌-◌, ◌≤◌}
use Rattle.std.specs.Slice.Scan.{HoldsNowhere}
use Rattle.line_reading.specs.Clean.{is_odd_at}
use Rattle.line_reading.proofs.bytes.clean.is_clean.Given as goal

abbrev pub invariant-loop-byte : goal.invariant-loop-byte
invariant-loop-byte l = HoldsNowhere (is_odd_at l.bytes) 0 l.byte-index

abbrev pub invariant-loop-at : goal.invariant-loop-at
invariant-loop-at l = HoldsNowhere (is_odd_at l.bytes) 0 l.at × (l.at ≤ l.len)

abbrev pub decreases-loop-at : goal.decreases-loop-at
decreases-loop-at l = l.len - l.at

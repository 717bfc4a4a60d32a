use Rattle.std.proofs.Common.{◌≢◌, ◌≤◌, ◌+◌, ◌-◌, All, length}
use Rattle.line_reading.specs.sources.Line.{GoesOn}
use Rattle.line_reading.specs.sources.ReadLines.{longest_line}
use Rattle.line_reading.proofs.line.take_rest.Given as goal

abbrev pub invariant-loop-line : goal.invariant-loop-line
invariant-loop-line g l = record {
  taken : GoesOn (g.R.Read.remaining l.fn.reader) (g.R.Read.remaining l.reader) l.fn.line.items l.line.items;
  clean : All (λ x. x ≢ 10) l.line.items;
  longer : length l.fn.line.items ≤ length l.line.items;
  fits : length l.line.items ≤ longest_line + 1;
}

abbrev pub decreases-loop-line : goal.decreases-loop-line
decreases-loop-line g l = (longest_line + 1) - length l.line.items

use Rattle.std.proofs.Common.{drop}
use Rattle.line_reading.proofs.tokens.Digits.{HasRead}
use Rattle.line_reading.proofs.marks.read_number.Given as goal

abbrev pub invariant-loop-len : goal.invariant-loop-len
invariant-loop-len l = HasRead (drop l.at l.line) l.len l.value

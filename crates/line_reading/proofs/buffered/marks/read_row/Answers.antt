use Rattle.std.proofs.Common.{arith}
use Rattle.line_reading.proofs.tokens.Repeats.{ends_of, number_again}
use Rattle.line_reading.proofs.buffered.marks.read_row.Goals as goal

pub returns-then-end_alike-clause-some : goal.returns-then-end_alike-clause-some
returns-then-end_alike-clause-some c = grind (arith, ends_of, number_again)

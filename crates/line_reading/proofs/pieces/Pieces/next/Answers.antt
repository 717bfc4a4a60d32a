use Rattle.std.proofs.Common.{arith}
use Rattle.line_reading.proofs.tokens.Split.{split_first}
use Rattle.line_reading.proofs.pieces.Pieces.next.Goals as goal

pub returns : goal.returns
returns c = grind (arith, split_first)

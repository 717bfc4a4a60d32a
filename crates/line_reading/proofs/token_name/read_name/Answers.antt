use Rattle.std.proofs.Common.{arith}
use Rattle.line_reading.proofs.tokens.Marks.{named, no_marks, no_type}
use Rattle.line_reading.proofs.token_name.read_name.Goals as goal

pub returns-then-end-line-clause-none : goal.returns-then-end-line-clause-none
returns-then-end-line-clause-none c = grind (arith, no_marks)

pub returns-in_err-type_-clause-none : goal.returns-in_err-type_-clause-none
returns-in_err-type_-clause-none c = grind (arith, named, no_type)

pub returns-clause-some : goal.returns-clause-some
returns-clause-some c = grind (arith, named)

use Rattle.std.proofs.Common.{arith}
use Rattle.line_reading.proofs.tokens.WholeNumbers.{whole_none, whole_some, whole_more}
use Rattle.line_reading.proofs.number.whole_number.Goals as goal

pub returns-then-number-eq0 : goal.returns-then-number-eq0
returns-then-number-eq0 c = whole_none c.args.digits.now (c.read_number-number.ensures.none c.if-number-eq0.true)

pub returns-then-number-digits : goal.returns-then-number-digits
returns-then-number-digits c =
    whole_more c.args.digits.now _ _ (c.read_number-number.ensures.some (omega (arith, c.if-number-eq0.false)))
    (omega (arith, c.if-number-digits.true))

pub returns : goal.returns
returns c =
    whole_some c.args.digits.now _ _ (c.read_number-number.ensures.some (omega (arith, c.if-number-eq0.false)))
    (omega (arith, c.if-number-digits.false))

use Rattle.std.proofs.Common.{arith}
use Rattle.line_reading.specs.tokens.Joined.{is_no_digit}
use Rattle.line_reading.proofs.Lanes.{stopped, within}
use Rattle.line_reading.proofs.tokens.Joined.{few_digits}
use Rattle.line_reading.proofs.buffered.digits.digits_at.Goals as goal

pub overflow_sub-len : goal.overflow_sub-len
overflow_sub-len c =
    omega (
      arith,
      within is_no_digit c.args.bytes.now c.args.at 8 _ c.requires (omega arith) c.other_lanes-others.ensures c.if-others-eq0.false,
    )

pub returns-clause-most : goal.returns-clause-most
returns-clause-most c =
    omega (
      arith,
      within is_no_digit c.args.bytes.now c.args.at 8 _ c.requires (omega arith) c.other_lanes-others.ensures c.if-others-eq0.false,
    )

pub returns-clause-few : goal.returns-clause-few
returns-clause-few c few =
    few_digits c.args.bytes.now c.args.at c.requires (λ i. (c.type_inv.bytes i).fits) _ c.from_le_bytes-values.result
    c.joined-value.result
    (stopped is_no_digit c.args.bytes.now c.args.at 8 _ c.requires (omega arith) c.other_lanes-others.ensures
    c.if-others-eq0.false) few c.from_le_bytes-values.ensures c.joined-value.type_inv c.joined-value.ensures

use Rattle.std.proofs.Common.{◌≡◌, ◌+◌, ◌-◌, ◌*◌, slice_index_or, length, take, sym, drop, arith}
use Rattle.line_reading.proofs.tokens.Digits.{no_number_read, none_read, more_within, too_much_within, ends_within, ends_with_line}
use Rattle.line_reading.proofs.marks.read_number.Goals as goal

pub loop-len-init : goal.loop-len-init
loop-len-init c = none_read (drop c.args.at c.args.line.now)

pub ended_number-requires-clause-digits : goal.ended_number-requires-clause-digits
ended_number-requires-clause-digits c = grind (arith, ends_within)

pub returns-in_default : goal.returns-in_default
returns-in_default c = grind (arith, no_number_read, too_much_within)

pub returns-in_default-checked_add : goal.returns-in_default-checked_add
returns-in_default-checked_add c = grind (arith, no_number_read, too_much_within)

pub loop-len-preserved : goal.loop-len-preserved
loop-len-preserved c =
    let digit = sym c.if-not-is_ascii_digit.ensures.value in
    let byte = slice_index_or (take (length c.args.line.now - c.args.at) (drop c.args.at c.args.line.now))
    c.loop-len.len 0 in
    let next : c.in-Some-checked_add.more ≡ c.loop-len.value * 10 + (byte - 48) = omega (
      arith,
      c.in-Some-checked_add.ensures,
      c.in-Some.ensures,
      c.from.ensures,
    ) in
    rw next (more_within _ _ c.loop-len.len c.loop-len.value c.loop-len.invariant c.loop-len-test.true digit (omega (
      arith,
      c.in-Some-checked_add.ensures,
      next,
    )))

pub ended_number-requires-2-clause-digits : goal.ended_number-requires-2-clause-digits
ended_number-requires-2-clause-digits c = grind (arith, ends_with_line)

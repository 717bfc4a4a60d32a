use Rattle.std.proofs.Common.{◌+◌, arith}
use Rattle.line_reading.proofs.tokens.Buffers.{mark_read, number_order}
use Rattle.line_reading.proofs.buffered.marks.read_buffered_mark.Goals as goal

pub read_row-number-requires-clause-at : goal.read_row-number-requires-clause-at
read_row-number-requires-clause-at c =
    omega (
      arith,
      c.requires.after_name,
      number_order c.args.bytes.now c.args.at c.read_digits-index.result.end c.read_digits-index.result.value
          (omega (arith, c.requires.room)) (omega (arith, c.requires.room, c.read_digits-index.ensures.within))
          (c.read_digits-index.ensures.some (omega (arith, c.if-index-eq0.false))),
    )

pub returns-clause-some : goal.returns-clause-some
returns-clause-some c some =
    let index = c.read_digits-index in
    let number = c.read_row-number in
    let column = c.read_column-column in
    mark_read c.args.bytes.now c.args.at index.result.end number.result.end column.result.end index.result.value
    number.result.value column.result.value (omega (arith, c.requires.room))
    (omega (arith, c.requires.room, index.ensures.within, number.ensures.within, column.ensures.within))
    (omega (arith, c.requires.room, index.ensures.within))
    (omega (arith, c.requires.room, index.ensures.within, number.ensures.within))
    (index.ensures.some (omega (arith, c.if-index-eq0.false))) c.if-bytes-index-ne58.false
    (number.ensures.some (omega (arith, c.if-number-eq0.false))) c.if-bytes-number-ne58.false
    (column.ensures.some some)

pub returns-clause-row : goal.returns-clause-row
returns-clause-row c some =
    let index = c.read_digits-index in
    let number = c.read_row-number in
    let there = number.ensures.some (omega (arith, c.if-number-eq0.false)) in
    let first = number_order c.args.bytes.now c.args.at index.result.end index.result.value (omega (arith, c.requires.room))
    (omega (arith, c.requires.room, index.ensures.within)) (index.ensures.some (omega (arith, c.if-index-eq0.false))) in
    let order = number_order c.args.bytes.now (index.result.end + 1) number.result.end number.result.value
    (omega (arith, c.requires.room, index.ensures.within))
    (omega (arith, c.requires.room, index.ensures.within, number.ensures.within)) there in
    record {
      order = λ _. (
        omega (arith, c.requires.after_name, first, order),
        order,
        omega (arith, number.ensures.within),
        omega (arith, c.requires.room, index.ensures.within, number.ensures.within),
      );
      some = λ _. there;
    }

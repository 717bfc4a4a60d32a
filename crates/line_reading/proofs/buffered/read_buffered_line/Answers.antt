use Rattle.std.proofs.Common.{arith}
use Rattle.line_reading.proofs.tokens.Buffers.{line_read, weaker}
use Rattle.line_reading.proofs.buffered.read_buffered_line.Goals as goal

pub returns-clause-some : goal.returns-clause-some
returns-clause-some c =
    let bytes = c.args.bytes.now in
    weaker c.read_buffered_content.result _ _
    (λ len h some.
    line_read bytes c.read_buffered_mark-start.result c.read_buffered_mark-end.result len c.read_buffered_name-type_.result _ _
    c.read_buffered_content.new.content
    (omega (arith, c.read_buffered_mark-start.ensures.within, c.read_buffered_name-type_.ensures.within, c.if-bytes-lt-ROOM.false))
    (c.read_buffered_name-type_.ensures.some (omega (arith, c.if-name-eq0.false)))
    (c.read_buffered_mark-start.ensures.some (omega (arith, c.if-start-eq0.false))) c.if-bytes-start-ne32.false
    (c.read_buffered_mark-end.ensures.some (omega (arith, c.if-end-eq0.false))) (h some))
    c.read_buffered_content.ensures.some

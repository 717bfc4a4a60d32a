use Rattle.std.proofs.Common.{arith}
use Rattle.line_reading.proofs.tokens.Marks.{bad_end, with_content, with_marks}
use Rattle.line_reading.proofs.token_line.read_token_line.Goals as goal

pub returns-then-end-eq0 : goal.returns-then-end-eq0
returns-then-end-eq0 c = bad_end c.args.line.now _ _ _ c.in-Some.ensures.some
    (c.read_mark-start.ensures.some (omega (arith, c.if-start-eq0.false)))
    (omega (arith, c.read_mark-start.ensures.within, c.if-start-line.false))
    (c.read_mark-end.ensures.none c.if-end-eq0.true)

pub returns : goal.returns
returns c =
    let all = with_content c.args.line.now _ _ _ _ _ c.in-Some.ensures.some
    (c.read_mark-start.ensures.some (omega (arith, c.if-start-eq0.false)))
    (omega (arith, c.read_mark-start.ensures.within, c.if-start-line.false))
    (c.read_mark-end.ensures.some (omega (arith, c.if-end-eq0.false))) in
    rw (all, ← c.fields_after.ensures, ← c.behind-fields.ensures) (with_marks _ _ _ _ _ c.read_pieces.ensures)

use Rattle.line_reading.proofs.tokens.PlainScalars.{plain_found}
use Rattle.line_reading.proofs.buffered.plain_text.Goals as goal

pub returns-then-begins_with : goal.returns-then-begins_with
returns-then-begins_with c =
    plain_found c.args.rest.now c.clean_end-end.result c.if-rest-ne61.false c.clean_end-end.ensures.order.0
    c.clean_end-end.ensures.order.1 c.clean_end-end.ensures.clean (c.begins_with.ensures c.if-begins_with.true)

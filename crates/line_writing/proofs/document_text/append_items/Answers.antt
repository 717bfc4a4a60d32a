use Rattle.std.proofs.Common.{pos, arith, append_assoc}
use Rattle.std.specs.Fmt.{signed_decimal}
use Rattle.std.proofs.lemmas.Grind.{common_steps}
use Rattle.std.proofs.lemmas.List.{append-nil}
use Rattle.line_writing.proofs.DocumentLemmas.{fields_more}
use Rattle.line_writing.proofs.document_text.append_items.Goals as goal

pub loop-item-preserved : goal.loop-item-preserved
loop-item-preserved c =
    let more = fields_more signed_decimal c.args.items.now c.loop-item.item-index (pos 0) c.loop-item-test.true in
    grind (arith, common_steps, append_assoc, append-nil, more)

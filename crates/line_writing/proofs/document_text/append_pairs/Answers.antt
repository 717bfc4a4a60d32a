use Rattle.std.proofs.Common.{pos, arith, append_assoc}
use Rattle.line_writing.specs.DocumentText.{pair_text}
use Rattle.std.proofs.lemmas.Grind.{common_steps}
use Rattle.std.proofs.lemmas.List.{append-nil}
use Rattle.line_writing.proofs.DocumentLemmas.{fields_more}
use Rattle.line_writing.proofs.document_text.append_pairs.Goals as goal

pub loop-pair-preserved : goal.loop-pair-preserved
loop-pair-preserved c =
    let more = fields_more pair_text c.args.pairs.now c.loop-pair.pair-index (record { key = pos 0; value = pos 0 })
    c.loop-pair-test.true in
    grind (arith, common_steps, append_assoc, append-nil, more)

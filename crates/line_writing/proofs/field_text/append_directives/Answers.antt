use Rattle.std.proofs.Common.{arith, append_assoc}
use Rattle.std.proofs.lemmas.Grind.{common_steps}
use Rattle.std.proofs.lemmas.List.{append-nil}
use Rattle.line_writing.proofs.SpacedLemmas.{directive_fields-more}
use Rattle.line_writing.proofs.field_text.append_directives.Goals as goal

pub loop-directive-preserved : goal.loop-directive-preserved
loop-directive-preserved c =
    let more = directive_fields-more c.args.directives.now c.loop-directive.directive-index c.directive-item.result
    c.loop-directive-test.true in
    grind (arith, common_steps, append_assoc, append-nil, more)

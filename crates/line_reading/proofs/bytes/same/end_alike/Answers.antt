use Rattle.std.proofs.Common.{◌∙◌, ap, sym, length-drop, arith}
use Rattle.std.proofs.lemmas.Bool.{eqb-true, eqb-false}
use Rattle.line_reading.proofs.Ends.{word_of, ends_are, same}
use Rattle.line_reading.proofs.Words.{word}
use Rattle.line_reading.proofs.bytes.same.end_alike.Goals as goal

pub returns-clause-yes : goal.returns-clause-yes
returns-clause-yes c e = grind (arith, word_of, same, length-drop, ends_are, eqb-true)

pub returns-clause-no : goal.returns-clause-no
returns-clause-no c e alike =
    let left = c.args.left.now in
    let right = c.args.right.now in
    let len = c.args.len in
    let l = word_of left c.requires.left (λ i. (c.type_inv.left i).fits) len c.last_word.result c.requires.some
    c.requires.few c.last_word.ensures in
    let r = word_of right c.requires.right (λ i. (c.type_inv.right i).fits) len c.last_word-2.result c.requires.some
    c.requires.few c.last_word-2.ensures in
    eqb-false _ _ e (l ∙ ap (word (λ b. b)) alike ∙ sym r)

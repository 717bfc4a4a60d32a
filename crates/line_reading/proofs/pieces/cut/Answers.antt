use Rattle.std.proofs.Common.{◌≡◌, ◌+◌, ◌-◌, length, length-drop, take, drop, arith}
use Rattle.std.proofs.lemmas.List.{take_all}
use Rattle.line_reading.proofs.tokens.Split.{cut_here, cut_nowhere}
use Rattle.line_reading.proofs.pieces.cut.Goals as goal

pub returns-then-len-text : goal.returns-then-len-text
returns-then-len-text c =
    let text = c.args.text.now in
    let n = c.len_before-len.result in
    let whole : take (length text - (n + 1)) (drop (n + 1) text) ≡ drop (n + 1) text
    = take_all _ (drop (n + 1) text) (omega (arith, length-drop (n + 1) text)) in
    let both = cut_here _ text n c.if-len-text.true c.len_before-len.ensures.before
    (c.len_before-len.ensures.found c.if-len-text.true) in
    rw whole (record { before = both.0; behind = both.1 })

pub returns-else-len-text : goal.returns-else-len-text
returns-else-len-text c = grind (arith, cut_nowhere _ c.args.text.now c.len_before-len.result (omega arith) c.len_before-len.ensures.before)

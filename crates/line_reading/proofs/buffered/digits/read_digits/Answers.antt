use Rattle.std.proofs.Common.{◌<◌, length-drop, drop, get_or, ap, sym, ◌∙◌, arith}
use Rattle.std.proofs.lemmas.List.{get_or-drop, drop-drop}
use Rattle.line_reading.proofs.tokens.Joined.{no_lead}
use Rattle.line_reading.proofs.buffered.digits.read_digits.Goals as goal

pub returns-clause-some : goal.returns-clause-some
returns-clause-some c some =
    let bytes = c.args.bytes.now in
    let at = c.args.at in
    let digits = c.digits_at-digits in
    let few : digits.result.len < 8 = omega (arith, digits.ensures.most, c.if-digits-eq8.false) in
    rw (← drop-drop digits.result.len at bytes)
    (no_lead (drop at bytes) digits.result.len digits.result.value (digits.ensures.few few)
    (omega (arith, length-drop at bytes, c.requires, few)) c.if-digits-eq0.false
    (λ e. c.if-bytes-at-eq48.false (sym (get_or-drop at bytes 0 0 ∙ ap (λ k. get_or bytes k 0) (omega arith)) ∙ e)))

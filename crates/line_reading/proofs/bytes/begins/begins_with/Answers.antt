use Rattle.std.proofs.Common.{◌-◌, length, arith, ◌∙◌, sym}
use Rattle.std.proofs.lemmas.Bool.{eqb-true}
use Rattle.line_reading.proofs.Begun.{begun, more_alike}
use Rattle.line_reading.proofs.bytes.begins.begins_with.Goals as goal

pub loop-at-preserved : goal.loop-at-preserved
loop-at-preserved c =
    more_alike c.args.bytes.now c.args.start.now c.loop-at.at _ (λ i. (c.type_inv.bytes i).fits)
    (λ i. (c.type_inv.start i).fits) c.loop-at.invariant
    (sym c.four_at.ensures ∙ c.if-four_at.false ∙ c.four_at-in-loop-at.ensures) (omega arith)

pub returns : goal.returns
returns c e =
    begun c.args.start.now c.args.bytes.now (omega (arith, c.if-bytes-start.false))
    (more_alike c.args.bytes.now c.args.start.now (length c.args.start.now - 4) _ (λ i. (c.type_inv.bytes i).fits)
    (λ i. (c.type_inv.start i).fits) (λ i h. c.loop-at.invariant i (omega (arith, h, c.loop-at-test.false)))
    (sym c.four_at-2.ensures ∙ eqb-true _ _ e ∙ c.four_at-3.ensures) (omega (arith, c.requires)))

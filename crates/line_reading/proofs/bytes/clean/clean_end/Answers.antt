use Rattle.std.proofs.Common.{◌≡◌, ℕ, Bool, false, ◌<◌, ◌≤◌, ◌⊎◌, inl, inr, arith}
use Rattle.std.proofs.lemmas.Bool.{cases_lt}
use Rattle.std.specs.Slice.Scan.{HoldsNowhere}
use Rattle.line_reading.specs.Clean.{is_odd, is_odd_at}
use Rattle.line_reading.proofs.Lanes.{passed, within, before}
use Rattle.line_reading.proofs.bytes.clean.clean_end.Goals as goal

further : (p : ℕ → Bool) (a b c : ℕ) → HoldsNowhere p a b → HoldsNowhere p b c → HoldsNowhere p a c
further p a b c f g k low high = go (cases_lt k b)
  where
    go : (k < b) ⊎ (b ≤ k) → p k ≡ false
    go (inl less) = f k low less
    go (inr more) = g k more high

pub returns-then-odd-ne0-clause-order : goal.returns-then-odd-ne0-clause-order
returns-then-odd-ne0-clause-order c =
    let bytes = c.args.bytes.now in
    let few = within is_odd bytes c.loop-at.at 16 _ (omega (arith, c.loop-at-test.true)) (omega arith) c.odd_lanes-odd.ensures
    c.if-odd-ne0.true in
    (omega (arith, c.loop-at.invariant.0), omega (arith, few, c.loop-at-test.true))

pub returns-then-odd-ne0-clause-clean : goal.returns-then-odd-ne0-clause-clean
returns-then-odd-ne0-clause-clean c =
    let bytes = c.args.bytes.now in
    further (is_odd_at bytes) c.args.from c.loop-at.at _ c.loop-at.invariant.2
    (before is_odd bytes c.loop-at.at 16 _ (omega (arith, c.loop-at-test.true)) (omega arith) c.odd_lanes-odd.ensures
    c.if-odd-ne0.true)

pub loop-at-preserved : goal.loop-at-preserved
loop-at-preserved c =
    let bytes = c.args.bytes.now in (
      omega (arith, c.loop-at.invariant.0),
      omega (arith, c.loop-at-test.true),
      further (is_odd_at bytes) c.args.from c.loop-at.at _ c.loop-at.invariant.2
          (passed is_odd bytes c.loop-at.at 16 _ (omega (arith, c.loop-at-test.true)) (omega arith) c.odd_lanes-odd.ensures
          c.if-odd-ne0.false),
    )

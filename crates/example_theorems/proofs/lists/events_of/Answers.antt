use Rattle.std.proofs.Common.{arith, ◌∷◌, [], length, rules, sym, ap, ◌∙◌, append_assoc}
use Rattle.std.specs.Vec.Iter.{into_iter_items}
use Rattle.example_theorems.proofs.Turn.{first_turn, is_err_of, next_turn, failed_turn, last_turn, goes_by, none_left}
use Rattle.example_theorems.proofs.lists.events_of.Goals as goal

pub loop-token-init : goal.loop-token-init
loop-token-init c = (
  sym c.into_iter-token-iterator.ensures.into_iter_gives.0,
  search rules,
  rw c.new-events.ensures.items (first_turn _ c.new-parser.ensures.begins),
)

pub returns-then-is_err : goal.returns-then-is_err
returns-then-is_err c source =
    let steps = c.in-Some.ensures.steps in
    rw (
      goes_by c.args.tokens.items c.loop-token.yielded (into_iter_items c.loop-token.token-iterator)
          (into_iter_items c.next.new.self) c.loop-token.invariant.0 steps.0,
      c.prefix.ensures.kept,
    )
    (failed_turn _ _ _ _ _ c.loop-token.invariant.2 _ _ c.of_pushed.ensures.faultless _
    (is_err_of c.push.result ∙ sym c.if-is_err.ensures.value) c.push.ensures.pushes _ source)

pub loop-token-preserved : goal.loop-token-preserved
loop-token-preserved c =
    let steps = c.in-Some.ensures.steps in (
      goes_by _ _ _ _ c.loop-token.invariant.0 steps.0
          ∙ sym (append_assoc c.loop-token.yielded (c.in-Some.token ∷ []) (into_iter_items c.next.new.self)),
      (let a = c.loop-token.invariant.1 in let b = steps.1 in let d = ap length steps.0 in omega (arith, a, b, d)),
      next_turn _ _ _ _ _ c.loop-token.invariant.2 _ _ _ (is_err_of c.push.result ∙ sym c.if-is_err.ensures.value) c.push.ensures.pushes,
    )

pub returns : goal.returns
returns c =
    rw (none_left c.args.tokens.items c.loop-token.yielded (into_iter_items c.loop-token.token-iterator)
    c.loop-token.invariant.0 (sym c.loop-token.invariant.1 ∙ c.in-None.ensures.steps.0))
    (last_turn _ _ _ c.loop-token.invariant.2 c.of_pushed-2.ensures.ended c.of_pushed-2.ensures.run_so_far
    c.of_pushed-2.ensures.run)

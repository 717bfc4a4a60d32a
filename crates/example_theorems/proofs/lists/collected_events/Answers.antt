use Rattle.std.proofs.Common.{◌≡◌, ◌++◌, ◌∷◌, [], List, ap, rules, subst, sym, ◌∙◌}
use Rattle.std.proofs.lemmas.List.{append-nil}
use Rattle.libyaml_types.specs.declared.event.yaml_event_t.{yaml_event_t}
use Rattle.libyaml_events.specs.sources.RunToCome.{RunToCome}
use Rattle.example_theorems.proofs.lists.collected_events.Goals as goal

pub loop-item-init : goal.loop-item-init
loop-item-init g c = rw c.new-events.ensures.items (c.items_in_turn.ensures.none _)

pub loop-item-preserved : goal.loop-item-preserved
loop-item-preserved g c =
    let m : c.push.new.self.items ≡ c.loop-item.events.items ++ c.in_ok-item.field-0 ∷ [] = search rules in
    rw m (c.items_in_turn.ensures.one_more _ _ _ _ _ c.loop-item.invariant (rw c.in_ok-item.was at c.in-Some.ensures.steps))

pub returns : goal.returns
returns g c l f e x run k =
    let known = g.S.yaml_token_source_t.known in
    let i : c.yaml_parser_initialize-item-items.result ≡ c.into_iter-item-iterator.result = search rules in
    let whole = subst (λ p. RunToCome known p e x) i
    (c.yaml_parser_initialize-item-items.ensures.run_to_come known l f k e x run) in
    let r = (c.items_in_turn.ensures.events _ _ _ c.loop-item.invariant).runs e x whole in
    let n = c.items_in_turn.ensures.end _ c.in-None.ensures.steps.0 r.later x r.run in (
      sym (r.all ∙ (ap (λ (y : List yaml_event_t). c.loop-item.events.items ++ y) n.0
          ∙ append-nil c.loop-item.events.items)),
      n.1,
    )

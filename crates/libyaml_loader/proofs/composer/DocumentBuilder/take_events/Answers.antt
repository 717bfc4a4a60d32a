use Rattle.std.proofs.Common.{◌≡◌, ◌≤◌, ◌<◌, ◌+◌, ◌∷◌, Err, length, drop, get_or, arith, rules}
use Rattle.std.proofs.lemmas.List.{drop-set-lt, drop_more}
use Rattle.std.specs.Vec.{vec_capacity}
use Rattle.libyaml_loader.proofs.pushes.InTurn.{next_turn, refused_turn}
use Rattle.libyaml_loader.proofs.composer.DocumentBuilder.take_events.Goals as goal

pub returns-in_err-take_event_into-clause-composes : goal.returns-in_err-take_event_into-clause-composes
returns-in_err-take_event_into-clause-composes c =
    let l = c.loop-event in
    let e = get_or l.event-items l.event-index c.event-item.result in
    let lt : l.event-index < length l.event-items = search rules in
    let here : drop l.event-index l.event-items ≡ e ∷ drop (l.event-index + 1) l.event-items
    = drop_more l.event-items l.event-index c.event-item.result lt in
    let room : vec_capacity c.args.documents.now ≤ vec_capacity l.documents = l.invariant.0 in
    let err : c.from_residual.result ≡ Err c.in_err-take_event_into.field-0.0 = search rules in
    refused_turn c.args.self.now l.self c.take_event_into.new.self c.args.events.now.items c.args.documents.now.items
    l.documents.items c.take_event_into.new.documents.items e
    (drop (l.event-index + 1) l.event-items)
    (rw here at (rw c.deref_mut-event-items.ensures.value at l.invariant.1))
    _ _ (λ full. omega (arith, room, full)) c.take_event_into.result c.from_residual.result c.in_err-take_event_into.field-0.0
    c.in_err-take_event_into.field-0.0 c.in_err-take_event_into.was err c.take_event_into.ensures.composes

pub loop-event-preserved : goal.loop-event-preserved
loop-event-preserved c =
    let l = c.loop-event in
    let e = get_or l.event-items l.event-index c.event-item.result in
    let lt : l.event-index < length l.event-items = search rules in
    let here : drop l.event-index l.event-items ≡ e ∷ drop (l.event-index + 1) l.event-items
    = drop_more l.event-items l.event-index c.event-item.result lt in
    let room : vec_capacity c.args.documents.now ≤ vec_capacity c.take_event_into.new.documents =
    let a = l.invariant.0 in let b = c.take_event_into.ensures.capacity in omega (arith, a, b)
    in
    let left = drop-set-lt (l.event-index + 1) l.event-items l.event-index c.take_event_into.new.event (omega arith) in (
      room,
      rw (← left) at (next_turn c.args.self.now l.self c.take_event_into.new.self _ _ _ c.take_event_into.new.documents.items e
          (drop (l.event-index + 1) l.event-items)
          (rw here at l.invariant.1)
          _ c.take_event_into.result c.in_ok-take_event_into.field-0 c.in_ok-take_event_into.was c.take_event_into.ensures.composes
          c.take_event_into.ensures.sound c.take_event_into.ensures.bound
          (rw c.in_ok-take_event_into.was at c.take_event_into.ensures.fault)),
    )

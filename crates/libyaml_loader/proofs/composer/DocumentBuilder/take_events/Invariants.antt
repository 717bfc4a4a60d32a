use Rattle.std.specs.Prelude.{◌≤◌, drop}
use Rattle.std.specs.Vec.{vec_capacity}
use Rattle.libyaml_loader.proofs.pushes.InTurn.{InTurn}
use Rattle.libyaml_loader.proofs.composer.DocumentBuilder.take_events.Given as goal

abbrev pub invariant-loop-event : goal.invariant-loop-event
invariant-loop-event l = (vec_capacity l.fn.documents ≤ vec_capacity l.documents)
    × InTurn l.initial.self l.initial.event-items l.initial.documents.items l.self
    (drop l.event-index l.event-items) l.documents.items

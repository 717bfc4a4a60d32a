use Rattle.std.proofs.Common.{◌+◌, ◌≤◌, length}
use Rattle.std.specs.Vec.{vec_capacity}
use Rattle.libyaml_events.specs.machine.Outcomes.{wanted}
use Rattle.libyaml_events.specs.automaton.View.{Ready}
use Rattle.libyaml_events.proofs.machine.StepKinds.{room}
use Rattle.libyaml_events.proofs.pushes.PushLoop.{Taking}
use Rattle.libyaml_events.proofs.parser.TokenParser.feed.Given as goal

abbrev pub invariant-loop-self : goal.invariant-loop-self
invariant-loop-self l = (vec_capacity l.fn.events ≤ vec_capacity l.events)
    × (Taking (wanted l.fn.pending) l.fn.self l.fn.token l.fn.events.items (wanted l.pending) l.self l.token
    l.events.items)
    × Ready l.pending l.self

abbrev pub decreases-loop-self : goal.decreases-loop-self
decreases-loop-self l = length l.self.states + room (wanted l.pending) l.self l.token.content

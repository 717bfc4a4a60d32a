use Rattle.std.proofs.Common.{◌≤◌, Some, None, true, false, ap, arith, refl, rules, sym}
use Rattle.std.specs.Vec.{vec_capacity}
use Rattle.libyaml_events.proofs.pushes.PushLoop.{taking_begins, wants_next, fails_onto, goes_on, is_done, step_falls}
use Rattle.libyaml_events.specs.machine.Outcomes.{wanted}
use Rattle.libyaml_events.specs.machine.Want.{Want}
use Rattle.libyaml_events.proofs.parser.TokenParser.feed.Goals as goal

pub loop-self-init : goal.loop-self-init
loop-self-init c = (search rules, taking_begins _ _ _ _ c.requires.running, c.requires.agrees)

pub returns-in-Wants-clause-takes : goal.returns-in-Wants-clause-takes
returns-in-Wants-clause-takes c =
    let s = rw c.in-Wants.is at c.step_onto.ensures.steps in
    rw s.1 (wants_next _ _ _ _ _ _ _ _ _ c.loop-self.invariant.1 _ _ s.0)

pub returns-in-Failed-clause-takes : goal.returns-in-Failed-clause-takes
returns-in-Failed-clause-takes c =
    let s = rw c.in-Failed.is at c.step_onto.ensures.steps in
    let room : vec_capacity c.args.events.now ≤ vec_capacity c.loop-self.events = c.loop-self.invariant.0 in
    rw (c.fail.ensures.error, c.fail.ensures.left)
    (fails_onto _ _ _ _ _ _ _ _ _ c.loop-self.invariant.1 _ (λ full. omega (arith, room, full)) _ _ _ _ s.0 s.1)

pub returns-in-Given-clause-takes : goal.returns-in-Given-clause-takes
returns-in-Given-clause-takes c =
    let s = rw c.in-Given.is at c.step_onto.ensures.steps in
    rw c.begin_call.ensures.wanted (is_done _ _ _ _ _ _ _ _ _ c.loop-self.invariant.1 _ None c.step_onto.new.self s.1 _ s.2
    false c.step_onto.new.token refl (λ h. absurd cc))

pub returns-then-is_over-clause-takes : goal.returns-then-is_over-clause-takes
returns-then-is_over-clause-takes c =
    let s = rw c.in-GivenBefore.is at c.step_onto.ensures.steps in
    rw c.begin_call-in-loop-self.ensures.wanted (is_done _ _ _ _ _ _ _ _ _ c.loop-self.invariant.1 _
    (Some c.step_onto.new.token) c.step_onto.new.self s.1 _ s.2 true c.step_onto.new.token refl
    (λ h. sym c.if-is_over.ensures))

pub loop-self-smaller : goal.loop-self-smaller
loop-self-smaller c =
    let s = rw c.in-GivenBefore.is at c.step_onto.ensures.steps in
    rw (ap (λ (w : Want). w.next) c.begin_call-in-loop-self.ensures.wanted)
    (step_falls (wanted c.loop-self.pending) c.loop-self.self c.loop-self.token s.0 c.step_onto.new.self
    c.step_onto.new.token s.1)

pub loop-self-preserved : goal.loop-self-preserved
loop-self-preserved c =
    let s = rw c.in-GivenBefore.is at c.step_onto.ensures.steps in
    let room : vec_capacity c.args.events.now ≤ vec_capacity c.step_onto.new.events = search rules in
    rw c.begin_call-in-loop-self.ensures.wanted (
      room,
      goes_on (Unit {0}) _ _ _ _ _ _ _ _ c.loop-self.invariant.1 _ _ c.step_onto.new.self s.1 _ s.2 c.step_onto.new.token
          refl (sym c.if-is_over.ensures),
      c.begin_call-in-loop-self.ensures.ready,
    )

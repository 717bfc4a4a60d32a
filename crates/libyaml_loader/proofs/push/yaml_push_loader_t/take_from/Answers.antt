use Rattle.std.proofs.Common.{◌≡◌, ◌≤◌, Err, Ok, ap, rules, sym, ◌∙◌}
use Rattle.std.specs.Vec.{vec_capacity, vec_len}
use Rattle.libyaml_events.specs.sources.Pushes.{done_by, done_of}
use Rattle.libyaml_types.specs.Fault.{fault_of}
use Rattle.libyaml_loader.proofs.pushes.Pushing.{kept_fault, on_ok, push_remembers, pushes_failed, pushes_ok, pushes_refused}
use Rattle.libyaml_loader.proofs.push.yaml_push_loader_t.take_from.Goals as goal

pub returns-in_err-composed : goal.returns-in_err-composed
returns-in_err-composed c =
    let pushed = c.push_from-pushed in
    let composed = c.take_events-composed in
    let first = c.self.inside.composer in
    let so = rw c.self.invariant.0 at pushed.ensures.pushes in
    let none : done_by (fault_of first.fault) ≡ Ok tt = sym c.kept.ensures ∙ c.in_ok-kept.was in
    let same = on_ok (composed.new.self.fault ≡ first.fault) composed.result composed.ensures.fault in
    let err : c.from_residual-in_err-composed.result ≡ Err c.in_err-composed.field-0.0 = search rules in
    rw err (rw c.self.view_is at (pushes_refused _ _ c.self.inside.parser pushed.new.self c.args.token.now pushed.new.events.items (done_of pushed.result)
    so first composed.new.self c.args.documents.now.items composed.new.documents.items
    composed.result composed.ensures.composes composed.ensures.none composed.ensures.bound composed.ensures.kept
    same none c.in_err-composed.field-0.0 c.in_err-composed.was))

pub returns-in-Err : goal.returns-in-Err
returns-in-Err c =
    let pushed = c.push_from-pushed in
    let composed = c.take_events-composed in
    let first = c.self.inside.composer in
    let so = rw c.self.invariant.0 at pushed.ensures.pushes in
    let none : done_by (fault_of first.fault) ≡ Ok tt = sym c.kept.ensures ∙ c.in_ok-kept.was in
    let same = on_ok (composed.new.self.fault ≡ first.fault) composed.result composed.ensures.fault in
    let now = c.keep.new.self in
    let is = kept_fault pushed.new.self now composed.new.self.max_entries _ c.keep.ensures.none_open
    (ap fault_of c.keep.ensures.fault ∙ (rw c.in-Err.is at pushed.ensures.error)) c.keep.ensures.bound in
    rw (c.self.view_is, is) at (pushes_failed _ _ c.self.inside.parser pushed.new.self c.args.token.now pushed.new.events.items (done_of pushed.result)
    so first composed.new.self c.args.documents.now.items composed.new.documents.items
    composed.result composed.ensures.composes composed.ensures.none composed.ensures.bound composed.ensures.kept
    same none c.self.invariant.2 c.in_ok-composed.field-0 c.in-Err.fault.error
    c.in_ok-composed.was (ap done_of c.in-Err.is))

pub returns : goal.returns
returns c =
    let pushed = c.push_from-pushed in
    let composed = c.take_events-composed in
    let first = c.self.inside.composer in
    let so = rw c.self.invariant.0 at pushed.ensures.pushes in
    let none : done_by (fault_of first.fault) ≡ Ok tt = sym c.kept.ensures ∙ c.in_ok-kept.was in
    let same = on_ok (composed.new.self.fault ≡ first.fault) composed.result composed.ensures.fault in
    rw c.self.view_is at (pushes_ok _ _ c.self.inside.parser pushed.new.self c.args.token.now pushed.new.events.items (done_of pushed.result) so
    first composed.new.self c.args.documents.now.items composed.new.documents.items
    composed.result composed.ensures.composes composed.ensures.none composed.ensures.bound composed.ensures.kept
    same none c.in_ok-composed.field-0 c.in_default.field-0 c.in_ok-composed.was (ap done_of c.in_default.is))

pub invariant_of-self-in_default : goal.invariant_of-self-in_default
invariant_of-self-in_default c =
    let pushed = c.push_from-pushed in
    let composed = c.take_events-composed in
    let first = c.self.inside.composer in
    let so = rw c.self.invariant.0 at pushed.ensures.pushes in
    let none : done_by (fault_of first.fault) ≡ Ok tt = sym c.kept.ensures ∙ c.in_ok-kept.was in
    let same = on_ok (composed.new.self.fault ≡ first.fault) composed.result composed.ensures.fault in
    let p = pushes_ok _ _ c.self.inside.parser pushed.new.self c.args.token.now pushed.new.events.items
    (done_of pushed.result) so first composed.new.self c.args.documents.now.items composed.new.documents.items
    composed.result composed.ensures.composes composed.ensures.none composed.ensures.bound composed.ensures.kept
    same none c.in_ok-composed.field-0 c.in_default.field-0
    c.in_ok-composed.was (ap done_of c.in_default.is) in (
      c.clear.ensures.items,
      composed.ensures.sound,
      push_remembers (vec_capacity c.args.documents.now ≤ vec_len composed.new.documents) _ _ c.args.token.now _ _ _
          p c.self.invariant.2,
    )

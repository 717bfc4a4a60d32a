use Rattle.std.proofs.Common.{◌∙◌, inr, refl, sym, subst}
use Rattle.libyaml_loader.specs.composed.Telling.{TellsDeed}
use Rattle.libyaml_loader.proofs.exported.Yielding.{refused_anchors}
use Rattle.yaml_bounds.specs.Bounds.{by_count, by_deed, by_memory}
use Rattle.yaml_bounds.proofs.Told.{refused_same}
use Rattle.yaml_bounds.proofs.bounded_composer.bounded_composer_t.take.Goals as goal

pub returns-in-Some-clause-refuses : goal.returns-in-Some-clause-refuses
returns-in-Some-clause-refuses c =
    let r = c.in-Some.ensures.refused in
    let same = refused_anchors c.args.self.now.composer c.compose.new.self c.args.event.now c.in-Ok.deed c.compose.new.place
    c.in-Ok.ensures.tells r.0 in
    by_deed c.in-Ok.deed c.compose.new.place c.compose.new.self c.in-Ok.ensures.tells r.0
    (r.1 ∙ refused_same c.in-Ok.deed c.args.self.now.composer c.compose.new.self c.args.event.now same)

pub returns-in-Some-count_fault-clause-refuses : goal.returns-in-Some-count_fault-clause-refuses
returns-in-Some-count_fault-clause-refuses c =
    let tells = subst (TellsDeed c.args.self.now.composer c.args.event.now c.in-Ok.deed c.compose.new.place)
    (sym c.in-Ok-count.ensures.composer) c.in-Ok.ensures.tells in
    let answers = rw c.type_.ensures at c.in-Ok-count.ensures.answers in
    by_count c.in-Ok-count.counted c.in-Ok.deed c.compose.new.place c.count.new.self tells
    (c.in_default-refusal.ensures.taken refl) answers
    c.in-Some-count_fault.ensures.out.0 c.in-Some-count_fault.ensures.out.1

pub returns-in_default-count-clause-refuses : goal.returns-in_default-count-clause-refuses
returns-in_default-count-clause-refuses c =
    by_memory refl (inr (record {
      deed = c.in-Ok.deed;
      place = c.compose.new.place;
      composer = c.compose.new.self;
      tells = c.in-Ok.ensures.tells;
      taken = c.in_default-refusal.ensures.taken refl;
      node = c.in_default-count.ensures.err;
      bounded = c.in_default-count.ensures.bounded;
    }))

use Rattle.std.proofs.Common.{rules, ◌≡◌, ◌∙◌, ℤ, pos, ap, of_z, w32}
use Rattle.libyaml_graphs.specs.graphs.GraphParts.{part_of}
use Rattle.libyaml_graphs.specs.graphs.Graphs.{id_or}
use Rattle.libyaml_composer.specs.Composing.{composer_step, told}
use Rattle.libyaml_loader.specs.composed.Anchoring.{event_node}
use Rattle.libyaml_loader.specs.composed.Telling.{no_place}
use Rattle.libyaml_loader.specs.document.Stack.{roomy}
use Rattle.libyaml_loader.proofs.composed.Memory.{fact_is_id, none_registered}
use Rattle.libyaml_loader.proofs.event_composer.event_composer_t.compose.Goals as goal

pub returns-then-fact-ne0 : goal.returns-then-fact-ne0
returns-then-fact-ne0 c =
    let id = id_or (event_node c.args.self.now.anchors c.args.event.now) in
    let from = roomy c.in_ok-deed.ensures.ok.0 c.args.self.now.collections in
    let tells : told c.in_ok-deed.deed c.take_any.new.place c.take_any.new.self ≡ composer_step c.type_.result (pos id) no_place from
    = search rules in
    let fact = c.id_or_none-fact.ensures ∙ ap (λ x. pos (id_or x)) c.anchored_node.ensures in
    let kept = none_registered c.type_.result (pos id) c.in_ok-deed.deed c.take_any.new.place from c.take_any.new.self
    (part_of c.args.event.now) c.args.self.now.anchors tells
    (fact_is_id id (λ h. c.if-fact-ne0.true (ap (λ (i : ℤ). of_z w32 i) fact ∙ h))) c.in_default.not-Begins in
    record {
      tells = record {
        room = c.in_ok-deed.ensures.ok.0;
        told = search rules;
        has_room = c.in_ok-deed.ensures.roomy;
        anchors = search rules;
      };
      err = tt;
    }

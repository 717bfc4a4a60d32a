use Rattle.std.proofs.Common.{◌∙◌, Option, ap, pos, refl, rules, w32}
use Rattle.std.proofs.lemmas.Int.{to_z-of_z}
use mir.Val.{SFits}
use Rattle.libyaml_types.specs.declared.event.unnamed_yaml_event_t_data.TheVariants as ev
use Rattle.libyaml_graphs.specs.graphs.Graphs.{AnchoredNode, id_or}
use Rattle.libyaml_loader.proofs.document.Deciding.{decided}
use Rattle.libyaml_loader.proofs.context.loader_ctx.decide_alias.Goals as goal

pub returns-clause-ok : goal.returns-clause-ok
returns-clause-ok c =
    let fits : SFits w32 c.id_or_none.result = search rules in
    let fact = c.id_or_none.ensures ∙ ap (λ (x : Option AnchoredNode). pos (id_or x)) c.find-anchored_node.ensures in
    let t = rw (to_z-of_z w32 c.id_or_none.result fits, fact) at c.in_ok-take.ensures.ok.1 in
    let d = c.in_ok-deed.ensures.ok in
    rw d.0 (decided c.args.self.now c.take.new.self (record {
      content = ev.Alias (record { anchor = c.args.anchor.now });
      start_mark = c.args.mark.now;
      end_mark = c.args.mark.now;
    }) c.requires refl c.in_ok-take.ensures.ok.0 c.args.place.now c.take.new.place c.in_ok-take.field-0 t _ refl d.1
    c.in_ok-take.ensures.roomy)

use Rattle.std.proofs.Common.{refl, ap, sym, w32, ◌∙◌}
use Rattle.std.proofs.lemmas.Int.{to_z-of_z}
use mir.Val.{SFits}
use Rattle.libyaml_documents.specs.LoadedNodes.{with_end}
use Rattle.libyaml_documents.proofs.Ids.{KeepsTypes-set, with_changed_node-set}
use Rattle.libyaml_documents.proofs.document.building.set_end_mark.Goals as goal

pub returns-clause-changed : goal.returns-clause-changed
returns-clause-changed c =
    let fits : SFits w32 c.args.id = c.ranges.id in
    with_changed_node-set _ c.args.document.now c.args.id c.place_of.result (with_end c.args.end_mark)
    c.index_mut.result.now _
    c.document.view_is (sym (to_z-of_z w32 c.args.id c.ranges.id) ∙ c.place_of.ensures) c.index_mut.ensures.value
    (ap (with_end c.args.end_mark) c.behind-document.view_is)

pub returns-clause-types_kept : goal.returns-clause-types_kept
returns-clause-types_kept c =
    rw (← c.document.view_is)
    (KeepsTypes-set c.place_of.result (with_end c.args.end_mark) c.document.inside.nodes.items
    c.index_mut.result.now _
    c.index_mut.ensures.value (ap (with_end c.args.end_mark) c.behind-document.view_is) (λ node. refl))

use Rattle.std.proofs.Common.{◌≡◌, length, set, subst, sym, w32, ◌∙◌}
use Rattle.std.proofs.lemmas.Int.{to_z-of_z}
use mir.Val.{SFits}
use Rattle.libyaml_types.specs.declared.enums.yaml_node_type_t.TheVariants.{YAML_NO_NODE, YAML_SEQUENCE_NODE}
use Rattle.libyaml_documents.specs.Nodes.{IsIdUpTo, KeepsTypes, with_item}
use Rattle.libyaml_documents.specs.Documents.{Document}
use Rattle.libyaml_documents.proofs.Ids.{AreNodes-set, inside-type_at, KeepsTypes-set, item_after-type, with_item-keeps, with_changed_node-set}
use Rattle.libyaml_documents.proofs.document.append.yaml_document_append_sequence_item.Goals as goal

pub returns-clause-ok : goal.returns-clause-ok
returns-clause-ok c =
    let fits : SFits w32 c.args.item = c.ranges.item in
    let pushed = simp to_z-of_z at c.in_ok-push_item.ensures.ok in
    with_changed_node-set _ c.args.document.now c.args.sequence c.place_of.result (with_item c.args.item)
    c.index_mut-node.result.now c.push_item.new.self
    c.document.view_is (sym (to_z-of_z w32 c.args.sequence c.ranges.sequence) ∙ c.place_of.ensures)
    c.index_mut-node.ensures.value pushed

pub returns-clause-types_kept : goal.returns-clause-types_kept
returns-clause-types_kept c =
    let fits : SFits w32 c.args.item = c.ranges.item in
    let pushed = simp to_z-of_z at c.in_ok-push_item.ensures.ok in
    subst (λ (d : Document). KeepsTypes d.nodes
    (set c.document.inside.nodes.items c.place_of.result c.push_item.new.self)) c.document.view_is
    (KeepsTypes-set c.place_of.result (with_item c.args.item) c.document.inside.nodes.items
    c.index_mut-node.result.now c.push_item.new.self
    c.index_mut-node.ensures.value pushed (λ node. item_after-type c.args.item node.content))

pub invariant_of-document-2 : goal.invariant_of-document-2
invariant_of-document-2 c =
    let fits : SFits w32 c.args.item = c.ranges.item in
    let pushed = simp to_z-of_z at c.in_ok-push_item.ensures.ok in
    let below : IsIdUpTo (length c.document.inside.nodes.items) c.args.item
    = subst (λ (d : Document). IsIdUpTo (length d.nodes) c.args.item) (sym c.document.view_is) c.requires.item in
    AreNodes-set c.place_of.result (with_item c.args.item) c.document.inside.nodes.items c.index_mut-node.result.now
    c.push_item.new.self
    (inside-type_at _ c.args.document.now c.args.sequence c.place_of.result YAML_SEQUENCE_NODE c.document.view_is
    (sym (to_z-of_z w32 c.args.sequence c.ranges.sequence) ∙ c.place_of.ensures)
    (λ (e : YAML_NO_NODE ≡ YAML_SEQUENCE_NODE). cc) c.requires.target)
    c.index_mut-node.ensures.value pushed
    (λ node h. with_item-keeps _ c.args.item node.content below h)
    c.document.invariant

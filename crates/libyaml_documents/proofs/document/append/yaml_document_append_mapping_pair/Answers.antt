use Rattle.std.proofs.Common.{◌≡◌, length, set, subst, sym, w32, ◌∙◌}
use Rattle.std.proofs.lemmas.Int.{to_z-of_z}
use mir.Val.{SFits}
use Rattle.libyaml_types.specs.declared.enums.yaml_node_type_t.TheVariants.{YAML_NO_NODE, YAML_MAPPING_NODE}
use Rattle.libyaml_documents.specs.Nodes.{IsIdUpTo, KeepsTypes, with_pair}
use Rattle.libyaml_documents.specs.Documents.{Document}
use Rattle.libyaml_documents.proofs.Ids.{AreNodes-set, inside-type_at, KeepsTypes-set, pair_after-type, with_pair-keeps, with_changed_node-set}
use Rattle.libyaml_documents.proofs.document.append.yaml_document_append_mapping_pair.Goals as goal

pub returns-clause-ok : goal.returns-clause-ok
returns-clause-ok c =
    let key_fits : SFits w32 c.args.key = c.ranges.key in
    let value_fits : SFits w32 c.args.value = c.ranges.value in
    let pushed = simp to_z-of_z at c.in_ok-push_pair.ensures.ok in
    with_changed_node-set _ c.args.document.now c.args.mapping c.place_of.result (with_pair c.args.key c.args.value)
    c.index_mut-node.result.now
    c.push_pair.new.self
    c.document.view_is (sym (to_z-of_z w32 c.args.mapping c.ranges.mapping) ∙ c.place_of.ensures)
    c.index_mut-node.ensures.value pushed

pub returns-clause-types_kept : goal.returns-clause-types_kept
returns-clause-types_kept c =
    let key_fits : SFits w32 c.args.key = c.ranges.key in
    let value_fits : SFits w32 c.args.value = c.ranges.value in
    let pushed = simp to_z-of_z at c.in_ok-push_pair.ensures.ok in
    subst (λ (d : Document). KeepsTypes d.nodes
    (set c.document.inside.nodes.items c.place_of.result c.push_pair.new.self)) c.document.view_is
    (KeepsTypes-set c.place_of.result (with_pair c.args.key c.args.value) c.document.inside.nodes.items
    c.index_mut-node.result.now c.push_pair.new.self
    c.index_mut-node.ensures.value pushed
    (λ node. pair_after-type (record { key = c.args.key; value = c.args.value }) node.content))

pub invariant_of-document-2 : goal.invariant_of-document-2
invariant_of-document-2 c =
    let key_fits : SFits w32 c.args.key = c.ranges.key in
    let value_fits : SFits w32 c.args.value = c.ranges.value in
    let pushed = simp to_z-of_z at c.in_ok-push_pair.ensures.ok in
    let key_below : IsIdUpTo (length c.document.inside.nodes.items) c.args.key
    = subst (λ (d : Document). IsIdUpTo (length d.nodes) c.args.key) (sym c.document.view_is) c.requires.key in
    let value_below : IsIdUpTo (length c.document.inside.nodes.items) c.args.value
    = subst (λ (d : Document). IsIdUpTo (length d.nodes) c.args.value) (sym c.document.view_is) c.requires.value in
    AreNodes-set c.place_of.result (with_pair c.args.key c.args.value) c.document.inside.nodes.items
    c.index_mut-node.result.now c.push_pair.new.self
    (inside-type_at _ c.args.document.now c.args.mapping c.place_of.result YAML_MAPPING_NODE c.document.view_is
    (sym (to_z-of_z w32 c.args.mapping c.ranges.mapping) ∙ c.place_of.ensures)
    (λ (e : YAML_NO_NODE ≡ YAML_MAPPING_NODE). cc) c.requires.target)
    c.index_mut-node.ensures.value pushed
    (λ node h. with_pair-keeps _ (record { key = c.args.key; value = c.args.value }) node.content key_below value_below h)
    c.document.invariant

-- The comparison of nodes decides whether two are one.
use Rattle.std.proofs.Common.{◌≡◌}
use Rattle.std.specs.Bool.{Decides}
use Rattle.std.specs.Cmp.Lexicographic.{bytes_decides}
use Rattle.libyaml_documents.proofs.Choices.{both, through, one_field, enum_decides, ◌then◌}
use Rattle.libyaml_documents.proofs.Fields.{mark_decides, scalar_style_decides, sequence_style_decides, mapping_style_decides, items_decide, pairs_decide}
use Rattle.libyaml_documents.specs.declared.node.unnamed_yaml_node_t_data_scalar.{unnamed_yaml_node_t_data_scalar}
use Rattle.libyaml_documents.specs.contracts.node.Unnamed_yaml_node_t_data_scalarPartialEq.TheImpl as scalar_eq
use Rattle.libyaml_documents.specs.declared.node.unnamed_yaml_node_t_data_sequence.{unnamed_yaml_node_t_data_sequence}
use Rattle.libyaml_documents.specs.contracts.node.Unnamed_yaml_node_t_data_sequencePartialEq.TheImpl as sequence_eq
use Rattle.libyaml_documents.specs.declared.node.unnamed_yaml_node_t_data_mapping.{unnamed_yaml_node_t_data_mapping}
use Rattle.libyaml_documents.specs.contracts.node.Unnamed_yaml_node_t_data_mappingPartialEq.TheImpl as mapping_eq
use Rattle.libyaml_documents.specs.declared.node.unnamed_yaml_node_t_data.{unnamed_yaml_node_t_data}
use Rattle.libyaml_documents.specs.contracts.node.unnamed_yaml_node_t_data.{enum}
use Rattle.libyaml_documents.specs.contracts.node.unnamed_yaml_node_t_dataPartialEq.TheImpl as content_eq
use Rattle.libyaml_documents.specs.declared.node.yaml_node_t.{yaml_node_t}
use Rattle.libyaml_documents.specs.contracts.node.Yaml_node_tPartialEq.TheImpl as node_eq

scalar_decides : (a b : unnamed_yaml_node_t_data_scalar) → Decides ((scalar_eq.ghosts).eq a b) (a ≡ b)
scalar_decides a b =
    through (both (bytes_decides a.value b.value) (scalar_style_decides a.style b.style))
    (λ p i. record { value = p.0 i; style = p.1 i })
    (λ e. search)

sequence_decides : (a b : unnamed_yaml_node_t_data_sequence) → Decides ((sequence_eq.ghosts).eq a b) (a ≡ b)
sequence_decides a b =
    through (both (items_decide a.items b.items) (sequence_style_decides a.style b.style))
    (λ p i. record { items = p.0 i; style = p.1 i })
    (λ e. search)

mapping_decides : (a b : unnamed_yaml_node_t_data_mapping) → Decides ((mapping_eq.ghosts).eq a b) (a ≡ b)
mapping_decides a b =
    through (both (pairs_decide a.pairs b.pairs) (mapping_style_decides a.style b.style))
    (λ p i. record { pairs = p.0 i; style = p.1 i })
    (λ e. search)

content_decides : (a b : unnamed_yaml_node_t_data) → Decides ((content_eq.ghosts).eq a b) (a ≡ b)
content_decides =
    enum_decides enum _ (one_field (scalar_eq.ghosts).eq scalar_decides then
    one_field (sequence_eq.ghosts).eq sequence_decides then
    one_field (mapping_eq.ghosts).eq mapping_decides then tt)

pub node_decides : (a b : yaml_node_t) → Decides ((node_eq.ghosts).eq a b) (a ≡ b)
node_decides a b =
    through (both (bytes_decides a.tag b.tag)
    (both (content_decides a.content b.content)
    (both (mark_decides a.start_mark b.start_mark) (mark_decides a.end_mark b.end_mark))))
    (λ p i. record { tag = p.0 i; content = p.1.0 i; start_mark = p.1.1.0 i; end_mark = p.1.1.1 i })
    (λ e. search)

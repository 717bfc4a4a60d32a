-- When the payloads of two nodes are equal: each of their fields is (docs/DEFINITIONS.md, "Equality").
use Rattle.std.specs.Prelude.{Bool, ◌&&◌, nat_eq}
use Rattle.std.specs.Ordering.{int_eq}
use Rattle.std.specs.Cmp.{IsEquivalence, and_equiv, on_equiv, int_eq_equiv}
use Rattle.std.specs.Cmp.Lexicographic.{pointwise, lists_equiv, nat_list_eq_equiv}
use Rattle.libyaml_documents.specs.Models.{ScalarNode, SequenceNode, MappingNode}
use Rattle.libyaml_documents.specs.contracts.pairs.yaml_node_pair_tPartialEq.TheImpl as pair_eq
use Rattle.libyaml_documents.specs.contracts.pairs.yaml_node_pair_tEq.TheImpl.Laws as pair_laws
use Rattle.libyaml_types.specs.contracts.enums.yaml_scalar_style_tPartialEq.TheImpl as scalar_style_eq
use Rattle.libyaml_types.specs.contracts.enums.yaml_scalar_style_tEq.TheImpl.Laws as scalar_style_laws
use Rattle.libyaml_types.specs.contracts.enums.yaml_sequence_style_tPartialEq.TheImpl as sequence_style_eq
use Rattle.libyaml_types.specs.contracts.enums.yaml_sequence_style_tEq.TheImpl.Laws as sequence_style_laws
use Rattle.libyaml_types.specs.contracts.enums.yaml_mapping_style_tPartialEq.TheImpl as mapping_style_eq
use Rattle.libyaml_types.specs.contracts.enums.yaml_mapping_style_tEq.TheImpl.Laws as mapping_style_laws

abbrev pub same_scalar_node : ScalarNode → ScalarNode → Bool
same_scalar_node x y = pointwise nat_eq x.value y.value && (scalar_style_eq.ghosts).eq x.style y.style

pub same_scalar_node_equiv : IsEquivalence same_scalar_node
same_scalar_node_equiv = and_equiv (on_equiv (λ x. x.value) nat_list_eq_equiv)
    (on_equiv (λ x. x.style) scalar_style_laws.laws-law)

abbrev pub same_sequence_node : SequenceNode → SequenceNode → Bool
same_sequence_node x y = pointwise int_eq x.items y.items && (sequence_style_eq.ghosts).eq x.style y.style

pub same_sequence_node_equiv : IsEquivalence same_sequence_node
same_sequence_node_equiv = and_equiv (on_equiv (λ x. x.items) (lists_equiv int_eq_equiv))
    (on_equiv (λ x. x.style) sequence_style_laws.laws-law)

abbrev pub same_mapping_node : MappingNode → MappingNode → Bool
same_mapping_node x y = pointwise (pair_eq.ghosts).eq x.pairs y.pairs && (mapping_style_eq.ghosts).eq x.style y.style

pub same_mapping_node_equiv : IsEquivalence same_mapping_node
same_mapping_node_equiv = and_equiv (on_equiv (λ x. x.pairs) (lists_equiv pair_laws.laws-law))
    (on_equiv (λ x. x.style) mapping_style_laws.laws-law)

-- When two nodes are equal: each of their fields is (docs/DEFINITIONS.md, "Equality").
use Rattle.std.specs.Prelude.{Bool, ◌&&◌, nat_eq}
use Rattle.std.specs.Cmp.{IsEquivalence, and_equiv, on_equiv}
use Rattle.std.specs.Cmp.Lexicographic.{pointwise, nat_list_eq_equiv}
use Rattle.libyaml_types.specs.contracts.mark.yaml_mark_tPartialEq.TheImpl as mark_eq
use Rattle.libyaml_types.specs.contracts.mark.yaml_mark_tEq.TheImpl.Laws as mark_laws
use Rattle.libyaml_documents.specs.contracts.node.unnamed_yaml_node_t_dataPartialEq.TheImpl as content_eq
use Rattle.libyaml_documents.specs.contracts.node.unnamed_yaml_node_t_dataEq.TheImpl.Laws as content_laws
use Rattle.libyaml_documents.specs.Node.{Node}

abbrev pub same_node : Node → Node → Bool
same_node x y =
    pointwise nat_eq x.tag y.tag && ((content_eq.ghosts).eq x.content y.content
    && ((mark_eq.ghosts).eq x.start_mark y.start_mark && (mark_eq.ghosts).eq x.end_mark y.end_mark))

pub same_node_equiv : IsEquivalence same_node
same_node_equiv =
    and_equiv (on_equiv (λ x. x.tag) nat_list_eq_equiv)
    (and_equiv (on_equiv (λ x. x.content) content_laws.laws-law)
    (and_equiv (on_equiv (λ x. x.start_mark) mark_laws.laws-law) (on_equiv (λ x. x.end_mark) mark_laws.laws-law)))

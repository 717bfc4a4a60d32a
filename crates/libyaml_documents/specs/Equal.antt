-- When two documents are equal: each of their fields is (docs/DEFINITIONS.md, "Equality").
use Rattle.std.specs.Prelude.{Bool, ◌&&◌}
use Rattle.std.specs.Bool.{beq}
use Rattle.std.specs.Option.{option_eq}
use Rattle.std.specs.Cmp.{IsEquivalence, and_equiv, on_equiv, bool_eq_equiv}
use Rattle.std.specs.Cmp.Lexicographic.{pointwise, lists_equiv, options_equiv}
use Rattle.libyaml_types.specs.declared.directive.yaml_version_directive_t.{yaml_version_directive_t}
use Rattle.libyaml_types.specs.declared.directive.yaml_tag_directive_t.{yaml_tag_directive_t}
use Rattle.libyaml_types.specs.declared.mark.yaml_mark_t.{yaml_mark_t}
use Rattle.libyaml_types.specs.contracts.directive.yaml_version_directive_tPartialEq.TheImpl as version_eq
use Rattle.libyaml_types.specs.contracts.directive.yaml_version_directive_tEq.TheImpl.Laws as version_laws
use Rattle.libyaml_types.specs.contracts.directive.Yaml_tag_directive_tPartialEq.TheImpl as directive_eq
use Rattle.libyaml_types.specs.contracts.directive.Yaml_tag_directive_tEq.TheImpl.Laws as directive_laws
use Rattle.libyaml_types.specs.contracts.mark.yaml_mark_tPartialEq.TheImpl as mark_eq
use Rattle.libyaml_types.specs.contracts.mark.yaml_mark_tEq.TheImpl.Laws as mark_laws
use Rattle.libyaml_documents.specs.declared.node.yaml_node_t.{yaml_node_t}
use Rattle.libyaml_documents.specs.contracts.node.Yaml_node_tPartialEq.TheImpl as node_eq
use Rattle.libyaml_documents.specs.contracts.node.Yaml_node_tEq.TheImpl.Laws as node_laws
use Rattle.libyaml_documents.specs.Documents.{Document}

-- what `==` says of two nodes, two versions, two directives and two marks
abbrev pub equal_nodes : yaml_node_t → yaml_node_t → Bool
equal_nodes = (node_eq.ghosts).eq

abbrev pub equal_versions : yaml_version_directive_t → yaml_version_directive_t → Bool
equal_versions = (version_eq.ghosts).eq

abbrev pub equal_directives : yaml_tag_directive_t → yaml_tag_directive_t → Bool
equal_directives = (directive_eq.ghosts).eq

abbrev pub equal_marks : yaml_mark_t → yaml_mark_t → Bool
equal_marks = (mark_eq.ghosts).eq

abbrev pub same_document : Document → Document → Bool
same_document d e =
    pointwise equal_nodes d.nodes e.nodes && (option_eq equal_versions d.version_directive e.version_directive
    && (pointwise equal_directives d.tag_directives e.tag_directives
    && (beq d.start_implicit e.start_implicit && (beq d.end_implicit e.end_implicit
    && (equal_marks d.start_mark e.start_mark && equal_marks d.end_mark e.end_mark)))))

pub same_document_equiv : IsEquivalence same_document
same_document_equiv =
    and_equiv (on_equiv (λ d. d.nodes) (lists_equiv node_laws.laws-law))
    (and_equiv (on_equiv (λ d. d.version_directive) (options_equiv version_laws.laws-law))
    (and_equiv (on_equiv (λ d. d.tag_directives) (lists_equiv directive_laws.laws-law))
    (and_equiv (on_equiv (λ d. d.start_implicit) bool_eq_equiv)
    (and_equiv (on_equiv (λ d. d.end_implicit) bool_eq_equiv)
    (and_equiv (on_equiv (λ d. d.start_mark) mark_laws.laws-law)
    (on_equiv (λ d. d.end_mark) mark_laws.laws-law))))))

-- Documents: a list of nodes beside the fields (docs/DEFINITIONS.md, "Documents by calls").
use Rattle.std.specs.Prelude.{ℕ, ℤ, ◌≤◌, List, [], ◌∷◌, ◌++◌, Option, Bool, length}
use Rattle.libyaml_types.specs.declared.directive.yaml_tag_directive_t.{yaml_tag_directive_t}
use Rattle.libyaml_types.specs.declared.directive.yaml_version_directive_t.{yaml_version_directive_t}
use Rattle.libyaml_types.specs.declared.mark.yaml_mark_t.{yaml_mark_t}
use Rattle.libyaml_types.specs.Events.{zero_mark}
use Rattle.libyaml_documents.specs.declared.node.yaml_node_t.{yaml_node_t}
use Rattle.libyaml_documents.specs.Nodes.{EveryIdNamesANode, with_changed}

pub record Document : Type 0 where
  pub nodes : List yaml_node_t
  pub version_directive : Option yaml_version_directive_t
  pub tag_directives : List yaml_tag_directive_t
  pub start_implicit : Bool
  pub end_implicit : Bool
  pub start_mark : yaml_mark_t
  pub end_mark : yaml_mark_t

-- the most nodes that a document has: ids are numbers of 32 bits with a sign
abbrev pub most_nodes : ℕ
most_nodes = 2147483647

-- what holds of the nodes of every document
pub record AreNodes (nodes : List yaml_node_t) : Type 0 where
  pub ids : EveryIdNamesANode nodes
  pub count : length nodes ≤ most_nodes

-- one more node after the others
abbrev pub with_node : Document → yaml_node_t → Document
with_node d node = record d { nodes = d.nodes ++ node ∷ [] }

-- the node of an id changed, and nothing else
abbrev pub with_changed_node : Document → ℤ → (yaml_node_t → yaml_node_t) → Document
with_changed_node d id f = record d { nodes = with_changed id f d.nodes }

-- the document that yaml_document_initialize makes: no nodes, and zero marks
abbrev pub empty_document : Option yaml_version_directive_t → List yaml_tag_directive_t → Bool → Bool → Document
empty_document version directives start_implicit end_implicit = record {
  nodes = [];
  version_directive = version;
  tag_directives = directives;
  start_implicit = start_implicit;
  end_implicit = end_implicit;
  start_mark = zero_mark;
  end_mark = zero_mark;
}

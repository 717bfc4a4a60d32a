-- Nodes as a load makes them of events, and documents as it begins and ends them (docs/DEFINITIONS.md, "Documents
-- from events").
use Rattle.std.specs.Prelude.{ℕ, ℤ, nat_eq, List, [], Option, Some, None, Bool, true, false, length, codes}
use Rattle.std.specs.Cmp.Lexicographic.{pointwise}
use Rattle.libyaml_types.specs.declared.enums.yaml_mapping_style_t.{yaml_mapping_style_t}
use Rattle.libyaml_types.specs.declared.enums.yaml_sequence_style_t.{yaml_sequence_style_t}
use Rattle.libyaml_types.specs.declared.event.unnamed_yaml_event_t_data_document_start.{unnamed_yaml_event_t_data_document_start}
use Rattle.libyaml_types.specs.declared.event.unnamed_yaml_event_t_data_scalar.{unnamed_yaml_event_t_data_scalar}
use Rattle.libyaml_types.specs.declared.mark.yaml_mark_t.{yaml_mark_t}
use Rattle.libyaml_types.specs.Events.{zero_mark}
use Rattle.libyaml_documents.specs.declared.node.unnamed_yaml_node_t_data.{unnamed_yaml_node_t_data}
use Rattle.libyaml_documents.specs.declared.node.unnamed_yaml_node_t_data.TheVariants.{Scalar, Sequence, Mapping}
use Rattle.libyaml_documents.specs.declared.node.yaml_node_t.{yaml_node_t}
use Rattle.libyaml_documents.specs.declared.pairs.yaml_node_pair_t.{yaml_node_pair_t}
use Rattle.libyaml_documents.specs.Documents.{Document}

-- whether a loaded node takes its kind's tag: where none is given, or `!`
abbrev pub takes_default : Option (List ℕ) → Bool
takes_default None = true
takes_default (Some tag) = pointwise nat_eq tag (codes "!")

-- the tag of a loaded node: a missing one, or `!`, is its kind's
abbrev pub loaded_tag : (default : List ℕ) → Option (List ℕ) → List ℕ
loaded_tag default None = default
loaded_tag default (Some tag) = elim (pointwise nat_eq tag (codes "!")) [ true ↦ default | false ↦ tag ]

-- nodes with the ids of their children, and the places at which they start and end
abbrev pub scalar_loaded : unnamed_yaml_event_t_data_scalar → (start end : yaml_mark_t) → yaml_node_t
scalar_loaded s start end = record {
  tag = loaded_tag (codes "tag:yaml.org,2002:str") s.tag;
  content = Scalar (record { value = s.value; style = s.style });
  start_mark = start;
  end_mark = end;
}

abbrev pub sequence_loaded : Option (List ℕ) → yaml_sequence_style_t → (items : List ℤ) → (start end : yaml_mark_t)
    → yaml_node_t
sequence_loaded tag style items start end = record {
  tag = loaded_tag (codes "tag:yaml.org,2002:seq") tag;
  content = Sequence (record { items = items; style = style });
  start_mark = start;
  end_mark = end;
}

abbrev pub mapping_loaded : Option (List ℕ) → yaml_mapping_style_t → (pairs : List yaml_node_pair_t)
    → (start end : yaml_mark_t) → yaml_node_t
mapping_loaded tag style pairs start end = record {
  tag = loaded_tag (codes "tag:yaml.org,2002:map") tag;
  content = Mapping (record { pairs = pairs; style = style });
  start_mark = start;
  end_mark = end;
}

-- the same node, which ends elsewhere
abbrev pub with_end : yaml_mark_t → yaml_node_t → yaml_node_t
with_end mark node = record node { end_mark = mark }

-- how many items or pairs a node has
abbrev pub children_of : unnamed_yaml_node_t_data → ℕ
children_of (Scalar s) = 0
children_of (Sequence s) = length s.items
children_of (Mapping m) = length m.pairs

-- the document that a start event begins: no nodes yet, and nothing known of its end
abbrev pub begun_document : unnamed_yaml_event_t_data_document_start → yaml_mark_t → Document
begun_document start mark = record {
  nodes = [];
  version_directive = start.version_directive;
  tag_directives = start.tag_directives;
  start_implicit = start.implicit;
  end_implicit = false;
  start_mark = mark;
  end_mark = zero_mark;
}

-- the same document, with its end
abbrev pub ended_document : Document → (implicit : Bool) → yaml_mark_t → Document
ended_document d implicit mark = record d { end_implicit = implicit; end_mark = mark }

-- What clauses see of a node: the same fields, its tag as its bytes (docs/DEFINITIONS.md, "Values").
use Rattle.std.specs.Prelude.{ℕ, List}
use Rattle.libyaml_types.specs.declared.mark.yaml_mark_t.{yaml_mark_t}
use Rattle.libyaml_documents.specs.declared.node.unnamed_yaml_node_t_data.{unnamed_yaml_node_t_data}

pub record Node : Type 0 where
  pub tag : List ℕ
  pub content : unnamed_yaml_node_t_data
  pub start_mark : yaml_mark_t
  pub end_mark : yaml_mark_t

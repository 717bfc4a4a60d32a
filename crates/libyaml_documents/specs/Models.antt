-- What clauses see of the payloads of nodes: the same fields, a text as its bytes and a vector as its members
-- (docs/DEFINITIONS.md, "Values").
use Rattle.std.specs.Prelude.{ℕ, ℤ, List}
use Rattle.libyaml_types.specs.declared.enums.yaml_scalar_style_t.{yaml_scalar_style_t}
use Rattle.libyaml_types.specs.declared.enums.yaml_sequence_style_t.{yaml_sequence_style_t}
use Rattle.libyaml_types.specs.declared.enums.yaml_mapping_style_t.{yaml_mapping_style_t}
use Rattle.libyaml_types.specs.declared.mark.yaml_mark_t.{yaml_mark_t}
use Rattle.libyaml_documents.specs.declared.pairs.yaml_node_pair_t.{yaml_node_pair_t}

-- a scalar
pub record ScalarNode : Type 0 where
  pub value : List ℕ
  pub style : yaml_scalar_style_t

-- a sequence
pub record SequenceNode : Type 0 where
  pub items : List ℤ
  pub style : yaml_sequence_style_t

-- a mapping
pub record MappingNode : Type 0 where
  pub pairs : List yaml_node_pair_t
  pub style : yaml_mapping_style_t

-- an anchor, and the node that carries it
pub record AliasData : Type 0 where
  pub anchor : List ℕ
  pub index : ℤ
  pub mark : yaml_mark_t

-- The errors of a document's expanded size, as those of a load (docs/DEFINITIONS.md, "Expanded size").
use Rattle.std.specs.Prelude.{◌≡◌, ℤ, pos, List, Option, Some, None, Result, Err, codes}
use Rattle.libyaml_types.specs.Events.{zero_mark}
use Rattle.libyaml_types.specs.Fault.{Fault, fault_of, no_fault}
use Rattle.libyaml_types.specs.declared.enums.yaml_error_type_t.TheVariants.{YAML_COMPOSER_ERROR}
use Rattle.libyaml_types.specs.declared.fault.yaml_parser_t_prefix.{yaml_parser_t_prefix}
use Rattle.libyaml_types.specs.declared.mark.yaml_mark_t.{yaml_mark_t}
use Rattle.libyaml_documents.specs.declared.node.yaml_node_t.{yaml_node_t}
use Rattle.libyaml_documents.specs.Nodes.{node_at}

-- where the node of an id starts
abbrev pub start_of_node : Option yaml_node_t → yaml_mark_t
start_of_node None = zero_mark
start_of_node (Some node) = node.start_mark

abbrev pub node_start_at : List yaml_node_t → ℤ → yaml_mark_t
node_start_at nodes id = start_of_node (node_at nodes id)

-- the tree of the root is too large
abbrev pub too_large : List yaml_node_t → Fault
too_large nodes = record no_fault {
  error = YAML_COMPOSER_ERROR;
  problem = Some (codes "found too many nodes, with aliases written out");
  problem_mark = node_start_at nodes (pos 1);
}

-- the node of this id contains itself
abbrev pub cyclic : List yaml_node_t → ℤ → Fault
cyclic nodes id = record no_fault {
  error = YAML_COMPOSER_ERROR;
  problem = Some (codes "found an alias within the node that it names");
  problem_mark = node_start_at nodes id;
}

-- a call returned this error
abbrev pub ReturnsFault : {A : Type 0} → Result A yaml_parser_t_prefix → Fault → Type 0
ReturnsFault r f = (error : yaml_parser_t_prefix) × (r ≡ Err error) × (fault_of error ≡ f)

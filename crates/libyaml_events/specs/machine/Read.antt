-- What the parser keeps of a node or a document between tokens (docs/DEFINITIONS.md, "The parser as a machine").
use Rattle.std.specs.Prelude.{ℕ, List, Option}
use Rattle.libyaml_types.specs.declared.directive.yaml_version_directive_t.{yaml_version_directive_t}
use Rattle.libyaml_types.specs.declared.directive.yaml_tag_directive_t.{yaml_tag_directive_t}
use Rattle.libyaml_types.specs.declared.token.unnamed_yaml_token_t_data_tag.{unnamed_yaml_token_t_data_tag}

-- the texts of a node's properties, read so far
pub record PropertyTexts : Type 0 where
  pub anchor : Option (List ℕ)
  pub tag : Option unnamed_yaml_token_t_data_tag

-- the version and the texts of a document's directives, read so far
pub record DirectiveTexts : Type 0 where
  pub version : Option yaml_version_directive_t
  pub tag_directives : List yaml_tag_directive_t

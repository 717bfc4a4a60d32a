-- What clauses see of tokens, events and directives: the same fields, a text as its bytes and a vector as its
-- members (docs/DEFINITIONS.md, "Values").
use Rattle.std.specs.Prelude.{ℕ, List, Bool, Option}
use Rattle.libyaml_types.specs.declared.enums.yaml_scalar_style_t.{yaml_scalar_style_t}
use Rattle.libyaml_types.specs.declared.enums.yaml_sequence_style_t.{yaml_sequence_style_t}
use Rattle.libyaml_types.specs.declared.enums.yaml_mapping_style_t.{yaml_mapping_style_t}
use Rattle.libyaml_types.specs.declared.directive.yaml_version_directive_t.{yaml_version_directive_t}

-- a tag handle and its prefix
pub record TagDirective : Type 0 where
  pub handle : List ℕ
  pub prefix : List ℕ

-- TAG-DIRECTIVE
pub record TagDirectiveToken : Type 0 where
  pub handle : List ℕ
  pub prefix : List ℕ

-- ALIAS
pub record AliasToken : Type 0 where
  pub value : List ℕ

-- ANCHOR
pub record AnchorToken : Type 0 where
  pub value : List ℕ

-- TAG
pub record TagToken : Type 0 where
  pub handle : List ℕ
  pub suffix : List ℕ

-- SCALAR
pub record ScalarToken : Type 0 where
  pub value : List ℕ
  pub style : yaml_scalar_style_t

-- the start of a document
pub record DocumentStart : Type 0 where
  pub version_directive : Option yaml_version_directive_t
  pub tag_directives : List TagDirective
  pub implicit : Bool

-- an alias
pub record Alias : Type 0 where
  pub anchor : List ℕ

-- a scalar
pub record Scalar : Type 0 where
  pub anchor : Option (List ℕ)
  pub tag : Option (List ℕ)
  pub value : List ℕ
  pub plain_implicit : Bool
  pub quoted_implicit : Bool
  pub style : yaml_scalar_style_t

-- the start of a sequence
pub record SequenceStart : Type 0 where
  pub anchor : Option (List ℕ)
  pub tag : Option (List ℕ)
  pub implicit : Bool
  pub style : yaml_sequence_style_t

-- the start of a mapping
pub record MappingStart : Type 0 where
  pub anchor : Option (List ℕ)
  pub tag : Option (List ℕ)
  pub implicit : Bool
  pub style : yaml_mapping_style_t

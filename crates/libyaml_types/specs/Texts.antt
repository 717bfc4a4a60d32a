-- Which of a call's texts must be UTF-8 (docs/DEFINITIONS.md, "Events made by calls").
use Rattle.std.specs.Prelude.{ℕ, List, All, Option, IfSome, IsUtf8}
use Rattle.std.proofs.Common.{Bor}
use Rattle.libyaml_types.specs.declared.directive.yaml_tag_directive_t.{yaml_tag_directive_t}

-- a node's anchor and tag, each where it is given
pub record PropertiesAreUtf8 (anchor tag : Option (List ℕ)) : Type 0 where
  pub anchor_is : IfSome anchor IsUtf8
  pub tag_is : IfSome tag IsUtf8

-- a scalar's anchor and tag, each where it is given, and its value
pub record ScalarIsUtf8 (anchor tag : Option (List ℕ)) (value : List ℕ) : Type 0 where
  pub properties_are : PropertiesAreUtf8 anchor tag
  pub value_is : IsUtf8 value

-- the bytes of a tag directive: its handle and its prefix
abbrev pub HandleAndPrefix : Type 0
HandleAndPrefix = Bor (List ℕ) × Bor (List ℕ)

-- a handle and its prefix
pub record PairIsUtf8 (pair : HandleAndPrefix) : Type 0 where
  pub handle_is : IsUtf8 pair.0.now
  pub prefix_is : IsUtf8 pair.1.now

-- each handle and each prefix
pub record PairsAreUtf8 (pairs : List HandleAndPrefix) : Type 0 where
  pub each : All PairIsUtf8 pairs

-- the tag directive of a handle and a prefix
abbrev pub directive_of : HandleAndPrefix → yaml_tag_directive_t
directive_of pair = record { handle = pair.0.now; prefix = pair.1.now }

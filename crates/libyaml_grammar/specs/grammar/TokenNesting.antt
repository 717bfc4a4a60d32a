-- How deep tokens nest (docs/DEFINITIONS.md, "Limits"): the collections that they open, less those that they close.
use Rattle.std.specs.Prelude.{◌≡◌, ◌-◌, ◌++◌, ◌∷◌, ℕ, suc, List, [], Option, None, Some}
use Rattle.libyaml_types.specs.Types.{token_type}
use Rattle.libyaml_types.specs.declared.enums.yaml_token_type_t.{yaml_token_type_t}
use Rattle.libyaml_types.specs.declared.enums.yaml_token_type_t.TheVariants as kinds
use Rattle.libyaml_types.specs.declared.token.yaml_token_t.{yaml_token_t}

-- how many levels are open after a token of this type, where n were
abbrev pub levels_after : (n : ℕ) → yaml_token_type_t → ℕ
levels_after n kinds.YAML_BLOCK_SEQUENCE_START_TOKEN = suc n
levels_after n kinds.YAML_BLOCK_MAPPING_START_TOKEN = suc n
levels_after n kinds.YAML_FLOW_SEQUENCE_START_TOKEN = suc n
levels_after n kinds.YAML_FLOW_MAPPING_START_TOKEN = suc n
levels_after n kinds.YAML_BLOCK_END_TOKEN = n - 1
levels_after n kinds.YAML_FLOW_SEQUENCE_END_TOKEN = n - 1
levels_after n kinds.YAML_FLOW_MAPPING_END_TOKEN = n - 1
levels_after n _ = n

abbrev pub nesting_from : (n : ℕ) → List yaml_token_t → ℕ
nesting_from n [] = n
nesting_from n (t ∷ l) = nesting_from (levels_after n (token_type t.content)) l

abbrev pub nesting : List yaml_token_t → ℕ
nesting l = nesting_from 0 l

-- the nesting of the tokens that were taken: of all but the one in hand, if one is
abbrev pub IsNestingOfTaken : Option yaml_token_t → List yaml_token_t → (n : ℕ) → Type 0
IsNestingOfTaken None l n = n ≡ nesting l
IsNestingOfTaken (Some t) l n = (before : List yaml_token_t) × (l ≡ before ++ t ∷ []) × (n ≡ nesting before)

-- How deep tokens nest with one more.
use Rattle.std.proofs.Common.{◌≡◌, ◌∷◌, ◌++◌, ℕ, List, [], refl}
use Rattle.libyaml_types.specs.Types.{token_type}
use Rattle.libyaml_types.specs.declared.token.yaml_token_t.{yaml_token_t}
use Rattle.libyaml_grammar.specs.grammar.TokenNesting.{levels_after, nesting_from}

pub nesting_on : (n : ℕ) (l : List yaml_token_t) (t : yaml_token_t)
    → nesting_from n (l ++ t ∷ []) ≡ levels_after (nesting_from n l) (token_type t.content)
nesting_on n [] t = refl
nesting_on n (u ∷ l) t = nesting_on (levels_after n (token_type u.content)) l t

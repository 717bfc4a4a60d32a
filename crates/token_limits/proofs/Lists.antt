-- A bound on depth over whole lists.
use Rattle.std.proofs.Common.{◌≡◌, ◌≤◌, ◌<◌, ◌+◌, ◌∷◌, ◌++◌, ℕ, suc, List, [], refl, ap, arith}
use Rattle.std.proofs.lemmas.Bool.{le-ltb}
use Rattle.libyaml_types.specs.Fault.{Fault}
use Rattle.libyaml_types.specs.Source.{coming}
use Rattle.libyaml_types.specs.Types.{token_type}
use Rattle.libyaml_types.specs.declared.token.yaml_token_t.{yaml_token_t}
use Rattle.libyaml_grammar.specs.grammar.TokenNesting.{levels_after, nesting, nesting_from}
use Rattle.libyaml_grammar.proofs.exported.TokenNesting.{nesting_on}
use Rattle.token_limits.specs.Limited.{depth_fault, limited}

-- no prefix nests deeper, where n levels are open
abbrev NestsFrom : (max n : ℕ) → List yaml_token_t → Type 0
NestsFrom max n l = (before after : List yaml_token_t) → l ≡ before ++ after → nesting_from n before ≤ max

rest : (max n : ℕ) (t : yaml_token_t) (l : List yaml_token_t) → NestsFrom max n (t ∷ l)
    → NestsFrom max (levels_after n (token_type t.content)) l
rest max n t l h before after e = h (t ∷ before) after (ap (λ (x : List yaml_token_t). t ∷ x) e)

pub within_from : (max n : ℕ) (l : List yaml_token_t) (f : Fault) → NestsFrom max n l → limited max n l f ≡ coming l f
within_from max n [] f h = refl
within_from max n (t ∷ l) f h =
    let passes = h (t ∷ []) l refl in
    let e = within_from max (levels_after n (token_type t.content)) l f (rest max n t l h) in
    grind (arith, le-ltb, passes, e)

pub beyond_from : (max n : ℕ) (before after : List yaml_token_t) (t : yaml_token_t) (f : Fault) → NestsFrom max n before
    → max < nesting_from n (before ++ t ∷ []) → limited max n (before ++ t ∷ after) f ≡ coming before (depth_fault t.start_mark)
beyond_from max n [] after t f h i = grind arith
beyond_from max n (u ∷ before) after t f h i =
    let passes = h (u ∷ []) before refl in
    let e = beyond_from max (levels_after n (token_type u.content)) before after t f (rest max n u before h) i in
    grind (arith, le-ltb, passes, e)

pub one_over : (max : ℕ) (before : List yaml_token_t) (t : yaml_token_t) → nesting before ≤ max
    → max < nesting (before ++ t ∷ []) → (nesting before ≡ max) × (nesting (before ++ t ∷ []) ≡ max + 1)
one_over max before t h i =
    let e = nesting_on 0 before t in
    let j : levels_after (nesting before) (token_type t.content) ≤ suc (nesting before) = grind arith in
    (omega (arith, e, j, h, i), omega (arith, e, j, h, i))

pub ruleset lists = (within_from, beyond_from, one_over)

-- A bound on depth (docs/DEFINITIONS.md, "Limits"): what a limiter returns, and what a limited source gives and knows.
use Rattle.std.specs.Prelude.{◌≡◌, ◌≤◌, ◌++◌, ◌∷◌, ℕ, List, [], Option, None, Some, Ok, Err, codes, nat_lt, if◌then◌else◌}
use Rattle.libyaml_types.specs.Fault.{Fault, SourceResult, scanner_fault}
use Rattle.libyaml_types.specs.Source.{Coming, coming}
use Rattle.libyaml_types.specs.Types.{token_type}
use Rattle.libyaml_types.specs.declared.mark.yaml_mark_t.{yaml_mark_t}
use Rattle.libyaml_types.specs.declared.token.yaml_token_t.{yaml_token_t}
use Rattle.libyaml_grammar.specs.grammar.TokenNesting.{levels_after, nesting}

abbrev pub depth_fault : (mark : yaml_mark_t) → Fault
depth_fault m = scanner_fault (codes "found too many levels") m

-- the levels that are open, and where a token was refused
pub record Limiter : Type 0 where
  pub max_depth : ℕ
  pub levels : ℕ
  pub refused_at : Option yaml_mark_t

abbrev pub new_limiter : (max : ℕ) → Limiter
new_limiter max = record { max_depth = max; levels = 0; refused_at = None }

-- n levels, if so many may be open
abbrev pub within : (max n : ℕ) → Option ℕ
within max n = if nat_lt max n then None else Some n

-- a token at this mark is counted or refused; once one was refused nothing changes
abbrev pub counted : (refused_at : Option yaml_mark_t) → Option ℕ → (mark : yaml_mark_t) → Limiter → Limiter
counted (Some m) n mark l = l
counted None None mark l = record l { refused_at = Some mark }
counted None (Some n) mark l = record l { levels = n }

abbrev pub taken : Limiter → yaml_token_t → Limiter
taken l t = counted l.refused_at (within l.max_depth (levels_after l.levels (token_type t.content))) t.start_mark l

-- the token, or the error of the one that was refused
abbrev pub answer_at : (refused_at : Option yaml_mark_t) → yaml_token_t → SourceResult
answer_at None t = Ok t
answer_at (Some m) t = Err (depth_fault m)

pub record Limited (S : Type 0) : Type 0 where
  pub source : S
  pub limiter : Limiter

-- the source was asked
abbrev pub Passes : Limiter → SourceResult → SourceResult → Limiter → Type 0
Passes l (Ok t) answer n = (n ≡ taken l t) × (answer ≡ answer_at n.refused_at t)
Passes l (Err f) answer n = (n ≡ l) × (answer ≡ Err f)

-- unless a token was refused
abbrev pub GivesAt : {S : Type 0} → (S → SourceResult → S → Type 0) → Option yaml_mark_t → Limited S → SourceResult → Limited S → Type 0
GivesAt gives (Some m) s answer t = (answer ≡ Err (depth_fault m)) × (t ≡ s)
GivesAt gives None s answer t
    = (inner : SourceResult) × (gives s.source inner t.source × Passes s.limiter inner answer t.limiter)

abbrev pub LimitedGives : {S : Type 0} → (S → SourceResult → S → Type 0) → Limited S → SourceResult → Limited S → Type 0
LimitedGives gives s answer t = GivesAt gives s.limiter.refused_at s answer t

-- no prefix of the list nests deeper
abbrev pub NestsWithin : (max : ℕ) → List yaml_token_t → Type 0
NestsWithin max l = (before after : List yaml_token_t) → l ≡ before ++ after → nesting before ≤ max

abbrev pub after_token : yaml_token_t → Coming → Coming
after_token t c = coming (t ∷ c.tokens) c.fault

-- Where n levels are open: the tokens up to the first that is refused, and then its error; or all, and the error after them.
abbrev pub limited : (max n : ℕ) → List yaml_token_t → Fault → Coming
limited max n [] f = coming [] f
limited max n (t ∷ l) f = if nat_lt max (levels_after n (token_type t.content)) then coming [] (depth_fault t.start_mark)
    else after_token t (limited max (levels_after n (token_type t.content)) l f)

abbrev pub limited_at : Option yaml_mark_t → Limiter → Coming → Coming
limited_at (Some m) l c = coming [] (depth_fault m)
limited_at None l c = limited l.max_depth l.levels c.tokens c.fault

abbrev pub known_within : Limiter → Option Coming → Option Coming
known_within l None = None
known_within l (Some c) = Some (limited_at l.refused_at l c)

-- What a source that knows its tokens may return.
use Rattle.std.specs.Prelude.{◌≡◌, List, [], ◌∷◌, Option, Some, None, Result, Ok, Err, ◌⊎◌, negsuc, codes}
use Rattle.libyaml_types.specs.declared.enums.yaml_error_type_t.TheVariants.{YAML_READER_ERROR}
use Rattle.libyaml_types.specs.declared.token.yaml_token_t.{yaml_token_t}
use Rattle.libyaml_types.specs.declared.fault.yaml_source_fault_t.{yaml_source_fault_t}
use Rattle.libyaml_types.specs.Fault.{Fault, SourceResult, source_fault, no_fault}

-- the result of a call that puts its token into a slot
abbrev pub answer_in : Result (Unit {0}) yaml_source_fault_t → yaml_token_t → SourceResult
answer_in (Ok u) token = Ok token
answer_in (Err fault) token = Err (source_fault fault)

-- the tokens to come, and the error that ends them
pub record Coming : Type 0 where
  pub tokens : List yaml_token_t
  pub fault : Fault

abbrev pub coming : List yaml_token_t → Fault → Coming
coming ts f = record { tokens = ts; fault = f }

-- The next token of the list, then its error; or an error by which the source may have failed early, which then ends
-- the list.
abbrev pub FollowsList : (Fault → Type 0) → List yaml_token_t → Fault → SourceResult → Option Coming → Type 0
FollowsList MayBreak [] f (Ok t) after = ⊥
FollowsList MayBreak [] f (Err e) after = ((e ≡ f) ⊎ MayBreak e) × (after ≡ Some (coming [] e))
FollowsList MayBreak (t ∷ ts) f (Ok u) after = (u ≡ t) × (after ≡ Some (coming ts f))
FollowsList MayBreak (t ∷ ts) f (Err e) after = MayBreak e × (after ≡ Some (coming [] e))

abbrev pub Follows : (Fault → Type 0) → Option Coming → SourceResult → Option Coming → Type 0
Follows MayBreak None answer after = Unit {0}
Follows MayBreak (Some c) answer after = FollowsList MayBreak c.tokens c.fault answer after

-- the error of a list that ends before its STREAM-END
abbrev pub no_more_tokens : Fault
no_more_tokens = record no_fault {
  error = YAML_READER_ERROR;
  problem = Some (codes "no more tokens");
  problem_value = negsuc 0;
}

-- the result of a list with no break
abbrev pub list_answer : List yaml_token_t → Fault → SourceResult
list_answer [] f = Err f
list_answer (t ∷ ts) f = Ok t

abbrev pub rest_of_list : List yaml_token_t → List yaml_token_t
rest_of_list [] = []
rest_of_list (t ∷ ts) = ts

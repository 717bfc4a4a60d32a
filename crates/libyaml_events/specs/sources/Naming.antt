-- The tag handle that an error is about (docs/DEFINITIONS.md, "Calls").
use Rattle.std.specs.Prelude.{◌≡◌, ◌++◌, ◌∷◌, ◌&&◌, ℕ, List, [], Bool, true, false, Option, None, Some, Result, Ok, Err, codes, bytes_eq}
use Rattle.libyaml_types.specs.Fault.{Fault, SourceResult}
use Rattle.libyaml_types.specs.declared.enums.yaml_error_type_t.{yaml_error_type_t}
use Rattle.libyaml_types.specs.declared.enums.yaml_error_type_t.TheVariants.{YAML_PARSER_ERROR}
use Rattle.libyaml_types.specs.declared.token.unnamed_yaml_token_t_data.{unnamed_yaml_token_t_data}
use Rattle.libyaml_types.specs.declared.token.unnamed_yaml_token_t_data.TheVariants as tok
use Rattle.libyaml_types.specs.declared.token.yaml_token_t.{yaml_token_t}
use Rattle.libyaml_events.specs.machine.Config.{Parser}
use Rattle.libyaml_events.specs.declared.parse.yaml_named_error_t.{yaml_named_error_t}
use Rattle.libyaml_events.specs.sources.Calls.{Call, lookahead_results}
use Rattle.libyaml_events.specs.sources.History.{kept_fault}

abbrev pub is_parser_error : yaml_error_type_t → Bool
is_parser_error YAML_PARSER_ERROR = true
is_parser_error _ = false

abbrev pub has_text : Option (List ℕ) → List ℕ → Bool
has_text None text = false
has_text (Some problem) text = bytes_eq problem text

-- the error of a tag handle that is not defined
abbrev pub is_undefined_handle : Fault → Bool
is_undefined_handle f = is_parser_error f.error && has_text f.problem (codes "found undefined tag handle")

abbrev pub handle_or : Option (List ℕ) → unnamed_yaml_token_t_data → Option (List ℕ)
handle_or earlier (tok.Tag g) = Some g.handle
handle_or earlier _ = earlier

-- the handle of the last TAG among these, or else the earlier one
abbrev pub last_handle : (earlier : Option (List ℕ)) → List SourceResult → Option (List ℕ)
last_handle earlier [] = earlier
last_handle earlier (Ok t ∷ rest) = last_handle (handle_or earlier t.content) rest
last_handle earlier (Err f ∷ rest) = last_handle earlier rest

-- the same without the name
abbrev pub without_name : Result (Unit {0}) yaml_named_error_t → Result (Unit {0}) yaml_error_type_t
without_name (Ok u) = Ok u
without_name (Err n) = Err n.error

-- The name is the handle of the last TAG before the last of these results, a token.
pub record IsLastHandle (results : List SourceResult) (name : Option (List ℕ)) : Type 0 where
  pub before : List SourceResult
  pub bad : yaml_token_t
  pub handle : List ℕ
  pub all : results ≡ before ++ Ok bad ∷ []
  pub is_last : last_handle None before ≡ Some handle
  pub is_name : name ≡ Some handle

-- a call that failed by a handle that is not defined left it held
abbrev pub HoldsHandle : {S : Type 0} → (S → SourceResult → S → Type 0) → Parser S → yaml_error_type_t → Parser S
    → Option (List ℕ) → Type 0
HoldsHandle gives old e new held = (call : Call gives old (Err e) new)
    × (is_undefined_handle (kept_fault new) ≡ true → IsLastHandle (lookahead_results old.config ++ call.asked) held)

-- A call that failed by a handle that is not defined names it: that of the last TAG which it looked at before the token that
-- ended it. With another error it names none.
pub record NamesHandle {S : Type 0} (gives : S → SourceResult → S → Type 0) (old : Parser S) (e : yaml_error_type_t)
    (new : Parser S) (name : Option (List ℕ)) : Type 0 where
  pub call : Call gives old (Err e) new
  pub undefined : is_undefined_handle (kept_fault new) ≡ true
      → IsLastHandle (lookahead_results old.config ++ call.asked) name
  pub other : is_undefined_handle (kept_fault new) ≡ false → name ≡ None

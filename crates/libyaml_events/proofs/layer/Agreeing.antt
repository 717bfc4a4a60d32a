-- What is pending agrees with where the parser stands, also once a token was taken.
use Rattle.std.proofs.Common.{◌≡◌, Option, Some, None, Ok, Err, true, refl, arith}
use Rattle.libyaml_types.specs.declared.token.yaml_token_t.{yaml_token_t}
use Rattle.libyaml_types.specs.Fault.{SourceResult}
use Rattle.libyaml_types.specs.declared.enums.yaml_error_type_t.{yaml_error_type_t}
use Rattle.libyaml_events.specs.declared.pending.Pending.{Pending}
use Rattle.libyaml_events.specs.machine.Config.{Machine, ended_or_failed, is_fault}
use Rattle.libyaml_events.specs.sources.Calls.{Fetches}
use Rattle.libyaml_events.specs.automaton.View.{Ready}

-- a token that was fetched can be taken
pub fetched_ready : {S : Type 0} (gives : S → SourceResult → S → Type 0) (p : Pending) (o : Option yaml_token_t) (s s' : S)
    (c c' : Machine) (t : yaml_token_t) → Fetches gives o s c (Ok t) s' c' → Ready p c → Ready p c'
fetched_ready gives p (Some u) s s' c c' t h a = rw h.2 a
fetched_ready gives p None s s' c c' t h a = rw h.1 a

-- an error of the source is kept
pub fetched_fault : {S : Type 0} (gives : S → SourceResult → S → Type 0) (o : Option yaml_token_t) (s s' : S) (c c' : Machine)
    (x : yaml_error_type_t) → Fetches gives o s c (Err x) s' c' → x ≡ c'.fault.error
fetched_fault gives o s s' c c' x h = grind arith

pub kept_fault : {S : Type 0} (gives : S → SourceResult → S → Type 0) (o : Option yaml_token_t) (s s' : S) (c c' : Machine)
    (x : yaml_error_type_t) → Fetches gives o s c (Err x) s' c' → is_fault x ≡ true
    → (x ≡ c'.fault.error) × (ended_or_failed c' ≡ true)
kept_fault gives o s s' c c' x h f = let e = fetched_fault gives o s s' c c' x h in (e, rw (← e, f) refl)

-- a limited source keeps the laws of a source
use Rattle.std.proofs.Common.{◌≡◌, ◌+◌, ℕ, Option, Ok, Err, arith}
use Rattle.libyaml_types.specs.Fault.{Fault, SourceResult}
use Rattle.libyaml_types.specs.Source.{Coming, Follows}
use Rattle.libyaml_types.specs.declared.token.yaml_token_t.{yaml_token_t}
use Rattle.token_limits.specs.Limited.{Limited, LimitedGives, known_within}

module _ {S : Type 0} (gives : S → SourceResult → S → Type 0) where
  -- each token lowers the bound by one
  pub limited_falls : (bound : S → ℕ) → ((s t : S) (token : yaml_token_t) → gives s (Ok token) t → bound s ≡ bound t + 1)
      → (s t : Limited S) (token : yaml_token_t) → LimitedGives gives s (Ok token) t → bound s.source ≡ bound t.source + 1
  limited_falls bound falls s t token h = grind (arith, falls)

  -- an error is returned again
  pub limited_repeats
      : ((s t u : S) (fault : Fault) (answer : SourceResult) → gives s (Err fault) t → gives t answer u → answer ≡ Err fault)
      → (s t u : Limited S) (fault : Fault) (answer : SourceResult) → LimitedGives gives s (Err fault) t
      → LimitedGives gives t answer u → answer ≡ Err fault
  limited_repeats repeats s t u fault answer h k = grind (arith, repeats)

  -- and each result is that of the list
  pub limited_follows : (known : S → Option Coming) (breaks : S → Fault → Type 0)
      → ((s t : S) (answer : SourceResult) → gives s answer t → Follows (breaks t) (known s) answer (known t))
      → (s t : Limited S) (answer : SourceResult) → LimitedGives gives s answer t
      → Follows (breaks t.source) (known_within s.limiter (known s.source)) answer (known_within t.limiter (known t.source))
  limited_follows known breaks follows s t answer h = grind (arith, follows)

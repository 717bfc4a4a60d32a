-- a source over a scanner keeps the laws of a source
use Rattle.std.proofs.Common.{◌≡◌, ◌<◌, ◌+◌, ◌-◌, Option, Some, None, Ok, Err, refl, arith, inl, inr}
use Rattle.std.proofs.lemmas.Bool.{cases_lt}
use Rattle.libyaml_types.specs.declared.token.yaml_token_t.{yaml_token_t}
use Rattle.libyaml_types.specs.Fault.{Fault, SourceResult}
use Rattle.libyaml_types.specs.Scanned.{Scanned, ScannerGives}

below_bound : {S : Type 0} (scans : S → SourceResult → S → Type 0) (s t : Scanned S) (token : yaml_token_t)
    (kept : Option Fault) → s.fault ≡ kept → ScannerGives scans s (Ok token) t → s.given < s.max_tokens
below_bound scans s t token (Some fault) e h = cc (h.kept fault e)
below_bound scans s t token None e h
    = elim (cases_lt s.given s.max_tokens)
    [ inl below ↦ below | inr bound ↦ cc (h.too_many e bound) ]

pub scanned_falls : {S : Type 0} (scans : S → SourceResult → S → Type 0) (s t : Scanned S) (token : yaml_token_t)
    → ScannerGives scans s (Ok token) t → s.max_tokens - s.given ≡ t.max_tokens - t.given + 1
scanned_falls scans s t token h =
    let below : s.given < s.max_tokens = below_bound scans s t token s.fault refl h in
    omega (arith, below, h.given, h.max_tokens)

pub scanned_repeats : {S : Type 0} (scans : S → SourceResult → S → Type 0) (s t u : Scanned S) (fault : Fault)
    (answer : SourceResult) → ScannerGives scans s (Err fault) t → ScannerGives scans t answer u → answer ≡ Err fault
scanned_repeats scans s t u fault answer h k = k.kept fault h.fault

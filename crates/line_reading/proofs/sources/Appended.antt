use Rattle.std.proofs.Common.{◌≡◌, ◌≢◌, ◌++◌, List, ℕ, All, Option, [], subst, sym}
use Rattle.std.proofs.Transfers.{drop-appended}
use Rattle.std.proofs.KnownBytes.{Consumes-trans}
use Rattle.std.proofs.lemmas.List.{append-nil}
use Rattle.std.proofs.lemmas.List.Elements.{All-append}
use Rattle.std.specs.Io.KnownBytes.{Consumes}
use Rattle.line_reading.specs.sources.Line.{appended}

pub appended_is : (old new part : List ℕ) → new ≡ old ++ part → appended old new ≡ part
appended_is old new part e = drop-appended old new part e

-- the bytes of a part come after those before it
pub moved : (a b c : Option (List ℕ)) (old new : List ℕ) → new ≡ old ++ appended old new → Consumes a b old
    → Consumes b c (appended old new ++ [])
    → Consumes a c new
moved a b c old new e h k = let more : Consumes b c (appended old new)
    = rw append-nil at k in subst (Consumes a c) (sym e) (Consumes-trans a b c old (appended old new) h more)

pub kept_clean : (old new : List ℕ) → new ≡ old ++ appended old new → All (λ x. x ≢ 10) old
    → All (λ x. x ≢ 10) (appended old new) → All (λ x. x ≢ 10) new
kept_clean old new e h k = subst (All (λ x. x ≢ 10)) (sym e) (All-append (λ x. x ≢ 10) old (appended old new) h k)

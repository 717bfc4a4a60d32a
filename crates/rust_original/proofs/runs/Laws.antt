-- That there is a run over each list, with the fixes and without, and that of the grammar is the one with them.
use Rattle.std.proofs.Common.{◌≡◌, ◌⊎◌, List, map, Bool, true, false, inl, refl, subst}
use Rattle.libyaml_types.specs.Fault.{Fault}
use Rattle.libyaml_grammar.specs.runs.Runs.{Ending, Ends, IsRun}
use Rattle.libyaml_grammar.specs.grammar.Events.{Event}
use Rattle.libyaml_grammar.specs.grammar.Nesting.{IsNested, NestsSoFar}
use Rattle.libyaml_grammar.specs.grammar.Tokens.{Token}
use Rattle.libyaml_grammar.proofs.exported.Running.{one_run_proof}
use Rattle.rust_original.specs.parser.Differences.{Differs, call_here}
use Rattle.rust_original.specs.parser.Parser.{Fixes, OriginalParser}
use Rattle.rust_original.specs.parser.Runs.{Runs, RunsThere, as_here, as_there, call, new_original_parser}
use Rattle.rust_original.specs.parser.Texts.{as_held}
use Rattle.rust_original.proofs.runs.UpToDifferences.{may_differ, one_run}
use Rattle.rust_original.proofs.runs.Ended.{ends_whole}
use Rattle.rust_original.proofs.runs.RunExists.{has_run}

-- Over each list of tokens and error of a source after it there is a run of a parser that does what the mended one does,
-- but at the three places. Its events nest, to the end only where the run ends; and where it differs nowhere, the run is
-- that of the grammar.
pub some_run : (m : Fixes) (differs : Bool) → ((p : OriginalParser) → (call m p ≡ call_here p)
    ⊎ ((differs ≡ true) × Differs p (call m p) (call_here p)))
    → (l : List Token) (f : Fault) → (e : List Event) × (x : Ending) × Runs m (new_original_parser l f) e x
    × NestsSoFar e × (IsNested e → x ≡ Ends) × (differs ≡ false → IsRun l f e x)
some_run m differs places l f =
    let r = has_run f m differs places l in
    (r.events, r.ending, r.runs, r.nests, ends_whole r.events r.ending r.unended, r.run)

pub run_here : (l : List Token) (f : Fault) (e : List Event) (x : Ending) → IsRun l f e x
    → Runs as_here (new_original_parser l f) e x
run_here l f e x run =
    let r = some_run as_here false (λ p. inl refl) l f in
    let same = one_run_proof l f r.0 e r.1 x (r.5 refl) run in
    rw same.0 at (rw same.1 at r.2)

pub whole_here : (l : List Token) (f : Fault) (e : List Event) (x : Ending) → IsRun l f e x → IsNested e → x ≡ Ends
whole_here l f e x run =
    let r = some_run as_here false (λ p. inl refl) l f in
    let same = one_run_proof l f r.0 e r.1 x (r.5 refl) run in
    subst (λ (d : List Event). IsNested d → x ≡ Ends) same.0 (subst (λ (y : Ending). IsNested r.0 → y ≡ Ends) same.1 r.4)

pub nests_there : (l : List Token) (f : Fault) (e : List Event) (x : Ending) → RunsThere l f e x → NestsSoFar e
nests_there l f e x run =
    let r = some_run as_there true may_differ (map as_held l) f in
    subst NestsSoFar (one_run r.2 e x run).0 r.3

pub whole_there : (l : List Token) (f : Fault) (e : List Event) (x : Ending) → RunsThere l f e x → IsNested e
    → x ≡ Ends
whole_there l f e x run =
    let r = some_run as_there true may_differ (map as_held l) f in
    let same = one_run r.2 e x run in
    subst (λ (d : List Event). IsNested d → x ≡ Ends) same.0 (subst (λ (y : Ending). IsNested r.0 → y ≡ Ends) same.1 r.4)

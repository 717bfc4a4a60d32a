-- A run that is computed within so many calls is a run.
use Rattle.std.proofs.Common.{◌≡◌, ◌∷◌, ℕ, zero, suc, List, [], Option, Some, None, Bool, true, false, refl, arith}
use Rattle.libyaml_grammar.specs.runs.Runs.{Ending, Ends, Fails}
use Rattle.libyaml_grammar.specs.grammar.Events.{Event}
use Rattle.rust_original.specs.parser.Parser.{FAIL, Fixes, OK, ParserResult, OriginalParser}
use Rattle.rust_original.specs.parser.Runs.{Runs, call, ends, fails, goes_on, run_within}

abbrev Given : Type 0
Given = List Event × Option Ending

abbrev Later : Fixes → ℕ → Type 0
Later m n = (q : OriginalParser) (d : List Event) (y : Ending) → run_within m n q ≡ (d, Some y) → Runs m q d y

-- an event and the run after it
on : (m : Fixes) (n : ℕ) (p : OriginalParser) (e : List Event) (x : Ending) (a : Event) (q : OriginalParser) → call m p ≡ OK a q
    → q.stream_end_produced ≡ false → (g : Given)
    → run_within m n q ≡ g → Later m n → (let r : Given = (a ∷ g.0, g.1) in r) ≡ (e, Some x) → Runs m p e x
on m n p e x a q i j (later, None) k ih h = grind arith
on m n p e x a q i j (later, Some y) k ih h = grind (arith, goes_on, ih q later y k)

pub computed : (m : Fixes) (n : ℕ) (p : OriginalParser) (e : List Event) (x : Ending) → run_within m n p ≡ (e, Some x)
    → Runs m p e x
computed m zero p e x h = grind arith
computed m (suc n) p e x h = go (call m p) refl h (λ q d y k. computed m n q d y k)
  where
    given : (a : Event) (q : OriginalParser) → call m p ≡ OK a q → (u : Bool) → q.stream_end_produced ≡ u → Later m n
        → ◌≡◌ {A = Given}
        (elim u [ true ↦ (a ∷ [], Some Ends) | false ↦ let (later, y) = run_within m n q in (a ∷ later, y) ])
        (e, Some x) → Runs m p e x
    given a q i true j ih h = grind (arith, ends)
    given a q i false j ih h = on m n p e x a q i j (run_within m n q) refl ih h

    go : (o : ParserResult) → call m p ≡ o
        → ◌≡◌ {A = Given} (elim o [
          | FAIL f ↦ ([], Some (Fails f))
          | OK a q ↦ elim q.stream_end_produced [
            | true ↦ (a ∷ [], Some Ends)
            | false ↦ let (later, y) = run_within m n q in (a ∷ later, y)
          ]
        ]) (e, Some x) → Later m n → Runs m p e x
    go (FAIL f) i h ih = grind (arith, fails)
    go (OK a q) i h ih = given a q i q.stream_end_produced refl ih h

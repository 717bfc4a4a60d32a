use Rattle.std.proofs.Common.{rules, ◌≡◌, ℕ, ℤ, Bool, List, [], ◌∷◌, Option, Some, None, IsTrue, true, false, refl, not}
use Rattle.std.specs.Prelude.{slice_get, IfSome, IfNone, is_some}
use Rattle.yaml_expansion.proofs.measure.is_alone.Goals as goal

-- a list has nothing at 0 exactly if it is empty
nothing_first : (xs : List ℤ) → slice_get xs 0 ≡ None → xs ≡ []
nothing_first [] e = refl
nothing_first (x ∷ xs) e = absurd (cc)

alone : (xs : List ℤ) (child : Option ℕ) (id : ℕ → ℤ) (b : Bool) → IfSome child (λ n. slice_get xs 0 ≡ Some (id n))
    → IfNone child (slice_get xs 0 ≡ None) → is_some child ≡ not b → (IsTrue b → xs ≡ []) × (xs ≡ [] → IsTrue b)
alone xs None id true some none e = (λ _. nothing_first xs none, λ _. search rules)
alone xs None id false some none e = absurd (cc)
alone [] (Some n) id b some none e = absurd (cc)
alone (x ∷ xs) (Some n) id true some none e = absurd (cc)
alone (x ∷ xs) (Some n) id false some none e = (λ h. absurd (cc), λ h. absurd (cc))

pub returns : goal.returns
returns c = alone _ c.child_at.result _ c.is_none.result c.child_at.ensures.child c.child_at.ensures.none c.is_none.ensures

-- The fact of two texts in one.
use Rattle.std.proofs.Common.{◌≡◌, ◌≢◌, ◌++◌, ◌&&◌, ℕ, List, [], ◌∷◌, Some, Bool, true, false, refl, length, nat_eq, cond}
use Rattle.token_steps.specs.Texts.{tag_fact}

no_way : (b : Bool) → ◌≡◌ {A = ℕ} 3 (cond (b && false) 2 3)
no_way true = refl
no_way false = refl

longer : (x : ℕ) (xs : List ℕ) (y : ℕ) (ys : List ℕ) → 3 ≡ tag_fact (Some (x ∷ (xs ++ y ∷ ys)))
longer x [] y ys = no_way (nat_eq x 33)
longer x (z ∷ xs) y ys = no_way (nat_eq x 33)

pub two_texts : (p s : List ℕ) → length p ≢ 0 → length s ≢ 0 → 3 ≡ tag_fact (Some (p ++ s))
two_texts [] s h k = absurd (h refl)
two_texts (x ∷ xs) [] h k = absurd (k refl)
two_texts (x ∷ xs) (y ∷ ys) h k = longer x xs y ys

-- The first number that a list repeats.
use Rattle.std.specs.Prelude.{◌≡◌, ◌⊎◌, ◌<◌, ℕ, suc, ℤ, pos, List, Option, Some, None, length, get_or}

-- the number at the place of an id
abbrev pub class_at : List ℕ → ℤ → ℕ
class_at classes (pos (suc n)) = get_or classes n 0
class_at classes _ = 0

-- two places of a list, in their order, with the same number
pub record IsRepeat (xs : List ℕ) (first second : ℕ) : Type 0 where
  pub order : first < second
  pub inside : second < length xs
  pub same : get_or xs first 0 ≡ get_or xs second 0

-- the one with the smallest second place, or none at all
abbrev pub IsFirstRepeat : List ℕ → Option (ℕ × ℕ) → Type 0
IsFirstRepeat xs None = (first second : ℕ) → ¬ IsRepeat xs first second
IsFirstRepeat xs (Some r) = IsRepeat xs r.0 r.1 × ((first second : ℕ) → IsRepeat xs first second
    → (r.1 < second) ⊎ ((r.1 ≡ second) × (r.0 ≡ first)))

-- What a result of the count says of the numbers.
use Rattle.std.proofs.Common.{◌≡◌, ◌+◌, ◌-◌, ◌<◌, ◌≤◌, ◌∷◌, ℕ, zero, suc, pos, List, [], length, Option, Some, Bool, refl, ap, arith, slice_get, if◌then◌else◌}
use Rattle.std.specs.Prelude.{slice_set}
use Rattle.document_sizes.specs.declared.counted.Counted.{Counted}
use Rattle.document_sizes.specs.declared.counted.Counted.TheVariants as counted
use Rattle.document_sizes.specs.Counting.{Count, at_alias, at_node, count_of, new_number, size_at}

abbrev pub limit : ℕ
limit = 9223372036854775808

-- the number of an id
pub size_there : (sizes : List ℕ) (k size : ℕ) → size_at sizes (pos (suc k)) ≡ Some size → slice_get sizes k ≡ Some size
size_there sizes k size e = grind arith

-- an alias
module _ (max total : ℕ) (sizes : List ℕ) (total' : ℕ) (sizes' : List ℕ) where
  pub alias_within : (x : Option ℕ) → count_of counted.Within total' sizes' ≡ at_alias max x total sizes
      → (size : ℕ) × (x ≡ Some size) × (size < limit) × (total' ≡ total + size) × (sizes' ≡ sizes) × (total' ≤ max)
  alias_within x e = grind arith

  pub alias_large : (x : Option ℕ) → count_of counted.TooLarge total' sizes' ≡ at_alias max x total sizes
      → (size : ℕ) × (x ≡ Some size) × (size < limit) × (max < total + size)
  alias_large x e = grind arith

  pub alias_endless : (x : Option ℕ) → count_of counted.Endless total' sizes' ≡ at_alias max x total sizes
      → (size : ℕ) × (x ≡ Some size) × (limit ≤ size)
  alias_endless x e = grind arith

  -- a node
  module _ (start : Bool) (k : ℕ) where
    abbrev put : Bool → Bool → Count
    put a b = if a then (if b then count_of counted.Within (total + 1) (slice_set sizes k (new_number start total))
        else count_of counted.Full total sizes) else count_of counted.TooLarge total sizes

    pub node_within : count_of counted.Within total' sizes' ≡ at_node max start (pos (suc k)) total sizes
        → (total' ≡ total + 1) × (k < length sizes) × (sizes' ≡ slice_set sizes k (new_number start total)) × (total' ≤ max)
    node_within e = grind arith

    pub node_ends : count_of counted.Endless total' sizes' ≡ at_node max start (pos (suc k)) total sizes → ⊥
    node_ends e = grind arith

  -- the end of a collection: only of one that is open, and neither too large nor endless
  abbrev pub Ended : Counted → (k size : ℕ) → Type 0
  Ended a k size = (a ≡ counted.Within) × (total' ≡ total) × (sizes' ≡ slice_set sizes k (total - (size - limit)))

-- a list with one number changed
pub set_there : (xs : List ℕ) (k v : ℕ) → k < length xs → slice_get (slice_set xs k v) k ≡ Some v
set_there [] k v lt = absurd (omega arith)
set_there (x ∷ xs) zero v lt = refl
set_there (x ∷ xs) (suc k) v lt = set_there xs k v (omega arith)

pub set_other : (xs : List ℕ) (k v j : ℕ) → (j ≡ k → ⊥) → slice_get (slice_set xs k v) j ≡ slice_get xs j
set_other [] k v j h = refl
set_other (x ∷ xs) zero v zero h = absurd (h refl)
set_other (x ∷ xs) zero v (suc j) h = refl
set_other (x ∷ xs) (suc k) v zero h = refl
set_other (x ∷ xs) (suc k) v (suc j) h = set_other xs k v j (λ e. h (ap (λ (n : ℕ). suc n) e))

pub set_count : (xs : List ℕ) (k v : ℕ) → length (slice_set xs k v) ≡ length xs
set_count [] k v = refl
set_count (x ∷ xs) zero v = refl
set_count (x ∷ xs) (suc k) v = ap (λ (n : ℕ). suc n) (set_count xs k v)

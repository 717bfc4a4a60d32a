-- The ways from a document's root down, of which an expanded size is the number (docs/DEFINITIONS.md, "Expanded size").
use Rattle.std.specs.Prelude.{◌≡◌, ◌≢◌, ℕ, ℤ, List, [], ◌∷◌, Some, Contains, slice_get}
use Rattle.std.specs.List.{AllByRecursion}
use Rattle.std.specs.Option.{IsSome}
use Rattle.libyaml_documents.specs.declared.node.yaml_node_t.{yaml_node_t}
use Rattle.yaml_expansion.specs.Expansion.{ids_at}

-- a way from ids down: the number of one of them, from 0, then that of one of those that its node holds, and so on
abbrev pub IsWay : List yaml_node_t → List ℤ → List ℕ → Type 0
IsWay nodes ids [] = ⊥
IsWay nodes ids (number ∷ []) = IsSome (slice_get ids number)
IsWay nodes ids (number ∷ next ∷ numbers) =
    (id : ℤ) × (slice_get ids number ≡ Some id) × IsWay nodes (ids_at nodes id) (next ∷ numbers)

-- no two of these are equal
abbrev pub AreDifferent : List (List ℕ) → Type 0
AreDifferent [] = Unit {0}
AreDifferent (way ∷ ways) = AllByRecursion (λ other. way ≢ other) ways × AreDifferent ways

-- these are the ways from ids down, each once
pub record AreTheWays (nodes : List yaml_node_t) (ids : List ℤ) (ways : List (List ℕ)) : Type 0 where
  pub each : AllByRecursion (λ way. IsWay nodes ids way) ways
  pub all : (way : List ℕ) → IsWay nodes ids way → Contains ways way
  pub different : AreDifferent ways

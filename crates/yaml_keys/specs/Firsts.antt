-- A map from the scalars of a list of nodes to the first places where they stand.
use Rattle.std.specs.Prelude.{◌≡◌, ◌≢◌, ◌<◌, ℕ, suc, pos, List, Some, None, Bool}
use Rattle.std.specs.Borrow.{Bor}
use Rattle.std.specs.BTreeMap.{BTreeMap, get}
use Rattle.std.specs.Cmp.Lexicographic.{slice_cmp}
use Rattle.std.specs.declared.cmp.Ordering.{Ordering}
use Rattle.std.specs.Ordering.{bool_cmp, nat_cmp, ordering_then}
use Rattle.libyaml_documents.specs.declared.node.yaml_node_t.{yaml_node_t}
use Rattle.yaml_keys.specs.Keys.{ScalarKey, scalar_key_at}

-- a key of the map, and what it reads
abbrev pub Lent : Type 0
Lent = Bool × Bor (List ℕ) × Bor (List ℕ)

abbrev pub read : Lent → ScalarKey
read k = (k.0, k.1.now, k.2.now)

abbrev pub order : Lent → Lent → Ordering
order x y = ordering_then (ordering_then (bool_cmp x.0 y.0) (slice_cmp nat_cmp x.1.now y.1.now)) (slice_cmp nat_cmp x.2.now y.2.now)

-- the scalars among the first n nodes, each with its first place, and no others
pub record HasFirsts (nodes : List yaml_node_t) (n : ℕ) (m : BTreeMap Lent ℕ) : Type 0 where
  pub inside : (key : Lent) (place : ℕ) → get order m key ≡ Some place → place < n
  pub scalar : (key : Lent) (place : ℕ) → get order m key ≡ Some place → scalar_key_at nodes (pos (suc place)) ≡ Some (read key)
  pub first : (key : Lent) (place : ℕ) → get order m key ≡ Some place
      → (other : ℕ) → other < place → scalar_key_at nodes (pos (suc other)) ≢ Some (read key)
  pub each : (key : Lent) (place : ℕ) → place < n → scalar_key_at nodes (pos (suc place)) ≡ Some (read key)
      → get order m key ≢ None

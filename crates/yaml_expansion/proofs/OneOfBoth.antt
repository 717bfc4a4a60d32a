-- A document has an expanded size, or one comes from its root to a cycle: a way with more nodes than the document has meets
-- one of them twice.
use Rattle.std.proofs.Common.{◌≡◌, ℕ, zero, suc, ◌+◌, ◌<◌, ℤ, pos, negsuc, List, [], ◌∷◌, length, Bool, true, false, nat_eq, Contains, inl, inr, refl, ap, sym, subst, arith, eqb-true}
use Rattle.std.specs.Prelude.{◌⊎◌, ◌||◌}
use Rattle.std.specs.List.{IsDistinct, AllByRecursion, list_any}
use Rattle.std.proofs.lemmas.Int.{ints}
use Rattle.std.proofs.lemmas.List.Elements.{recursion_from_All}
use Rattle.std.proofs.lemmas.Map.Steps.{length-le_from_distinct_below}
use Rattle.libyaml_documents.specs.declared.node.yaml_node_t.{yaml_node_t}
use Rattle.libyaml_documents.specs.Nodes.{IsIdUpTo, EveryIdNamesANode}
use Rattle.yaml_expansion.specs.Expansion.{TreesHave, none, ids_at, Holds, LeadsTo, here, on, LiesOnCycle, IsCyclic, HasExpandedSize}
use Rattle.yaml_expansion.proofs.Trees.{of_one, together, no_cycle}
use Rattle.yaml_expansion.proofs.Moves.{ids_name}

-- a way down from a place through these
abbrev Way : List yaml_node_t → ℕ → List ℕ → Type 0
Way nodes from [] = Unit {0}
Way nodes from (next ∷ places) = Holds nodes (pos (suc from)) (pos (suc next)) × Way nodes next places

-- a way of so many steps, each to a node of the document
abbrev LongWay : List yaml_node_t → ℕ → ℕ → Type 0
LongWay nodes steps from = (places : List ℕ) × (length places ≡ steps) × Way nodes from places
    × AllByRecursion (λ place. place < length nodes) places

equal_or_not : (a b : ℕ) (t : Bool) → nat_eq a b ≡ t → (a ≡ b) ⊎ (nat_eq a b ≡ false)
equal_or_not a b t e = grind (arith, eqb-true a b)

module _ (nodes : List yaml_node_t) where
  trees_or_way : (steps : ℕ)
      → ((p : ℕ) → p < length nodes → ((n : ℕ) × TreesHave nodes (pos (suc p) ∷ []) n) ⊎ LongWay nodes steps p)
      → (ids : List ℤ) → AllByRecursion (IsIdUpTo (length nodes)) ids
      → ((n : ℕ) × TreesHave nodes ids n)
      ⊎ ((child : ℕ) × Contains ids (pos (suc child)) × (child < length nodes) × LongWay nodes steps child)
  trees_or_way steps each [] h = inl (0, none)
  trees_or_way steps each (negsuc m ∷ ids) h = absurd (omega (arith, ints, h.0.0))
  trees_or_way steps each (pos zero ∷ ids) h = absurd (omega (arith, ints, h.0.0))
  trees_or_way steps each (pos (suc p) ∷ ids) h =
      let lt : p < length nodes = omega (arith, ints, h.0.1) in
      elim (each p lt) [
        | inl r ↦ elim (trees_or_way steps each ids h.1) [
          | inl s ↦ inl (r.0 + s.0, together nodes (pos (suc p) ∷ []) ids r.0 s.0 r.1 s.1)
          | inr w ↦ inr (w.0, (suc w.1.0, omega (arith, w.1.1), w.1.2), w.2, w.3)
        ]
        | inr w ↦ inr (p, (0, omega arith, refl), lt, w)
      ]

  module _ (valid : EveryIdNamesANode nodes) where
    tree_or_way : (steps from : ℕ) → from < length nodes
        → ((n : ℕ) × TreesHave nodes (pos (suc from) ∷ []) n) ⊎ LongWay nodes steps from
    tree_or_way zero from lt = inr ([], refl, tt, tt)
    tree_or_way (suc steps) from lt =
        elim (trees_or_way steps (tree_or_way steps) (ids_at nodes (pos (suc from)))
        (recursion_from_All (IsIdUpTo (length nodes)) (ids_at nodes (pos (suc from))) (ids_name nodes from valid lt))) [
          | inl r ↦ inl (suc r.0, of_one nodes (pos (suc from)) r.0 r.1)
          | inr w ↦ inr (w.0 ∷ w.3.0, ap (λ (n : ℕ). suc n) w.3.1, (w.1, w.3.2), (w.2, w.3.3))
        ]

  -- a way meets a place, or does not
  meets : (a from : ℕ) (places : List ℕ) → Way nodes from places → AllByRecursion (λ place. nat_eq a place ≡ false) places
      ⊎ ((child : ℤ) × Holds nodes (pos (suc from)) child × LeadsTo nodes child (pos (suc a)))
  meets a from [] way = inl tt
  meets a from (x ∷ xs) way = elim (equal_or_not a x (nat_eq a x) refl) [
    | inl e ↦ inr (
      pos (suc x),
      way.0,
      subst (λ (y : ℕ). LeadsTo nodes (pos (suc x)) (pos (suc y))) (sym e) (here (pos (suc x))),
    )
    | inr e ↦ elim (meets a x xs way.1) [
      | inl h ↦ inl (e, h)
      | inr m ↦ inr (pos (suc x), way.0, on (pos (suc x)) m.0 (pos (suc a)) m.1 m.2)
    ]
  ]

  distinct_or_cycle : (from : ℕ) (places : List ℕ) → Way nodes from places → IsDistinct nat_eq (from ∷ places)
      ⊎ ((c : ℕ) × LeadsTo nodes (pos (suc from)) (pos (suc c)) × LiesOnCycle nodes (pos (suc c)))
  unfolding IsDistinct
  distinct_or_cycle from [] way = inl (tt, tt)
  distinct_or_cycle from (x ∷ xs) way = elim (meets from from (x ∷ xs) way) [
    | inl h ↦ elim (distinct_or_cycle x xs way.1) [
      | inl d ↦ inl (h, d)
      | inr c ↦ inr (c.0, on (pos (suc from)) (pos (suc x)) (pos (suc c.0)) way.0 c.1, c.2)
    ]
    | inr m ↦ inr (from, here (pos (suc from)), m)
  ]

rest_of : (a b : Bool) → a ≡ false → (a || b) ≡ true → b ≡ true
rest_of a b f e = grind arith

below_any : (n : ℕ) (xs : List ℕ) → AllByRecursion (λ place. place < n) xs → (q : ℕ) → list_any (nat_eq q) xs ≡ true → q < n
below_any n [] h q e = cc
below_any n (x ∷ xs) h q e = elim (equal_or_not q x (nat_eq q x) refl) [
  | inl f ↦ omega (arith, f, h.0)
  | inr f ↦ below_any n xs h.1 q (rest_of (nat_eq q x) (list_any (nat_eq q) xs) f e)
]

pub size_or_cycle : (nodes : List yaml_node_t) → EveryIdNamesANode nodes → ((n : ℕ) × HasExpandedSize nodes n) ⊎ IsCyclic nodes
size_or_cycle [] valid = inl (0, none)
size_or_cycle (x ∷ rest) valid =
    let nodes = x ∷ rest in
    let some : 0 < length nodes = omega arith in
    elim (tree_or_way nodes valid (length nodes) 0 some) [
      | inl r ↦ inl r
      | inr w ↦ elim (distinct_or_cycle nodes 0 w.0 w.2) [
        | inl d ↦
            let few = length-le_from_distinct_below (0 ∷ w.0) (length nodes) d (below_any (length nodes) (0 ∷ w.0) (some, w.3)) in
            absurd (omega (arith, few, w.1))
        | inr c ↦ inr (pos (suc c.0), ((some, c.1), c.2))
      ]
    ]

-- and never both
pub not_both : (nodes : List yaml_node_t) (n : ℕ) → HasExpandedSize nodes n → IsCyclic nodes → ⊥
not_both [] n t c = omega (arith, c.1.0.0)
not_both (x ∷ rest) n t c = no_cycle (x ∷ rest) (pos 1) c.0 n t c.1.0.1 c.1.1

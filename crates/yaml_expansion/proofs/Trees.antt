-- Trees have one size, and none where one comes to a cycle.
use Rattle.std.proofs.Common.{◌≡◌, ℕ, zero, suc, ◌+◌, ◌<◌, ◌≤◌, ℤ, List, [], ◌∷◌, ◌++◌, length, get_or, refl, subst, arith}
use Rattle.libyaml_documents.specs.declared.node.yaml_node_t.{yaml_node_t}
use Rattle.yaml_expansion.specs.Expansion.{ids_at, TreesHave, none, first, Holds, LeadsTo, here, on, LiesOnCycle}

module _ (nodes : List yaml_node_t) where
  pub one_size : (ids : List ℤ) (m n : ℕ) → TreesHave nodes ids m → TreesHave nodes ids n → m ≡ n
  one_size ids m n none none = refl
  one_size ids m n (first id rest below beside b s) (first id' rest' below' beside' b' s') =
      let e : below ≡ below' = one_size _ below below' b b' in
      let f : beside ≡ beside' = one_size _ beside beside' s s' in
      omega arith

  pub together : (xs ys : List ℤ) (m n : ℕ) → TreesHave nodes xs m → TreesHave nodes ys n → TreesHave nodes (xs ++ ys) (m + n)
  together xs ys m n none t = let e : 0 + n ≡ n = omega arith in rw e t
  together xs ys m n (first id ids below beside b s) t =
      let e : suc (below + beside) + n ≡ suc (below + (beside + n)) = omega arith in
      rw e (first id (ids ++ ys) below (beside + n) b (together ids ys beside n s t))

  pub of_one : (id : ℤ) (n : ℕ) → TreesHave nodes (ids_at nodes id) n → TreesHave nodes (id ∷ []) (suc n)
  of_one id n t = let e : suc n ≡ suc (n + 0) = omega arith in rw e (first id [] n 0 t none)

  -- each of some trees is no larger than these together
  pub one_of : (ids : List ℤ) (n k : ℕ) (d : ℤ) → TreesHave nodes ids n → k < length ids
      → (m : ℕ) × TreesHave nodes (get_or ids k d ∷ []) m × (m ≤ n)
  one_of ids n k d none lt = absurd (omega arith)
  one_of ids n zero d (first id rest below beside b s) lt = (suc (below + 0), first id [] below 0 b none, omega arith)
  one_of ids n (suc k) d (first id rest below beside b s) lt =
      let r = one_of rest beside k d s (omega arith) in
      (r.0, r.1, omega arith)

  child_smaller : (id child : ℤ) (n : ℕ) → TreesHave nodes (id ∷ []) n → Holds nodes id child
      → (m : ℕ) × TreesHave nodes (child ∷ []) m × (m < n)
  child_smaller id child n (first id' rest below beside b s) h =
      let r = one_of (ids_at nodes id) below h.0 child b h.1 in
      (r.0, subst (λ (c : ℤ). TreesHave nodes (c ∷ []) r.0) h.2 r.1, omega (arith, r.2))

  end_no_larger : (id end : ℤ) (n : ℕ) → LeadsTo nodes id end → TreesHave nodes (id ∷ []) n
      → (m : ℕ) × TreesHave nodes (end ∷ []) m × (m ≤ n)
  end_no_larger id end n (here i) t = (n, t, omega arith)
  end_no_larger id end n (on i child e h l) t =
      let r = child_smaller id child n t h in
      let s = end_no_larger child end r.0 l r.1 in
      (s.0, s.1, omega (arith, r.2, s.2))

  -- from a tree with a size one comes to no cycle
  pub no_cycle : (id end : ℤ) (n : ℕ) → TreesHave nodes (id ∷ []) n → LeadsTo nodes id end → LiesOnCycle nodes end → ⊥
  no_cycle id end n t l c =
      let r = end_no_larger id end n l t in
      let s = child_smaller end c.0 r.0 r.1 c.1 in
      let back = end_no_larger c.0 end s.0 c.2 s.1 in
      omega (arith, s.2, back.2, one_size (end ∷ []) r.0 back.0 r.1 back.1)

-- However a document goes on, its tree has all nodes of the tree so far, and a node that holds one around it lies on a cycle.
use Rattle.std.proofs.Common.{◌≡◌, ◌+◌, ◌≤◌, ◌∷◌, ◌++◌, ◌∙◌, ℕ, suc, ℤ, pos, List, [], Contains, inl, inr, refl, sym, ap, subst, arith, append_assoc, append-nil}
use Rattle.std.specs.List.{AllByRecursion}
use Rattle.std.proofs.lemmas.List.Elements.{Contains-append_left, Contains-append_right}
use Rattle.libyaml_documents.specs.declared.node.yaml_node_t.{yaml_node_t}
use Rattle.yaml_expansion.specs.Expansion.{HasExpandedSize, Holds, LeadsTo, LiesOnCycle, TreesHave, here, ids_at, on}
use Rattle.yaml_expansion.specs.Expansion as expansion
use Rattle.document_sizes.specs.RunLaws.{StartsWith}
use Rattle.document_sizes.proofs.Trees.{Around, IsAmong, Opened, Stands, State, Trees, first, none}

module _ (later : List yaml_node_t) where
  -- it goes on from these open collections
  abbrev pub GoesOnFrom : List Opened → Type 0
  GoesOnFrom s = AllByRecursion (λ o. StartsWith o.ids (ids_at later (pos (suc o.place)))) s

  leads_on : (a b c : ℤ) → LeadsTo later a b → Holds later b c → LeadsTo later a c
  leads_on a b c (here x) h = on a c c h (here c)
  leads_on a b c (on x child end g l) h = on x child c g (leads_on child b c l h)

  pub cycle : (a b : ℤ) → LeadsTo later a b → Holds later b a → LiesOnCycle later a
  cycle a b (here x) h = (a, h, here a)
  cycle a b (on x child end g l) h = (child, g, leads_on child b a l h)

  pub holds_last : (id child : ℤ) (ids all : List ℤ) → all ≡ ids ++ child ∷ [] → StartsWith all (ids_at later id) → Holds later id child
  holds_last id child ids all is (more, e) = subst (λ (l : List ℤ). Contains l child) (sym (e ∙ ap (λ (l : List ℤ). l ++ more) is))
      (Contains-append_left (ids ++ child ∷ []) more child (Contains-append_right ids (child ∷ []) child (0, omega arith, refl)))

  module _ (limit : ℕ) (a : State) where
    -- down to the innermost open collection, from the root and from one around it
    pub root_leads : (k : ℕ) (s : List Opened) (start : ℕ) → Around limit a k s start → GoesOnFrom s → LeadsTo later (pos 1) (pos (suc k))
    root_leads k [] start h g = subst (λ (j : ℕ). LeadsTo later (pos 1) (pos (suc j))) (sym h.0) (here (pos 1))
    root_leads k (o ∷ s) start (before, n, ids, lt, at, is, t, sum, rest) g =
        leads_on (pos 1) (pos (suc o.place)) (pos (suc k)) (root_leads o.place s before rest g.1)
        (holds_last (pos (suc o.place)) (pos (suc k)) ids o.ids is g.0)

    pub among_leads : (j k : ℕ) (s : List Opened) (start : ℕ) → Around limit a k s start → GoesOnFrom s → IsAmong j s
        → LeadsTo later (pos (suc j)) (pos (suc k))
    among_leads j k [] start h g i = absurd i
    among_leads j k (o ∷ s) start (before, n, ids, lt, at, is, t, sum, rest) g i =
        leads_on (pos (suc j)) (pos (suc o.place)) (pos (suc k)) (elim i [
          | inl e ↦ subst (λ (q : ℕ). LeadsTo later (pos (suc j)) (pos (suc q))) e (here (pos (suc j)))
          | inr r ↦ among_leads j o.place s before rest g.1 r
        ]) (holds_last (pos (suc o.place)) (pos (suc k)) ids o.ids is g.0)

    pub root_leads_among : (j k : ℕ) (s : List Opened) (start : ℕ) → Around limit a k s start → GoesOnFrom s → IsAmong j s
        → LeadsTo later (pos 1) (pos (suc j))
    root_leads_among j k [] start h g i = absurd i
    root_leads_among j k (o ∷ s) start (before, n, ids, lt, at, is, t, sum, rest) g i = elim i [
      | inl e ↦ subst (λ (q : ℕ). LeadsTo later (pos 1) (pos (suc q))) (sym e) (root_leads o.place s before rest g.1)
      | inr r ↦ root_leads_among j o.place s before rest g.1 r
    ]

    -- what has ended holds no less
    module _ (wider : (id : ℤ) → StartsWith (a.held id) (ids_at later id)) where
      of_first : (id : ℤ) (ids : List ℤ) (m : ℕ) → TreesHave later (id ∷ ids) m
          → (below beside : ℕ) × TreesHave later (ids_at later id) below × TreesHave later ids beside × (m ≡ suc (below + beside))
      of_first id ids m (expansion.first id' ids' below beside b s) = (below, beside, b, s, refl)

      at_least : (ids more all : List ℤ) (n m : ℕ) → Trees limit a ids n → all ≡ ids ++ more → TreesHave later all m → n ≤ m
      at_least ids more all n m none is t = omega arith
      at_least ids more all n m (first id rest below beside p b s) is t =
          let r = of_first id (rest ++ more) m (subst (λ (l : List ℤ). TreesHave later l m) is t) in
          let w = wider id in
          let e : below ≤ r.0 = at_least (a.held id) w.0 (ids_at later id) below r.0 b w.1 r.2 in
          let f : beside ≤ r.1 = at_least rest more (rest ++ more) beside r.1 s refl r.3 in
          omega (arith, r.4)

      -- and the tree of the next id
      part : (ids : List ℤ) (x : ℤ) (more all : List ℤ) (n m : ℕ) → Trees limit a ids n → all ≡ ids ++ x ∷ more → TreesHave later all m
          → (t : ℕ) × TreesHave later (x ∷ []) t × (n + t ≤ m)
      part ids x more all n m none is t =
          let r = of_first x more m (subst (λ (l : List ℤ). TreesHave later l m) is t) in
          (suc (r.0 + 0), expansion.first x [] r.0 0 r.2 expansion.none, omega (arith, r.4))
      part ids x more all n m (first id rest below beside p b s) is t =
          let r = of_first id (rest ++ x ∷ more) m (subst (λ (l : List ℤ). TreesHave later l m) is t) in
          let w = wider id in
          let e : below ≤ r.0 = at_least (a.held id) w.0 (ids_at later id) below r.0 b w.1 r.2 in
          let f = part rest x more (rest ++ x ∷ more) beside r.1 s refl r.3 in
          (f.0, f.1, omega (arith, f.2, r.4))

      of_one : (id : ℤ) (t : ℕ) → TreesHave later (id ∷ []) t → (below : ℕ) × TreesHave later (ids_at later id) below × (t ≡ suc below)
      of_one id t (expansion.first id' ids' below beside b expansion.none) = (below, b, omega arith)

      around_at_most : (all : ℕ) → TreesHave later (pos 1 ∷ []) all → (k : ℕ) (s : List Opened) (start : ℕ) → Around limit a k s start
          → GoesOnFrom s → (t : ℕ) × TreesHave later (pos (suc k) ∷ []) t × (start + t ≤ all)
      around_at_most all tree k [] start h g =
          (all, subst (λ (j : ℕ). TreesHave later (pos (suc j) ∷ []) all) (sym h.0) tree, omega (arith, h.1))
      around_at_most all tree k (o ∷ s) start (before, n, ids, lt, at, is, t, sum, rest) g =
          let r = around_at_most all tree o.place s before rest g.1 in
          let d = of_one (pos (suc o.place)) r.0 r.1 in
          let e : ids_at later (pos (suc o.place)) ≡ ids ++ pos (suc k) ∷ g.0.0
          = g.0.1 ∙ (ap (λ (l : List ℤ). l ++ g.0.0) is ∙ append_assoc ids (pos (suc k) ∷ []) g.0.0) in
          let f = part ids (pos (suc k)) g.0.0 (ids_at later (pos (suc o.place))) n d.0 t e d.1 in
          (f.0, f.1, omega (arith, f.2, d.2, r.2))

      pub at_most : (s : List Opened) (total all : ℕ) → Stands limit a s total → GoesOnFrom s → TreesHave later (pos 1 ∷ []) all → total ≤ all
      at_most [] total all h g tree = elim h [
        | inl e ↦ omega (arith, e.1)
        | inr t ↦ at_least (pos 1 ∷ []) [] (pos 1 ∷ []) total all t (sym (append-nil (pos 1 ∷ []))) tree
      ]
      at_most (o ∷ s) total all (before, n, lt, at, t, sum, around) g tree =
          let r = around_at_most all tree o.place s before around g.1 in
          let d = of_one (pos (suc o.place)) r.0 r.1 in
          let e : n ≤ d.0 = at_least o.ids g.0.0 (ids_at later (pos (suc o.place))) n d.0 t g.0.1 d.1 in
          omega (arith, r.2, d.2)

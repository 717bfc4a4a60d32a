-- Counting in the abstract: `held` says which ids an id leads to, `size` the number of each place, of so many nodes. A collection
-- that is open has its place and what it holds so far, and a number from `limit` on.
use Rattle.std.proofs.Common.{◌≡◌, ◌+◌, ◌-◌, ◌<◌, ◌≤◌, ◌∷◌, ◌++◌, ◌⊎◌, ℕ, suc, ℤ, pos, List, [], Option, Some, inl, inr, refl, sym, ap, subst, arith, ◌∙◌}
use Rattle.std.proofs.lemmas.Bool.{cases_order}

-- what is known of a place: its number, and the ids that its node holds
pub record State : Type 0 where
  pub held : ℤ → List ℤ
  pub size : ℕ → Option ℕ
  pub nodes : ℕ

-- an open collection: its place, and what it holds
pub record Opened : Type 0 where
  pub place : ℕ
  pub ids : List ℤ

abbrev pub with_child : Opened → ℤ → Opened
with_child o c = record { place = o.place; ids = o.ids ++ c ∷ [] }

abbrev pub new_at : ℕ → Opened
new_at k = record { place = k; ids = [] }

abbrev pub IsAmong : ℕ → List Opened → Type 0
IsAmong k [] = ⊥
IsAmong k (o ∷ s) = (k ≡ o.place) ⊎ IsAmong k s

pub some_is : (x y : ℕ) → Some x ≡ Some y → x ≡ y
some_is x y h = cc

module _ (limit : ℕ) where
  -- a node that has ended, or that is a scalar
  abbrev pub IsEnded : State → ℤ → Type 0
  IsEnded a id = (k size : ℕ) × (id ≡ pos (suc k)) × (k < a.nodes) × (a.size k ≡ Some size) × (size < limit)

  -- the trees of these ids have so many nodes, all of them ended
  pub data Trees (a : State) : List ℤ → ℕ → Type 0 where
    none : Trees a [] 0
    first : (id : ℤ) (ids : List ℤ) (below beside : ℕ) → IsEnded a id → Trees a (a.held id) below → Trees a ids beside
        → Trees a (id ∷ ids) (suc (below + beside))

  pub together : (a : State) (xs ys : List ℤ) (m n : ℕ) → Trees a xs m → Trees a ys n → Trees a (xs ++ ys) (m + n)
  together a xs ys m n none t = let e : 0 + n ≡ n = omega arith in rw e t
  together a xs ys m n (first id ids below beside p b s) t =
      let e : suc (below + beside) + n ≡ suc (below + (beside + n)) = omega arith in
      rw e (first id (ids ++ ys) below (beside + n) p b (together a ids ys beside n s t))

  -- the tree of an open collection, and of those around it, before its own child
  abbrev pub Around : State → (k : ℕ) → List Opened → (start : ℕ) → Type 0
  Around a k [] start = (k ≡ 0) × (start ≡ 0)
  Around a k (o ∷ s) start = (before n : ℕ) × (ids : List ℤ) × (o.place < k) × (a.size o.place ≡ Some (limit + before))
      × (o.ids ≡ ids ++ pos (suc k) ∷ []) × Trees a ids n × (start ≡ suc (before + n)) × Around a o.place s before

  -- the total is that of the tree so far
  abbrev pub Stands : State → List Opened → (total : ℕ) → Type 0
  Stands a [] total = ((a.nodes ≡ 0) × (total ≡ 0)) ⊎ Trees a (pos 1 ∷ []) total
  Stands a (o ∷ s) total = (before n : ℕ) × (o.place < a.nodes) × (a.size o.place ≡ Some (limit + before))
      × Trees a o.ids n × (total ≡ suc (before + n)) × Around a o.place s before

  -- from one state to another in which what has ended stays
  abbrev pub Keeps : State → State → Type 0
  Keeps a b = (id : ℤ) → IsEnded a id → IsEnded b id × (b.held id ≡ a.held id)

  pub trees_stay : (a b : State) → Keeps a b → (ids : List ℤ) (n : ℕ) → Trees a ids n → Trees b ids n
  trees_stay a b k ids n none = none
  trees_stay a b k ids n (first id rest below beside p t s) =
      let q = k id p in
      first id rest below beside q.0 (subst (λ (l : List ℤ). Trees b l below) (sym q.1) (trees_stay a b k _ below t))
      (trees_stay a b k rest beside s)

  pub around_stays : (a b : State) → Keeps a b → (k : ℕ) (s : List Opened) (start : ℕ)
      → ((j : ℕ) → j < k → b.size j ≡ a.size j) → Around a k s start → Around b k s start
  around_stays a b keeps k [] start same h = h
  around_stays a b keeps k (o ∷ s) start same (before, n, ids, lt, at, is, t, sum, rest) = (
    before,
    n,
    ids,
    lt,
    same o.place lt ∙ at,
    is,
    trees_stay a b keeps ids n t,
    sum,
    around_stays a b keeps o.place s before (λ j l. same j (omega arith)) rest,
  )

  -- the tree so far after an event
  module _ (a b : State) (keeps : Keeps a b) where
    stands_child : (o : Opened) (s : List Opened) (total size : ℕ) (c : ℤ) → a.nodes ≤ b.nodes
        → ((j : ℕ) → j < suc o.place → b.size j ≡ a.size j) → Trees b (c ∷ []) size
        → Stands a (o ∷ s) total → Stands b (with_child o c ∷ s) (total + size)
    stands_child o s total size c le same tree (before, n, lt, at, t, sum, around) = (
      before,
      n + size,
      omega arith,
      same o.place (omega arith) ∙ at,
      together b o.ids (c ∷ []) n size (trees_stay a b keeps o.ids n t) tree,
      omega arith,
      around_stays a b keeps o.place s before (λ j l. same j (omega arith)) around,
    )

    stands_open : (o : Opened) (s : List Opened) (total : ℕ) → b.nodes ≡ suc a.nodes
        → ((j : ℕ) → j < a.nodes → b.size j ≡ a.size j) → b.size a.nodes ≡ Some (limit + total)
        → Stands a (o ∷ s) total → Stands b (new_at a.nodes ∷ with_child o (pos (suc a.nodes)) ∷ s) (total + 1)
    stands_open o s total count same new (before, n, lt, at, t, sum, around) = (
      total,
      0,
      omega arith,
      new,
      none,
      omega arith,
      (
        before,
        n,
        o.ids,
        lt,
        same o.place lt ∙ at,
        refl,
        trees_stay a b keeps o.ids n t,
        sum,
        around_stays a b keeps o.place s before (λ j l. same j (omega arith)) around,
      ),
    )

    stands_closed : (o : Opened) (s : List Opened) (total : ℕ) → b.nodes ≡ a.nodes
        → ((j : ℕ) → j < o.place → b.size j ≡ a.size j) → b.held (pos (suc o.place)) ≡ o.ids
        → (before : ℕ) → a.size o.place ≡ Some (limit + before) → b.size o.place ≡ Some (total - before) → total - before < limit
        → Stands a (o ∷ s) total → Trees b (pos (suc o.place) ∷ []) (total - before) × Stands b s total
    stands_closed o s total count same holds start at_start new small (before, n, lt, at, t, sum, around) =
        let e : before ≡ start = same_start in
        let f : total - start ≡ suc (n + 0) = omega arith in
        let tree : Trees b (pos (suc o.place) ∷ []) (total - start)
        = rw f (first (pos (suc o.place)) [] n 0 (o.place, total - start, refl, omega arith, new, small)
        (subst (λ (l : List ℤ). Trees b l n) (sym holds) (trees_stay a b keeps o.ids n t)) none) in
        (tree, go s around tree e)
      where
        same_start : before ≡ start
        same_start =
            let e : limit + before ≡ limit + start = some_is (limit + before) (limit + start) (sym at ∙ at_start) in
            omega arith

        go : (s : List Opened) → Around a o.place s before → Trees b (pos (suc o.place) ∷ []) (total - start) → before ≡ start
            → Stands b s total
        go [] (k, zero) tree e = inr (
            let f : total - start ≡ total = omega arith in
            let g : Trees b (pos (suc o.place) ∷ []) total = rw f at tree in
            subst (λ (j : ℕ). Trees b (pos (suc j) ∷ []) total) k g)
        go (p ∷ s) (before', m, ids, lt', at', is, t', sum', rest) tree e = (
          before',
          m + (total - start),
          omega arith,
          same p.place lt' ∙ at',
          rw is (together b ids (pos (suc o.place) ∷ []) m (total - start) (trees_stay a b keeps ids m t') tree),
          omega arith,
          around_stays a b keeps p.place s before' (λ j l. same j (omega arith)) rest,
        )

  -- the numbers are those of the trees
  pub record Says (a : State) (s : List Opened) (total : ℕ) : Type 0 where
    pub ended : (k size : ℕ) → k < a.nodes → a.size k ≡ Some size → size < limit → Trees a (pos (suc k) ∷ []) size
    pub opened : (k size : ℕ) → k < a.nodes → a.size k ≡ Some size → limit ≤ size → IsAmong k s
    pub stands : Stands a s total

  earlier_or_last : (k n : ℕ) → k < suc n → (k < n) ⊎ (k ≡ n)
  earlier_or_last k n lt = grind arith

  -- a child that is an alias
  module _ (a b : State) (keeps : Keeps a b) (same : (j : ℕ) → b.size j ≡ a.size j) (count : b.nodes ≡ a.nodes) where
    pub says_alias : (o : Opened) (s : List Opened) (total k size : ℕ) → k < a.nodes → a.size k ≡ Some size → size < limit
        → Says a (o ∷ s) total → Says b (with_child o (pos (suc k)) ∷ s) (total + size)
    says_alias o s total k size lt at small h = record {
      ended = λ j n l e m. trees_stay a b keeps _ n (h.ended j n (omega arith) (sym (same j) ∙ e) m);
      opened = λ j n l e m. h.opened j n (omega arith) (sym (same j) ∙ e) m;
      stands = stands_child a b keeps o s total size (pos (suc k)) (omega arith) (λ j l. same j)
          (trees_stay a b keeps _ size (h.ended k size lt at small)) h.stands;
    }

  -- a node after the others
  module _ (a b : State) (keeps : Keeps a b) (same : (j : ℕ) → j < a.nodes → b.size j ≡ a.size j) (count : b.nodes ≡ suc a.nodes)
    where
      module _ (one : 1 < limit) (at : b.size a.nodes ≡ Some 1) (empty : b.held (pos (suc a.nodes)) ≡ []) where
        new_tree : Trees b (pos (suc a.nodes) ∷ []) 1
        new_tree = first (pos (suc a.nodes)) [] 0 0 (a.nodes, 1, refl, omega arith, at, one)
            (subst (λ (l : List ℤ). Trees b l 0) (sym empty) none) none

        scalar_ended : (s : List Opened) (total : ℕ) → Says a s total → (k size : ℕ) → k < b.nodes → b.size k ≡ Some size → size < limit
            → Trees b (pos (suc k) ∷ []) size
        scalar_ended s total h k size lt e small = elim (earlier_or_last k a.nodes (omega arith)) [
          | inl l ↦ trees_stay a b keeps _ size (h.ended k size l (sym (same k l) ∙ e) small)
          | inr i ↦
              let f : size ≡ 1 = some_is size 1 (sym e ∙ (ap b.size i ∙ at)) in
              subst (λ (n : ℕ). Trees b (pos (suc k) ∷ []) n) (sym f)
              (subst (λ (j : ℕ). Trees b (pos (suc j) ∷ []) 1) (sym i) new_tree)
        ]

        scalar_opened : (s : List Opened) (total : ℕ) → Says a s total → (k size : ℕ) → k < b.nodes → b.size k ≡ Some size → limit ≤ size
            → IsAmong k s
        scalar_opened s total h k size lt e large = elim (earlier_or_last k a.nodes (omega arith)) [
          | inl l ↦ h.opened k size l (sym (same k l) ∙ e) large
          | inr i ↦
              let f : size ≡ 1 = some_is size 1 (sym e ∙ (ap b.size i ∙ at)) in
              absurd (omega arith)
        ]

        pub says_scalar : (o : Opened) (s : List Opened) (total : ℕ) → Says a (o ∷ s) total
            → Says b (with_child o (pos (suc a.nodes)) ∷ s) (total + 1)
        says_scalar o s total h = record {
          ended = scalar_ended (o ∷ s) total h;
          opened = scalar_opened (o ∷ s) total h;
          stands = stands_child a b keeps o s total 1 (pos (suc a.nodes)) (omega arith)
              (λ j l. let lt : o.place < a.nodes = h.stands.2 in same j (omega arith)) new_tree h.stands;
        }

        pub says_root : (total : ℕ) → a.nodes ≡ 0 → total ≡ 0 → Says a [] total → Says b [] (total + 1)
        says_root total zero nothing h = grind (arith, scalar_ended, scalar_opened, new_tree)

      module _ (total : ℕ) (at : b.size a.nodes ≡ Some (limit + total)) where
        open_ended : (s : List Opened) → Says a s total → (k size : ℕ) → k < b.nodes → b.size k ≡ Some size → size < limit
            → Trees b (pos (suc k) ∷ []) size
        open_ended s h k size lt e small = elim (earlier_or_last k a.nodes (omega arith)) [
          | inl l ↦ trees_stay a b keeps _ size (h.ended k size l (sym (same k l) ∙ e) small)
          | inr i ↦
              let f : size ≡ limit + total = some_is size (limit + total) (sym e ∙ (ap b.size i ∙ at)) in
              absurd (omega arith)
        ]

        pub says_open : (o : Opened) (s : List Opened) → Says a (o ∷ s) total
            → Says b (new_at a.nodes ∷ with_child o (pos (suc a.nodes)) ∷ s) (total + 1)
        says_open o s h = record {
          ended = open_ended (o ∷ s) h;
          opened = λ k size lt e large. elim (earlier_or_last k a.nodes (omega arith)) [
            | inl l ↦ inr (h.opened k size l (sym (same k l) ∙ e) large)
            | inr i ↦ inl i
          ];
          stands = stands_open a b keeps o s total count same at h.stands;
        }

        pub says_root_open : a.nodes ≡ 0 → total ≡ 0 → Says a [] total → Says b (new_at a.nodes ∷ []) (total + 1)
        says_root_open zero none_yet h = record {
          ended = open_ended [] h;
          opened = λ k size lt e large. elim (earlier_or_last k a.nodes (omega arith)) [
            | inl l ↦ absurd (h.opened k size l (sym (same k l) ∙ e) large)
            | inr i ↦ inl i
          ];
          stands = (total, 0, omega arith, at, none, omega arith, (zero, none_yet));
        }

  -- the end of the innermost open collection
  module _ (a b : State) (keeps : Keeps a b) (count : b.nodes ≡ a.nodes) (o : Opened) (s : List Opened) (total before : ℕ)
      (same : (j : ℕ) → (j ≡ o.place → ⊥) → b.size j ≡ a.size j)
      (holds : b.held (pos (suc o.place)) ≡ o.ids) (at : a.size o.place ≡ Some (limit + before))
      (new : b.size o.place ≡ Some (total - before)) (small : total - before < limit) where
    pub says_closed : Says a (o ∷ s) total → Says b s total
    says_closed h =
        let r = stands_closed a b keeps o s total count (λ j l. same j (λ e. absurd (omega arith))) holds before at new small h.stands in
        record {
          ended = λ k size lt e m. elim (cases_order k o.place) [
            | inl i ↦
                let f : size ≡ total - before = some_is size (total - before) (sym e ∙ (ap b.size i ∙ new)) in
                subst (λ (n : ℕ). Trees b (pos (suc k) ∷ []) n) (sym f)
                (subst (λ (j : ℕ). Trees b (pos (suc j) ∷ []) (total - before)) (sym i) r.0)
            | inr other ↦
                trees_stay a b keeps _ size (h.ended k size (omega arith) (sym (same k (apart k other)) ∙ e) m)
          ];
          opened = λ k size lt e m. elim (cases_order k o.place) [
            | inl i ↦
                let f : size ≡ total - before = some_is size (total - before) (sym e ∙ (ap b.size i ∙ new)) in
                absurd (omega arith)
            | inr other ↦ among k other (h.opened k size (omega arith) (sym (same k (apart k other)) ∙ e) m)
          ];
          stands = r.1;
        }
      where
        apart : (k : ℕ) → (k < o.place) ⊎ (o.place < k) → k ≡ o.place → ⊥
        apart k other e = elim other [ inl l ↦ omega arith | inr g ↦ omega arith ]

        among : (k : ℕ) → (k < o.place) ⊎ (o.place < k) → IsAmong k (o ∷ s) → IsAmong k s
        among k other i = elim i [ inl e ↦ absurd (apart k other e) | inr r ↦ r ]

  -- the same nodes, with the same numbers
  pub says_same : (a b : State) (s : List Opened) (total : ℕ) → b.held ≡ a.held → b.nodes ≡ a.nodes
      → ((j : ℕ) → j < a.nodes → b.size j ≡ a.size j) → Says a s total → Says b s total
  says_same a b s total held count same h = record {
    ended = λ k size lt e m. trees_stay a b keeps _ size (h.ended k size (omega arith) (sym (same k (omega arith)) ∙ e) m);
    opened = λ k size lt e m. h.opened k size (omega arith) (sym (same k (omega arith)) ∙ e) m;
    stands = go s h.stands;
  }
    where
      keeps : Keeps a b
      keeps id (k, size, is, lt, at, small) =
          ((k, size, is, omega arith, same k lt ∙ at, small), ap (λ (f : ℤ → List ℤ). f id) held)

      go : (s : List Opened) → Stands a s total → Stands b s total
      go [] h = elim h [ inl e ↦ inl (count ∙ e.0, e.1) | inr t ↦ inr (trees_stay a b keeps (pos 1 ∷ []) total t) ]
      go (o ∷ s) (before, n, lt, at, t, sum, around) = (
        before,
        n,
        omega arith,
        same o.place lt ∙ at,
        trees_stay a b keeps o.ids n t,
        sum,
        around_stays a b keeps o.place s before (λ j l. same j (omega arith)) around,
      )

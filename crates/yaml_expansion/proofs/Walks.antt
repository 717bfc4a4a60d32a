-- A walk's moves: each keeps what its marks say, and leaves fewer steps.
use Rattle.std.proofs.Common.{◌≡◌, ◌≢◌, ℕ, zero, suc, ◌+◌, ◌<◌, ℤ, pos, List, [], ◌∷◌, ◌++◌, length, get_or, set, Some, Bool, true, false, cond, nat_eq, slice_get, inl, inr, refl, sym, subst, arith, ◌∙◌}
use Rattle.std.specs.Prelude.{◌⊎◌}
use Rattle.std.proofs.lemmas.Option.{slice_get_within, get_or_from_slice_get}
use Rattle.libyaml_documents.specs.declared.node.yaml_node_t.{yaml_node_t}
use Rattle.yaml_expansion.specs.declared.walk.Mark.{Mark}
use Rattle.yaml_expansion.specs.declared.walk.Mark.TheVariants.{New}
use Rattle.yaml_expansion.specs.Expansion.{ids_at, Holds, LeadsTo, here, on, LiesOnCycle}
use Rattle.yaml_expansion.specs.Walks.{Down, DownFromRoot, times, times_open, steps_left, work}

-- what holds of each mark, where one is changed
pub at_set : (P : ℕ → Mark → Type 0) (marks : List Mark) (place : ℕ) (mark : Mark) → place < length marks
    → ((k : ℕ) → k ≢ place → P k (get_or marks k New)) → P place mark → (k : ℕ) → P k (get_or (set marks place mark) k New)
at_set P [] place mark lt h p k = absurd (omega arith)
at_set P (x ∷ xs) zero mark lt h p zero = p
at_set P (x ∷ xs) zero mark lt h p (suc k) = h (suc k) (λ e. omega arith)
at_set P (x ∷ xs) (suc i) mark lt h p zero = h zero (λ e. omega arith)
at_set P (x ∷ xs) (suc i) mark lt h p (suc k) =
    at_set (λ j. P (suc j)) xs i mark (omega arith) (λ j ne. h (suc j) (λ e. ne (omega arith))) p k

-- a mark that was read
pub mark_read : (marks : List Mark) (place : ℕ) (mark : Mark) → place < length marks → mark ≡ get_or marks place mark
    → mark ≡ get_or marks place New
mark_read [] place mark lt e = absurd (omega arith)
mark_read (x ∷ xs) zero mark lt e = e
mark_read (x ∷ xs) (suc place) mark lt e = mark_read xs place mark (omega arith) e

-- a mark that is not new has a place
pub marked_inside : (marks : List Mark) (k : ℕ) → 0 < times_open (get_or marks k New) → k < length marks
marked_inside [] k h = absurd (omega (arith, h))
marked_inside (x ∷ xs) zero h = omega arith
marked_inside (x ∷ xs) (suc k) h = let r = marked_inside xs k h in omega (arith, r)

-- how often a place is among places
abbrev pub one_if : ℕ → ℕ → ℕ
one_if a b = cond (nat_eq a b) 1 0

pub same_or_not : (a b : ℕ) (t : Bool) → nat_eq a b ≡ t → (a ≡ b) ⊎ (one_if a b ≡ 0)
same_or_not a b true e = inl (grind arith)
same_or_not a b false e = inr (grind arith)

pub once : (a : ℕ) → one_if a a ≡ 1
once a = grind arith

pub not_at_all : (a b : ℕ) → b ≢ a → one_if a b ≡ 0
not_at_all a b ne = elim (same_or_not a b (nat_eq a b) refl) [ inl e ↦ absurd (ne (sym e)) | inr e ↦ e ]

pub times-push : (k : ℕ) (xs : List ℕ) (c : ℕ) → times k (xs ++ c ∷ []) ≡ times k xs + one_if c k
times-push k [] c = omega arith
times-push k (x ∷ xs) c = let r = times-push k xs c in omega (arith, r)

module _ (nodes : List yaml_node_t) where
  -- down, and up again
  down-push : (from : ℕ) (places : List ℕ) (to c : ℕ) → Down nodes from places to → Holds nodes (pos (suc to)) (pos (suc c))
      → Down nodes from (places ++ to ∷ []) c
  down-push from [] to c d h = (d, h)
  down-push from (x ∷ xs) to c d h = (d.0, down-push x xs to c d.1 h)

  pub way-push : (above : List ℕ) (place c : ℕ) → DownFromRoot nodes above place → Holds nodes (pos (suc place)) (pos (suc c))
      → DownFromRoot nodes (above ++ place ∷ []) c
  way-push [] place c d h = (d, h)
  way-push (x ∷ xs) place c d h = (d.0, down-push x xs place c d.1 h)

  down-pop : (from : ℕ) (places : List ℕ) (p to : ℕ) → Down nodes from (places ++ p ∷ []) to → Down nodes from places p
  down-pop from [] p to d = d.0
  down-pop from (x ∷ xs) p to d = (d.0, down-pop x xs p to d.1)

  pub way-pop : (above : List ℕ) (p to : ℕ) → DownFromRoot nodes (above ++ p ∷ []) to → DownFromRoot nodes above p
  way-pop [] p to d = d.0
  way-pop (x ∷ xs) p to d = (d.0, down-pop x xs p to d.1)

  -- who is on the way is led to, and leads on
  down_leads : (from : ℕ) (places : List ℕ) (to : ℕ) → Down nodes from places to
      → LeadsTo nodes (pos (suc from)) (pos (suc to))
  down_leads from [] to d = on (pos (suc from)) (pos (suc to)) (pos (suc to)) d (here (pos (suc to)))
  down_leads from (x ∷ xs) to d = on (pos (suc from)) (pos (suc x)) (pos (suc to)) d.0 (down_leads x xs to d.1)

  module _ (c : ℕ) where
    in_down : (from : ℕ) (places : List ℕ) (to : ℕ) → Down nodes from places to
        → 0 < times c (from ∷ (places ++ to ∷ []))
        → LeadsTo nodes (pos (suc from)) (pos (suc c)) × LeadsTo nodes (pos (suc c)) (pos (suc to))
    in_down from [] to d h = elim (same_or_not from c (nat_eq from c) refl) [
      | inl e ↦ (
        subst (λ (x : ℕ). LeadsTo nodes (pos (suc from)) (pos (suc x))) e (here (pos (suc from))),
        subst (λ (x : ℕ). LeadsTo nodes (pos (suc x)) (pos (suc to))) e (down_leads from [] to d),
      )
      | inr e ↦ elim (same_or_not to c (nat_eq to c) refl) [
        | inl f ↦ (
          subst (λ (x : ℕ). LeadsTo nodes (pos (suc from)) (pos (suc x))) f (down_leads from [] to d),
          subst (λ (x : ℕ). LeadsTo nodes (pos (suc x)) (pos (suc to))) f (here (pos (suc to))),
        )
        | inr f ↦ absurd (omega (arith, h, e, f))
      ]
    ]
    in_down from (x ∷ xs) to d h = elim (same_or_not from c (nat_eq from c) refl) [
      | inl e ↦ (
        subst (λ (y : ℕ). LeadsTo nodes (pos (suc from)) (pos (suc y))) e (here (pos (suc from))),
        subst (λ (y : ℕ). LeadsTo nodes (pos (suc y)) (pos (suc to))) e (down_leads from (x ∷ xs) to d),
      )
      | inr e ↦
          let r = in_down x xs to d.1 (omega (arith, h, e)) in
          (on (pos (suc from)) (pos (suc x)) (pos (suc c)) d.0 r.0, r.1)
    ]

  pub on_way : (c : ℕ) (above : List ℕ) (place : ℕ) → DownFromRoot nodes above place → 0 < times c (above ++ place ∷ [])
      → LeadsTo nodes (pos 1) (pos (suc c)) × LeadsTo nodes (pos (suc c)) (pos (suc place))
  on_way c [] place d h = elim (same_or_not place c (nat_eq place c) refl) [
    | inl e ↦ (
      subst (λ (x : ℕ). LeadsTo nodes (pos 1) (pos (suc x))) (sym d ∙ e) (here (pos 1)),
      subst (λ (x : ℕ). LeadsTo nodes (pos (suc x)) (pos (suc place))) e (here (pos (suc place))),
    )
    | inr e ↦ absurd (omega (arith, h, e))
  ]
  on_way c (x ∷ xs) place d h =
      let r = in_down c x xs place d.1 h in
      (subst (λ (y : ℕ). LeadsTo nodes (pos (suc y)) (pos (suc c))) d.0 r.0, r.1)

  -- one step more
  then_holds : (a b c : ℤ) → LeadsTo nodes a b → Holds nodes b c → LeadsTo nodes a c
  then_holds a b c (here i) h = on a c c h (here c)
  then_holds a b c (on i x j k l) h = on a x c k (then_holds x b c l h)

  pub comes_back : (a b : ℤ) → LeadsTo nodes a b → Holds nodes b a → LiesOnCycle nodes a
  comes_back a b (here i) h = (a, h, here a)
  comes_back a b (on i x j k l) h = (x, k, then_holds x b a l h)

  -- the id of a number among those of a node
  pub held : (id child : ℤ) (number : ℕ) → slice_get (ids_at nodes id) number ≡ Some child → Holds nodes id child
  held id child number e =
      (number, slice_get_within (ids_at nodes id) number child e, get_or_from_slice_get (ids_at nodes id) number child child e)

-- how a changed mark changes the steps that are left
pub work-set : (nodes : List yaml_node_t) (marks : List Mark) (k : ℕ) (mark : Mark) → length marks ≡ length nodes → k < length nodes
    → work nodes (set marks k mark) + steps_left (length (ids_at nodes (pos (suc k)))) (get_or marks k New)
    ≡ work nodes marks + steps_left (length (ids_at nodes (pos (suc k)))) mark
work-set [] marks k mark e lt = absurd (omega arith)
work-set (node ∷ nodes) [] k mark e lt = absurd (omega (arith, e))
work-set (node ∷ nodes) (x ∷ marks) zero mark e lt = omega arith
work-set (node ∷ nodes) (x ∷ marks) (suc k) mark e lt =
    let r = work-set nodes marks k mark (omega (arith, e)) (omega arith) in
    omega (arith, r)

-- A key that waits gets its value in the pair that began with it, whatever events come, or no such pair is there.
use Rattle.std.proofs.Common.{◌≡◌, ◌⊎◌, inl, inr, ◌∷◌, ◌++◌, ◌∙◌, ℕ, zero, suc, ℤ, pos, List, [], Option, Some, None, length, slice_get, refl, sym, ap, subst}
use Rattle.libyaml_grammar.specs.grammar.Tokens.{Mark}
use Rattle.libyaml_documents.specs.LoadedNodes.{with_end}
use Rattle.libyaml_documents.specs.Nodes.{items_of, node_at, pairs_of, with_changed}
use Rattle.libyaml_documents.specs.declared.node.unnamed_yaml_node_t_data.{unnamed_yaml_node_t_data}
use Rattle.libyaml_documents.specs.declared.node.unnamed_yaml_node_t_data.TheVariants.{Scalar, Sequence, Mapping}
use Rattle.libyaml_documents.specs.declared.node.yaml_node_t.{yaml_node_t}
use Rattle.libyaml_documents.specs.declared.pairs.yaml_node_pair_t.{yaml_node_pair_t}
use Rattle.libyaml_graphs.specs.machine.Loader.{OpenNode, closed_by, content_and_child, hand, handed, key_after, key_after_child, outer, with_child}
use Rattle.libyaml_composer.proofs.exported.Opens.{get_last}
use Rattle.libyaml_loader.proofs.composed.Staying.{IsKept, OfId, OfNode, id_kept, of_changed, of_child, of_end, of_more, of_next, of_other, same_id}

-- entries of a list
pub get_more : {A : Type 0} (xs more : List A) (n : ℕ) (x : A) → slice_get xs n ≡ Some x → slice_get (xs ++ more) n ≡ Some x
get_more [] more n x h = absurd (cc)
get_more (y ∷ xs) more zero x h = h
get_more (y ∷ xs) more (suc n) x h = get_more xs more n x h

pub get_at_end : {A : Type 0} (xs : List A) → slice_get xs (length xs) ≡ None
get_at_end [] = refl
get_at_end (x ∷ xs) = get_at_end xs

pub items_stay : (k : Option ℤ) (i : ℤ) (c : unnamed_yaml_node_t_data) (n : ℕ) (j : ℤ) → slice_get (items_of c) n ≡ Some j
    → slice_get (items_of (content_and_child k i c)) n ≡ Some j
items_stay k i (Scalar s) n j h = h
items_stay k i (Sequence s) n j h = get_more s.items (i ∷ []) n j h
items_stay None i (Mapping s) n j h = h
items_stay (Some k) i (Mapping s) n j h = h

pub pairs_stay : (k : Option ℤ) (i : ℤ) (c : unnamed_yaml_node_t_data) (n : ℕ) (p : yaml_node_pair_t)
    → slice_get (pairs_of c) n ≡ Some p → slice_get (pairs_of (content_and_child k i c)) n ≡ Some p
pairs_stay k i (Scalar s) n p h = h
pairs_stay k i (Sequence s) n p h = h
pairs_stay None i (Mapping s) n p h = h
pairs_stay (Some k) i (Mapping s) n p h = get_more s.pairs _ n p h

-- the pair of a key, and the pairs before it
module _ (parent id : ℤ) (index : ℕ) where
  abbrev pub IsPaired : yaml_node_t → Type 0
  IsPaired x = (p : yaml_node_pair_t) × (slice_get (pairs_of x.content) index ≡ Some p) × (p.key ≡ id)

  abbrev IsBefore : yaml_node_t → Type 0
  IsBefore x = length (pairs_of x.content) ≡ index

  -- wherever its mapping is open, the key waits there
  abbrev pub Waits : List OpenNode → Type 0
  Waits [] = Unit {0}
  Waits (o ∷ s) = (o.node ≡ parent → o.key ≡ Some id) × Waits s

  abbrev pub KeyHeld : List yaml_node_t → List OpenNode → Type 0
  KeyHeld nodes s = OfId IsPaired parent nodes ⊎ (OfId IsBefore parent nodes × Waits s)

  paired_child : (k : Option ℤ) (i : ℤ) (x : yaml_node_t) → IsPaired x → IsPaired (with_child k i x)
  paired_child k i x (p, get, key) = (p, pairs_stay k i x.content index p get, key)

  paired_end : (m : Mark) (x : yaml_node_t) → IsPaired x → IsPaired (with_end m x)
  paired_end m x h = h

  pub paired_kept : IsKept (λ nodes s. OfId IsPaired parent nodes)
  paired_kept = id_kept IsPaired paired_child paired_end parent

  before_end : (m : Mark) (x : yaml_node_t) → IsBefore x → IsBefore (with_end m x)
  before_end m x h = h

  -- its value, or another child
  value_child : (i : ℤ) (nodes : List yaml_node_t) (s : List OpenNode) (x : yaml_node_t) → node_at nodes parent ≡ Some x → IsBefore x
      → Waits s → KeyHeld (with_changed parent (with_child (Some id) i) nodes)
      (record { node = parent; key = key_after (Some id) i (node_at nodes parent) } ∷ s)
  value_child i nodes s x at before waits = go x.content refl
    where
      here : OfId (λ y. y ≡ x) parent nodes
      here = subst (OfNode (λ y. y ≡ x)) (sym at) refl

      changed : (Q : yaml_node_t → Type 0) → Q (with_child (Some id) i x)
          → OfId Q parent (with_changed parent (with_child (Some id) i) nodes)
      changed Q q = of_changed (λ y. y ≡ x) Q (with_child (Some id) i)
          (λ y e. subst (λ (z : yaml_node_t). Q (with_child (Some id) i z)) (sym e) q) nodes parent here

      key_is : (c : unnamed_yaml_node_t_data) → c ≡ x.content
          → key_after (Some id) i (node_at nodes parent) ≡ key_after_child (Some id) i c
      key_is c is = ap (λ (y : Option yaml_node_t). key_after (Some id) i y) at ∙ ap (key_after_child (Some id) i) (sym is)

      go : (c : unnamed_yaml_node_t_data) → c ≡ x.content
          → KeyHeld (with_changed parent (with_child (Some id) i) nodes)
          (record { node = parent; key = key_after (Some id) i (node_at nodes parent) } ∷ s)
      go (Scalar t) is = inr (
        changed IsBefore (subst (λ (c : unnamed_yaml_node_t_data). length (pairs_of (content_and_child (Some id) i c)) ≡ index) is
            (ap (λ (c : unnamed_yaml_node_t_data). length (pairs_of c)) is ∙ before)),
        (λ e. key_is (Scalar t) is, waits),
      )
      go (Sequence t) is = inr (
        changed IsBefore (subst (λ (c : unnamed_yaml_node_t_data). length (pairs_of (content_and_child (Some id) i c)) ≡ index) is
            (ap (λ (c : unnamed_yaml_node_t_data). length (pairs_of c)) is ∙ before)),
        (λ e. key_is (Sequence t) is, waits),
      )
      go (Mapping t) is = inl (changed IsPaired (
        record { key = id; value = i },
        subst (λ (c : unnamed_yaml_node_t_data). slice_get (pairs_of (content_and_child (Some id) i c)) index ≡ Some (record { key = id; value = i })) is
            (subst (λ (n : ℕ). slice_get (t.pairs ++ record { key = id; value = i } ∷ []) n ≡ Some (record { key = id; value = i }))
            (ap (λ (c : unnamed_yaml_node_t_data). length (pairs_of c)) is ∙ before) (get_last t.pairs _)),
        refl,
      ))

  key_child : (i : ℤ) (s : List OpenNode) (nodes : List yaml_node_t) → KeyHeld nodes s → KeyHeld (hand i s nodes) (handed i s nodes)
  key_child i s nodes (inl h) = inl (of_child IsPaired paired_child paired_end parent i s nodes h)
  key_child i [] nodes (inr h) = inr h
  key_child i (o ∷ s) nodes (inr (before, (key, waits))) = elim (same_id o.node parent) [
    | inl e ↦ subst (λ (z : ℤ). KeyHeld (with_changed z (with_child o.key i) nodes)
        (record { node = z; key = key_after o.key i (node_at nodes z) } ∷ s)) (sym e)
        (subst (λ (k : Option ℤ). KeyHeld (with_changed parent (with_child k i) nodes)
        (record { node = parent; key = key_after k i (node_at nodes parent) } ∷ s)) (sym (key e))
        (at_node (node_at nodes parent) refl before))
    | inr n ↦ inr (of_other IsBefore (with_child o.key i) nodes o.node parent n before, (λ e. absurd (n e), waits))
  ]
    where
      at_node : (y : Option yaml_node_t) → node_at nodes parent ≡ y → OfNode IsBefore y
          → KeyHeld (with_changed parent (with_child (Some id) i) nodes)
          (record { node = parent; key = key_after (Some id) i (node_at nodes parent) } ∷ s)
      at_node None at h = absurd h
      at_node (Some x) at h = value_child i nodes s x at h waits

  key_node : (x : yaml_node_t) (s : List OpenNode) (nodes : List yaml_node_t) → KeyHeld nodes s → KeyHeld (nodes ++ x ∷ []) s
  key_node x s nodes (inl h) = inl (of_more IsPaired nodes (x ∷ []) parent h)
  key_node x s nodes (inr h) = inr (of_more IsBefore nodes (x ∷ []) parent h.0, h.1)

  not_new : (s : List OpenNode) (nodes : List yaml_node_t) → KeyHeld nodes s → pos (suc (length nodes)) ≡ parent → ⊥
  not_new s nodes (inl h) e = of_next IsPaired nodes parent (sym e) h
  not_new s nodes (inr h) e = of_next IsBefore nodes parent (sym e) h.0

  key_start : (s t : List OpenNode) (nodes later : List yaml_node_t) → KeyHeld nodes s → KeyHeld later t
      → KeyHeld later (record { node = pos (suc (length nodes)); key = None } ∷ t)
  key_start s t nodes later h (inl k) = inl k
  key_start s t nodes later h (inr k) = inr (k.0, (λ e. absurd (not_new s nodes h e), k.1))

  key_end : (m : Mark) (s : List OpenNode) (nodes : List yaml_node_t) → KeyHeld nodes s → KeyHeld (closed_by m s nodes) (outer s)
  key_end m s nodes (inl h) = inl (of_end IsPaired paired_child paired_end parent m s nodes h)
  key_end m [] nodes (inr h) = inr h
  key_end m (o ∷ s) nodes (inr (before, (key, waits))) = inr (
    elim (same_id o.node parent) [
      | inl e ↦ subst (λ (z : ℤ). OfId IsBefore parent (with_changed z (with_end m) nodes)) (sym e)
          (of_changed IsBefore IsBefore (with_end m) (before_end m) nodes parent before)
      | inr n ↦ of_other IsBefore (with_end m) nodes o.node parent n before
    ],
    waits,
  )

  pub key_kept : IsKept KeyHeld
  key_kept = record { child = key_child; node = key_node; start = key_start; end = key_end }

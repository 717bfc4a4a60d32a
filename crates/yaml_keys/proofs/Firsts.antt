-- A map from scalars to their first places, as it grows by one node.
use Rattle.std.proofs.Common.{◌≡◌, ◌≢◌, ◌⊎◌, inl, inr, ◌<◌, ◌≤◌, ◌+◌, ℕ, suc, pos, List, Option, Some, None, Bool, true, false, refl, sym, subst, ap, ◌∙◌, arith}
use Rattle.std.proofs.lemmas.Bool.{cases_lt}
use Rattle.std.proofs.lemmas.Cmp.{tied_itself, nat_list_cmp_total}
use Rattle.std.proofs.lemmas.Map.Lookups.{exact_bytes}
use Rattle.std.specs.BTreeMap.{BTreeMap, get, get_by, is_at, Updates}
use Rattle.std.specs.Cmp.Lexicographic.{slice_cmp}
use Rattle.std.specs.declared.cmp.Ordering.{Ordering}
use Rattle.std.specs.declared.cmp.Ordering.TheVariants.{Less, Equal, Greater}
use Rattle.std.specs.Ordering.{bool_cmp, nat_cmp, ordering_then, is_eq}
use Rattle.libyaml_documents.specs.declared.node.yaml_node_t.{yaml_node_t}
use Rattle.yaml_keys.specs.Firsts.{Lent, read, order, HasFirsts}
use Rattle.yaml_keys.specs.Keys.{ScalarKey, scalar_key_at, IsSameKey, same_node, same_scalar, IsFirstSame}
use Rattle.yaml_keys.proofs.SameKeys.{one_some}

-- the order of what keys read
abbrev read_order : ScalarKey → ScalarKey → Ordering
read_order x y = ordering_then (ordering_then (bool_cmp x.0 y.0) (slice_cmp nat_cmp x.1 y.1)) (slice_cmp nat_cmp x.2 y.2)

bool_itself : (b : Bool) → bool_cmp b b ≡ Equal
bool_itself true = refl
bool_itself false = refl

bool_exact : (a b : Bool) → bool_cmp a b ≡ Equal → a ≡ b
bool_exact true true e = refl
bool_exact false false e = refl
bool_exact true false e = absurd (cc)
bool_exact false true e = absurd (cc)

bytes_itself : (bs : List ℕ) → slice_cmp nat_cmp bs bs ≡ Equal
bytes_itself bs = tied_itself nat_list_cmp_total bs

both_equal : (a b : Ordering) → ordering_then a b ≡ Equal → (a ≡ Equal) × (b ≡ Equal)
both_equal Less b e = absurd (cc)
both_equal Equal b e = (refl, e)
both_equal Greater b e = absurd (cc)

read_itself : (x : ScalarKey) → read_order x x ≡ Equal
read_itself x = rw (bool_itself x.0) (rw (bytes_itself x.1) (bytes_itself x.2))

exact : (x y : Lent) → order x y ≡ Equal → read x ≡ read y
exact x y e =
    let outer = both_equal _ _ e in
    let inner = both_equal _ _ outer.0 in
    let a = bool_exact x.0 y.0 inner.0 in
    let b = exact_bytes x.1.now y.1.now inner.1 in
    let c = exact_bytes x.2.now y.2.now outer.1 in
    cc

tied : (x y : Lent) → read x ≡ read y → is_at (order x) y ≡ true
tied x y e = ap is_eq (subst (λ (r : ScalarKey). read_order (read x) r ≡ Equal) e (read_itself (read x)))

is_equal : (o : Ordering) → is_eq o ≡ true → o ≡ Equal
is_equal Less e = absurd (cc)
is_equal Equal e = refl
is_equal Greater e = absurd (cc)

-- whether two keys read the same
decide : (b : Bool) → (b ≡ true) ⊎ (b ≡ false)
decide true = inl refl
decide false = inr refl

same_read : (x y : Lent) → is_at (order x) y ≡ true → read x ≡ read y
same_read x y e = exact x y (is_equal (order x y) e)

-- keys that read the same find the same
found_alike : (m : BTreeMap Lent ℕ) (x y : Lent) → read x ≡ read y → get order m x ≡ get order m y
found_alike m x y e = ap (λ (r : ScalarKey). get_by (λ (k : Lent). read_order r (read k)) m) e

some_none : {A : Type 0} {a : A} → Some a ≡ None → ⊥
some_none e = cc

one_id : (a b : ℕ) → pos (suc a) ≡ pos (suc b) → a ≡ b
one_id a b e = cc

true_false : true ≡ false → ⊥
true_false e = cc

module _ (nodes : List yaml_node_t) (n : ℕ) where
  abbrev at : ℕ → Option ScalarKey
  at place = scalar_key_at nodes (pos (suc place))

  -- that of a scalar which was found
  pub of_found : (m : BTreeMap Lent ℕ) (key : Lent) (place : ℕ) → HasFirsts nodes n m → at n ≡ Some (read key)
      → get order m key ≡ Some place → IsFirstSame nodes n place
  of_found m key place firsts is found =
      let lt = firsts.inside key place found in
      record { at_most = omega (arith, lt); same = same_scalar (read key) (firsts.scalar key place found) is; none_before = before }
    where
      before : (other : ℕ) → other < place → ¬ IsSameKey nodes (pos (suc other)) (pos (suc n))
      before other lt (same_node e) = omega (arith, lt, one_id other n e, firsts.inside key place found)
      before other lt (same_scalar k a b) = firsts.first key place found other lt (a ∙ sym b ∙ is)

  -- and that of one which is new
  pub of_new : (m : BTreeMap Lent ℕ) (key : Lent) → HasFirsts nodes n m → at n ≡ Some (read key)
      → get order m key ≡ None → IsFirstSame nodes n n
  of_new m key firsts is none = record { at_most = omega arith; same = same_node refl; none_before = before }
    where
      before : (other : ℕ) → other < n → ¬ IsSameKey nodes (pos (suc other)) (pos (suc n))
      before other lt (same_node e) = omega (arith, lt, one_id other n e)
      before other lt (same_scalar k a b) = firsts.each key other lt (a ∙ sym b ∙ is) none

  -- after a scalar that was found
  pub after_found : (m : BTreeMap Lent ℕ) (key : Lent) (first : ℕ) → HasFirsts nodes n m → at n ≡ Some (read key)
      → get order m key ≡ Some first → HasFirsts nodes (n + 1) m
  after_found m key first firsts is found = record {
    inside = λ k place e. omega (arith, firsts.inside k place e);
    scalar = firsts.scalar;
    first = firsts.first;
    each = λ k place lt at_place. each_at k place lt at_place (cases_lt place n);
  }
    where
      each_at : (k : Lent) (place : ℕ) → place < n + 1 → at place ≡ Some (read k) → (place < n) ⊎ (n ≤ place)
          → get order m k ≢ None
      each_at k place lt at_place (inl before) none = firsts.each k place before at_place none
      each_at k place lt at_place (inr later) none =
          let here : place ≡ n = omega (arith, lt) in
          let reads : read k ≡ read key = one_some (sym at_place ∙ ap at here ∙ is) in
          some_none (sym found ∙ sym (found_alike m k key reads) ∙ none)

  -- after a new one
  pub after_new : (m new : BTreeMap Lent ℕ) (key : Lent) → HasFirsts nodes n m → at n ≡ Some (read key)
      → get order m key ≡ None → Updates order m new key (Some n) → HasFirsts nodes (n + 1) new
  after_new m new key firsts is absent updates = record {
    inside = λ k place e. inside_at k place e (decide (is_at (order key) k));
    scalar = λ k place e. scalar_of_it k place e (decide (is_at (order key) k));
    first = λ k place e other lt s. first_at k place e other lt s (decide (is_at (order key) k));
    each = λ k place lt s none. each_at k place lt s none (decide (is_at (order key) k)) (cases_lt place n);
  }
    where
      here : (k : Lent) → is_at (order key) k ≡ true → get order new k ≡ Some n
      here k e = sym (found_alike new key k (same_read key k e)) ∙ updates.1

      inside_at : (k : Lent) (place : ℕ) → get order new k ≡ Some place → (is_at (order key) k ≡ true) ⊎ (is_at (order key) k ≡ false)
          → place < n + 1
      inside_at k place e (inl alike) = omega (arith, one_some (sym (here k alike) ∙ e))
      inside_at k place e (inr apart) = omega (arith, firsts.inside k place (sym (updates.2 k apart) ∙ e))

      scalar_of_it : (k : Lent) (place : ℕ) → get order new k ≡ Some place → (is_at (order key) k ≡ true) ⊎ (is_at (order key) k ≡ false)
          → at place ≡ Some (read k)
      scalar_of_it k place e (inl alike) =
          ap at (sym (one_some (sym (here k alike) ∙ e))) ∙ is ∙ ap (λ (r : ScalarKey). Some r) (same_read key k alike)
      scalar_of_it k place e (inr apart) = firsts.scalar k place (sym (updates.2 k apart) ∙ e)

      first_at : (k : Lent) (place : ℕ) → get order new k ≡ Some place → (other : ℕ) → other < place → at other ≡ Some (read k)
          → (is_at (order key) k ≡ true) ⊎ (is_at (order key) k ≡ false) → ⊥
      first_at k place e other lt s (inl alike) =
          let place_is : n ≡ place = one_some (sym (here k alike) ∙ e) in
          firsts.each key other (omega (arith, lt, place_is)) (s ∙ ap (λ (r : ScalarKey). Some r) (sym (same_read key k alike))) absent
      first_at k place e other lt s (inr apart) = firsts.first k place (sym (updates.2 k apart) ∙ e) other lt s

      each_at : (k : Lent) (place : ℕ) → place < n + 1 → at place ≡ Some (read k) → get order new k ≡ None
          → (is_at (order key) k ≡ true) ⊎ (is_at (order key) k ≡ false) → (place < n) ⊎ (n ≤ place) → ⊥
      each_at k place lt s none (inl alike) _ = some_none (sym (here k alike) ∙ none)
      each_at k place lt s none (inr apart) (inl before) = firsts.each k place before s (sym (updates.2 k apart) ∙ none)
      each_at k place lt s none (inr apart) (inr later) =
          let place_is : place ≡ n = omega (arith, lt) in
          let reads : read key ≡ read k = one_some (sym is ∙ ap at (sym place_is) ∙ s) in
          absurd (true_false (sym (tied key k reads) ∙ apart))

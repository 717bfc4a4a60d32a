-- The ways from ids down are as many as the nodes of their trees.
use Rattle.std.proofs.Common.{◌≡◌, ◌≢◌, ℕ, zero, suc, ℤ, List, [], ◌∷◌, ◌++◌, length, map, Contains, refl, ap, sym, subst, arith, ◌∙◌, length-append}
use Rattle.std.specs.List.{AllByRecursion}
use Rattle.libyaml_documents.specs.declared.node.yaml_node_t.{yaml_node_t}
use Rattle.yaml_expansion.specs.Expansion.{TreesHave, none, first, ids_at}
use Rattle.yaml_expansion.specs.Ways.{IsWay, AreDifferent, AreTheWays}

-- what holds of each of two lists, and of what is made of each
each_of : (P : List ℕ → Type 0) (xs ys : List (List ℕ)) → AllByRecursion P xs → AllByRecursion P ys → AllByRecursion P (xs ++ ys)
each_of P [] ys h k = k
each_of P (x ∷ xs) ys h k = (h.0, each_of P xs ys h.1 k)

each_made : (P Q : List ℕ → Type 0) (f : List ℕ → List ℕ) (xs : List (List ℕ)) → ((x : List ℕ) → P x → Q (f x))
    → AllByRecursion P xs → AllByRecursion Q (map f xs)
each_made P Q f [] step h = tt
each_made P Q f (x ∷ xs) step h = (step x h.0, each_made P Q f xs step h.1)

both_hold : (P Q R : List ℕ → Type 0) (xs : List (List ℕ)) → ((x : List ℕ) → P x → Q x → R x) → AllByRecursion P xs → AllByRecursion Q xs
    → AllByRecursion R xs
both_hold P Q R [] step h k = tt
both_hold P Q R (x ∷ xs) step h k = (step x h.0 k.0, both_hold P Q R xs step h.1 k.1)

-- what is made of different ones is different
different_made : (P : List ℕ → Type 0) (f : List ℕ → List ℕ) (xs : List (List ℕ))
    → ((x y : List ℕ) → P x → P y → x ≢ y → f x ≢ f y) → AllByRecursion P xs → AreDifferent xs → AreDifferent (map f xs)
different_made P f [] keep h d = tt
different_made P f (x ∷ xs) keep h d = (
  each_made (λ y. P y × (x ≢ y)) (λ z. f x ≢ z) f xs (λ y k. keep x y h.0 k.0 k.1)
      (both_hold P (λ y. x ≢ y) (λ y. P y × (x ≢ y)) xs (λ y a b. (a, b)) h.1 d.0),
  different_made P f xs keep h.1 d.1,
)

different_lists : (P Q : List ℕ → Type 0) (xs ys : List (List ℕ)) → ((x y : List ℕ) → P x → Q y → x ≢ y) → AllByRecursion P xs
    → AllByRecursion Q ys → AreDifferent xs → AreDifferent ys → AreDifferent (xs ++ ys)
different_lists P Q [] ys apart h k d e = e
different_lists P Q (x ∷ xs) ys apart h k d e = (
  each_of (λ z. x ≢ z) xs ys d.0 (both_hold Q Q (λ z. x ≢ z) ys (λ y a b. apart x y h.0 a) k k),
  different_lists P Q xs ys apart h.1 k d.1 e,
)

-- an element of a list, of two lists, and of what is made
in_front : (xs ys : List (List ℕ)) (w : List ℕ) → Contains xs w → Contains (xs ++ ys) w
in_front [] ys w (k, lt, e) = absurd (omega (arith, lt))
in_front (x ∷ xs) ys w (zero, lt, e) = (zero, omega arith, e)
in_front (x ∷ xs) ys w (suc k, lt, e) =
    let r = in_front xs ys w (k, omega (arith, lt), e) in (suc r.0, omega (arith, r.1), r.2)

behind : (xs ys : List (List ℕ)) (w : List ℕ) → Contains ys w → Contains (xs ++ ys) w
behind [] ys w h = h
behind (x ∷ xs) ys w h = let r = behind xs ys w h in (suc r.0, omega (arith, r.1), r.2)

made : (f : List ℕ → List ℕ) (xs : List (List ℕ)) (w : List ℕ) → Contains xs w → Contains (map f xs) (f w)
made f [] w (k, lt, e) = absurd (omega (arith, lt))
made f (x ∷ xs) w (zero, lt, e) = (zero, omega arith, ap f e)
made f (x ∷ xs) w (suc k, lt, e) = let r = made f xs w (k, omega (arith, lt), e) in (suc r.0, omega (arith, r.1), r.2)

length_made : (f : List ℕ → List ℕ) (xs : List (List ℕ)) → length (map f xs) ≡ length xs
length_made f [] = refl
length_made f (x ∷ xs) = let r = length_made f xs in omega (arith, r)

-- a way through the first id, and one through a later
abbrev below : List ℕ → List ℕ
below numbers = 0 ∷ numbers

abbrev later : List ℕ → List ℕ
later [] = []
later (number ∷ numbers) = suc number ∷ numbers

module _ (nodes : List yaml_node_t) where
  way_below : (id : ℤ) (ids : List ℤ) (w : List ℕ) → IsWay nodes (ids_at nodes id) w → IsWay nodes (id ∷ ids) (below w)
  way_below id ids [] h = absurd h
  way_below id ids (n ∷ ns) h = (id, refl, h)

  way_later : (id : ℤ) (ids : List ℤ) (w : List ℕ) → IsWay nodes ids w → IsWay nodes (id ∷ ids) (later w)
  way_later id ids w h = grind arith

  not_alone : (ids : List ℤ) (w : List ℕ) → IsWay nodes ids w → (0 ∷ []) ≢ below w
  not_alone ids w h e = grind arith

  not_later : (ids : List ℤ) (w : List ℕ) → IsWay nodes ids w → (v : List ℕ) → (0 ∷ v) ≢ later w
  not_later ids w h v e = grind arith

  later_apart : (ids : List ℤ) (v w : List ℕ) → IsWay nodes ids v → IsWay nodes ids w → v ≢ w → later v ≢ later w
  later_apart ids v w h k ne e = grind arith

  all_found : (id : ℤ) (ids : List ℤ) (bs ss : List (List ℕ)) → ((w : List ℕ) → IsWay nodes (ids_at nodes id) w → Contains bs w)
      → ((w : List ℕ) → IsWay nodes ids w → Contains ss w) → (w : List ℕ) → IsWay nodes (id ∷ ids) w
      → Contains ((0 ∷ []) ∷ (map below bs ++ map later ss)) w
  all_found id ids bs ss in_bs in_ss [] h = absurd h
  all_found id ids bs ss in_bs in_ss (zero ∷ []) h = (0, omega arith, refl)
  all_found id ids bs ss in_bs in_ss (zero ∷ m ∷ ns) h =
      let same : h.0 ≡ id = cc (h.1) in
      let way = subst (λ (i : ℤ). IsWay nodes (ids_at nodes i) (m ∷ ns)) same h.2 in
      let r = in_front (map below bs) (map later ss) (0 ∷ m ∷ ns) (made below bs (m ∷ ns) (in_bs (m ∷ ns) way)) in
      (suc r.0, omega (arith, r.1), r.2)
  all_found id ids bs ss in_bs in_ss (suc k ∷ []) h =
      let r = behind (map below bs) (map later ss) (suc k ∷ []) (made later ss (k ∷ []) (in_ss (k ∷ []) h)) in
      (suc r.0, omega (arith, r.1), r.2)
  all_found id ids bs ss in_bs in_ss (suc k ∷ m ∷ ns) h =
      let r = behind (map below bs) (map later ss) (suc k ∷ m ∷ ns) (made later ss (k ∷ m ∷ ns) (in_ss (k ∷ m ∷ ns) h)) in
      (suc r.0, omega (arith, r.1), r.2)

  no_way : (w : List ℕ) → IsWay nodes [] w → Contains [] w
  no_way [] h = absurd h
  no_way (n ∷ []) h = absurd (cc (h))
  no_way (n ∷ m ∷ ns) h = absurd (cc (h.1))

  pub ways_of_trees : (ids : List ℤ) (n : ℕ) → TreesHave nodes ids n → (ways : List (List ℕ)) × AreTheWays nodes ids ways × (length ways ≡ n)
  ways_of_trees ids n none = ([], record { each = tt; all = no_way; different = tt }, refl)
  ways_of_trees ids n (first id rest b s below_has beside_has) =
      let bs = ways_of_trees (ids_at nodes id) b below_has in
      let ss = ways_of_trees rest s beside_has in
      let down = each_made (IsWay nodes (ids_at nodes id)) (IsWay nodes (id ∷ rest)) below bs.0 (way_below id rest) bs.1.each in
      let on = each_made (IsWay nodes rest) (IsWay nodes (id ∷ rest)) later ss.0 (way_later id rest) ss.1.each in (
        (0 ∷ []) ∷ (map below bs.0 ++ map later ss.0),
        record {
          each = (refl, each_of (IsWay nodes (id ∷ rest)) (map below bs.0) (map later ss.0) down on);
          all = all_found id rest bs.0 ss.0 bs.1.all ss.1.all;
          different = (
            each_of (λ z. (0 ∷ []) ≢ z) (map below bs.0) (map later ss.0)
                (each_made (IsWay nodes (ids_at nodes id)) (λ z. (0 ∷ []) ≢ z) below bs.0 (not_alone (ids_at nodes id)) bs.1.each)
                (each_made (IsWay nodes rest) (λ z. (0 ∷ []) ≢ z) later ss.0 (λ w h. not_later rest w h []) ss.1.each),
            different_lists (λ z. (v : List ℕ) × (z ≡ 0 ∷ v)) (λ z. (w : List ℕ) × IsWay nodes rest w × (z ≡ later w))
                (map below bs.0) (map later ss.0)
                (λ x y p q e. not_later rest q.0 q.1 p.0 (sym p.1 ∙ (e ∙ q.2)))
                (each_made (IsWay nodes (ids_at nodes id)) (λ z. (v : List ℕ) × (z ≡ 0 ∷ v)) below bs.0 (λ w h. (w, refl)) bs.1.each)
                (each_made (IsWay nodes rest) (λ z. (w : List ℕ) × IsWay nodes rest w × (z ≡ later w)) later ss.0
                (λ w h. (w, h, refl)) ss.1.each)
                (different_made (IsWay nodes (ids_at nodes id)) below bs.0 (λ x y h k ne e. ne (cc)) bs.1.each bs.1.different)
                (different_made (IsWay nodes rest) later ss.0 (later_apart rest) ss.1.each ss.1.different),
          );
        },
        omega (arith, length-append (map below bs.0) (map later ss.0), length_made below bs.0, length_made later ss.0, bs.2, ss.2),
      )

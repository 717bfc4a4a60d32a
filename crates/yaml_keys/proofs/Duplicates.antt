-- Duplicate keys of a document, mapping by mapping.
use Rattle.std.proofs.Common.{◌≡◌, ◌⊎◌, inl, inr, ◌<◌, ◌≤◌, ◌+◌, ◌<ℤ◌, ℕ, zero, suc, ℤ, pos, negsuc, List, [], ◌∷◌, All, Option, Some, None, length, map, get_or, refl, sym, subst, ap, ◌∙◌, arith}
use Rattle.std.proofs.lemmas.Bool.{cases_lt}
use Rattle.std.proofs.lemmas.Int.{ints}
use Rattle.std.proofs.lemmas.List.{get_or-map, length-map}
use Rattle.std.proofs.lemmas.List.Elements.{All-get_or, All-from_recursion, recursion_from_All}
use Rattle.std.proofs.lemmas.Option.{slice_get-get_or}
use Rattle.std.specs.Prelude.{slice_get, option_and_then}
use Rattle.std.specs.Option.{option_map}
use Rattle.libyaml_documents.specs.declared.pairs.yaml_node_pair_t.{yaml_node_pair_t}
use Rattle.libyaml_documents.specs.declared.node.yaml_node_t.{yaml_node_t}
use Rattle.libyaml_documents.specs.declared.node.unnamed_yaml_node_t_data.{unnamed_yaml_node_t_data}
use Rattle.libyaml_documents.specs.declared.node.unnamed_yaml_node_t_data.TheVariants.{Scalar, Sequence, Mapping}
use Rattle.libyaml_documents.specs.Nodes.{EveryIdNamesANode, IsIdUpTo, ids_of, ids_of_pairs, pairs_of}
use Rattle.std.specs.List.{AllByRecursion}
use Rattle.yaml_keys.specs.declared.duplicate.yaml_duplicate_key_t.{yaml_duplicate_key_t}
use Rattle.yaml_keys.specs.Keys.{AreClasses, IsDuplicate, IsBefore, IsFirstDuplicate, key_at}
use Rattle.yaml_keys.specs.Repeats.{class_at, IsRepeat, IsFirstRepeat}
use Rattle.yaml_keys.proofs.SameKeys.{class_of_same, one_some, same_of_class}

abbrev no_pair : yaml_node_pair_t
no_pair = record { key = pos 0; value = pos 0 }

-- the key of a pair that there is
key_here : (pairs : List yaml_node_pair_t) (i : ℕ) (key : ℤ) → option_map (λ (p : yaml_node_pair_t). p.key) (slice_get pairs i) ≡ Some key
    → (i < length pairs) × ((get_or pairs i no_pair).key ≡ key)
key_here [] i key e = absurd (cc)
key_here (p ∷ pairs) zero key e = (omega arith, one_some e)
key_here (p ∷ pairs) (suc i) key e =
    let h = key_here pairs i key e in
    (omega (arith, h.0), h.1)

key_there : (pairs : List yaml_node_pair_t) (i : ℕ) → i < length pairs
    → option_map (λ (p : yaml_node_pair_t). p.key) (slice_get pairs i) ≡ Some (get_or pairs i no_pair).key
key_there pairs i lt = ap (λ (o : Option yaml_node_pair_t). option_map (λ (p : yaml_node_pair_t). p.key) o) (slice_get-get_or pairs i no_pair lt)

-- a mapping that has a key is one of the nodes
mapping_named : (nodes : List yaml_node_t) (mapping : ℤ) (i : ℕ) (key : ℤ) → key_at nodes mapping i ≡ Some key
    → (m : ℕ) × (mapping ≡ pos (suc m)) × (m < length nodes)
mapping_named nodes (negsuc m) i key e = absurd (cc)
mapping_named nodes (pos zero) i key e = absurd (cc)
mapping_named nodes (pos (suc m)) i key e = (m, refl, inside nodes m e)
  where
    inside : (l : List yaml_node_t) (k : ℕ)
        → option_and_then (λ (node : yaml_node_t). option_map (λ (p : yaml_node_pair_t). p.key) (slice_get (pairs_of node.content) i)) (slice_get l k) ≡ Some key
        → k < length l
    inside [] k h = absurd (cc)
    inside (x ∷ l) zero h = omega arith
    inside (x ∷ l) (suc k) h = omega (arith, inside l k h)

module _ (nodes : List yaml_node_t) (classes : List ℕ) (are : AreClasses nodes classes) where
  abbrev classes_in : List yaml_node_pair_t → List ℕ
  classes_in pairs = map (λ (pair : yaml_node_pair_t). class_at classes pair.key) pairs

  class_here : (pairs : List yaml_node_pair_t) (i : ℕ) → i < length pairs
      → get_or (classes_in pairs) i 0 ≡ class_at classes (get_or pairs i no_pair).key
  class_here pairs i lt = get_or-map (λ (pair : yaml_node_pair_t). class_at classes pair.key) pairs i no_pair 0 lt

  module _ (m : ℕ) (node : yaml_node_t) (at : slice_get nodes m ≡ Some node) where
    keys_at : (i : ℕ) → key_at nodes (pos (suc m)) i ≡ option_map (λ (p : yaml_node_pair_t). p.key) (slice_get (pairs_of node.content) i)
    keys_at i = ap (λ (o : Option yaml_node_t). option_and_then (λ (x : yaml_node_t). option_map (λ (p : yaml_node_pair_t). p.key) (slice_get (pairs_of x.content) i)) o) at

    -- a duplicate of this mapping is a repeat among its classes
    to_repeat : (d : yaml_duplicate_key_t) → IsDuplicate nodes d → d.mapping ≡ pos (suc m)
        → IsRepeat (classes_in (pairs_of node.content)) d.first d.second
    to_repeat d h e =
        let pairs = pairs_of node.content in
        let first = key_here pairs d.first h.key (sym (keys_at d.first) ∙ ap (λ (x : ℤ). key_at nodes x d.first) (sym e) ∙ h.first) in
        let second = key_here pairs d.second h.again (sym (keys_at d.second) ∙ ap (λ (x : ℤ). key_at nodes x d.second) (sym e) ∙ h.second) in
        record {
          order = h.order;
          inside = omega (arith, second.0, length-map pairs (λ (pair : yaml_node_pair_t). class_at classes pair.key));
          same = class_here pairs d.first first.0 ∙ ap (λ (x : ℤ). class_at classes x) first.1
              ∙ class_of_same nodes classes are h.key h.again h.same ∙ ap (λ (x : ℤ). class_at classes x) (sym second.1)
              ∙ sym (class_here pairs d.second second.0);
        }

    -- and back
    from_repeat : (i j : ℕ) → All (λ (pair : yaml_node_pair_t). IsIdUpTo (length classes) pair.key) (pairs_of node.content)
        → IsRepeat (classes_in (pairs_of node.content)) i j → IsDuplicate nodes (record { mapping = pos (suc m); first = i; second = j })
    from_repeat i j ids r =
        let pairs = pairs_of node.content in
        let lj : j < length pairs = omega (arith, r.inside, length-map pairs (λ (pair : yaml_node_pair_t). class_at classes pair.key)) in
        let li : i < length pairs = omega (arith, r.order, lj) in
        let id : (k : ℕ) → k < length pairs → IsIdUpTo (length nodes) (get_or pairs k no_pair).key =
        λ k lt. subst (λ (n : ℕ). IsIdUpTo n (get_or pairs k no_pair).key) are.count
        (All-get_or (λ (pair : yaml_node_pair_t). IsIdUpTo (length classes) pair.key) pairs k no_pair lt ids) in
        record {
          key = (get_or pairs i no_pair).key;
          again = (get_or pairs j no_pair).key;
          first = keys_at i ∙ key_there pairs i li;
          second = keys_at j ∙ key_there pairs j lj;
          order = r.order;
          same = same_of_class nodes classes are (get_or pairs i no_pair).key (get_or pairs j no_pair).key (id i li) (id j lj)
              (sym (class_here pairs i li) ∙ r.same ∙ class_here pairs j lj);
        }

-- the mappings among the first nodes have no duplicate
abbrev pub NoneBefore : List yaml_node_t → (place : ℕ) → Type 0
NoneBefore nodes place = (d : yaml_duplicate_key_t) (m : ℕ) → IsDuplicate nodes d → d.mapping ≡ pos (suc m) → place ≤ m

pub none_yet : (nodes : List yaml_node_t) → NoneBefore nodes 0
none_yet nodes d m h e = omega arith

pub none_here : (nodes : List yaml_node_t) (classes : List ℕ) → AreClasses nodes classes → (place : ℕ) (node : yaml_node_t)
    → slice_get nodes place ≡ Some node → NoneBefore nodes place
    → IsFirstRepeat (map (λ (pair : yaml_node_pair_t). class_at classes pair.key) (pairs_of node.content)) None
    → NoneBefore nodes (place + 1)
none_here nodes classes are place node at before none d m h e = later (before d m h e) (cases_lt place m)
  where
    later : place ≤ m → (place < m) ⊎ (m ≤ place) → place + 1 ≤ m
    later le (inl lt) = omega (arith, lt)
    later le (inr ge) =
        let here : m ≡ place = omega (arith, le, ge) in
        absurd (none d.first d.second (to_repeat nodes classes are place node at d h (e ∙ ap (λ (k : ℕ). pos (suc k)) here)))

pub none_at_all : (nodes : List yaml_node_t) (place : ℕ) → NoneBefore nodes place → length nodes ≤ place → IsFirstDuplicate nodes None
none_at_all nodes place before all d h =
    let named = mapping_named nodes d.mapping d.first h.key h.first in
    omega (arith, before d named.0 h named.1, named.2, all)

abbrev pub the_keys : ℤ → ℕ → ℕ → yaml_duplicate_key_t
the_keys x y z = record { mapping = x; first = y; second = z }

pub alike : (m : ℤ) (i j : ℕ) (d : yaml_duplicate_key_t) → m ≡ d.mapping → i ≡ d.first → j ≡ d.second
    → record { mapping = m; first = i; second = j } ≡ d
alike m i j d a b c =
    ap (λ (x : ℤ). the_keys x i j) a ∙ ap (λ (x : ℕ). the_keys d.mapping x j) b ∙ ap (λ (x : ℕ). the_keys d.mapping d.first x) c

-- the keys of a node's pairs name nodes
pub keys_named : (nodes : List yaml_node_t) (n place : ℕ) (node : yaml_node_t) → length nodes ≡ n → EveryIdNamesANode nodes → place < length nodes
    → node ≡ get_or nodes place node → All (λ (pair : yaml_node_pair_t). IsIdUpTo n pair.key) (pairs_of node.content)
keys_named nodes n place node count ids lt is =
    subst (λ (k : ℕ). All (λ (pair : yaml_node_pair_t). IsIdUpTo k pair.key) (pairs_of node.content)) count
    (of_content node.content (subst (λ (x : yaml_node_t). All (IsIdUpTo (length nodes)) (ids_of x.content)) (sym is)
    (All-get_or (λ (x : yaml_node_t). All (IsIdUpTo (length nodes)) (ids_of x.content)) nodes place node lt ids)))
  where
    of_pairs : (pairs : List yaml_node_pair_t) → AllByRecursion (IsIdUpTo (length nodes)) (ids_of_pairs pairs)
        → AllByRecursion (λ (pair : yaml_node_pair_t). IsIdUpTo (length nodes) pair.key) pairs
    of_pairs [] h = tt
    of_pairs (p ∷ pairs) h = (h.0, of_pairs pairs h.1.1)

    of_content : (c : unnamed_yaml_node_t_data) → All (IsIdUpTo (length nodes)) (ids_of c)
        → All (λ (pair : yaml_node_pair_t). IsIdUpTo (length nodes) pair.key) (pairs_of c)
    of_content (Scalar s) h = All-from_recursion (λ (pair : yaml_node_pair_t). IsIdUpTo (length nodes) pair.key) [] tt
    of_content (Sequence s) h = All-from_recursion (λ (pair : yaml_node_pair_t). IsIdUpTo (length nodes) pair.key) [] tt
    of_content (Mapping m) h =
        All-from_recursion (λ (pair : yaml_node_pair_t). IsIdUpTo (length nodes) pair.key) m.pairs
        (of_pairs m.pairs (recursion_from_All (IsIdUpTo (length nodes)) (ids_of_pairs m.pairs) h))

pub first_here : (nodes : List yaml_node_t) (classes : List ℕ) → AreClasses nodes classes → (place : ℕ) (node : yaml_node_t)
    → slice_get nodes place ≡ Some node → NoneBefore nodes place
    → All (λ (pair : yaml_node_pair_t). IsIdUpTo (length classes) pair.key) (pairs_of node.content) → (i j : ℕ)
    → IsFirstRepeat (map (λ (pair : yaml_node_pair_t). class_at classes pair.key) (pairs_of node.content)) (Some (i, j))
    → IsFirstDuplicate nodes (Some (the_keys (pos (suc place)) i j))
first_here nodes classes are place node at before ids i j r = (from_repeat nodes classes are place node at i j ids r.0, λ other h. compare other h)
  where
    compare : (other : yaml_duplicate_key_t) → IsDuplicate nodes other
        → IsBefore (record { mapping = pos (suc place); first = i; second = j }) other
        ⊎ (record { mapping = pos (suc place); first = i; second = j } ≡ other)
    compare other h = by (mapping_named nodes other.mapping other.first h.key h.first)
      where
        within : (m : ℕ) → other.mapping ≡ pos (suc m) → m ≡ place
            → (j < other.second) ⊎ ((j ≡ other.second) × (i ≡ other.first))
            → IsBefore (record { mapping = pos (suc place); first = i; second = j }) other
            ⊎ (record { mapping = pos (suc place); first = i; second = j } ≡ other)
        within m e here (inl lt) = inl (inr (ap (λ (k : ℕ). pos (suc k)) (sym here) ∙ sym e, lt))
        within m e here (inr same) =
            inr (alike (pos (suc place)) i j other (ap (λ (k : ℕ). pos (suc k)) (sym here) ∙ sym e) same.1 same.0)

        at_mapping : (m : ℕ) → other.mapping ≡ pos (suc m) → (place < m) ⊎ (m ≤ place)
            → IsBefore (record { mapping = pos (suc place); first = i; second = j }) other
            ⊎ (record { mapping = pos (suc place); first = i; second = j } ≡ other)
        at_mapping m e (inl lt) = inl (inl (subst (λ (x : ℤ). pos (suc place) <ℤ x) (sym e) (omega (arith, ints, lt))))
        at_mapping m e (inr le) =
            let here : m ≡ place = omega (arith, le, before other m h e) in
            within m e here (r.1 other.first other.second
            (to_repeat nodes classes are place node at other h (e ∙ ap (λ (k : ℕ). pos (suc k)) here)))

        by : (m : ℕ) × (other.mapping ≡ pos (suc m)) × (m < length nodes)
            → IsBefore (record { mapping = pos (suc place); first = i; second = j }) other
            ⊎ (record { mapping = pos (suc place); first = i; second = j } ≡ other)
        by named = at_mapping named.0 named.1 (cases_lt place named.0)

-- Classes: ids with one class are the same key.
use Rattle.std.proofs.Common.{◌≡◌, ◌⊎◌, inl, inr, ◌<◌, ◌≤◌, ℕ, zero, suc, ℤ, pos, negsuc, List, [], ◌∷◌, Some, length, get_or, sym, subst, ap, ◌∙◌, arith}
use Rattle.std.proofs.lemmas.Bool.{cases_lt}
use Rattle.std.proofs.lemmas.Int.{ints}
use Rattle.libyaml_documents.specs.declared.node.yaml_node_t.{yaml_node_t}
use Rattle.libyaml_documents.specs.Nodes.{IsIdUpTo}
use Rattle.yaml_keys.specs.Keys.{ScalarKey, scalar_key_at, IsSameKey, same_node, same_scalar, AreClasses}
use Rattle.yaml_keys.specs.Repeats.{class_at}

pub one_some : {A : Type 0} {a b : A} → Some a ≡ Some b → a ≡ b
one_some e = cc

pub back : {nodes : List yaml_node_t} {a b : ℤ} → IsSameKey nodes a b → IsSameKey nodes b a
back (same_node e) = same_node (sym e)
back (same_scalar k a b) = same_scalar k b a

pub through : {nodes : List yaml_node_t} {a b c : ℤ} → IsSameKey nodes a b → IsSameKey nodes b c → IsSameKey nodes a c
through {nodes} {a} {b} {c} (same_node e) s = subst (λ (x : ℤ). IsSameKey nodes x c) (sym e) s
through {nodes} {a} {b} {c} (same_scalar k x y) (same_node e) =
    subst (λ (z : ℤ). IsSameKey nodes a z) e (same_scalar k x y)
through (same_scalar k x y) (same_scalar l z w) = same_scalar k x (w ∙ sym z ∙ y)

-- a scalar's id names one of the nodes
named : (nodes : List yaml_node_t) (n : ℕ) (k : ScalarKey) → scalar_key_at nodes (pos (suc n)) ≡ Some k → n < length nodes
named [] n k e = absurd (cc)
named (x ∷ nodes) zero k e = omega arith
named (x ∷ nodes) (suc n) k e = omega (arith, named nodes n k e)

module _ (nodes : List yaml_node_t) (classes : List ℕ) (are : AreClasses nodes classes) where
  one_class : (a b : ℕ) → a < length nodes → b < length nodes → IsSameKey nodes (pos (suc a)) (pos (suc b))
      → (get_or classes a 0 < get_or classes b 0 → ⊥)
  one_class a b la lb s lt =
      let of_a = are.each a la in
      let of_b = are.each b lb in
      of_b.none_before (get_or classes a 0) lt (through of_a.same s)

  places_agree : (a b : ℕ) → a < length nodes → b < length nodes → IsSameKey nodes (pos (suc a)) (pos (suc b))
      → get_or classes a 0 ≡ get_or classes b 0
  places_agree a b la lb s =
      agree (cases_lt (get_or classes a 0) (get_or classes b 0)) (cases_lt (get_or classes b 0) (get_or classes a 0))
    where
      agree : (get_or classes a 0 < get_or classes b 0) ⊎ (get_or classes b 0 ≤ get_or classes a 0)
          → (get_or classes b 0 < get_or classes a 0) ⊎ (get_or classes a 0 ≤ get_or classes b 0)
          → get_or classes a 0 ≡ get_or classes b 0
      agree (inl lt) _ = absurd (one_class a b la lb s lt)
      agree (inr le) (inl lt) = absurd (one_class b a lb la (back s) lt)
      agree (inr le) (inr ge) = omega arith

  -- the same key has one class
  pub class_of_same : (a b : ℤ) → IsSameKey nodes a b → class_at classes a ≡ class_at classes b
  class_of_same a b (same_node e) = ap (λ (x : ℤ). class_at classes x) e
  class_of_same (pos (suc a)) (pos (suc b)) (same_scalar k x y) =
      places_agree a b (named nodes a k x) (named nodes b k y) (same_scalar k x y)
  class_of_same (pos zero) b (same_scalar k x y) = absurd (cc)
  class_of_same (negsuc a) b (same_scalar k x y) = absurd (cc)
  class_of_same (pos (suc a)) (pos zero) (same_scalar k x y) = absurd (cc)
  class_of_same (pos (suc a)) (negsuc b) (same_scalar k x y) = absurd (cc)

  -- and one class is one key
  pub same_of_class : (a b : ℤ) → IsIdUpTo (length nodes) a → IsIdUpTo (length nodes) b
      → class_at classes a ≡ class_at classes b → IsSameKey nodes a b
  same_of_class (pos (suc a)) (pos (suc b)) ia ib e =
      let of_a = are.each a (omega (arith, ints, ia.1)) in
      let of_b = are.each b (omega (arith, ints, ib.1)) in
      through (back of_a.same) (subst (λ (x : ℕ). IsSameKey nodes (pos (suc x)) (pos (suc b))) (sym e) of_b.same)
  same_of_class (pos zero) b ia ib e = absurd (omega (arith, ints, ia.0))
  same_of_class (negsuc a) b ia ib e = absurd (omega (arith, ints, ia.0))
  same_of_class (pos (suc a)) (pos zero) ia ib e = absurd (omega (arith, ints, ib.0))
  same_of_class (pos (suc a)) (negsuc b) ia ib e = absurd (omega (arith, ints, ib.0))

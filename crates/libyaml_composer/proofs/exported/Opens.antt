-- The collections that are open are nodes of their kinds with so many children, and an inner one has a larger id.
use Rattle.std.proofs.Common.{◌≡◌, ◌<◌, ◌≤◌, ◌++◌, ◌∷◌, List, [], ℕ, zero, suc, ℤ, length, arith, refl, sym, ap, subst, Option, Some, slice_get, option_map}
use Rattle.std.proofs.lemmas.Int.{ints}
use Rattle.libyaml_documents.specs.Nodes.{IsIdUpTo, changed_at}
use Rattle.libyaml_documents.specs.declared.node.yaml_node_t.{yaml_node_t}
use Rattle.libyaml_composer.specs.declared.records.open_t.{open_t}
use Rattle.libyaml_composer.specs.Represents.{IsOpenNode, Opens}

-- a node among others
pub get_other : (f : yaml_node_t → yaml_node_t) (nodes : List yaml_node_t) (j k : ℕ) → (k ≡ j → ⊥)
    → slice_get (changed_at j f nodes) k ≡ slice_get nodes k
get_other f [] j k h = refl
get_other f (x ∷ xs) zero zero h = absurd (h refl)
get_other f (x ∷ xs) zero (suc k) h = refl
get_other f (x ∷ xs) (suc j) zero h = refl
get_other f (x ∷ xs) (suc j) (suc k) h = get_other f xs j k (λ e. h (ap suc e))

pub get_there : (f : yaml_node_t → yaml_node_t) (nodes : List yaml_node_t) (k : ℕ)
    → slice_get (changed_at k f nodes) k ≡ option_map f (slice_get nodes k)
get_there f [] k = refl
get_there f (x ∷ xs) zero = refl
get_there f (x ∷ xs) (suc k) = get_there f xs k

pub get_among : {A : Type 0} (xs more : List A) (k : ℕ) → k < length xs → slice_get (xs ++ more) k ≡ slice_get xs k
get_among [] more k h = absurd (omega arith)
get_among (x ∷ xs) more zero h = refl
get_among (x ∷ xs) more (suc k) h = get_among xs more k (omega arith)

pub get_last : {A : Type 0} (xs : List A) (x : A) → slice_get (xs ++ x ∷ []) (length xs) ≡ Some x
get_last [] x = refl
get_last (y ∷ xs) x = get_last xs x

pub length_changed : (k : ℕ) (f : yaml_node_t → yaml_node_t) (nodes : List yaml_node_t)
    → length (changed_at k f nodes) ≡ length nodes
length_changed k f [] = refl
length_changed zero f (x ∷ nodes) = refl
length_changed (suc k) f (x ∷ nodes) = ap suc (length_changed k f nodes)

-- nodes that a change leaves alike
pub changed_same : (f g : yaml_node_t → yaml_node_t) (nodes : List yaml_node_t) (k : ℕ)
    → option_map f (slice_get nodes k) ≡ option_map g (slice_get nodes k) → changed_at k f nodes ≡ changed_at k g nodes
changed_same f g [] k e = refl
changed_same f g (x ∷ xs) zero e = cc
changed_same f g (x ∷ xs) (suc k) e = ap (λ (l : List yaml_node_t). x ∷ l) (changed_same f g xs k e)

pub unchanged : (nodes : List yaml_node_t) (k : ℕ) → nodes ≡ changed_at k (λ (x : yaml_node_t). x) nodes
unchanged [] k = refl
unchanged (x ∷ xs) zero = refl
unchanged (x ∷ xs) (suc k) = ap (λ (l : List yaml_node_t). x ∷ l) (unchanged xs k)

-- a later node changes, or comes after the others
pub opens_other : (f : yaml_node_t → yaml_node_t) (most : ℕ) (nodes : List yaml_node_t) (j n : ℕ) (s : List open_t) → n ≤ j
    → Opens most nodes n s → Opens most (changed_at j f nodes) n s
opens_other f most nodes j n [] le h = tt
opens_other f most nodes j n (o ∷ s) le (k, is, lt, here, key, rest) = (
  k,
  is,
  lt,
  subst (λ (x : Option yaml_node_t). IsOpenNode x o) (sym (get_other f nodes j k (λ e. absurd (omega arith)))) here,
  key,
  opens_other f most nodes j k s (omega arith) rest,
)

pub opens_more : (most : ℕ) (nodes l : List yaml_node_t) (n : ℕ) (s : List open_t) → n ≤ length nodes
    → Opens most nodes n s → Opens most (nodes ++ l) n s
opens_more most nodes l n [] le h = tt
opens_more most nodes l n (o ∷ s) le (k, is, lt, here, key, rest) = (
  k,
  is,
  lt,
  subst (λ (x : Option yaml_node_t). IsOpenNode x o) (sym (get_among nodes l k (omega arith))) here,
  key,
  opens_more most nodes l k s (omega arith) rest,
)

pub id_more : (n m : ℕ) (z : ℤ) → n ≤ m → IsIdUpTo n z → IsIdUpTo m z
id_more n m z le h = (h.0, omega (arith, ints, h.1, le))

pub opens_wider : (most more : ℕ) (nodes : List yaml_node_t) (n m : ℕ) (s : List open_t) → most ≤ more → n ≤ m
    → Opens most nodes n s → Opens more nodes m s
opens_wider most more nodes n m [] up le h = tt
opens_wider most more nodes n m (o ∷ s) up le (k, is, lt, here, key, rest) = (
  k,
  is,
  omega arith,
  here,
  λ e. id_more most more o.key up (key e),
  opens_wider most more nodes k k s up (omega arith) rest,
)

-- The ids of items and values name nodes of their document.
use Rattle.std.proofs.Common.{◌≡◌, ℕ, zero, suc, ℤ, pos, negsuc, List, [], ◌∷◌, All, IfSome, Option, Some, None, Bool, true, false, cond, length, slice_get, sym, subst}
use Rattle.std.specs.List.{AllByRecursion, find}
use Rattle.std.specs.Option.{option_map}
use Rattle.std.specs.Prelude.{option_and_then}
use Rattle.std.proofs.lemmas.List.Elements.{recursion_from_All}
use Rattle.libyaml_documents.specs.declared.pairs.yaml_node_pair_t.{yaml_node_pair_t}
use Rattle.libyaml_documents.specs.declared.node.yaml_node_t.{yaml_node_t}
use Rattle.libyaml_documents.specs.declared.node.unnamed_yaml_node_t_data.{unnamed_yaml_node_t_data}
use Rattle.libyaml_documents.specs.declared.node.unnamed_yaml_node_t_data.TheVariants.{Scalar, Sequence, Mapping}
use Rattle.libyaml_documents.specs.Nodes.{ids_of, ids_of_pairs, items_of, pairs_of, node_at, IsIdUpTo, EveryIdNamesANode}
use Rattle.yaml_path.specs.Paths.{item_at, value_at, pair_of, is_scalar_at}

-- what holds of each element holds of the one at an index, and of the first that passes a test
at_index : {X : Type 0} (P : X → Type 0) (xs : List X) (i : ℕ) → AllByRecursion P xs → IfSome (slice_get xs i) P
at_index P [] i h = tt
at_index P (x ∷ xs) zero h = h.0
at_index P (x ∷ xs) (suc i) h = at_index P xs i h.1

first_of : {X : Type 0} (P : X → Type 0) (test : X → Bool) (xs : List X) → AllByRecursion P xs → IfSome (find test xs) P
first_of P test [] h = tt
first_of P test (x ∷ xs) h =
    elim (test x) as (λ b. IfSome (cond b (Some x) (find test xs)) P) [ true ↦ h.0 | false ↦ first_of P test xs h.1 ]

-- the ids of a node, where it is asked for its items or its pairs
items_hold : (P : ℤ → Type 0) (c : unnamed_yaml_node_t_data) → All P (ids_of c) → AllByRecursion P (items_of c)
items_hold P (Scalar s) h = tt
items_hold P (Sequence s) h = recursion_from_All P s.items h
items_hold P (Mapping m) h = tt

values_of_pairs : (P : ℤ → Type 0) (l : List yaml_node_pair_t) → AllByRecursion P (ids_of_pairs l)
    → AllByRecursion (λ (p : yaml_node_pair_t). P p.value) l
values_of_pairs P [] h = tt
values_of_pairs P (p ∷ l) h = (h.1.0, values_of_pairs P l h.1.1)

values_hold : (P : ℤ → Type 0) (c : unnamed_yaml_node_t_data) → All P (ids_of c)
    → AllByRecursion (λ (p : yaml_node_pair_t). P p.value) (pairs_of c)
values_hold P (Scalar s) h = tt
values_hold P (Sequence s) h = tt
values_hold P (Mapping m) h = values_of_pairs P m.pairs (recursion_from_All P (ids_of_pairs m.pairs) h)

node_holds : (P : yaml_node_t → Type 0) (nodes : List yaml_node_t) (id : ℤ) → All P nodes → IfSome (node_at nodes id) P
node_holds P nodes (negsuc n) h = tt
node_holds P nodes (pos zero) h = tt
node_holds P nodes (pos (suc n)) h = at_index P nodes n (recursion_from_All P nodes h)

then_holds : {X : Type 0} (Q : X → Type 0) (P : ℤ → Type 0) (o : Option X) (f : X → Option ℤ)
    → ((x : X) → Q x → IfSome (f x) P) → IfSome o Q
    → IfSome (option_and_then f o) P
then_holds Q P None f each h = tt
then_holds Q P (Some x) f each h = each x h

mapped_holds : (P : ℤ → Type 0) (o : Option yaml_node_pair_t) → IfSome o (λ (p : yaml_node_pair_t). P p.value)
    → IfSome (option_map (λ (p : yaml_node_pair_t). p.value) o) P
mapped_holds P None h = tt
mapped_holds P (Some p) h = h

-- the id of an item, and that of a value
pub item_names : (nodes : List yaml_node_t) (id : ℤ) (index : ℕ) → EveryIdNamesANode nodes
    → IfSome (item_at nodes id index) (IsIdUpTo (length nodes))
item_names nodes id index h =
    let P = IsIdUpTo (length nodes) in
    let Q = λ (node : yaml_node_t). All P (ids_of node.content) in
    then_holds Q P (node_at nodes id) (λ (node : yaml_node_t). slice_get (items_of node.content) index)
    (λ node k. at_index P (items_of node.content) index (items_hold P node.content k))
    (node_holds Q nodes id h)

pub value_names : (nodes : List yaml_node_t) (id : ℤ) (key : List ℕ) → EveryIdNamesANode nodes
    → IfSome (value_at nodes id key) (IsIdUpTo (length nodes))
value_names nodes id key h =
    let P = IsIdUpTo (length nodes) in
    let Q = λ (node : yaml_node_t). All P (ids_of node.content) in
    then_holds Q P (node_at nodes id)
    (λ (node : yaml_node_t). option_map (λ (pair : yaml_node_pair_t). pair.value)
    (pair_of nodes key (pairs_of node.content)))
    (λ node k. mapped_holds P (pair_of nodes key (pairs_of node.content))
    (first_of (λ (p : yaml_node_pair_t). P p.value) (λ (p : yaml_node_pair_t). is_scalar_at nodes key p.key)
    (pairs_of node.content)
    (values_hold P node.content k)))
    (node_holds Q nodes id h)

-- the same of a result that is that item or value
pub answer_names : (nodes : List yaml_node_t) (o r : Option ℤ) → r ≡ o → IfSome o (IsIdUpTo (length nodes))
    → IfSome r (IsIdUpTo (length nodes))
answer_names nodes o r e h = subst (λ x. IfSome x (IsIdUpTo (length nodes))) (sym e) h

-- Each id and each pair of a node of the document names its nodes.
use Rattle.std.proofs.Common.{◌≡◌, zero, suc, ◌<◌, ℤ, pos, negsuc, List, [], ◌∷◌, All, Contains, Option, Some, None, true, false, length, map, refl, ap, arith}
use Rattle.std.specs.Option.{IsSome, is_some}
use Rattle.std.specs.List.{AllByRecursion}
use Rattle.std.proofs.lemmas.Int.{ints}
use Rattle.std.proofs.lemmas.Option.{slice_get-get_or}
use Rattle.std.proofs.lemmas.List.Elements.{All-contains, recursion_from_All}
use Rattle.libyaml_documents.specs.declared.pairs.yaml_node_pair_t.{yaml_node_pair_t}
use Rattle.libyaml_documents.specs.declared.node.yaml_node_t.{yaml_node_t}
use Rattle.libyaml_documents.specs.declared.node.unnamed_yaml_node_t_data.{unnamed_yaml_node_t_data}
use Rattle.libyaml_documents.specs.declared.node.unnamed_yaml_node_t_data.TheVariants.{Scalar, Sequence, Mapping}
use Rattle.libyaml_documents.specs.Nodes.{ids_of, ids_of_pairs, items_of, pairs_of, node_at, pair_at, both_nodes, up_to_none, nodes_named, pairs_named, IsIdUpTo, EveryIdNamesANode}

-- a list without `None` has no first one
none_left : {A : Type 0} (xs : List (Option A)) → AllByRecursion (λ x. IsSome x) xs → map (λ x. Some x) (up_to_none xs) ≡ xs
none_left [] h = refl
none_left (None ∷ xs) h = let no : false ≡ true = h.0 in (cc)
none_left (Some x ∷ xs) h = ap (λ l. Some x ∷ l) (none_left xs h.1)

-- an id in range names a node
id_names : (nodes : List yaml_node_t) (id : ℤ) → IsIdUpTo (length nodes) id → IsSome (node_at nodes id)
id_names nodes (negsuc n) h = absurd (omega (arith, ints, h.0))
id_names nodes (pos zero) h = absurd (omega (arith, ints, h.0))
id_names [] (pos (suc n)) h = absurd (omega (arith, ints, h.1))
id_names (node ∷ nodes) (pos (suc n)) h =
    let within : n < length (node ∷ nodes) = omega (arith, ints, h.1) in
    ap (λ o. is_some o) (slice_get-get_or (node ∷ nodes) n node within)

both_there : (k v : Option yaml_node_t) → IsSome k → IsSome v → IsSome (both_nodes k v)
both_there None v h i = cc
both_there (Some k) None h i = cc
both_there (Some k) (Some v) h i = refl

ids_name : (nodes : List yaml_node_t) (ids : List ℤ) → AllByRecursion (IsIdUpTo (length nodes)) ids
    → AllByRecursion (λ x. IsSome x) (map (λ id. node_at nodes id) ids)
ids_name nodes [] h = tt
ids_name nodes (id ∷ ids) h = (id_names nodes id h.0, ids_name nodes ids h.1)

pairs_name : (nodes : List yaml_node_t) (pairs : List yaml_node_pair_t)
    → AllByRecursion (IsIdUpTo (length nodes)) (ids_of_pairs pairs)
    → AllByRecursion (λ x. IsSome x) (map (λ p. pair_at nodes p) pairs)
pairs_name nodes [] h = tt
pairs_name nodes (p ∷ pairs) h = (
  both_there (node_at nodes p.key) (node_at nodes p.value) (id_names nodes p.key h.0)
      (id_names nodes p.value h.1.0),
  pairs_name nodes pairs h.1.1,
)

items_name : (nodes : List yaml_node_t) (c : unnamed_yaml_node_t_data) → All (IsIdUpTo (length nodes)) (ids_of c)
    → map (λ item. Some item) (nodes_named nodes (items_of c)) ≡ map (λ id. node_at nodes id) (items_of c)
items_name nodes (Scalar s) h = refl
items_name nodes (Sequence s) h = none_left (map (λ id. node_at nodes id) s.items)
    (ids_name nodes s.items (recursion_from_All _ s.items h))
items_name nodes (Mapping m) h = refl

values_name : (nodes : List yaml_node_t) (c : unnamed_yaml_node_t_data) → All (IsIdUpTo (length nodes)) (ids_of c)
    → map (λ pair. Some pair) (pairs_named nodes (pairs_of c)) ≡ map (λ p. pair_at nodes p) (pairs_of c)
values_name nodes (Scalar s) h = refl
values_name nodes (Sequence s) h = refl
values_name nodes (Mapping m) h =
    none_left (map (λ p. pair_at nodes p) m.pairs)
    (pairs_name nodes m.pairs (recursion_from_All _ (ids_of_pairs m.pairs) h))

-- the same of a node of the document
pub each_item : (nodes : List yaml_node_t) (node : yaml_node_t) → EveryIdNamesANode nodes → Contains nodes node
    → map (λ item. Some item) (nodes_named nodes (items_of node.content)) ≡ map (λ id. node_at nodes id)
    (items_of node.content)
each_item nodes node h there =
    items_name nodes node.content
    (All-contains (λ (node : yaml_node_t). All (IsIdUpTo (length nodes)) (ids_of node.content)) nodes node h
    there)

pub each_pair : (nodes : List yaml_node_t) (node : yaml_node_t) → EveryIdNamesANode nodes → Contains nodes node
    → map (λ pair. Some pair) (pairs_named nodes (pairs_of node.content)) ≡ map (λ p. pair_at nodes p)
    (pairs_of node.content)
each_pair nodes node h there =
    values_name nodes node.content
    (All-contains (λ (node : yaml_node_t). All (IsIdUpTo (length nodes)) (ids_of node.content)) nodes node h
    there)

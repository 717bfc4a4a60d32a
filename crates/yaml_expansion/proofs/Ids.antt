-- The ids that a node holds, by their numbers.
use Rattle.std.proofs.Common.{◌≡◌, ℕ, zero, suc, ◌/◌, ◌%◌, ℤ, List, [], ◌∷◌, Some, None, cond, nat_eq, slice_get, refl, ap, ◌∙◌, arith}
use Rattle.std.specs.Option.{option_map, option_or}
use Rattle.libyaml_documents.specs.declared.pairs.yaml_node_pair_t.{yaml_node_pair_t}
use Rattle.libyaml_documents.specs.declared.node.unnamed_yaml_node_t_data.{unnamed_yaml_node_t_data}
use Rattle.libyaml_documents.specs.declared.node.unnamed_yaml_node_t_data.TheVariants.{Scalar, Sequence, Mapping}
use Rattle.libyaml_documents.specs.Nodes.{ids_of, ids_of_pairs, items_of, pairs_of}

abbrev half : ℕ → yaml_node_pair_t → ℤ
half n p = cond (nat_eq n 0) p.key p.value

ids_in_pairs : (pairs : List yaml_node_pair_t) (n : ℕ)
    → slice_get (ids_of_pairs pairs) n ≡ option_map (half (n % 2)) (slice_get pairs (n / 2))
ids_in_pairs [] n = refl
ids_in_pairs (p ∷ pairs) zero = refl
ids_in_pairs (p ∷ pairs) (suc zero) = refl
ids_in_pairs (p ∷ pairs) (suc (suc n)) =
    let d : suc (suc n) / 2 ≡ suc (n / 2) = omega arith in
    let m : suc (suc n) % 2 ≡ n % 2 = omega arith in
    rw (d, m) (ids_in_pairs pairs n)

pub ids_of_node : (c : unnamed_yaml_node_t_data) (n : ℕ)
    → slice_get (ids_of c) n ≡ option_or (slice_get (items_of c) n) (slice_get (ids_of_pairs (pairs_of c)) n)
ids_of_node (Scalar s) n = refl
ids_of_node (Sequence s) n = elim (slice_get s.items n) as (λ o. o ≡ option_or o None) [ None ↦ refl | Some x ↦ refl ]
ids_of_node (Mapping m) n = refl

pub past_pairs : (pairs : List yaml_node_pair_t) (n : ℕ) → slice_get pairs (n / 2) ≡ None → slice_get (ids_of_pairs pairs) n ≡ None
past_pairs pairs n e = ids_in_pairs pairs n ∙ ap (option_map (half (n % 2))) e

pub within_pairs : (pairs : List yaml_node_pair_t) (n : ℕ) (p : yaml_node_pair_t) → slice_get pairs (n / 2) ≡ Some p
    → slice_get (ids_of_pairs pairs) n ≡ Some (cond (nat_eq (n % 2) 0) p.key p.value)
within_pairs pairs n p e = ids_in_pairs pairs n ∙ ap (option_map (half (n % 2))) e

-- A child in the innermost open collection: what the nodes hold then.
use Rattle.std.proofs.Common.{◌≡◌, ◌<◌, ◌∷◌, ◌++◌, ◌∙◌, ℕ, zero, suc, ℤ, pos, negsuc, List, [], length, map, Option, Bool, true, false, refl, sym, ap, arith, slice_get, option_map, append-nil, append_assoc}
use Rattle.libyaml_grammar.specs.grammar.Tokens.{Mark}
use Rattle.libyaml_documents.specs.LoadedNodes.{with_end}
use Rattle.libyaml_documents.specs.Nodes.{changed_at, ids_of_pairs, with_changed, with_item, with_pair}
use Rattle.libyaml_documents.specs.declared.node.yaml_node_t.{yaml_node_t}
use Rattle.libyaml_documents.specs.declared.pairs.yaml_node_pair_t.{yaml_node_pair_t}
use Rattle.libyaml_composer.specs.declared.records.open_t.{open_t}
use Rattle.libyaml_composer.specs.Composing.{deed_for, open_with_child, place_in}
use Rattle.libyaml_composer.specs.Numbers.{is_set, is_id}
use Rattle.libyaml_composer.specs.DocumentSoFar.{placed}
use Rattle.libyaml_composer.specs.Represents.{IsOpenBy, IsOpenNode, Opens}
use Rattle.libyaml_composer.proofs.exported.Opens.{get_other, get_there, length_changed}
use Rattle.yaml_expansion.specs.Expansion.{ids_at, ids_of_node}
use Rattle.document_sizes.specs.RunLaws.{held_so_far, key_waiting}
use Rattle.document_sizes.proofs.Trees.{Opened, with_child}

-- the ids of a node with one more child
pairs_more : (ps : List yaml_node_pair_t) (p : yaml_node_pair_t)
    → ids_of_pairs (ps ++ p ∷ []) ≡ ids_of_pairs ps ++ p.key ∷ p.value ∷ []
pairs_more [] p = refl
pairs_more (q ∷ ps) p = ap (λ (l : List ℤ). q.key ∷ q.value ∷ l) (pairs_more ps p)

item_more : (i : ℤ) (x : Option yaml_node_t) (w : Bool) (n : ℕ) → IsOpenBy x false w n
    → ids_of_node (option_map (with_item i) x) ≡ ids_of_node x ++ i ∷ []
item_more i x w n h = grind arith

pair_more : (k i : ℤ) (x : Option yaml_node_t) (n : ℕ) → IsOpenBy x true true n
    → ids_of_node (option_map (with_pair k i) x) ≡ ids_of_node x ++ k ∷ i ∷ []
pair_more k i x n h = grind (arith, pairs_more)

-- the place of an id
abbrev pub index_of : ℤ → ℕ
index_of (pos zero) = 0
index_of (pos (suc k)) = k
index_of (negsuc n) = 0

abbrev pub opened_as : ℤ → List ℤ → Opened
opened_as node ids = record { place = index_of node; ids = ids }

abbrev pub opened_of : List yaml_node_t → open_t → Opened
opened_of nodes o = opened_as o.node (held_so_far nodes o)

-- the nodes and the stack with a child in the innermost open collection
module _ (nodes : List yaml_node_t) (n i : ℤ) (some : is_id i ≡ true) (o : open_t) (s : List open_t) where
  abbrev pub after : List yaml_node_t
  after = placed (deed_for (o ∷ s)) (place_in n i (o ∷ s)) nodes

  module _ (k most : ℕ) (is : o.node ≡ pos (suc k)) (here : IsOpenNode (slice_get nodes k) o) where
    pub record Hands (later : List yaml_node_t) (p : open_t) : Type 0 where
      pub count : length later ≡ length nodes
      pub others : (j : ℕ) → (j ≡ k → ⊥) → slice_get later j ≡ slice_get nodes j
      pub top : held_so_far later p ≡ held_so_far nodes o ++ i ∷ []
      pub node : p.node ≡ o.node

    changes : (f : yaml_node_t → yaml_node_t) → with_changed o.node f nodes ≡ changed_at k f nodes
    changes f = ap (λ (y : ℤ). with_changed y f nodes) is

    changed_count : (f : yaml_node_t → yaml_node_t) → length (with_changed o.node f nodes) ≡ length nodes
    changed_count f = ap length (changes f) ∙ length_changed k f nodes

    changed_others : (f : yaml_node_t → yaml_node_t) (j : ℕ) → (j ≡ k → ⊥)
        → slice_get (with_changed o.node f nodes) j ≡ slice_get nodes j
    changed_others f j h = ap (λ (l : List yaml_node_t). slice_get l j) (changes f) ∙ get_other f nodes k j h

    ids_here : (l : List yaml_node_t) → ids_at l o.node ≡ ids_of_node (slice_get l k)
    ids_here l = ap (λ (y : ℤ). ids_at l y) is

    ids_changed : (f : yaml_node_t → yaml_node_t)
        → ids_at (with_changed o.node f nodes) o.node ≡ ids_of_node (option_map f (slice_get nodes k))
    ids_changed f = grind (arith, ids_here, changes, get_there)

    pub hands : Hands after (open_with_child i o)
    hands = grind (arith, changed_count, changed_others, ids_changed, item_more, ids_here, append-nil, pair_more, append_assoc)

    pub top_after : opened_of after (open_with_child i o) ≡ with_child (opened_of nodes o) i
    top_after = grind (arith, hands)

-- collections that no change reaches
pub opened_same : (most : ℕ) (nodes later : List yaml_node_t) (m : ℕ) (r : List open_t) → Opens most nodes m r
    → ((j : ℕ) → j < m → slice_get later j ≡ slice_get nodes j) → map (opened_of later) r ≡ map (opened_of nodes) r
opened_same most nodes later m [] h same = refl
opened_same most nodes later m (p ∷ r) (j, at, lt, there, key, rest) same =
    let e : opened_of later p ≡ opened_of nodes p = same_opened (same j lt) in
    let f : map (opened_of later) r ≡ map (opened_of nodes) r = opened_same most nodes later j r rest (λ i l. same i (omega arith)) in
    cc
  where
    same_opened : slice_get later j ≡ slice_get nodes j → opened_of later p ≡ opened_of nodes p
    same_opened e = ap (λ (l : List ℤ). opened_as p.node (l ++ key_waiting (is_set p.is_mapping) (is_id p.key) p.key))
        (ap (λ (y : ℤ). ids_at later y) at ∙ (ap ids_of_node e ∙ sym (ap (λ (y : ℤ). ids_at nodes y) at)))

-- where the innermost open collection ends
pub same_ids : (m : Mark) (x : Option yaml_node_t) → ids_of_node (option_map (with_end m) x) ≡ ids_of_node x
same_ids m x = grind arith

pub closed_others : (nodes : List yaml_node_t) (m : Mark) (z : ℤ) (k : ℕ) → z ≡ pos (suc k) → (j : ℕ) → (j ≡ k → ⊥)
    → slice_get (with_changed z (with_end m) nodes) j ≡ slice_get nodes j
closed_others nodes m z k is j e = ap (λ (y : ℤ). slice_get (with_changed y (with_end m) nodes) j) is ∙ get_other (with_end m) nodes k j e

-- An event's place is its place in the document that a load gives.
use Rattle.std.proofs.Common.{◌≡◌, ◌⊎◌, inl, inr, ◌<◌, ◌-◌, ◌∷◌, ◌++◌, ◌∙◌, ℕ, suc, ℤ, pos, List, [], map, Option, Some, None, Bool, true, false, true≢false, Ok, Err, length, slice_get, option_and_then, if◌then◌else◌, ◌≤◌, refl, sym, ap, subst, arith}
use Rattle.std.proofs.lemmas.Int.{ints}
use Rattle.libyaml_types.specs.Fault.{Fault}
use Rattle.libyaml_types.specs.Types.{event_anchor, event_type}
use Rattle.libyaml_types.specs.declared.event.unnamed_yaml_event_t_data.{unnamed_yaml_event_t_data}
use Rattle.libyaml_types.specs.declared.event.unnamed_yaml_event_t_data.TheVariants as ev
use Rattle.std.specs.FinMap.{get}
use Rattle.libyaml_grammar.specs.grammar.Tokens.{Mark}
use Rattle.libyaml_documents.specs.LoadedNodes.{mapping_loaded, scalar_loaded, sequence_loaded}
use Rattle.libyaml_grammar.specs.grammar.Events.{Event}
use Rattle.libyaml_grammar.specs.runs.Runs.{Ending}
use Rattle.libyaml_documents.specs.Documents.{Document}
use Rattle.libyaml_documents.specs.Nodes.{items_of, node_at, pair_after, item_after, pairs_of, with_changed, with_item, with_pair}
use Rattle.libyaml_documents.specs.declared.node.unnamed_yaml_node_t_data.{unnamed_yaml_node_t_data}
use Rattle.libyaml_documents.specs.declared.node.unnamed_yaml_node_t_data.TheVariants.{Scalar, Sequence, Mapping}
use Rattle.libyaml_documents.specs.declared.node.yaml_node_t.{yaml_node_t}
use Rattle.libyaml_documents.specs.declared.pairs.yaml_node_pair_t.{yaml_node_pair_t}
use Rattle.libyaml_graphs.specs.graphs.Graphs.{AnchoredNode, id_or}
use Rattle.libyaml_graphs.specs.graphs.GraphParts.{Closing, Opening, Part, closing_of, part_in, part_of}
use Rattle.libyaml_graphs.specs.loads.Loads.{end_of_document}
use Rattle.libyaml_graphs.specs.machine.Loader.{Anchors, Loader, Loading, OpenNode, State, bounded_option, if_going, load_from, within}
use Rattle.libyaml_graphs.proofs.exported.LoaderSteps.{within_event}
use Rattle.libyaml_composer.specs.declared.deed.Deed.{Deed}
use Rattle.libyaml_composer.specs.declared.deed.Deed.TheVariants as deed
use Rattle.libyaml_composer.specs.declared.records.open_t.{open_t}
use Rattle.libyaml_composer.specs.declared.records.place_t.{place_t}
use Rattle.libyaml_composer.specs.Composing.{Told, deed_for, deed_in, holding_in, holding_top, parent_in, told}
use Rattle.libyaml_composer.specs.DocumentSoFar.{DocumentSoFar, anchored_node_named, applied_part, key_of, loader_by, nodes_made, open_of, placed, with_made_node}
use Rattle.libyaml_composer.specs.Numbers.{is_id, is_set}
use Rattle.libyaml_composer.specs.Represents.{DeedFits, IsAlike, IsCarried, IsNode, IsOpenBy, Opens, PutsNode, Represents}
use Rattle.libyaml_composer.proofs.exported.Deeds.{child_applied}
use Rattle.libyaml_composer.proofs.exported.Follows as follow
use Rattle.libyaml_composer.proofs.exported.Opens.{get_last}
use Rattle.libyaml_loader.specs.declared.places.yaml_place_t.{yaml_place_t}
use Rattle.libyaml_loader.specs.declared.places.yaml_role_t.{yaml_role_t}
use Rattle.libyaml_loader.specs.declared.places.yaml_role_t.TheVariants as place_role
use Rattle.libyaml_loader.specs.composed.Anchoring.{event_node}
use Rattle.libyaml_loader.specs.composed.EventComposer.{EventComposer, StandsAt, entries_bound, is_between, is_within}
use Rattle.libyaml_loader.specs.composed.Places.{PlacesEvent, index_by, innermost_of, place_by, role_of}
use Rattle.libyaml_loader.specs.composed.PlacedDocuments.{ForPlaced, HoldsOnceLoaded, held_item, held_pair}
use Rattle.libyaml_loader.specs.composed.Telling.{no_place}
use Rattle.libyaml_loader.specs.document.Stack.{roomy}
use Rattle.libyaml_loader.proofs.composed.Keys.{IsPaired, KeyHeld, Waits, get_at_end, items_stay, key_kept, pairs_stay}
use Rattle.libyaml_loader.proofs.composed.Pairing.{IsOpen, PairedFrom, node_held, pair_comes}
use Rattle.libyaml_loader.proofs.composed.Placing.{IsOpened, Puts, none_opened, one_opened, puts}
use Rattle.libyaml_loader.proofs.composed.Staying.{IsKept, OfId, OfNode, document_keeps, id_kept, of_changed, of_more, of_other, same_id}
use Rattle.libyaml_loader.proofs.composed.Steps.{closed, told_so}

-- what is told of a place
record Fields (d : Deed) (q : place_t) (s : List open_t) (p : yaml_place_t) : Type 0 where
  role_is : role_of d ≡ Some p.role
  id_is : p.id ≡ q.child
  parent_is : p.parent ≡ q.parent
  index_is : p.index ≡ index_by p.role (innermost_of s)
  depth_is : p.depth ≡ length s

fields : (d : Deed) (q : place_t) (s : List open_t) (p : yaml_place_t) → Some p ≡ place_by d q s → Fields d q s p
fields d q s p is = go (role_of d) refl
  where
    go : (r : Option yaml_role_t) → role_of d ≡ r → Fields d q s p
    go None e = absurd (grind arith)
    go (Some r) e = record { role_is = grind arith; id_is = grind arith; parent_is = grind arith; index_is = grind arith; depth_is = grind arith }

role_puts : (d : Deed) (r : yaml_role_t) → role_of d ≡ Some r → PutsNode d
role_puts deed.Root r is = tt
role_puts deed.Item r is = tt
role_puts deed.Key r is = tt
role_puts deed.Value r is = tt
role_puts _ r is = absurd (cc)

abbrev deed_in_role : yaml_role_t → Deed
deed_in_role place_role.Root = deed.Root
deed_in_role place_role.Item = deed.Item
deed_in_role place_role.Key = deed.Key
deed_in_role place_role.Value = deed.Value

deed_by : (d : Deed) (r : yaml_role_t) → role_of d ≡ Some r → d ≡ deed_in_role r
deed_by deed.Root r is = grind arith
deed_by deed.Item r is = grind arith
deed_by deed.Key r is = grind arith
deed_by deed.Value r is = grind arith
deed_by _ r is = absurd (cc)

-- a collection with so many items, or pairs
abbrev HasItems : ℕ → unnamed_yaml_node_t_data → Type 0
HasItems n (Scalar s) = ⊥
HasItems n (Sequence s) = n ≡ length s.items
HasItems n (Mapping s) = ⊥

abbrev HasPairs : ℕ → unnamed_yaml_node_t_data → Type 0
HasPairs n (Scalar s) = ⊥
HasPairs n (Sequence s) = ⊥
HasPairs n (Mapping s) = n ≡ length s.pairs

alike_items : (c : unnamed_yaml_node_t_data) (w : Bool) (n : ℕ) → IsAlike c false w n → HasItems n c
alike_items (Scalar s) w n h = h
alike_items (Sequence s) w n h = h
alike_items (Mapping s) w n h = h

alike_key : (c : unnamed_yaml_node_t_data) (n : ℕ) → IsAlike c true false n → HasPairs n c
alike_key (Scalar s) n h = h
alike_key (Sequence s) n h = h
alike_key (Mapping s) n h = h

alike_value : (c : unnamed_yaml_node_t_data) (n : ℕ) → IsAlike c true true n → HasPairs (n - 1) c
alike_value (Scalar s) n h = h
alike_value (Sequence s) n h = h
alike_value (Mapping s) n h = omega (arith, h)

item_there : (i : ℤ) (n : ℕ) (c : unnamed_yaml_node_t_data) → HasItems n c → slice_get (items_of (item_after i c)) n ≡ Some i
item_there i n (Scalar s) h = absurd h
item_there i n (Sequence s) h = subst (λ (m : ℕ). slice_get (s.items ++ i ∷ []) m ≡ Some i) (sym h) (get_last s.items i)
item_there i n (Mapping s) h = absurd h

pair_there : (p : yaml_node_pair_t) (n : ℕ) (c : unnamed_yaml_node_t_data) → HasPairs n c
    → slice_get (pairs_of (pair_after p c)) n ≡ Some p
pair_there p n (Scalar s) h = absurd h
pair_there p n (Sequence s) h = absurd h
pair_there p n (Mapping s) h = subst (λ (m : ℕ). slice_get (s.pairs ++ p ∷ []) m ≡ Some p) (sym h) (get_last s.pairs p)

pairs_number : (n : ℕ) (c : unnamed_yaml_node_t_data) → HasPairs n c → length (pairs_of c) ≡ n
pairs_number n (Scalar s) h = absurd h
pairs_number n (Sequence s) h = absurd h
pairs_number n (Mapping s) h = sym h

-- the innermost open collection, by what its next child is
module _ (total : ℕ) (nodes : List yaml_node_t) where
  of_open : (P : yaml_node_t → Type 0) (b w : Bool) (n : ℕ) → ((x : yaml_node_t) → IsAlike x.content b w n → P x)
      → (y : Option yaml_node_t) → IsOpenBy y b w n → OfNode P y
  of_open P b w n f None h = absurd h
  of_open P b w n f (Some x) h = f x h

  item_top : (m : ℕ) (s : List open_t) → deed_for s ≡ deed.Item → Opens total nodes m s
      → OfId (λ x. HasItems (index_by place_role.Item (innermost_of s)) x.content) (parent_in s) nodes
  item_top m [] is h = absurd (cc)
  item_top m (y ∷ s) is (k, at, lt, here, key, rest) = subst (λ (z : ℤ). OfId (λ x. HasItems y.children x.content) z nodes) (sym at)
      (go (is_set y.is_mapping) (is_id y.key) is here)
    where
      go : (b w : Bool) → deed_in b w ≡ deed.Item → IsOpenBy (slice_get nodes k) b w y.children
          → OfNode (λ x. HasItems y.children x.content) (slice_get nodes k)
      go false w is h = of_open _ false w y.children (λ x g. alike_items x.content w y.children g) (slice_get nodes k) h
      go true false is h = absurd (cc)
      go true true is h = absurd (cc)

  value_top : (m : ℕ) (s : List open_t) → deed_for s ≡ deed.Value → Opens total nodes m s
      → OfId (λ x. HasPairs (index_by place_role.Value (innermost_of s)) x.content) (parent_in s) nodes
  value_top m [] is h = absurd (cc)
  value_top m (y ∷ s) is (k, at, lt, here, key, rest) = subst (λ (z : ℤ). OfId (λ x. HasPairs (y.children - 1) x.content) z nodes) (sym at)
      (go (is_set y.is_mapping) (is_id y.key) is here)
    where
      go : (b w : Bool) → deed_in b w ≡ deed.Value → IsOpenBy (slice_get nodes k) b w y.children
          → OfNode (λ x. HasPairs (y.children - 1) x.content) (slice_get nodes k)
      go false w is h = absurd (cc)
      go true false is h = absurd (cc)
      go true true is h = of_open _ true true y.children (λ x g. alike_value x.content y.children g) (slice_get nodes k) h

  key_top : (m : ℕ) (s : List open_t) → deed_for s ≡ deed.Key → Opens total nodes m s
      → OfId (λ x. HasPairs (index_by place_role.Key (innermost_of s)) x.content) (parent_in s) nodes
  key_top m [] is h = absurd (cc)
  key_top m (y ∷ s) is (k, at, lt, here, key, rest) = subst (λ (z : ℤ). OfId (λ x. HasPairs y.children x.content) z nodes) (sym at)
      (go (is_set y.is_mapping) (is_id y.key) is here)
    where
      go : (b w : Bool) → deed_in b w ≡ deed.Key → IsOpenBy (slice_get nodes k) b w y.children
          → OfNode (λ x. HasPairs y.children x.content) (slice_get nodes k)
      go false w is h = absurd (cc)
      go true false is h = of_open _ true false y.children (λ x g. alike_key x.content y.children g) (slice_get nodes k) h
      go true true is h = absurd (cc)

  -- the key waits in it, and in no other
  module _ (parent i : ℤ) (index k : ℕ) (parent_is : parent ≡ pos (suc k)) where
    waits_around : (m : ℕ) (s : List open_t) → m ≤ k → Opens total nodes m s → Waits parent i index (map open_of s)
    waits_around m [] le h = tt
    waits_around m (o ∷ s) le (j, at, lt, here, key, rest) =
        ((λ e. absurd (omega (arith, ints, e, at, parent_is, le, lt))), waits_around j s (omega (arith, le, lt)) rest)

    waits_opened : (n : ℕ) (opened : List open_t) → k < n → IsOpened (pos (suc n)) opened → (s : List open_t)
        → Waits parent i index (map open_of s) → Waits parent i index (map open_of (opened ++ s))
    waits_opened n [] lt none_opened s h = h
    waits_opened n (o ∷ []) lt (one_opened _ is) s h = ((λ e. absurd (omega (arith, ints, e, is, parent_is, lt))), h)
    waits_opened n (o ∷ (v ∷ t)) lt new s h = elim new [ ]

key_some : (i : ℤ) → is_id i ≡ true → key_of i ≡ Some i
key_some i is = ap (λ (b : Bool). if b then Some i else None) is

waits : (total : ℕ) (nodes : List yaml_node_t) (n : ℕ) (s : List open_t) → deed_for s ≡ deed.Key → Opens total nodes n s
    → (i : ℤ) → is_id i ≡ true → (opened : List open_t) → IsOpened (pos (suc n)) opened → (index : ℕ)
    → Waits (parent_in s) i index (map open_of (opened ++ holding_top i s))
waits total nodes n [] is h i id opened new index = absurd (cc)
waits total nodes n (y ∷ s) is (k, at, lt, here, key, rest) i id opened new index =
    waits_opened total nodes y.node i index k at n opened lt new (holding_top i (y ∷ s)) (go (is_set y.is_mapping) (is_id y.key) is)
  where
    go : (b w : Bool) → deed_in b w ≡ deed.Key → Waits y.node i index (map open_of (holding_in i y b w ∷ s))
    go false w is = absurd (cc)
    go true false is = ((λ e. key_some i id), waits_around total nodes y.node i index k at k s (omega arith) rest)
    go true true is = absurd (cc)

-- and that mapping is open
open_around : (parent : ℤ) (opened s : List open_t) → IsOpen parent s → IsOpen parent (opened ++ s)
open_around parent [] s h = h
open_around parent (o ∷ opened) s h = inr (open_around parent opened s h)

open_there : (s : List open_t) → deed_for s ≡ deed.Key → (i : ℤ) (opened : List open_t)
    → IsOpen (parent_in s) (opened ++ holding_top i s)
open_there [] is i opened = absurd (cc)
open_there (y ∷ s) is i opened = open_around y.node opened (holding_top i (y ∷ s))
    (inl (node_held i y (is_set y.is_mapping) (is_id y.key)))

-- of the nodes in the end
item_held : (nodes : List yaml_node_t) (parent : ℤ) (n : ℕ) (i : ℤ)
    → OfId (λ x. slice_get (items_of x.content) n ≡ Some i) parent nodes → held_item nodes parent n ≡ Some i
item_held nodes parent n i h = go (node_at nodes parent) h
  where
    go : (y : Option yaml_node_t) → OfNode (λ x. slice_get (items_of x.content) n ≡ Some i) y
        → option_and_then (λ node. slice_get (items_of node.content) n) y ≡ Some i
    go None h = absurd h
    go (Some x) h = h

pair_held : (nodes : List yaml_node_t) (parent : ℤ) (n : ℕ) (p : yaml_node_pair_t)
    → OfId (λ x. slice_get (pairs_of x.content) n ≡ Some p) parent nodes → held_pair nodes parent n ≡ Some p
pair_held nodes parent n p h = go (node_at nodes parent) h
  where
    go : (y : Option yaml_node_t) → OfNode (λ x. slice_get (pairs_of x.content) n ≡ Some p) y
        → option_and_then (λ node. slice_get (pairs_of node.content) n) y ≡ Some p
    go None h = absurd h
    go (Some x) h = h

some_same : {A : Type 0} (x y : A) → Some x ≡ Some y → x ≡ y
some_same x y e = cc

none_not_some : {A : Type 0} (x : A) → ◌≡◌ {A = Option A} None (Some x) → ⊥
none_not_some x e = cc

paired_held : (nodes : List yaml_node_t) (parent i : ℤ) (n : ℕ) → OfId (IsPaired parent i n) parent nodes
    → (r : yaml_node_pair_t) × (held_pair nodes parent n ≡ Some r) × (r.key ≡ i)
paired_held nodes parent i n h = go (node_at nodes parent) h
  where
    go : (y : Option yaml_node_t) → OfNode (IsPaired parent i n) y
        → (r : yaml_node_pair_t) × (option_and_then (λ node. slice_get (pairs_of node.content) n) y ≡ Some r) × (r.key ≡ i)
    go None h = absurd h
    go (Some x) h = h

key_held : (nodes : List yaml_node_t) (parent i : ℤ) (n : ℕ) (s : List OpenNode) → KeyHeld parent i n nodes s
    → (p : yaml_node_pair_t) → held_pair nodes parent n ≡ Some p → p.key ≡ i
key_held nodes parent i n s h p held = go (node_at nodes parent) h held
  where
    go : (y : Option yaml_node_t)
        → OfNode (λ x. (p : yaml_node_pair_t) × (slice_get (pairs_of x.content) n ≡ Some p) × (p.key ≡ i)) y
        ⊎ (OfNode (λ x. length (pairs_of x.content) ≡ n) y × Waits parent i n s)
        → option_and_then (λ node. slice_get (pairs_of node.content) n) y ≡ Some p → p.key ≡ i
    go None (inl h) held = absurd h
    go None (inr h) held = absurd h.0
    go (Some x) (inl (q, get, key)) held = ap (λ (r : yaml_node_pair_t). r.key) (some_same p q (sym held ∙ get)) ∙ key
    go (Some x) (inr (before, w)) held = absurd (none_not_some p
        (sym (subst (λ (m : ℕ). slice_get (pairs_of x.content) m ≡ None) before (get_at_end (pairs_of x.content))) ∙ held))

of_node : (P Q : yaml_node_t → Type 0) → ((x : yaml_node_t) → P x → Q x) → (y : Option yaml_node_t) → OfNode P y → OfNode Q y
of_node P Q f None h = absurd h
of_node P Q f (Some x) h = f x h

moved : (Q : ℕ → ℤ → yaml_node_t → Type 0) {n m : ℕ} {i j z y : ℤ} {l k : List yaml_node_t} → n ≡ m → i ≡ j → z ≡ y → l ≡ k
    → OfId (Q m j) y k → OfId (Q n i) z l
moved Q {n} {m} {i} {j} {z} {y} {l} {k} en ei ez el h =
    subst (λ (v : ℕ). OfId (Q v i) z l) (sym en) (subst (λ (v : ℤ). OfId (Q m v) z l) (sym ei)
    (subst (λ (v : ℤ). OfId (Q m j) v l) (sym ez) (subst (λ (v : List yaml_node_t). OfId (Q m j) y v) (sym el) h)))

made_more : (P : yaml_node_t → Type 0) (b : Bool) (j : ℤ) (part : Option Part) (h : DocumentSoFar) (i : ℤ) → OfId P i h.nodes
    → OfId P i (with_made_node b j part h).nodes
made_more P false j part h i g = g
made_more P true j part h i g = of_more P h.nodes (nodes_made part) i g

-- the node that a part makes comes after the others
last_starts : (m : Mark) (nodes : List yaml_node_t) (x : yaml_node_t) → x.start_mark ≡ m
    → OfId (λ y. y.start_mark ≡ m) (pos (suc (length nodes))) (nodes ++ x ∷ [])
last_starts m nodes x is = subst (OfNode (λ y. y.start_mark ≡ m)) (sym (get_last nodes x)) is

made_starts : (k : unnamed_yaml_event_t_data) (m n : Mark) → IsNode (part_in k m n) → (h : DocumentSoFar)
    → OfId (λ y. y.start_mark ≡ m) (pos (suc (length h.nodes))) (with_made_node true (pos (suc (length h.nodes))) (part_in k m n) h).nodes
made_starts (ev.Scalar t) m n is h = last_starts m h.nodes (scalar_loaded t m n) refl
made_starts (ev.SequenceStart t) m n is h = last_starts m h.nodes (sequence_loaded t.tag t.style [] m n) refl
made_starts (ev.MappingStart t) m n is h = last_starts m h.nodes (mapping_loaded t.tag t.style [] m n) refl
made_starts _ m n is h = absurd is

with_stays : (P : yaml_node_t → Type 0) (f : yaml_node_t → yaml_node_t) → ((x : yaml_node_t) → P x → P (f x)) → (nodes : List yaml_node_t)
    (z i : ℤ) → OfId P i nodes → OfId P i (with_changed z f nodes)
with_stays P f g nodes z i h = elim (same_id z i) [
  | inl e ↦ subst (λ (y : ℤ). OfId P i (with_changed y f nodes)) (sym e) (of_changed P P f g nodes i h)
  | inr n ↦ of_other P f nodes z i n h
]

abbrev with_fields : (id parent : ℤ) → yaml_role_t → (index depth : ℕ) → yaml_place_t
with_fields i z r n k = record { id = i; parent = z; role = r; index = n; depth = k }

place_of : (p : yaml_place_t) (i z : ℤ) (r : yaml_role_t) (n k : ℕ) → p.role ≡ r → p.id ≡ i → p.parent ≡ z → p.index ≡ n
    → p.depth ≡ k → p ≡ with_fields i z r n k
place_of p i z r n k er ei ez en ek =
    ap (λ (v : ℤ). with_fields v p.parent p.role p.index p.depth) ei
    ∙ (ap (λ (v : ℤ). with_fields i v p.role p.index p.depth) ez
    ∙ (ap (λ (v : yaml_role_t). with_fields i z v p.index p.depth) er
    ∙ (ap (λ (v : ℕ). with_fields i z r v p.depth) en ∙ ap (λ (v : ℕ). with_fields i z r n v) ek)))

-- in a document without nodes nothing is open, and no anchor is known
none_around : (total : ℕ) (nodes : List yaml_node_t) (m : ℕ) (s : List open_t) → m ≡ 0 → Opens total nodes m s → s ≡ []
none_around total nodes m [] is h = refl
none_around total nodes m (o ∷ s) is (k, at, lt, here, key, rest) = absurd (omega (arith, is, lt))

nothing_carried : (xs : Anchors) (a : Option (List ℕ)) → ((a : List ℕ) → IsCarried 0 (get xs a))
    → is_id (pos (id_or (anchored_node_named xs a))) ≡ true → ⊥
nothing_carried xs None h is = true≢false (sym is)
nothing_carried xs (Some a) h is = go (get xs a) (h a) is
  where
    go : (c : Option AnchoredNode) → IsCarried 0 c → is_id (pos (id_or c)) ≡ true → ⊥
    go None h is = true≢false (sym is)
    go (Some c) h is = absurd (omega (arith, h.0, h.1))

root_role : (d : Deed) (r : yaml_role_t) → role_of d ≡ Some r → d ≡ deed.Root → r ≡ place_role.Root
root_role d r is root = some_same r place_role.Root (sym is ∙ ap role_of root)

-- an event with a place
module _ (old new : EventComposer) (e : Event) (p : yaml_place_t) (event : PlacesEvent old e (Some p) new) where
  abbrev d : Deed
  d = event.deed

  abbrev q : place_t
  q = event.put

  abbrev s : List open_t
  s = old.collections.stack

  abbrev fact : ℤ
  fact = pos (id_or (event_node old.anchors e))

  told_fields : Fields d q s p
  told_fields = fields d q s p event.place_is

  puts_node : PutsNode d
  puts_node = role_puts d p.role told_fields.role_is

  pub step : Puts fact (roomy event.tells.room old.collections) (told d q new.collections)
  step = subst (Puts fact (roomy event.tells.room old.collections)) (sym event.tells.told)
      (puts (event_type e.content) fact no_place (roomy event.tells.room old.collections)
      (subst (λ (t : Told). PutsNode t.deed) event.tells.told puts_node))

  parent_told : p.parent ≡ parent_in s
  parent_told = told_fields.parent_is ∙ step.parent

  deed_told : (r : yaml_role_t) → p.role ≡ r → deed_for s ≡ deed_in_role r
  deed_told r is = sym step.deed ∙ (deed_by d p.role told_fields.role_is ∙ ap deed_in_role is)

  index_told : (r : yaml_role_t) → p.role ≡ r → p.index ≡ index_by r (innermost_of s)
  index_told r is = told_fields.index_is ∙ ap (λ (r : yaml_role_t). index_by r (innermost_of s)) is

  -- within a document
  module _ (o : Opening) (h : DocumentSoFar) (stands : Represents old.collections h o) (same : h.anchors ≡ old.anchors) where
    abbrev here : State
    here = within o (loader_by old.collections h)

    pub not_end : closing_of e ≡ None
    not_end = go (closing_of e) refl
      where
        go : (y : Option Closing) → closing_of e ≡ y → closing_of e ≡ None
        go None is = is
        go (Some y) is = absurd (subst PutsNode (ap (λ (t : Told). t.deed)
            (closed old e event.tells.room no_place q d new.collections fact refl event.tells.told new.anchors event.tells.anchors o h
            stands same y is)) puts_node)

    abbrev made : List yaml_node_t
    made = (with_made_node (is_id q.node) q.node (part_of e) h).nodes

    abbrev after : DocumentSoFar
    after = applied_part d q (part_of e) e.end_mark h

    nodes_after : after.nodes ≡ placed d q made
    nodes_after = sym (ap (λ (k : DocumentSoFar). k.nodes) (child_applied d puts_node q (part_of e) e.end_mark h))

    goes : follow.Goes old.collections.most o h s (part_of e) e.end_mark
        (bounded_option old.collections.most (loader_by old.collections h) (part_of e)) (told d q new.collections)
    goes = follow.goes_on old.collections h o stands e not_end no_place event.tells.room (told d q new.collections)
        (told_so old e event.tells.room no_place q d new.collections fact refl event.tells.told new.anchors event.tells.anchors o h
        stands same not_end) event.taken event.tells.has_room

    fits : DeedFits d q (part_of e) h s
    fits = goes.puts

    loads_so : (rest : List Event) (x : Ending) → load_from old.collections.most here (e ∷ rest) x
        ≡ load_from old.collections.most (within o (loader_by new.collections after)) rest x
    loads_so rest x =
        ap (λ (y : Option Closing). within_event old.collections.most o (loader_by old.collections h) rest x y (part_of e)) not_end
        ∙ ap (λ (r : Loading). if_going (λ (f : Fault). Err f) r (λ (k : Loader). load_from old.collections.most (within o k) rest x)) goes.leads

    keeps : (Holds : List yaml_node_t → List OpenNode → Type 0) → IsKept Holds
        → Holds after.nodes (map open_of new.collections.stack)
        → HoldsOnceLoaded old here e (λ nodes. (t : List OpenNode) × Holds nodes t)
    keeps Holds kept holds rest x c d ends loads = document_keeps Holds kept old.collections.most o rest (loader_by new.collections after)
        x c d ends (sym (loads_so rest x) ∙ loads) holds

    -- the deed of a role
    deed_is : (r : yaml_role_t) → p.role ≡ r → d ≡ deed_in_role r
    deed_is r is = step.deed ∙ deed_told r is

    nodes_by : (r : yaml_role_t) → p.role ≡ r → after.nodes ≡ placed (deed_in_role r) q made
    nodes_by r is = nodes_after ∙ ap (λ (k : Deed). placed k q made) (deed_is r is)

    item_within : p.role ≡ place_role.Item → HoldsOnceLoaded old here e (λ nodes. held_item nodes p.parent p.index ≡ Some p.id)
    item_within is rest x c doc ends loads =
        item_held doc.nodes p.parent p.index p.id (keeps (λ nodes t. OfId (IsItem p.index p.id) p.parent nodes)
        (id_kept (IsItem p.index p.id) (λ k i y g. items_stay k i y.content p.index p.id g) (λ m y g. g) p.parent)
        put rest x c doc ends loads).1
      where
        IsItem : ℕ → ℤ → yaml_node_t → Type 0
        IsItem n i y = slice_get (items_of y.content) n ≡ Some i

        there : OfId (IsItem (index_by place_role.Item (innermost_of s)) q.child) (parent_in s)
            (with_changed (parent_in s) (with_item q.child) made)
        there = of_changed (λ y. HasItems (index_by place_role.Item (innermost_of s)) y.content)
            (IsItem (index_by place_role.Item (innermost_of s)) q.child) (with_item q.child)
            (λ y g. item_there q.child (index_by place_role.Item (innermost_of s)) y.content g) made (parent_in s)
            (made_more (λ y. HasItems (index_by place_role.Item (innermost_of s)) y.content) (is_id q.node) q.node (part_of e) h
            (parent_in s) (item_top (length h.nodes) h.nodes (length h.nodes) s (deed_told place_role.Item is) stands.opens))

        put : OfId (IsItem p.index p.id) p.parent after.nodes
        put = moved IsItem (index_told place_role.Item is) told_fields.id_is parent_told
            (nodes_by place_role.Item is ∙ ap (λ (z : ℤ). with_changed z (with_item q.child) made) step.parent) there

    value_within : p.role ≡ place_role.Value → HoldsOnceLoaded old here e (λ nodes. (r : yaml_node_pair_t)
        × (held_pair nodes p.parent p.index ≡ Some r) × (r.value ≡ p.id))
    value_within is rest x c doc ends loads = (
      pair,
      pair_held doc.nodes p.parent p.index pair (keeps
          (λ nodes t. OfId (IsPair p.index p.id) p.parent nodes)
          (id_kept (IsPair p.index p.id) (λ k i y g. pairs_stay k i y.content p.index pair g) (λ m y g. g) p.parent)
          put rest x c doc ends loads).1,
      refl,
    )
      where
        pair : yaml_node_pair_t
        pair = record { key = q.key; value = p.id }

        IsPair : ℕ → ℤ → yaml_node_t → Type 0
        IsPair n i y = slice_get (pairs_of y.content) n ≡ Some (record { key = q.key; value = i })

        there : OfId (IsPair (index_by place_role.Value (innermost_of s)) q.child) (parent_in s)
            (with_changed (parent_in s) (with_pair q.key q.child) made)
        there = of_changed (λ y. HasPairs (index_by place_role.Value (innermost_of s)) y.content)
            (IsPair (index_by place_role.Value (innermost_of s)) q.child) (with_pair q.key q.child)
            (λ y g. pair_there (record { key = q.key; value = q.child }) (index_by place_role.Value (innermost_of s)) y.content g) made
            (parent_in s) (made_more (λ y. HasPairs (index_by place_role.Value (innermost_of s)) y.content) (is_id q.node) q.node (part_of e)
            h (parent_in s) (value_top (length h.nodes) h.nodes (length h.nodes) s (deed_told place_role.Value is) stands.opens))

        put : OfId (IsPair p.index p.id) p.parent after.nodes
        put = moved IsPair (index_told place_role.Value is) told_fields.id_is parent_told
            (nodes_by place_role.Value is ∙ ap (λ (z : ℤ). with_changed z (with_pair q.key q.child) made) step.parent) there

    -- a key waits in its mapping, which is open
    key_begun : p.role ≡ place_role.Key → KeyHeld p.parent p.id p.index after.nodes (map open_of new.collections.stack)
    key_begun is = inr (put, waiting)
      where
        AreBefore : ℕ → ℤ → yaml_node_t → Type 0
        AreBefore n i y = length (pairs_of y.content) ≡ n

        there : OfId (AreBefore (index_by place_role.Key (innermost_of s)) q.child) (parent_in s) made
        there = made_more (AreBefore (index_by place_role.Key (innermost_of s)) q.child) (is_id q.node) q.node (part_of e) h (parent_in s)
            (of_node (λ y. HasPairs (index_by place_role.Key (innermost_of s)) y.content) (AreBefore (index_by place_role.Key (innermost_of s)) q.child)
            (λ y g. pairs_number (index_by place_role.Key (innermost_of s)) y.content g) (node_at h.nodes (parent_in s))
            (key_top (length h.nodes) h.nodes (length h.nodes) s (deed_told place_role.Key is) stands.opens))

        put : OfId (AreBefore p.index p.id) p.parent after.nodes
        put = moved AreBefore (index_told place_role.Key is) told_fields.id_is parent_told (nodes_by place_role.Key is) there

        opens : IsOpened (pos (suc (length h.nodes))) step.opened
        opens = subst (λ (n : ℕ). IsOpened (pos (suc n)) step.opened) stands.nodes step.opens

        waiting : Waits p.parent p.id p.index (map open_of new.collections.stack)
        waiting = subst (λ (z : ℤ). Waits z p.id p.index (map open_of new.collections.stack)) (sym parent_told)
            (subst (λ (i : ℤ). Waits (parent_in s) i p.index (map open_of new.collections.stack)) (sym told_fields.id_is)
            (subst (λ (t : List open_t). Waits (parent_in s) q.child p.index (map open_of t)) (sym step.stack)
            (waits (length h.nodes) h.nodes (length h.nodes) s (deed_told place_role.Key is) stands.opens q.child step.id step.opened opens
            p.index)))

    key_open : p.role ≡ place_role.Key → IsOpen p.parent new.collections.stack
    key_open is = subst (λ (z : ℤ). IsOpen z new.collections.stack) (sym parent_told)
        (subst (IsOpen (parent_in s)) (sym step.stack) (open_there s (deed_told place_role.Key is) q.child step.opened))

    key_within : p.role ≡ place_role.Key → HoldsOnceLoaded old here e (λ nodes. (r : yaml_node_pair_t)
        → held_pair nodes p.parent p.index ≡ Some r → r.key ≡ p.id)
    key_within is rest x c doc ends loads =
        let k = keeps (KeyHeld p.parent p.id p.index) (key_kept p.parent p.id p.index) (key_begun is) rest x c doc ends loads in
        key_held doc.nodes p.parent p.id p.index k.0 k.1

    -- its pair, where no collection ends in which a key waits
    pair_within : p.role ≡ place_role.Key → (rest : List Event) (x : Ending) (c : Closing) (doc : Document)
        → PairedFrom new.collections rest → end_of_document rest ≡ Some c
        → load_from old.collections.most here (e ∷ rest) x ≡ Ok doc
        → (r : yaml_node_pair_t) × (held_pair doc.nodes p.parent p.index ≡ Some r) × (r.key ≡ p.id)
    pair_within is rest x c doc paired ends loads = paired_held doc.nodes p.parent p.id p.index
        (pair_comes p.parent p.id p.index o x c doc rest new.collections after goes.stands paired (key_begun is) (key_open is)
        ends (subst (λ (m : ℕ). load_from m (within o (loader_by new.collections after)) rest x ≡ Ok doc) (sym goes.bound)
        (sym (loads_so rest x) ∙ loads)))

    -- the event's own node, if it makes one
    own_within : IsNode (part_of e) → HoldsOnceLoaded old here e (λ nodes. (y : yaml_node_t) × (node_at nodes p.id ≡ Some y)
        × (y.start_mark ≡ e.start_mark))
    own_within is rest x c doc ends loads = found (node_at doc.nodes p.id) refl (keeps (λ nodes t. OfId Starts p.id nodes)
        (id_kept Starts (λ k i y g. g) (λ m y g. g) p.id)
        (subst (λ (z : ℤ). OfId Starts z after.nodes) (sym id_is) (subst (λ (l : List yaml_node_t). OfId Starts next l) (sym nodes_after)
        (put d there))) rest x c doc ends loads).1
      where
        Starts : yaml_node_t → Type 0
        Starts y = y.start_mark ≡ e.start_mark

        next : ℤ
        next = pos (suc (length h.nodes))

        node_is : q.node ≡ next
        node_is = fits.numbered is

        id_is : p.id ≡ next
        id_is = told_fields.id_is ∙ (step.made (ap is_id node_is) ∙ node_is)

        there : OfId Starts next made
        there = subst (λ (z : ℤ). OfId Starts next (with_made_node (is_id z) z (part_of e) h).nodes) (sym node_is)
            (made_starts e.content e.start_mark e.end_mark is h)

        put : (k : Deed) → OfId Starts next made → OfId Starts next (placed k q made)
        put deed.Item g = with_stays Starts (with_item q.child) (λ y f. f) made q.parent next g
        put deed.Value g = with_stays Starts (with_pair q.key q.child) (λ y f. f) made q.parent next g
        put _ g = g

        found : (y : Option yaml_node_t) → node_at doc.nodes p.id ≡ y → OfNode Starts y → (y : yaml_node_t)
            × (node_at doc.nodes p.id ≡ Some y) × (y.start_mark ≡ e.start_mark)
        found None at g = absurd g
        found (Some y) at g = (y, at, g)

    -- where the document has no node yet
    root_first : old.collections.nodes ≡ 0 → p ≡ record { id = pos 1; parent = pos 0; role = place_role.Root; index = 0; depth = 0 }
    root_first none_yet = place_of p (pos 1) (pos 0) place_role.Root 0 0 role_is id_is (parent_told ∙ ap parent_in empty) index_is (told_fields.depth_is ∙ ap length empty)
      where
        no_nodes : length h.nodes ≡ 0
        no_nodes = sym stands.nodes ∙ none_yet

        empty : s ≡ []
        empty = none_around (length h.nodes) h.nodes (length h.nodes) s no_nodes stands.opens

        role_is : p.role ≡ place_role.Root
        role_is = root_role d p.role told_fields.role_is (step.deed ∙ ap deed_for empty)

        index_is : p.index ≡ 0
        index_is = index_told place_role.Root role_is ∙ ap (λ (t : List open_t). index_by place_role.Root (innermost_of t)) empty

        not_known : is_id fact ≡ true → ⊥
        not_known = subst (λ (xs : Anchors). is_id (pos (id_or (event_node xs e))) ≡ true → ⊥) same
            (nothing_carried h.anchors (event_anchor e.content) (λ a. subst (λ (m : ℕ). IsCarried m (get h.anchors a)) no_nodes (stands.carried a)))

        id_is : p.id ≡ pos 1
        id_is = told_fields.id_is ∙ elim step.child [
          | inl new_one ↦ new_one ∙ ap (λ (m : ℕ). pos (suc m)) none_yet
          | inr known ↦ absurd (not_known known.1)
        ]

  -- wherever the composer stood
  module _ (Holds : List yaml_node_t → Type 0)
      (inside : (o : Opening) (h : DocumentSoFar) (stands : Represents old.collections h o) (same : h.anchors ≡ old.anchors)
      → HoldsOnceLoaded old (within o (loader_by old.collections h)) e Holds) where
    anywhere : (at : State) → StandsAt old at → HoldsOnceLoaded old at e Holds
    anywhere at (is_between none is) = absurd (true≢false (sym step.within ∙ none))
    anywhere at (is_within o h stands same is) = subst (λ (z : State). HoldsOnceLoaded old z e Holds) (sym is) (inside o h stands same)

pub items_so : ForPlaced place_role.Item (λ p nodes. held_item nodes p.parent p.index ≡ Some p.id)
items_so old new e p at event is stands = anywhere old new e p event (λ nodes. held_item nodes p.parent p.index ≡ Some p.id)
    (λ o h r same. item_within old new e p event o h r same is) at stands

pub values_so : ForPlaced place_role.Value (λ p nodes. (r : yaml_node_pair_t) × (held_pair nodes p.parent p.index ≡ Some r) × (r.value ≡ p.id))
values_so old new e p at event is stands = anywhere old new e p event
    (λ nodes. (r : yaml_node_pair_t) × (held_pair nodes p.parent p.index ≡ Some r) × (r.value ≡ p.id))
    (λ o h r same. value_within old new e p event o h r same is) at stands

pub keys_so : ForPlaced place_role.Key (λ p nodes. (r : yaml_node_pair_t) → held_pair nodes p.parent p.index ≡ Some r → r.key ≡ p.id)
keys_so old new e p at event is stands = anywhere old new e p event
    (λ nodes. (r : yaml_node_pair_t) → held_pair nodes p.parent p.index ≡ Some r → r.key ≡ p.id)
    (λ o h r same. key_within old new e p event o h r same is) at stands

-- in a run, whose events nest
pub pairs_so : (old new : EventComposer) (e : Event) (p : yaml_place_t) (at : State) → PlacesEvent old e (Some p) new
    → p.role ≡ place_role.Key → StandsAt old at → (rest : List Event) (x : Ending) (c : Closing) (d : Document)
    → PairedFrom new.collections rest → end_of_document rest ≡ Some c → load_from (entries_bound old) at (e ∷ rest) x ≡ Ok d
    → (r : yaml_node_pair_t) × (held_pair d.nodes p.parent p.index ≡ Some r) × (r.key ≡ p.id)
pairs_so old new e p at event is (is_between none same) rest x c d paired ends loads =
    absurd (true≢false (sym (step old new e p event).within ∙ none))
pairs_so old new e p at event is (is_within o h stands same there) rest x c d paired ends loads =
    pair_within old new e p event o h stands same is rest x c d paired ends
    (subst (λ (z : State). load_from (entries_bound old) z (e ∷ rest) x ≡ Ok d) there loads)

pub nodes_so : (old new : EventComposer) (e : Event) (p : yaml_place_t) (at : State) → PlacesEvent old e (Some p) new
    → IsNode (part_of e) → StandsAt old at → HoldsOnceLoaded old at e (λ nodes. (y : yaml_node_t) × (node_at nodes p.id ≡ Some y)
    × (y.start_mark ≡ e.start_mark))
nodes_so old new e p at event is stands = anywhere old new e p event
    (λ nodes. (y : yaml_node_t) × (node_at nodes p.id ≡ Some y) × (y.start_mark ≡ e.start_mark))
    (λ o h r same. own_within old new e p event o h r same is) at stands

pub first_so : (old new : EventComposer) (e : Event) (p : yaml_place_t) (at : State) → PlacesEvent old e (Some p) new
    → StandsAt old at → old.collections.nodes ≡ 0
    → p ≡ record { id = pos 1; parent = pos 0; role = place_role.Root; index = 0; depth = 0 }
first_so old new e p at event (is_between none is) empty = absurd (true≢false (sym (step old new e p event).within ∙ none))
first_so old new e p at event (is_within o h stands same is) empty = root_first old new e p event o h stands same empty

pub root_so : (old new : EventComposer) (e : Event) (p : yaml_place_t) → PlacesEvent old e (Some p) new → p.role ≡ place_role.Root
    → (p.parent ≡ pos 0) × (p.index ≡ 0) × (p.depth ≡ 0)
root_so old new e p event is = go old.collections.stack (deed_told old new e p event place_role.Root is) (parent_told old new e p event)
    (index_told old new e p event place_role.Root is) (told_fields old new e p event).depth_is
  where
    go : (s : List open_t) → deed_for s ≡ deed.Root → p.parent ≡ parent_in s → p.index ≡ index_by place_role.Root (innermost_of s)
        → p.depth ≡ length s → (p.parent ≡ pos 0) × (p.index ≡ 0) × (p.depth ≡ 0)
    go [] is parent index depth = (parent, index, depth)
    go (o ∷ s) is parent index depth = absurd (by (is_set o.is_mapping) (is_id o.key) is)
      where
        by : (b w : Bool) → deed_in b w ≡ deed.Root → ⊥
        by false w is = absurd (cc)
        by true false is = absurd (cc)
        by true true is = absurd (cc)

-- The ids of a graph: each names a node, a node holds those of all its children, and children come later than their
-- parents.
use Rattle.std.specs.Prelude.{not}
use Rattle.std.proofs.Common.{◌≡◌, ◌≤◌, ℕ, suc, ℤ, pos, List, [], ◌∷◌, ◌+◌, length, All, arith, add-zero, zero-add, Option, Some, None, Bool, true, false, refl, sym, ap, ◌∙◌, subst, le_refl, le_trans, le_of_lt, lt-suc_self, suc-le-suc, zero-le}
use Rattle.std.proofs.lemmas.Int.{ints}
use Rattle.std.proofs.lemmas.List.Elements.{All-nil, All-cons}
use Rattle.std.proofs.Math.Bool.{not-not}
use Rattle.libyaml_grammar.specs.grammar.Events.{Event, Layout, end_at}
use Rattle.libyaml_types.specs.Fault.{Fault}
use Rattle.libyaml_grammar.specs.grammar.Nesting.{AllHavePairs, HasPairs, DocumentTexts, TextsHavePairs, Value, Values, alias_value, collection_value, first_value, is_even, no_texts, no_values, scalar_value, text_after, value_events, values_events}
use Rattle.libyaml_grammar.specs.grammar.Tokens.{Mark}
use Rattle.libyaml_grammar.specs.grammar.Trees.{Sort, mapping, sequence}
use Rattle.libyaml_documents.specs.Nodes.{EveryIdNamesANode, IsIdUpTo, ids_of, ids_of_pairs}
use Rattle.libyaml_documents.specs.declared.node.yaml_node_t.{yaml_node_t}
use Rattle.libyaml_graphs.specs.graphs.ComposerFaults.{alias_fault, anchor_fault, composer_fault, heads, or_else, composer_part_fault}
use Rattle.libyaml_graphs.specs.loads.GraphLaws.{AllHoldTheirChildren, AllLater, ChildrenAreLater, EachHoldsItsChildren, EachIsLater, HoldsItsChildren, IsLater}
use Rattle.libyaml_graphs.specs.graphs.Graphs.{AnchoredNode, Start, anchored_node, carries, collection_loaded, id_of, id_or, ids_of_all, items, nodes_of, nodes_of_all, pairs, starts_after, starts_after_all}
use Rattle.libyaml_graphs.specs.graphs.GraphParts.{Part, alias_part, end_part, leaf_part, parts, anchored_node_start, start_part}

one_more : (n : ℕ) → n ≤ suc n
one_more n = le_of_lt (lt-suc_self n)

or_none : (f g : Option Fault) → or_else f g ≡ None → (f ≡ None) × (g ≡ None)
or_none f g e = grind arith

-- an alias's id is that of a node whose start stands before it
carried : (b : Bool) (n : ℕ) (m : Mark) (o : Option AnchoredNode) → id_or o ≤ n
    → id_or (elim b [ true ↦ Some (record { id = suc n; mark = m }) | false ↦ o ]) ≤ suc n
carried b n m o h = grind arith

anchored_node_before : (a : List ℕ) (es : List Start) → id_or (anchored_node a es) ≤ length es
anchored_node_before a [] = le_refl _
anchored_node_before a (s ∷ es) = carried (carries s.anchor a) (length es) s.mark (anchored_node a es) (anchored_node_before a es)

-- and is not zero where the alias has no error
named : (b : Bool) (n : ℕ) (i m : Mark) (o : Option AnchoredNode) → (alias_fault o m ≡ None → 1 ≤ id_or o)
    → alias_fault (elim b [ true ↦ Some (record { id = suc n; mark = i }) | false ↦ o ]) m ≡ None
    → 1 ≤ id_or (elim b [ true ↦ Some (record { id = suc n; mark = i }) | false ↦ o ])
named b n i m o f e = grind arith

anchored_node_id : (a : List ℕ) (es : List Start) (m : Mark) → alias_fault (anchored_node a es) m ≡ None → 1 ≤ id_or (anchored_node a es)
anchored_node_id a [] m e = cc
anchored_node_id a (s ∷ es) m e = named (carries s.anchor a) (length es) s.mark m (anchored_node a es) (anchored_node_id a es m) e

mutual
  starts_grow : (v : Value) (es : List Start) → length es ≤ length (starts_after v es)
  starts_grow (alias_value a m n) es = le_refl _
  starts_grow (scalar_value s m n) es = one_more (length es)
  starts_grow (collection_value k a t i s m n vs p q) es =
      le_trans (one_more (length es)) (all_starts_grow vs (record { anchor = a; mark = m } ∷ es))

  all_starts_grow : (vs : Values) (es : List Start) → length es ≤ length (starts_after_all vs es)
  all_starts_grow no_values es = le_refl _
  all_starts_grow (first_value v vs) es = le_trans (starts_grow v es) (all_starts_grow vs (starts_after v es))

id_up_to : (v : Value) (es : List Start) → id_of v es ≤ length (starts_after v es)
id_up_to v es = grind (arith, anchored_node_before, le_refl, all_starts_grow)

-- ids between 1 and n
record IsUpTo (n i : ℕ) : Type 0 where
  first : 1 ≤ i
  last : i ≤ n

abbrev AllUpTo : ℕ → List ℕ → Type 0
AllUpTo n [] = Unit {0}
AllUpTo n (i ∷ is) = IsUpTo n i × AllUpTo n is

-- where the composer finds no error in values they have ids, and there is none in what follows them
mutual
  value_sound : (v : Value) (es : List Start) (r : List Event) → composer_fault es (parts (value_events v r)) ≡ None
      → (1 ≤ id_of v es)
      × (composer_fault (starts_after v es) (parts r) ≡ None)
  value_sound (alias_value a m n) es r e = grind (arith, or_none, anchored_node_id)
  value_sound (scalar_value s m n) es r e = (suc-le-suc zero-le, (or_none (anchor_fault es s.anchor m) _ e).1)
  value_sound (collection_value sequence a t i s m n vs p q) es r e
      = (
        suc-le-suc zero-le,
        (values_sound vs (record { anchor = a; mark = m } ∷ es) (end_at sequence p q ∷ r)
            (or_none (anchor_fault es a m) _ e).1).1,
      )
  value_sound (collection_value mapping a t i s m n vs p q) es r e
      = (
        suc-le-suc zero-le,
        (values_sound vs (record { anchor = a; mark = m } ∷ es) (end_at mapping p q ∷ r)
            (or_none (anchor_fault es a m) _ e).1).1,
      )

  values_sound : (vs : Values) (es : List Start) (r : List Event) → composer_fault es (parts (values_events vs r)) ≡ None
      → ((n : ℕ) → length (starts_after_all vs es) ≤ n → AllUpTo n (ids_of_all vs es))
      × (composer_fault (starts_after_all vs es) (parts r) ≡ None)
  values_sound no_values es r e = (λ n h. tt, e)
  values_sound (first_value v vs) es r e =
      let a : (1 ≤ id_of v es) × (composer_fault (starts_after v es) (parts (values_events vs r)) ≡ None) =
      value_sound v es (values_events vs r) e in
      let b : ((n : ℕ) → length (starts_after_all vs (starts_after v es)) ≤ n
      → AllUpTo n (ids_of_all vs (starts_after v es)))
      × (composer_fault (starts_after_all vs (starts_after v es)) (parts r) ≡ None) =
      values_sound vs (starts_after v es) r a.1 in (
        λ n h. (
          record {
            first = a.0;
            last =
                le_trans (id_up_to v es) (le_trans (all_starts_grow vs (starts_after v es)) h);
          },
          b.0 n h,
        ),
        b.1,
      )

is_id : (n i : ℕ) → IsUpTo n i → IsIdUpTo n (pos i)
is_id n i h = let a : 1 ≤ i = h.first in let b : i ≤ n = h.last in (omega (arith, ints), omega (arith, ints))

items_are : (n : ℕ) (is : List ℕ) → AllUpTo n is → All (IsIdUpTo n) (items is)
items_are n [] h = All-nil (IsIdUpTo n)
items_are n (i ∷ is) h = All-cons (IsIdUpTo n) (pos i) (items is) (is_id n i h.0) (items_are n is h.1)

pairs_are : (n : ℕ) (is : List ℕ) → AllUpTo n is → All (IsIdUpTo n) (ids_of_pairs (pairs is))
pairs_are n [] h = All-nil (IsIdUpTo n)
pairs_are n (k ∷ []) h = All-nil (IsIdUpTo n)
pairs_are n (k ∷ v ∷ is) h = grind (arith, is_id n k h.0, is_id n v h.1.0, pairs_are n is h.1.1)

abbrev Ids : ℕ → yaml_node_t → Type 0
Ids n x = All (IsIdUpTo n) (ids_of x.content)

collection_ids : (k : Sort) (n : ℕ) (t : Option (List ℕ)) (s : Layout) (is : List ℕ) (m q : Mark) → AllUpTo n is
    → Ids n (collection_loaded k t s is m q)
collection_ids sequence n t s is m q h = items_are n is h
collection_ids mapping n t s is m q h = pairs_are n is h

opened_sound : (k : Sort) (a t : Option (List ℕ)) (i : Bool) (s : Layout) (m n : Mark) (vs : Values) (p q : Mark)
    (es : List Start) (r : List Event)
    → composer_fault es (parts (value_events (collection_value k a t i s m n vs p q) r)) ≡ None
    → composer_fault (record { anchor = a; mark = m } ∷ es) (parts (values_events vs (end_at k p q ∷ r))) ≡ None
opened_sound k a t i s m n vs p q es r e = grind arith

mutual
  value_ids : (v : Value) (n : ℕ) (es : List Start) (r : List Event) (l : List yaml_node_t)
      → composer_fault es (parts (value_events v r)) ≡ None
      → length (starts_after v es) ≤ n → All (Ids n) l → All (Ids n) (nodes_of v es l)
  value_ids (alias_value a m j) n es r l e h k = k
  value_ids (scalar_value s m j) n es r l e h k = All-cons (Ids n) _ l (All-nil (IsIdUpTo n)) k
  value_ids (collection_value c a t i s m j vs x q) n es r l e h k =
      let fs : List Start = record { anchor = a; mark = m } ∷ es in
      let f : composer_fault fs (parts (values_events vs (end_at c x q ∷ r))) ≡ None =
      opened_sound c a t i s m j vs x q es r e in
      All-cons (Ids n) (collection_loaded c t s (ids_of_all vs fs) m q) (nodes_of_all vs fs l)
      (collection_ids c n t s (ids_of_all vs fs) m q ((values_sound vs fs (end_at c x q ∷ r) f).0 n h))
      (values_ids vs n fs (end_at c x q ∷ r) l f h k)

  values_ids : (vs : Values) (n : ℕ) (es : List Start) (r : List Event) (l : List yaml_node_t)
      → composer_fault es (parts (values_events vs r)) ≡ None
      → length (starts_after_all vs es) ≤ n → All (Ids n) l → All (Ids n) (nodes_of_all vs es l)
  values_ids no_values n es r l e h k = k
  values_ids (first_value v vs) n es r l e h k
      = value_ids v n es (values_events vs r) (nodes_of_all vs (starts_after v es) l) e
      (le_trans (all_starts_grow vs (starts_after v es)) h)
      (values_ids vs n (starts_after v es) r l (value_sound v es (values_events vs r) e).1 h k)

pub moved : (a b : ℕ) → suc a + b ≡ a + suc b
moved a b = omega arith

mutual
  nodes_count : (v : Value) (es : List Start) (l : List yaml_node_t)
      → length (starts_after v es) + length l ≡ length es + length (nodes_of v es l)
  nodes_count (alias_value a m j) es l = refl
  nodes_count (scalar_value s m j) es l = moved (length es) (length l)
  nodes_count (collection_value c a t i s m j vs p q) es l =
      all_nodes_count vs (record { anchor = a; mark = m } ∷ es) l
      ∙ moved (length es) (length (nodes_of_all vs (record { anchor = a; mark = m } ∷ es) l))

  all_nodes_count : (vs : Values) (es : List Start) (l : List yaml_node_t)
      → length (starts_after_all vs es) + length l ≡ length es + length (nodes_of_all vs es l)
  all_nodes_count no_values es l = refl
  all_nodes_count (first_value v vs) es l = all_nodes_count vs (starts_after v es) l
      ∙ nodes_count v es (nodes_of_all vs (starts_after v es) l)

node_count : (v : Value) → length (starts_after v []) ≡ length (nodes_of v [] [])
node_count v = sym (add-zero _) ∙ (nodes_count v [] [] ∙ zero-add _)

-- in a document without composer error every id names a node
pub every_id : (v : Value) → composer_fault [] (parts (value_events v [])) ≡ None → EveryIdNamesANode (nodes_of v [] [])
every_id v e = value_ids v (length (nodes_of v [] [])) [] [] [] e
    (subst (λ (n : ℕ). length (starts_after v []) ≤ n) (node_count v) (le_refl _))
    (All-nil (Ids (length (nodes_of v [] []))))

-- each node holds the ids of all its children
abbrev pub even_list : List ℕ → Bool
even_list [] = true
even_list (i ∷ is) = not (even_list is)

pub ids_even : (vs : Values) (es : List Start) → even_list (ids_of_all vs es) ≡ is_even vs
ids_even no_values es = refl
ids_even (first_value v vs) es = ap not (ids_even vs (starts_after v es))

pairs_hold : (is : List ℕ) → even_list is ≡ true → ids_of_pairs (pairs is) ≡ items is
pairs_hold [] e = refl
pairs_hold (k ∷ []) e = cc
pairs_hold (k ∷ v ∷ is) e = ap (λ (l : List ℤ). pos k ∷ pos v ∷ l) (pairs_hold is (sym (not-not (even_list is)) ∙ e))

mutual
  pub holds_children : (v : Value) (es : List Start) → HasPairs v → HoldsItsChildren v es
  holds_children (alias_value a m n) es h = tt
  holds_children (scalar_value s m n) es h = tt
  holds_children (collection_value sequence a t i s m n vs p q) es h =
      (refl, all_hold_children vs (record { anchor = a; mark = m } ∷ es) h.1)
  holds_children (collection_value mapping a t i s m n vs p q) es h
      = (
        pairs_hold (ids_of_all vs (record { anchor = a; mark = m } ∷ es))
            (ids_even vs (record { anchor = a; mark = m } ∷ es) ∙ h.0),
        all_hold_children vs (record { anchor = a; mark = m } ∷ es) h.1,
      )

  all_hold_children : (vs : Values) (es : List Start) → AllHavePairs vs → AllHoldTheirChildren vs es
  all_hold_children no_values es h = tt
  all_hold_children (first_value v vs) es h = (holds_children v es h.0, all_hold_children vs (starts_after v es) h.1)

pub texts_hold : (ts : DocumentTexts) → TextsHavePairs ts → EachHoldsItsChildren ts
texts_hold no_texts h = tt
texts_hold (text_after ts d m n v i p q) h = (texts_hold ts h.0, holds_children v [] h.1)

-- children come later than their parents
is_later : (n : ℕ) (v : Value) (es : List Start) → n ≤ length es → IsLater n v es
is_later n v es h = grind (arith, anchored_node_before, suc-le-suc)

mutual
  pub children_later : (v : Value) (es : List Start) → ChildrenAreLater v es
  children_later (alias_value a m k) es = tt
  children_later (scalar_value s m k) es = tt
  children_later (collection_value c a t i s m k vs p q) es =
      all_later vs (suc (length es)) (record { anchor = a; mark = m } ∷ es) (le_refl _)

  all_later : (vs : Values) (n : ℕ) (es : List Start) → n ≤ length es → AllLater n vs es
  all_later no_values n es h = tt
  all_later (first_value v vs) n es h =
      (is_later n v es h, children_later v es, all_later vs n (starts_after v es) (le_trans h (starts_grow v es)))

pub texts_later : (ts : DocumentTexts) → EachIsLater ts
texts_later no_texts = tt
texts_later (text_after ts d m n v i p q) = (texts_later ts, children_later v [])

-- the ends of collections have no composer error
pub fault_of_heads : (P : List Part) (es : List Start) → composer_fault es P ≡ composer_fault es (heads P)
fault_of_heads [] es = refl
fault_of_heads (alias_part a m ∷ P) es = ap (or_else (composer_part_fault es (alias_part a m))) (fault_of_heads P es)
fault_of_heads (leaf_part a x ∷ P) es = ap (or_else (composer_part_fault es (leaf_part a x))) (fault_of_heads P (anchored_node_start a x ∷ es))
fault_of_heads (start_part a x ∷ P) es = cc (fault_of_heads P (anchored_node_start a x ∷ es))
fault_of_heads (end_part n ∷ P) es = fault_of_heads P es

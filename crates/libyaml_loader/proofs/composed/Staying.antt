-- What a document's nodes have stays so, whatever events come.
use Rattle.std.proofs.Common.{◌≡◌, ◌⊎◌, inl, inr, ◌∷◌, ◌++◌, ℕ, zero, suc, ℤ, pos, negsuc, nat_abs, List, [], Option, Some, None, Bool, true, false, Ok, Err, length, slice_get, refl, sym, ap, subst, arith}
use Rattle.std.specs.FinMap.{get}
use Rattle.libyaml_types.specs.Fault.{Fault}
use Rattle.libyaml_grammar.specs.grammar.Events.{Event}
use Rattle.libyaml_grammar.specs.grammar.Tokens.{Mark}
use Rattle.libyaml_grammar.specs.runs.Runs.{Ending}
use Rattle.libyaml_grammar.proofs.exported.Injectivity.{ok_same}
use Rattle.libyaml_documents.specs.Documents.{Document}
use Rattle.libyaml_documents.specs.LoadedNodes.{with_end}
use Rattle.libyaml_documents.specs.Nodes.{changed_at, node_at, with_changed}
use Rattle.libyaml_documents.specs.declared.node.yaml_node_t.{yaml_node_t}
use Rattle.libyaml_graphs.specs.graphs.GraphParts.{Closing, Opening, Part, alias_part, closing_of, end_part, leaf_part, part_of, start_part}
use Rattle.libyaml_graphs.specs.graphs.Graphs.{AnchoredNode}
use Rattle.libyaml_graphs.specs.loads.Loads.{Load, document, end_of_document}
use Rattle.libyaml_graphs.specs.machine.Loader.{Loader, Loading, OpenNode, Registered, bounded_option, closed_by, failed, going, hand, handed, if_child_fits, if_going, known, list_full, load_from, load_part, nodes_full, on_alias, on_node, outer, register, registered, unless_full, with_child, within}

-- what is kept of the nodes and the open collections: at a child, a node, the start and the end of a collection
pub record IsKept (Holds : List yaml_node_t → List OpenNode → Type 0) : Type 0 where
  pub child : (i : ℤ) (s : List OpenNode) (nodes : List yaml_node_t) → Holds nodes s → Holds (hand i s nodes) (handed i s nodes)
  pub node : (x : yaml_node_t) (s : List OpenNode) (nodes : List yaml_node_t) → Holds nodes s → Holds (nodes ++ x ∷ []) s
  pub start : (s t : List OpenNode) (nodes later : List yaml_node_t) → Holds nodes s → Holds later t
      → Holds later (record { node = pos (suc (length nodes)); key = None } ∷ t)
  pub end : (m : Mark) (s : List OpenNode) (nodes : List yaml_node_t) → Holds nodes s → Holds (closed_by m s nodes) (outer s)

module _ (Holds : List yaml_node_t → List OpenNode → Type 0) (kept : IsKept Holds) where
  abbrev pub Stays : Loading → Type 0
  Stays (failed f) = Unit {0}
  Stays (going l) = Holds l.nodes l.stack

  on_alias_stays : (a : Option AnchoredNode) (m : Mark) (l : Loader) → Holds l.nodes l.stack → Stays (on_alias a m l)
  on_alias_stays None m l h = tt
  on_alias_stays (Some c) m l h = kept.child (pos c.id) l.stack l.nodes h

  child_of_node : (x : yaml_node_t) (l : Loader) → Holds l.nodes l.stack
      → Holds (hand (pos (suc (length l.nodes))) l.stack (l.nodes ++ x ∷ [])) (handed (pos (suc (length l.nodes))) l.stack (l.nodes ++ x ∷ []))
  child_of_node x l h = kept.child (pos (suc (length l.nodes))) l.stack (l.nodes ++ x ∷ []) (kept.node x l.stack l.nodes h)

  leaf_stays : (r : Registered) (x : yaml_node_t) (l : Loader) → Holds l.nodes l.stack → Stays (on_node r x [] l)
  leaf_stays (known m) x l h = tt
  leaf_stays (registered xs) x l h = child_of_node x l h

  start_stays : (r : Registered) (x : yaml_node_t) (l : Loader) → Holds l.nodes l.stack
      → Stays (on_node r x (record { node = pos (suc (length l.nodes)); key = None } ∷ []) l)
  start_stays (known m) x l h = tt
  start_stays (registered xs) x l h = kept.start l.stack _ l.nodes _ h (child_of_node x l h)

  part_stays : (p : Part) (l : Loader) → Holds l.nodes l.stack → Stays (load_part l p)
  part_stays (alias_part a m) l h = on_alias_stays (get l.anchors a) m l h
  part_stays (leaf_part a x) l h = leaf_stays (register a (suc (length l.nodes)) x.start_mark l.anchors) x l h
  part_stays (start_part a x) l h = start_stays (register a (suc (length l.nodes)) x.start_mark l.anchors) x l h
  part_stays (end_part m) l h = kept.end m l.stack l.nodes h

  unless_stays : (b : Bool) (r : Loading) → Stays r → Stays (unless_full b r)
  unless_stays true r h = tt
  unless_stays false r h = h

  if_stays : (b : Bool) (r : Loading) → Stays r → Stays (if_child_fits b r)
  if_stays b (failed f) h = tt
  if_stays b (going l) h = unless_stays b (going l) h

  pub step_stays : (n : ℕ) (l : Loader) (q : Option Part) → Holds l.nodes l.stack → Stays (bounded_option n l q)
  step_stays n l None h = h
  step_stays n l (Some p) h = unless_stays (nodes_full n l p) _ (if_stays (list_full n l p) _ (part_stays p l h))

  abbrev by_end : ℕ → Opening → Loader → List Event → Ending → Option Closing → Loading → Load
  by_end n o l r x y t = elim y [
    | Some z ↦ Ok (document o l.nodes z)
    | None ↦ if_going (λ (f : Fault). Err f) t (λ (k : Loader). load_from n (within o k) r x)
  ]

  -- a document that is whole
  pub document_keeps : (n : ℕ) (o : Opening) (rest : List Event) (l : Loader) (x : Ending) (c : Closing) (d : Document)
      → end_of_document rest ≡ Some c → load_from n (within o l) rest x ≡ Ok d → Holds l.nodes l.stack
      → (s : List OpenNode) × Holds d.nodes s
  document_keeps n o [] l x c d ends loads h = absurd (cc)
  document_keeps n o (e ∷ r) l x c d ends loads h =
      go (closing_of e) (bounded_option n l (part_of e)) (step_stays n l (part_of e) h) ends loads (λ m. document_keeps n o r m x c d)
    where
      go : (y : Option Closing) (t : Loading) → Stays t → elim y [ Some z ↦ Some z | None ↦ end_of_document r ] ≡ Some c
          → by_end n o l r x y t ≡ Ok d
          → ((m : Loader) → end_of_document r ≡ Some c → load_from n (within o m) r x ≡ Ok d → Holds m.nodes m.stack
          → (s : List OpenNode) × Holds d.nodes s) → (s : List OpenNode) × Holds d.nodes s
      go (Some z) t k e1 e2 later = (l.stack, subst (λ (y : Document). Holds y.nodes l.stack) (ok_same (document o l.nodes z) d e2) h)
      go None (failed f) k e1 e2 later = absurd (cc)
      go None (going m) k e1 e2 later = later m e1 e2 k

-- the node, and the node of an id
abbrev pub OfNode : (yaml_node_t → Type 0) → Option yaml_node_t → Type 0
OfNode P None = ⊥
OfNode P (Some x) = P x

abbrev pub OfId : (yaml_node_t → Type 0) → ℤ → List yaml_node_t → Type 0
OfId P id nodes = OfNode P (node_at nodes id)

-- nodes more, one that changes, and all others
module _ (P : yaml_node_t → Type 0) where
  among : (nodes more : List yaml_node_t) (k : ℕ) → OfNode P (slice_get nodes k) → OfNode P (slice_get (nodes ++ more) k)
  among [] more k h = absurd h
  among (x ∷ xs) more zero h = h
  among (x ∷ xs) more (suc k) h = among xs more k h

  pub of_more : (nodes more : List yaml_node_t) (i : ℤ) → OfId P i nodes → OfId P i (nodes ++ more)
  of_more nodes more (negsuc n) h = absurd h
  of_more nodes more (pos zero) h = absurd h
  of_more nodes more (pos (suc k)) h = among nodes more k h

  beyond : (nodes : List yaml_node_t) → OfNode P (slice_get nodes (length nodes)) → ⊥
  beyond [] h = h
  beyond (x ∷ xs) h = beyond xs h

  pub of_next : (nodes : List yaml_node_t) (i : ℤ) → i ≡ pos (suc (length nodes)) → OfId P i nodes → ⊥
  of_next nodes i is h = beyond nodes (subst (λ (z : ℤ). OfId P z nodes) is h)

  module _ (Q : yaml_node_t → Type 0) (f : yaml_node_t → yaml_node_t) (changes : (x : yaml_node_t) → P x → Q (f x)) where
    there : (nodes : List yaml_node_t) (k : ℕ) → OfNode P (slice_get nodes k) → OfNode Q (slice_get (changed_at k f nodes) k)
    there [] k h = absurd h
    there (x ∷ xs) zero h = changes x h
    there (x ∷ xs) (suc k) h = there xs k h

    pub of_changed : (nodes : List yaml_node_t) (i : ℤ) → OfId P i nodes → OfId Q i (with_changed i f nodes)
    of_changed nodes (negsuc n) h = absurd h
    of_changed nodes (pos zero) h = absurd h
    of_changed nodes (pos (suc k)) h = there nodes k h

  elsewhere : (f : yaml_node_t → yaml_node_t) (nodes : List yaml_node_t) (j k : ℕ) → (j ≡ k → ⊥)
      → OfNode P (slice_get nodes k) → OfNode P (slice_get (changed_at j f nodes) k)
  elsewhere f [] j k n h = absurd h
  elsewhere f (x ∷ xs) zero zero n h = absurd (n refl)
  elsewhere f (x ∷ xs) zero (suc k) n h = h
  elsewhere f (x ∷ xs) (suc j) zero n h = h
  elsewhere f (x ∷ xs) (suc j) (suc k) n h = elsewhere f xs j k (λ e. n (ap suc e)) h

  pub of_other : (f : yaml_node_t → yaml_node_t) (nodes : List yaml_node_t) (z i : ℤ) → (z ≡ i → ⊥) → OfId P i nodes
      → OfId P i (with_changed z f nodes)
  of_other f nodes (negsuc m) i n h = h
  of_other f nodes (pos zero) i n h = h
  of_other f nodes (pos (suc j)) (negsuc m) n h = absurd h
  of_other f nodes (pos (suc j)) (pos zero) n h = absurd h
  of_other f nodes (pos (suc j)) (pos (suc k)) n h = elsewhere f nodes j k (λ e. n (ap (λ (m : ℕ). pos (suc m)) e)) h

same_number : (j k : ℕ) → (j ≡ k) ⊎ (j ≡ k → ⊥)
same_number zero zero = inl refl
same_number zero (suc k) = inr (λ e. absurd (omega (arith, e)))
same_number (suc j) zero = inr (λ e. absurd (omega (arith, e)))
same_number (suc j) (suc k) = elim (same_number j k) [ inl e ↦ inl (ap suc e) | inr n ↦ inr (λ e. n (omega (arith, e))) ]

pub same_id : (z i : ℤ) → (z ≡ i) ⊎ (z ≡ i → ⊥)
same_id (pos j) (pos k) = elim (same_number j k) [ inl e ↦ inl (ap pos e) | inr n ↦ inr (λ e. n (ap nat_abs e)) ]
same_id (negsuc j) (negsuc k) = elim (same_number j k) [ inl e ↦ inl (ap negsuc e) | inr n ↦ inr (λ e. n (cc)) ]
same_id (pos j) (negsuc k) = inr (λ e. cc)
same_id (negsuc j) (pos k) = inr (λ e. cc)

-- what holds of the node of an id, as long as it holds with a child or an end more
module _ (P : yaml_node_t → Type 0) (childs : (k : Option ℤ) (i : ℤ) (x : yaml_node_t) → P x → P (with_child k i x))
    (ends : (m : Mark) (x : yaml_node_t) → P x → P (with_end m x)) (id : ℤ) where
  stays : (f : yaml_node_t → yaml_node_t) → ((x : yaml_node_t) → P x → P (f x)) → (nodes : List yaml_node_t) (z : ℤ)
      → OfId P id nodes → OfId P id (with_changed z f nodes)
  stays f g nodes z h = elim (same_id z id) [
    | inl e ↦ subst (λ (y : ℤ). OfId P id (with_changed y f nodes)) (sym e) (of_changed P P f g nodes id h)
    | inr n ↦ of_other P f nodes z id n h
  ]

  pub of_child : (i : ℤ) (s : List OpenNode) (nodes : List yaml_node_t) → OfId P id nodes → OfId P id (hand i s nodes)
  of_child i [] nodes h = h
  of_child i (o ∷ s) nodes h = stays (with_child o.key i) (childs o.key i) nodes o.node h

  pub of_end : (m : Mark) (s : List OpenNode) (nodes : List yaml_node_t) → OfId P id nodes → OfId P id (closed_by m s nodes)
  of_end m [] nodes h = h
  of_end m (o ∷ s) nodes h = stays (with_end m) (ends m) nodes o.node h

  pub id_kept : IsKept (λ nodes s. OfId P id nodes)
  id_kept = record {
    child = of_child;
    node = λ x s nodes h. of_more P nodes (x ∷ []) id h;
    start = λ s t nodes later h k. k;
    end = of_end;
  }

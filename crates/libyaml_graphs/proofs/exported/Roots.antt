-- A whole document has a root, so that a document without nodes is the one at the stream's end.
use Rattle.std.proofs.Common.{◌≡◌, ◌≢◌, ◌++◌, ℕ, List, [], ◌∷◌, Option, Some, None, Bool, true, false, Ok, Err, nat_lt, refl, sym, ap, ◌∙◌, subst}
use Rattle.libyaml_types.specs.declared.event.unnamed_yaml_event_t_data.{unnamed_yaml_event_t_data}
use Rattle.libyaml_types.specs.declared.event.unnamed_yaml_event_t_data.TheVariants as ev
use Rattle.libyaml_grammar.specs.grammar.Events.{Event, document_end_at, end_at, event, stream_end_at}
use Rattle.libyaml_types.specs.Fault.{Fault}
use Rattle.libyaml_grammar.specs.grammar.Nesting.{IsOpenDocument, NestsSoFar, DocumentTexts, Value, Values, alias_value, collection_value, first_value, has_begun, no_texts, no_values, none_open, not_begun, one_open, scalar_value, text_after, texts_events, value_events, values_events, whole}
use Rattle.libyaml_grammar.specs.runs.Runs.{Ending, Ends, Fails}
use Rattle.libyaml_grammar.specs.grammar.Tokens.{Mark}
use Rattle.libyaml_grammar.specs.grammar.Trees.{mapping, sequence}
use Rattle.libyaml_grammar.proofs.exported.Injectivity.{ok_same}
use Rattle.libyaml_documents.specs.Documents.{Document}
use Rattle.libyaml_graphs.specs.loads.Bounds.{bounded_loads, first_stop, if_above, next_bounded}
use Rattle.libyaml_graphs.specs.loads.GraphLaws.{BeginsNode, RootFollows, RootsFollow}
use Rattle.libyaml_graphs.specs.loads.Loads.{Begun, Load, load_answer, begun, begun_after, after_document, document, end_of_document, last_load, left_by, left_over, load_then, loads_by, next_by}
use Rattle.libyaml_graphs.specs.graphs.GraphParts.{Closing, Opening, Part, alias_part, closing_in, closing_of, end_part, graph, leaf_part, opening_of, part_in, part_of, parts, start_part, with_part}
use Rattle.libyaml_graphs.proofs.loads.OneLoad.{Follow, follow}
pub use Rattle.libyaml_graphs.proofs.loads.OneLoad.{left_after}

-- an event within a document, and what such events keep of those after them
abbrev pub IsInner : Event → Type 0
IsInner e = (opening_of e ≡ None) × (closing_of e ≡ None)

mutual
  pub value_keeps : (P : List Event → Type 0) → ((e : Event) (r : List Event) → IsInner e → P r → P (e ∷ r))
      → (v : Value) (r : List Event) → P r
      → P (value_events v r)
  value_keeps P f (alias_value a m n) r h = f _ r (refl, refl) h
  value_keeps P f (scalar_value s m n) r h = f _ r (refl, refl) h
  value_keeps P f (collection_value sequence a t i s m n vs p q) r h
      = f _ _ (refl, refl) (values_keep P f vs (end_at sequence p q ∷ r) (f _ r (refl, refl) h))
  value_keeps P f (collection_value mapping a t i s m n vs p q) r h
      = f _ _ (refl, refl) (values_keep P f vs (end_at mapping p q ∷ r) (f _ r (refl, refl) h))

  values_keep : (P : List Event → Type 0) → ((e : Event) (r : List Event) → IsInner e → P r → P (e ∷ r))
      → (vs : Values) (r : List Event) → P r
      → P (values_events vs r)
  values_keep P f no_values r h = h
  values_keep P f (first_value v vs) r h = value_keeps P f v (values_events vs r) (values_keep P f vs r h)

-- in events that nest as far as they go each document's root follows its start
value_roots : (v : Value) (r : List Event) → RootsFollow r → RootsFollow (value_events v r)
value_roots v r h
    = value_keeps RootsFollow (λ e s i k. (subst (λ (o : Option Opening). RootFollows o s) (sym i.0) tt, k)) v r h

root_first : (v : Value) (r : List Event) (o : Opening) → RootFollows (Some o) (value_events v r)
root_first (alias_value a m n) r o = tt
root_first (scalar_value s m n) r o = tt
root_first (collection_value sequence a t i s m n vs p q) r o = tt
root_first (collection_value mapping a t i s m n vs p q) r o = tt

texts_roots : (ts : DocumentTexts) (r : List Event) → RootsFollow r → RootsFollow (texts_events ts r)
texts_roots no_texts r h = h
texts_roots (text_after ts d m n v i p q) r h
    = texts_roots ts (event (ev.DocumentStart d) m n ∷ value_events v (document_end_at i p q ∷ r)) (
      root_first v (document_end_at i p q ∷ r) (record { start = d; mark = m }),
      value_roots v (document_end_at i p q ∷ r) (tt, h),
    )

prefix_first : (o : Option Opening) (f r : List Event) → RootFollows o (f ++ r) → RootFollows o f
prefix_first None f r h = tt
prefix_first (Some o) [] r h = tt
prefix_first (Some o) (e ∷ f) r h = h

prefix_roots : (f r : List Event) → RootsFollow (f ++ r) → RootsFollow f
prefix_roots [] r h = tt
prefix_roots (e ∷ f) r h = (prefix_first (opening_of e) f r h.0, prefix_roots f r h.1)

open_roots : (l : List Event) → IsOpenDocument l → RootsFollow l
open_roots l (none_open e) = subst RootsFollow (sym e) tt
open_roots l (one_open d m n front e b) =
    let first = rw b.all at (root_first b.val [] (record { start = d; mark = m }))
    in
    let rest = subst RootsFollow b.all (value_roots b.val [] tt) in
    subst RootsFollow (sym e) (
      prefix_first (Some (record { start = d; mark = m })) front b.rest first,
      prefix_roots front b.rest rest,
    )

pub roots_follow : (l : List Event) → NestsSoFar l → RootsFollow l
roots_follow l (not_begun e) = subst RootsFollow (sym e) tt
roots_follow l (has_begun n) =
    subst RootsFollow (sym n.all) (tt, texts_roots n.texts n.open_document (open_roots n.open_document n.is_open))
roots_follow l (whole n) =
    subst RootsFollow (sym n.all) (tt, texts_roots n.texts (stream_end_at n.end n.end_end ∷ []) (tt, tt))

-- and so it is in those that a load leaves
after_roots : (r : List Event) → RootsFollow r → RootsFollow (after_document r)
after_roots [] h = tt
after_roots (e ∷ r) h = go (closing_of e) (after_roots r h.1)
  where
    go : (c : Option Closing) → RootsFollow (after_document r)
        → RootsFollow (elim c [ Some y ↦ r | None ↦ after_document r ])
    go (Some y) k = h.1
    go None k = k

pub left_roots : (r : List Event) → RootsFollow r → RootsFollow (left_over r)
left_roots [] h = tt
left_roots (e ∷ r) h = go (opening_of e) (left_roots r h.1)
  where
    go : (o : Option Opening) → RootsFollow (left_over r)
        → RootsFollow (left_by (elim o [ None ↦ begun r | Some y ↦ record { opening = y; rest = r } ∷ begun_after r ]))
    go None k = k
    go (Some y) k = after_roots r h.1

-- a document that begins with a node and that nothing stops has nodes
node_first : (k : unnamed_yaml_event_t_data) (m n : Mark) → BeginsNode (part_in k m n) → closing_in k n ≡ None
node_first (ev.DocumentEnd d) m n h = absurd h
node_first _ m n h = refl

part_first : (e : Event) (r : List Event) → closing_of e ≡ None → parts (e ∷ r) ≡ with_part (part_of e) (parts r)
part_first e r h = ap (λ (c : Option Closing). elim c [ Some y ↦ [] | None ↦ with_part (part_of e) (parts r) ]) h

stops : (b : Bool) (f : Fault) → if_above b (Some f) ≡ None → ⊥
stops true f h = cc
stops false f h = cc

first_node : (p : Option Part) (l : List Part) (n : ℕ) → BeginsNode p → first_stop n [] [] (with_part p l) ≡ None
    → graph [] (with_part p l) ≢ []
first_node None l n h s e = h
first_node (Some (alias_part a m)) l n h s e = stops (nat_lt n 0) _ s
first_node (Some (leaf_part a x)) l n h s e = cc
first_node (Some (start_part a x)) l n h s e = cc
first_node (Some (end_part m)) l n h s e = h

has_nodes : (r : List Event) (o : Opening) (c : Closing) (n : ℕ) → RootFollows (Some o) r
    → first_stop n [] [] (parts r) ≡ None → end_of_document r ≡ Some c
    → graph [] (parts r) ≢ []
has_nodes [] o c n h s d e = cc
has_nodes (f ∷ r) o c n h s d e =
    let p : parts (f ∷ r) ≡ with_part (part_of f) (parts r) =
    part_first f r (node_first f.content f.start_mark f.end_mark h) in
    first_node (part_of f) (parts r) n h (ap (λ (l : List Part). first_stop n [] [] l) (sym p) ∙ s)
    (ap (λ (l : List Part). graph [] l) (sym p) ∙ e)

last_bare : (x : Ending) (d : Document) → last_load x ≡ Ok d → d.nodes ≡ []
last_bare Ends d h = ap (λ (a : Document). a.nodes) (sym (ok_same _ d h))
last_bare (Fails f) d h = absurd cc

-- the root of the first document that begins follows
abbrev FirstRoot : List Begun → Type 0
FirstRoot [] = Unit {0}
FirstRoot (b ∷ bs) = RootFollows (Some b.opening) b.rest

first_root : (r : List Event) → RootsFollow r → FirstRoot (begun r)
first_root [] h = tt
first_root (e ∷ r) h = go (opening_of e) h.0 (first_root r h.1)
  where
    go : (o : Option Opening) → RootFollows o r → FirstRoot (begun r)
        → FirstRoot (elim o [ None ↦ begun r | Some y ↦ record { opening = y; rest = r } ∷ begun_after r ])
    go None k f = f
    go (Some y) k f = k

-- The load without nodes is the last, and the run's end.
pub last_of : (r : List Event) (x : Ending) (n : ℕ) (d : Document) → RootsFollow r → next_bounded n r x ≡ Ok d
    → d.nodes ≡ []
    → (bounded_loads n r x ≡ Ok d ∷ []) × (last_load x ≡ Ok d)
last_of r x n d h a e = go (begun r) (first_root r h) a
  where
    go : (bs : List Begun) → FirstRoot bs → next_by (first_stop n [] []) x bs ≡ Ok d
        → (loads_by (first_stop n [] []) x bs ≡ Ok d ∷ []) × (last_load x ≡ Ok d)
    go [] root b = (ap (λ (l : Load). l ∷ []) b, b)
    go (t ∷ ts) root b = at (first_stop n [] [] (parts t.rest)) (end_of_document t.rest) refl refl b
      where
        at : (f : Option Fault) (c : Option Closing) → first_stop n [] [] (parts t.rest) ≡ f → end_of_document t.rest ≡ c
            → load_answer f c t.opening (graph [] (parts t.rest)) (last_load x) ≡ Ok d
            → (load_then f c t.opening (graph [] (parts t.rest)) (last_load x) (loads_by (first_stop n [] []) x ts)
            ≡ Ok d ∷ []) × (last_load x ≡ Ok d)
        at (Some f) c s u b = absurd cc
        at None (Some c) s u b
            = absurd (has_nodes t.rest t.opening c n root s u
            (ap (λ (k : Document). k.nodes) (ok_same (document t.opening (graph [] (parts t.rest)) c) d b) ∙ e))
        at None None s u b = (ap (λ (l : Load). l ∷ []) b, b)

-- After a load with nodes come the loads of the events that it leaves.
pub earlier_of : (r : List Event) (x : Ending) (n : ℕ) (d : Document) → next_bounded n r x ≡ Ok d → d.nodes ≢ []
    → bounded_loads n r x ≡ Ok d ∷ bounded_loads n (left_over r) x
earlier_of r x n d a e = go (begun r) (follow r) a
  where
    go : (bs : List Begun) → Follow bs → next_by (first_stop n [] []) x bs ≡ Ok d
        → loads_by (first_stop n [] []) x bs ≡ Ok d ∷ loads_by (first_stop n [] []) x (begun (left_by bs))
    go [] f b = absurd (e (last_bare x d b))
    go (t ∷ ts) f b = at (first_stop n [] [] (parts t.rest)) (end_of_document t.rest) b
      where
        later : List Begun → List Load
        later l = loads_by (first_stop n [] []) x l

        at : (f : Option Fault) (c : Option Closing) → load_answer f c t.opening (graph [] (parts t.rest)) (last_load x) ≡ Ok d
            → load_then f c t.opening (graph [] (parts t.rest)) (last_load x) (later ts) ≡ Ok d ∷ later
            (begun (after_document t.rest))
        at (Some f) c b = absurd cc
        at None (Some c) b = ap (λ (l : Load). l ∷ later ts) b ∙ ap (λ (l : List Begun). Ok d ∷ later l) f
        at None None b = absurd (e (last_bare x d b))

-- An error is the last load.
pub fault_of : (r : List Event) (x : Ending) (n : ℕ) (f : Fault) → next_bounded n r x ≡ Err f
    → bounded_loads n r x ≡ Err f ∷ []
fault_of r x n f a = go (begun r) a
  where
    go : (bs : List Begun) → next_by (first_stop n [] []) x bs ≡ Err f → loads_by (first_stop n [] []) x bs ≡ Err f ∷ []
    go [] b = ap (λ (l : Load). l ∷ []) b
    go (t ∷ ts) b = at (first_stop n [] [] (parts t.rest)) (end_of_document t.rest) b
      where
        at : (g : Option Fault) (c : Option Closing) → load_answer g c t.opening (graph [] (parts t.rest)) (last_load x) ≡ Err f
            → load_then g c t.opening (graph [] (parts t.rest)) (last_load x) (loads_by (first_stop n [] []) x ts)
            ≡ Err f ∷ []
        at (Some g) c b = ap (λ (l : Load). l ∷ []) b
        at None (Some c) b = absurd cc
        at None None b = ap (λ (l : Load). l ∷ []) b

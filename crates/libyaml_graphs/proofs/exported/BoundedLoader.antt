-- The loader with its bound gives the next load within that bound.
use Rattle.std.proofs.Common.{◌≡◌, ℕ, suc, List, [], ◌∷◌, ◌++◌, length, nat_lt, refl, sym, ap, ◌∙◌, append_assoc, append-nil, Option, Some, None, Bool, true, false, Ok, Err}
use Rattle.libyaml_grammar.specs.grammar.Events.{Event}
use Rattle.libyaml_types.specs.Fault.{Fault}
use Rattle.libyaml_grammar.specs.runs.Runs.{Ending}
use Rattle.libyaml_documents.specs.declared.node.yaml_node_t.{yaml_node_t}
use Rattle.libyaml_graphs.specs.loads.Bounds.{first_stop, if_above, if_wrong, list_sizes, next_bounded, one_above, stop_at}
use Rattle.libyaml_graphs.specs.graphs.ComposerFaults.{composer_part_fault}
use Rattle.libyaml_graphs.specs.graphs.Graphs.{Start}
use Rattle.libyaml_graphs.specs.machine.Loader.{Anchors, Loader, Loading, between, bounded_option, bounded_part, failed, fresh, going, if_child_fits, if_going, list_full, load_from, load_part, no_anchors, nodes_full, unless_full, within}
use Rattle.libyaml_graphs.specs.loads.Loads.{Load, load_answer, begun, begun_after, document, end_of_document, last_load, next_by}
use Rattle.libyaml_graphs.specs.graphs.GraphParts.{Closing, Opening, Part, alias_part, following, closing_of, end_part, graph, leaf_part, opening_of, part_of, parts, start_part, with_part}
use Rattle.libyaml_graphs.proofs.machine.Built.{BeginsEmpty, Built, Held, build, build_finished, finished, finished_none, graph_nodes, held_graph, nodes_in, unbuilt}
use Rattle.libyaml_graphs.proofs.machine.Following.{Agrees, Follows, BuiltRight, build_stands, loader_of, nodes_length, none_known, part_follows, stands_unbuilt}
use Rattle.libyaml_graphs.proofs.machine.LoaderLoads.{Answering, IfBeginsEmpty, begins_empty, determined_events}
use Rattle.libyaml_graphs.proofs.machine.Sizes.{AllBegin, graph_sizes, list_grows, none_below, sizes}

-- what is built of the parts F, whose starts are es, within the bound
pub record Within (n : ℕ) (es : List Start) (F : List Part) (b : Built) : Type 0 where
  pub stands : BuiltRight es b
  pub few : nat_lt n (length es) ≡ false
  pub short : one_above n (sizes b.held) ≡ false
  pub reached : (P : List Part) → finished [] (F ++ P) unbuilt ≡ finished es P b
  pub all_begin : AllBegin F

pub within_unbuilt : (n : ℕ) → Within n [] [] unbuilt
within_unbuilt n = record { stands = stands_unbuilt; few = none_below n; short = refl; reached = λ P. refl; all_begin = tt }

pub all_begin_more : (F : List Part) (p : Part) → AllBegin F → BeginsEmpty p → AllBegin (F ++ p ∷ [])
all_begin_more [] p h e = (e, tt)
all_begin_more (q ∷ F) p h e = (h.0, all_begin_more F p h.1 e)

pub reaches : (p : Part) (es : List Start) (F : List Part) (b : Built) → BeginsEmpty p → BuiltRight es b
    → ((P : List Part) → finished [] (F ++ P) unbuilt ≡ finished es P b) → (P : List Part)
    → finished [] ((F ++ p ∷ []) ++ P) unbuilt ≡ finished (following p es) P (build es p b)
reaches p es F b e s r P = ap (λ (Q : List Part). finished [] Q unbuilt) (append_assoc F (p ∷ []) P)
    ∙ (r (p ∷ P) ∙ sym (build_finished p es P b e s.there))

-- what is built is the graph of the parts so far
pub held_so_far : (es : List Start) (F : List Part) (b : Built)
    → ((P : List Part) → finished [] (F ++ P) unbuilt ≡ finished es P b) → b.held ≡ held_graph [] F
held_so_far es F b r = sym (finished_none es b) ∙ (sym (r []) ∙ ap (held_graph []) (append-nil F))

nodes_so_far : (n : ℕ) (es : List Start) (F : List Part) (b : Built) → Within n es F b → nodes_in b.held ≡ graph [] F
nodes_so_far n es F b s = ap nodes_in (held_so_far es F b s.reached) ∙ graph_nodes F []

nodes_grow : (p : Part) (n : ℕ) (es : List Start) (b : Built) (xs : Anchors) → length b.held ≡ length es
    → nat_lt n (length es) ≡ false
    → nodes_full n (loader_of b xs) p ≡ nat_lt n (length (following p es))
nodes_grow (alias_part a m) n es b xs s h = sym h
nodes_grow (leaf_part a x) n es b xs s h = ap (λ (i : ℕ). nat_lt n (suc i)) (nodes_length b.held ∙ s)
nodes_grow (start_part a x) n es b xs s h = ap (λ (i : ℕ). nat_lt n (suc i)) (nodes_length b.held ∙ s)
nodes_grow (end_part m) n es b xs s h = sym h

-- one part within the bound, where K is what the loader does after it
step : {A : Type 0} (n : ℕ) (p : Part) (es : List Start) (F : List Part) (b : Built) (xs : Anchors)
    (w : Answering A) (N : List yaml_node_t) (K : Loader
    → A) (X : Option Fault) → BeginsEmpty p → Within n es F b → Agrees es xs
    → ((ys : Anchors) → Within n (following p es) (F ++ p ∷ []) (build es p b) → Agrees (following p es) ys
    → K (loader_of (build es p b) ys) ≡ determined_events w X N)
    → if_going w.of_fault (bounded_part n (loader_of b xs) p) K ≡ determined_events w (stop_at n es F p X) N
step n p es F b xs w N K X e s h ih =
    ap (λ (c : Bool). if_going w.of_fault
    (unless_full c (if_child_fits (list_full n (loader_of b xs) p) (load_part (loader_of b xs) p))) K)
    (nodes_grow p n es b xs s.stands.size s.few)
    ∙ if_room (nat_lt n (length (following p es))) refl
  where
    third : (ys : Anchors) → Agrees (following p es) ys → nat_lt n (length (following p es)) ≡ false → (c : Bool)
        → one_above n (sizes (build es p b).held) ≡ c
        → if_going w.of_fault (unless_full c (going (loader_of (build es p b) ys))) K ≡ determined_events w (if_above c X) N
    third ys a m true q = refl
    third ys a m false q = ih ys (record {
      stands = build_stands p es b s.stands;
      few = m;
      short = q;
      reached = reaches p es F b e s.stands s.reached;
      all_begin
          = all_begin_more F p s.all_begin e;
    }) a

    sized : one_above n (sizes (build es p b).held) ≡ one_above n (list_sizes [] (F ++ p ∷ []))
    sized = ap (λ (hs : List Held). one_above n (sizes hs))
        (held_so_far (following p es) (F ++ p ∷ []) (build es p b) (reaches p es F b e s.stands s.reached))
        ∙ graph_sizes (F ++ p ∷ []) [] n (all_begin_more F p s.all_begin e)

    second : (u : Loading) → nat_lt n (length (following p es)) ≡ false
        → Follows u (composer_part_fault es p) (following p es) (build es p b)
        → if_going w.of_fault (if_child_fits (list_full n (loader_of b xs) p) u) K
        ≡ determined_events w (if_wrong (composer_part_fault es p) (if_above (one_above n (list_sizes [] (F ++ p ∷ []))) X)) N
    second (failed f) m y = ap (λ (x : Option Fault). determined_events w
        (if_wrong x (if_above (one_above n (list_sizes [] (F ++ p ∷ []))) X)) N) (sym y)
    second (going k) m y =
        ap (λ (j : Loader). if_going w.of_fault (unless_full (list_full n (loader_of b xs) p) (going j)) K) y.1.1
        ∙ (ap (λ (c : Bool). if_going w.of_fault (unless_full c (going (loader_of (build es p b) y.1.0))) K)
        (sym (list_grows p n es b xs e s.stands.there s.short))
        ∙ (third y.1.0 y.1.2 m (one_above n (sizes (build es p b).held)) refl
        ∙ (ap (λ (c : Bool). determined_events w (if_above c X) N) sized
        ∙ ap (λ (x : Option Fault). determined_events w (if_wrong x (if_above (one_above n (list_sizes [] (F ++ p ∷ []))) X))
        N) (sym y.0))))

    if_room : (c : Bool) → nat_lt n (length (following p es)) ≡ c
        → if_going w.of_fault (unless_full c
        (if_child_fits (list_full n (loader_of b xs) p) (load_part (loader_of b xs) p))) K
        ≡ determined_events w (if_above c (if_wrong (composer_part_fault es p) (if_above (one_above n (list_sizes [] (F ++ p ∷ []))) X))) N
    if_room true q = refl
    if_room false q = second (load_part (loader_of b xs) p) q (part_follows p es b xs s.stands h)

-- One load.
abbrev one_answer : Option Closing → Opening → Ending → Answering Load
one_answer c o x = record {
  of_fault = λ (f : Fault). Err f;
  of_nodes =
      λ (nodes : List yaml_node_t). load_answer None c o nodes (last_load x);
}

abbrev one_bounded : ℕ → Option Closing → Opening → Ending → List Start → List Part → List Part → Load
one_bounded n c o x es F P = determined_events (one_answer c o x) (first_stop n es F P) (graph [] (F ++ P))

one_event : (n : ℕ) (e : Event) (r : List Event) (es : List Start) (F : List Part) (o : Opening) (b : Built)
    (xs : Anchors) (x : Ending) → Within n es F b
    → Agrees es xs
    → ((fs : List Start) (G : List Part) (c : Built) (ys : Anchors) → Within n fs G c → Agrees fs ys
    → load_from n (within o (loader_of c ys)) r x ≡ one_bounded n (end_of_document r) o x fs G (parts r))
    → load_from n (within o (loader_of b xs)) (e ∷ r) x ≡ one_bounded n (end_of_document (e ∷ r)) o x es F (parts (e ∷ r))
one_event n e r es F o b xs x s h ih = go (closing_of e) (part_of e) (begins_empty e.content e.start_mark e.end_mark)
  where
    part_or : (q : Option Part) → IfBeginsEmpty q
        → if_going (λ (f : Fault). Err f) (bounded_option n (loader_of b xs) q)
        (λ (k : Loader). load_from n (within o k) r x)
        ≡ one_bounded n (end_of_document r) o x es F (with_part q (parts r))
    part_or None u = ih es F b xs s h
    part_or (Some p) u = step n p es F b xs (one_answer (end_of_document r) o x) (graph [] (F ++ p ∷ parts r))
        (λ (k : Loader). load_from n (within o k) r x)
        (first_stop n (following p es) (F ++ p ∷ []) (parts r)) u s h
        (λ ys t a. ih (following p es) (F ++ p ∷ []) (build es p b) ys t a
        ∙ ap (λ (Q : List Part). determined_events (one_answer (end_of_document r) o x)
        (first_stop n (following p es) (F ++ p ∷ []) (parts r)) (graph [] Q))
        (append_assoc F (p ∷ []) (parts r)))

    go : (c : Option Closing) (q : Option Part) → IfBeginsEmpty q
        → elim c [
          | Some d ↦ Ok (document o (nodes_in b.held) d)
          | None ↦ if_going (λ (f : Fault). Err f) (bounded_option n (loader_of b xs) q)
              (λ (k : Loader). load_from n (within o k) r x)
        ]
        ≡ one_bounded n (elim c [ Some d ↦ Some d | None ↦ end_of_document r ]) o x es F
        (elim c [ Some d ↦ [] | None ↦ with_part q (parts r) ])
    go (Some d) q u = ap (λ (nodes : List yaml_node_t). Ok (document o nodes d))
        (nodes_so_far n es F b s ∙ ap (graph []) (sym (append-nil F)))
    go None q u = part_or q u

one_within : (r : List Event) (n : ℕ) (es : List Start) (F : List Part) (o : Opening) (b : Built) (xs : Anchors)
    (x : Ending) → Within n es F b → Agrees es xs
    → load_from n (within o (loader_of b xs)) r x ≡ one_bounded n (end_of_document r) o x es F (parts r)
one_within [] n es F o b xs x s h = refl
one_within (e ∷ r) n es F o b xs x s h
    = one_event n e r es F o b xs x s h
    (λ (fs : List Start) (G : List Part) (c : Built) (ys : Anchors) (t : Within n fs G c) (a : Agrees fs ys).
    one_within r n fs G o c ys x t a)

then_one : (f : Option Fault) (c : Option Closing) (o : Opening) (nodes : List yaml_node_t) (x : Ending)
    → determined_events (one_answer c o x) f nodes ≡ load_answer f c o nodes (last_load x)
then_one (Some f) c o nodes x = refl
then_one None c o nodes x = refl

pub one_load : (r : List Event) (x : Ending) (n : ℕ) → load_from n between r x ≡ next_bounded n r x
one_load [] x n = refl
one_load (e ∷ r) x n = go (opening_of e) (one_load r x n)
  where
    go : (c : Option Opening) → load_from n between r x ≡ next_bounded n r x
        → ◌≡◌ {A = Load} (elim c [ None ↦ load_from n between r x | Some o ↦ load_from n (within o fresh) r x ])
        (next_by (first_stop n [] []) x
        (elim c [ None ↦ begun r | Some o ↦ record { opening = o; rest = r } ∷ begun_after r ]))
    go None h = h
    go (Some o) h = one_within r n [] [] o unbuilt no_anchors x (within_unbuilt n) none_known
        ∙ then_one (first_stop n [] [] (parts r)) (end_of_document r) o (graph [] (parts r)) x

-- Each part of a document gives at most one node and one entry of one list.
use Rattle.std.proofs.Common.{◌≡◌, ◌≤◌, ◌+◌, ◌*◌, ◌++◌, arith, ℕ, zero, suc, List, [], ◌∷◌, length, map, Option, Some, None, Ok, false, refl, sym, ap}
use Rattle.libyaml_types.specs.declared.event.unnamed_yaml_event_t_data.{unnamed_yaml_event_t_data}
use Rattle.libyaml_grammar.specs.grammar.Events.{Event}
use Rattle.libyaml_grammar.specs.grammar.Tokens.{Mark}
use Rattle.libyaml_grammar.specs.runs.Runs.{Ending, Ends, Fails}
use Rattle.libyaml_types.specs.Fault.{Fault}
use Rattle.libyaml_documents.specs.Documents.{Document, empty_document}
use Rattle.libyaml_documents.specs.LoadedNodes.{children_of}
use Rattle.libyaml_documents.specs.declared.node.unnamed_yaml_node_t_data.{unnamed_yaml_node_t_data}
use Rattle.libyaml_graphs.specs.graphs.Graphs.{Start, anchored_node, id_or, items, pairs}
use Rattle.libyaml_graphs.specs.graphs.GraphParts.{Closing, Opening, Part, alias_part, children, closing_of, end_part, graph, if_outer, leaf_part, opening_of, part_in, part_of, parts, anchored_node_start, start_part, with_children, with_part}
use Rattle.libyaml_graphs.specs.loads.Linear.{documents_size, size, total_size}
use Rattle.libyaml_graphs.specs.loads.Loads.{Begun, Load, Stop, load_answer, after_document, document, next_by, begun, begun_after, end_of_document, last_load, load_then, loads_by}

-- a leaf has no children
abbrev pub Bare : List Part → Type 0
Bare [] = Unit {0}
Bare (leaf_part a x ∷ r) = (children_of x.content ≡ 0) × Bare r
Bare (p ∷ r) = Bare r

-- the children in the k innermost collections that are open before these parts
abbrev among : ℕ → List Start → List Part → ℕ
among zero es l = 0
among (suc k) es l = among k es l + length (children k es l)

item_count : (is : List ℕ) → length (items is) ≤ length is
item_count [] = omega arith
item_count (i ∷ is) = let h = item_count is in omega arith

pair_count : (is : List ℕ) → length (pairs is) ≤ length is
pair_count [] = omega arith
pair_count (k ∷ []) = omega arith
pair_count (k ∷ v ∷ is) = let h = pair_count is in omega arith

held : (is : List ℕ) (c : unnamed_yaml_node_t_data) → children_of (with_children is c) ≤ length is
held is c = grind (arith, item_count, pair_count)

-- one part more
outer_more : (k : ℕ) (es : List Start) (i : ℕ) (es' : List Start) (r : List Part) (p : Part)
    → ((d : ℕ) → children d es (p ∷ r) ≡ if_outer d (i ∷ []) (children d es' r)) → among k es (p ∷ r) ≤ suc (among k es' r)
outer_more zero es i es' r p h = omega arith
outer_more (suc zero) es i es' r p h = let e = ap length (h 0) in omega arith
outer_more (suc (suc k)) es i es' r p h = grind (arith, outer_more (suc k) es i es' r p h)

outer_start : (k : ℕ) (es : List Start) (i : ℕ) (es' : List Start) (r : List Part) (p : Part)
    → ((d : ℕ) → children d es (p ∷ r) ≡ if_outer d (i ∷ []) (children (suc d) es' r))
    → among k es (p ∷ r) + length (children 0 es' r) ≤ suc (among (suc k) es' r)
outer_start zero es i es' r p h = omega arith
outer_start (suc zero) es i es' r p h = let e = ap length (h 0) in omega arith
outer_start (suc (suc k)) es i es' r p h = grind (arith, outer_start (suc k) es i es' r p h)

outer_end : (k : ℕ) (es : List Start) (r : List Part) (n : Mark) → among (suc k) es (end_part n ∷ r) ≤ among k es r
outer_end zero es r n = omega arith
outer_end (suc k) es r n = let ih = outer_end k es r n in omega arith

outer_none : (k : ℕ) (es : List Start) → among k es [] ≤ 0
outer_none zero es = omega arith
outer_none (suc k) es = let ih = outer_none k es in omega arith

pub linear : (k : ℕ) (es : List Start) (l : List Part) → Bare l → size (graph es l) + among k es l ≤ 2 * length l
linear k es [] b = let h = outer_none k es in omega arith
linear k es (alias_part a m ∷ r) b =
    grind (arith, linear k es r b, outer_more k es (id_or (anchored_node a es)) es r (alias_part a m) (λ d. refl))
linear k es (leaf_part a x ∷ r) b =
    grind (
      arith,
      linear k (anchored_node_start a x ∷ es) r b.1,
      outer_more k es (suc (length es)) (anchored_node_start a x ∷ es) r (leaf_part a x) (λ d. refl),
    )
linear k es (start_part a x ∷ r) b =
    let ih = linear (suc k) (anchored_node_start a x ∷ es) r b in
    let h = outer_start k es (suc (length es)) (anchored_node_start a x ∷ es) r (start_part a x) (λ d. refl) in
    let z = held (children 0 (anchored_node_start a x ∷ es) r) x.content in
    omega arith
linear zero es (end_part n ∷ r) b = let ih = linear zero es r b in omega arith
linear (suc k) es (end_part n ∷ r) b = grind (arith, linear k es r b, outer_end k es r n)

-- the parts of events are bare, and no more than these
bare_in : (k : unnamed_yaml_event_t_data) (m n : Mark) (l : List Part) → Bare l → Bare (with_part (part_in k m n) l)
bare_in k m n l b = grind arith

bare : (e : List Event) → Bare (parts e)
bare [] = tt
bare (e ∷ r) = go (closing_of e) (bare_in e.content e.start_mark e.end_mark (parts r) (bare r))
  where
    go : (o : Option Closing) → Bare (with_part (part_of e) (parts r))
        → Bare (elim o [ Some c ↦ [] | None ↦ with_part (part_of e) (parts r) ])
    go None b = b
    go (Some c) b = tt

counted : (o : Option Part) (l : List Part) → length (with_part o l) ≤ suc (length l)
counted o l = grind arith

-- a document's parts, and the events after its end, are no more than the events
in_document : (e : List Event) → length (parts e) + length (after_document e) ≤ length e
in_document [] = omega arith
in_document (e ∷ r) = go (closing_of e) (in_document r)
  where
    go : (o : Option Closing) → length (parts r) + length (after_document r) ≤ length r
        → length {A = Part} (elim o [ Some c ↦ [] | None ↦ with_part (part_of e) (parts r) ])
        + length {A = Event} (elim o [ Some c ↦ r | None ↦ after_document r ])
        ≤ suc (length r)
    go None h = let c = counted (part_of e) (parts r) in omega arith
    go (Some c) h = omega arith

pub document_linear : (e : List Event) → size (graph [] (parts e)) ≤ 2 * length e
document_linear e = let h = linear 0 [] (parts e) (bare e) in let i = in_document e in omega arith

-- all documents together
abbrev extent : List Begun → ℕ
extent [] = 0
extent (b ∷ bs) = size (graph [] (parts b.rest)) + extent bs

go_begun : (r : List Event) (o : Option Opening) → extent (begun r) ≤ 2 * length r
    → extent (begun_after r) ≤ 2 * length (after_document r)
    → extent (elim o [ None ↦ begun r | Some p ↦ record { opening = p; rest = r } ∷ begun_after r ]) ≤ 2 * suc (length r)
go_begun r None h i = omega arith
go_begun r (Some p) h i = let j = linear 0 [] (parts r) (bare r) in let k = in_document r in omega arith

go_after : (r : List Event) (o : Option Closing) → extent (begun r) ≤ 2 * length r
    → extent (begun_after r) ≤ 2 * length (after_document r)
    → extent (elim o [ Some c ↦ begun r | None ↦ begun_after r ]) ≤ 2 * length {A = Event}
    (elim o [ Some c ↦ r | None ↦ after_document r ])
go_after r o h i = grind arith

mutual
  begun_extent : (e : List Event) → extent (begun e) ≤ 2 * length e
  begun_extent [] = omega arith
  begun_extent (e ∷ r) = go_begun r (opening_of e) (begun_extent r) (after_extent r)

  after_extent : (e : List Event) → extent (begun_after e) ≤ 2 * length (after_document e)
  after_extent [] = omega arith
  after_extent (e ∷ r) = go_after r (closing_of e) (begun_extent r) (after_extent r)

-- the loads of these documents
loads_extent : (stop : Stop) (x : Ending) (bs : List Begun) → total_size (loads_by stop x bs) ≤ extent bs
loads_extent stop Ends [] = omega arith
loads_extent stop (Fails f) [] = omega arith
loads_extent stop x (b ∷ bs) = go x (stop (parts b.rest)) (end_of_document b.rest) (loads_extent stop x bs)
  where
    go : (y : Ending) (o : Option Fault) (c : Option Closing) → total_size (loads_by stop x bs) ≤ extent bs
        → total_size (load_then o c b.opening (graph [] (parts b.rest)) (last_load y) (loads_by stop x bs)) ≤ size
        (graph [] (parts b.rest)) + extent bs
    go y (Some f) c h = omega arith
    go y None (Some c) h = omega arith
    go Ends None None h = omega arith
    go (Fails f) None None h = omega arith

pub loads_linear : (stop : Stop) (e : List Event) (x : Ending) → total_size (loads_by stop x (begun e)) ≤ 2 * length e
loads_linear stop e x = let h = loads_extent stop x (begun e) in let i = begun_extent e in omega arith

-- the first documents of loads
sizes_first : (ds : List Document) (l : List Load) → documents_size ds ≤ total_size (map Ok ds ++ l)
sizes_first [] l = omega arith
sizes_first (d ∷ ds) l = let i = sizes_first ds l in omega arith

pub first_linear : (stop : Stop) (e : List Event) (x : Ending) (ds : List Document) (l : List Load)
    → loads_by stop x (begun e) ≡ map Ok ds ++ l
    → documents_size ds ≤ 2 * length e
first_linear stop e x ds l is = grind (arith, loads_linear stop e x, sizes_first ds l)

-- one load
pub next_linear : (stop : Stop) (e : List Event) (x : Ending) (d : Document) → next_by stop x (begun e) ≡ Ok d
    → size d.nodes ≤ 2 * length e
next_linear stop e x d h = let i = begun_extent e in let j = one (begun e) h in omega arith
  where
    same : (c : Document) → ◌≡◌ {A = Load} (Ok c) (Ok d) → size d.nodes ≡ size c.nodes
    same c k = let i : c ≡ d = cc in ap (λ (y : Document). size y.nodes) (sym i)

    ending : (y : Ending) → last_load y ≡ Ok d → size d.nodes ≤ 0
    ending Ends k = let i = same (empty_document None [] false false) k in omega arith
    ending (Fails f) k = absurd cc

    one : (bs : List Begun) → next_by stop x bs ≡ Ok d → size d.nodes ≤ extent bs
    one [] k = ending x k
    one (b ∷ bs) k = go (stop (parts b.rest)) (end_of_document b.rest) k
      where
        go : (o : Option Fault) (c : Option Closing) → load_answer o c b.opening (graph [] (parts b.rest)) (last_load x) ≡ Ok d
            → size d.nodes ≤ size (graph [] (parts b.rest)) + extent bs
        go (Some f) c k = absurd cc
        go None (Some c) k = let i = same (document b.opening (graph [] (parts b.rest)) c) k in omega arith
        go None None k = let i = ending x k in omega arith

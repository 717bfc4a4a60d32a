-- Where the count stops, it is right.
use Rattle.std.proofs.Common.{◌≡◌, ◌<◌, ◌≤◌, ◌∷◌, ◌++◌, ◌∙◌, ℕ, suc, ℤ, pos, List, [], length, map, Option, Bool, inl, inr, refl, sym, ap, subst, arith}
use Rattle.std.specs.List.{AllByRecursion}
use Rattle.libyaml_types.specs.Types.{event_type}
use Rattle.libyaml_grammar.specs.grammar.Tokens.{Mark}
use Rattle.libyaml_documents.specs.declared.node.yaml_node_t.{yaml_node_t}
use Rattle.libyaml_graphs.specs.graphs.GraphParts.{Opening, Part, part_of}
use Rattle.libyaml_composer.specs.declared.records.open_t.{open_t}
use Rattle.libyaml_composer.specs.Composing.{Composer, Told, deed_for, handing, holding_top, is_start, place_in}
use Rattle.libyaml_composer.specs.DocumentSoFar.{DocumentSoFar, applied, applied_part, nodes_made}
use Rattle.libyaml_composer.specs.Represents.{Opens, Represents}
use Rattle.yaml_expansion.specs.Expansion.{HasExpandedSize, IsCyclicAt, LeadsTo, here, ids_at}
use Rattle.document_sizes.specs.declared.counted.Counted.TheVariants as counted
use Rattle.document_sizes.specs.Counting.{Count, bound_of, count_of, counting, size_at}
use Rattle.document_sizes.specs.Runs.{LosesNothing}
use Rattle.document_sizes.specs.RunLaws.{EndlessIsRight, Continues, StartsWith, TooLargeIsRight, held_so_far}
use Rattle.document_sizes.proofs.Trees.{IsAmong, Opened, Stands, with_child}
use Rattle.document_sizes.proofs.Holding.{index_of, opened_of}
use Rattle.document_sizes.proofs.Inverse.{alias_endless, limit, node_ends, size_there}
use Rattle.document_sizes.proofs.Steps.{SaysOf, alias_opened, state_of}
use Rattle.document_sizes.proofs.Events.{Larger, alias_larger, child_nodes, closed_answers, counting_child, get_in, open_larger, scalar_larger}
use Rattle.document_sizes.proofs.Later.{GoesOnFrom, among_leads, at_most, cycle, holds_last, root_leads, root_leads_among}
use Rattle.document_sizes.proofs.Running.{Standing, represented, same_nodes, standing, view_of}
use Rattle.document_sizes.proofs.Views.{View, alias, begins, closes, passes, scalar}

module _ (max : ℕ) (c : Composer) (h : DocumentSoFar) (total : ℕ) (sizes : List ℕ) (stands : Standing max c h total sizes)
    (q : Option Part) (start : Bool) (m : Mark) where
  count : c.nodes ≡ length h.nodes
  count = stands.represents.nodes

  larger : (t : Told) (total' : ℕ) (sizes' : List ℕ) → View c h q start t → LosesNothing t.deed c
      → count_of counted.TooLarge total' sizes' ≡ counting (bound_of max) t.deed start t.place total sizes
      → Larger max c h total sizes q start m count stands.room stands.bound (applied_part t.deed t.place q m h).nodes t.composer.stack
  larger t total' sizes' (alias j lt) all e = alias_larger max c h total sizes q start m count stands.room stands.bound c.stack j total' sizes'
      lt stands.represents.opens stands.says all e
  larger t total' sizes' (scalar a x empty is starts) all e = subst F (sym count)
      (λ f. scalar_larger max c h total sizes q start m count stands.room stands.bound x empty (ap nodes_made is) c.stack total' sizes'
      stands.represents.opens stands.says all f) e
    where
      F : ℕ → Type 0
      F n = count_of counted.TooLarge total' sizes'
          ≡ counting (bound_of max) (deed_for c.stack) start (place_in (pos (suc n)) (pos (suc n)) c.stack) total sizes
          → Larger max c h total sizes q start m count stands.room stands.bound
          (applied_part (deed_for c.stack) (place_in (pos (suc n)) (pos (suc n)) c.stack) q m h).nodes (holding_top (pos (suc n)) c.stack)
  larger t total' sizes' (begins a x kind empty is starts) all e = subst F (sym count)
      (λ f. open_larger max c h total sizes q start m count stands.room stands.bound x empty (ap nodes_made is) c.stack kind total' sizes'
      stands.represents.opens stands.says all f) e
    where
      F : ℕ → Type 0
      F n = count_of counted.TooLarge total' sizes'
          ≡ counting (bound_of max) (deed_for c.stack) start (place_in (pos (suc n)) (pos (suc n)) c.stack) total sizes
          → Larger max c h total sizes q start m count stands.room stands.bound
          (applied_part (deed_for c.stack) (place_in (pos (suc n)) (pos (suc n)) c.stack) q m h).nodes
          (record { node = pos (suc n); key = pos 0; children = 0; is_mapping = kind } ∷ holding_top (pos (suc n)) c.stack)
  larger t total' sizes' (closes o s end is) all e =
      let opens = subst (λ (l : List open_t). Opens (length h.nodes) h.nodes (length h.nodes) l) is stands.represents.opens in
      let says = subst (λ (l : List open_t). SaysOf limit h.nodes l (get_in sizes) total) is stands.says in
      let f = closed_answers max c h total sizes q start m count stands.room stands.bound o s opens says counted.TooLarge total' sizes'
      (λ f. cc) e in
      absurd cc
  larger t total' sizes' (passes p) all e = let f = ap (λ (x : Count). x.answer) e in absurd cc

  -- an alias of a node that is open
  abbrev IsOpenAlias : Told → Type 0
  IsOpenAlias t = (j : ℕ) × (t ≡ handing (pos 0) (pos (suc j)) c) × IsAmong j (map (opened_of h.nodes) c.stack) × (j < length h.nodes)

  endless : (t : Told) (total' : ℕ) (sizes' : List ℕ) → View c h q start t
      → count_of counted.Endless total' sizes' ≡ counting (bound_of max) t.deed start t.place total sizes → IsOpenAlias t
  endless t total' sizes' (alias j lt) e =
      let r = alias_endless (bound_of max) total sizes total' sizes' (size_at sizes (pos (suc j)))
      (e ∙ counting_child c.stack (bound_of max) start (place_in (pos 0) (pos (suc j)) c.stack) total sizes) in
      (j, refl, stands.says.opened j r.0 lt (size_there sizes j r.0 r.1) r.2, lt)
  endless t total' sizes' (scalar a x empty is starts) e = absurd (node_ends (bound_of max) total sizes total' sizes' start c.nodes
      (e ∙ counting_child c.stack (bound_of max) start (place_in (pos (suc c.nodes)) (pos (suc c.nodes)) c.stack) total sizes))
  endless t total' sizes' (begins a x kind empty is starts) e = absurd (node_ends (bound_of max) total sizes total' sizes' start c.nodes
      (e ∙ counting_child c.stack (bound_of max) start (place_in (pos (suc c.nodes)) (pos (suc c.nodes)) c.stack) total sizes))
  endless t total' sizes' (closes o s end is) e =
      let opens = subst (λ (l : List open_t). Opens (length h.nodes) h.nodes (length h.nodes) l) is stands.represents.opens in
      let says = subst (λ (l : List open_t). SaysOf limit h.nodes l (get_in sizes) total) is stands.says in
      let f = closed_answers max c h total sizes q start m count stands.room stands.bound o s opens says counted.Endless total' sizes'
      (λ f. cc) e in
      absurd cc
  endless t total' sizes' (passes p) e = let f = ap (λ (x : Count). x.answer) e in absurd cc

-- open collections, as they are and as they are counted
goes_from : (later nodes : List yaml_node_t) (most n : ℕ) (s : List open_t) → Opens most nodes n s
    → AllByRecursion (λ o. StartsWith (held_so_far nodes o) (ids_at later o.node)) s → GoesOnFrom later (map (opened_of nodes) s)
goes_from later nodes most n [] opens g = tt
goes_from later nodes most n (o ∷ s) (k, is, lt, there, key, rest) g = (
  subst (λ (z : ℤ). StartsWith (held_so_far nodes o) (ids_at later z)) (is ∙ ap (λ (z : ℤ). pos (suc (index_of z))) (sym is)) g.0,
  goes_from later nodes most k s rest g.1,
)

some_node : (nodes : List yaml_node_t) (s : List Opened) (g : ℕ → Option ℕ) (total : ℕ) → Stands limit (state_of nodes g) s total
    → 0 < total → 0 < length nodes
some_node nodes s g total h lt = grind arith

too_large_by : (later nodes : List yaml_node_t) (most n : ℕ) (s : List open_t) (g : ℕ → Option ℕ) (total all : ℕ)
    → SaysOf limit nodes s g total → Opens most nodes n s → Continues nodes s later → 0 < total → HasExpandedSize later all → total ≤ all
too_large_by later nodes most n s g total all says opens goes lt tree =
    grind (arith, some_node, count, at_most, goes_from)

pub too_large_is_right : TooLargeIsRight
too_large_is_right max c h total total' sizes sizes' e t r k later goes all size =
    let s = standing max c h total sizes r in
    let n : Count = count_of counted.TooLarge total' sizes' in
    let found = larger max c h total sizes s (part_of e) (is_start (event_type e.content)) e.end_mark t total' sizes'
    (view_of max c h total sizes s e t n k) k.all k.counted in
    let b : bound_of max < found.1 = found.3 in
    let says = subst (λ (d : DocumentSoFar). SaysOf limit d.nodes t.composer.stack found.0 found.1) (same_nodes max c h total sizes s e t n k)
    found.2 in
    let le : found.1 ≤ all = too_large_by later (applied t.deed t.place e h).nodes _ _ t.composer.stack found.0 found.1 all says
    (represented max c h total sizes s e t n k).opens goes (let some : 0 < found.1 = omega (arith, b) in some) size in
    omega (arith, b, le)

-- an alias of an open node, placed
endless_by : (later : List yaml_node_t) (h : DocumentSoFar) (total : ℕ) (g : ℕ → Option ℕ) (q : Option Part) (m : Mark) (j : ℕ) (s : List open_t)
    → Opens (length h.nodes) h.nodes (length h.nodes) s → SaysOf limit h.nodes s g total → IsAmong j (map (opened_of h.nodes) s)
    → (nodes : List yaml_node_t) → nodes ≡ (applied_part (deed_for s) (place_in (pos 0) (pos (suc j)) s) q m h).nodes
    → (most n : ℕ) → Opens most nodes n (holding_top (pos (suc j)) s) → Continues nodes (holding_top (pos (suc j)) s) later → 0 < length later
    → IsCyclicAt later (pos (suc j))
endless_by later h total g q m j [] opens says i nodes is most n after goes some = absurd i
endless_by later h total g q m j (o ∷ s) opens says i nodes is most n after goes some =
    let id : ℤ = pos (suc j) in
    let top : Opened = opened_of h.nodes o in
    let same : map (opened_of nodes) (holding_top id (o ∷ s)) ≡ with_child top id ∷ map (opened_of h.nodes) s
    = ap (λ (l : List yaml_node_t). map (opened_of l) (holding_top id (o ∷ s)))
    (is ∙ child_nodes (o ∷ s) (place_in (pos 0) id (o ∷ s)) q m h)
    ∙ alias_opened (length h.nodes) (length h.nodes) h.nodes o s j opens in
    let from : GoesOnFrom later (with_child top id ∷ map (opened_of h.nodes) s)
    = subst (GoesOnFrom later) same (goes_from later nodes most n (holding_top id (o ∷ s)) after goes.holds_keys) in
    let holds = holds_last later (pos (suc top.place)) id top.ids (top.ids ++ id ∷ []) refl from.0 in
    let around = says.stands.6 in
    let before : ℕ = says.stands.0 in (
      (
        some,
        elim i [
          | inl e ↦ subst (λ (k : ℕ). LeadsTo later (pos 1) (pos (suc k))) (sym e)
              (root_leads later limit (state_of h.nodes g) top.place (map (opened_of h.nodes) s) before around from.1)
          | inr r ↦ root_leads_among later limit (state_of h.nodes g) j top.place (map (opened_of h.nodes) s) before around from.1 r
        ],
      ),
      cycle later id (pos (suc top.place)) (elim i [
        | inl e ↦ subst (λ (k : ℕ). LeadsTo later id (pos (suc k))) e (here id)
        | inr r ↦ among_leads later limit (state_of h.nodes g) j top.place (map (opened_of h.nodes) s) before around from.1 r
      ]) holds,
    )

pub endless_is_right : EndlessIsRight
endless_is_right max c h total total' sizes sizes' e t r k later goes =
    let s = standing max c h total sizes r in
    let n : Count = count_of counted.Endless total' sizes' in
    let found = endless max c h total sizes s (part_of e) (is_start (event_type e.content)) e.end_mark t total' sizes'
    (view_of max c h total sizes s e t n k) k.counted in
    go found.0 found.1 found.2 found.3 (s.opening, represented max c h total sizes s e t n k) goes (same_nodes max c h total sizes s e t n k) s
  where
    go : (j : ℕ) → t ≡ handing (pos 0) (pos (suc j)) c → IsAmong j (map (opened_of h.nodes) c.stack) → j < length h.nodes
        → (o : Opening) × Represents t.composer (applied t.deed t.place e h) o
        → Continues (applied t.deed t.place e h).nodes t.composer.stack later
        → applied_part t.deed t.place (part_of e) e.end_mark h ≡ applied t.deed t.place e h → Standing max c h total sizes
        → IsCyclicAt later t.place.child
    go j is i lt stays goes same s = subst F (sym is) (λ stays goes same.
        let a : c.nodes ≡ length (applied (deed_for c.stack) (place_in (pos 0) (pos (suc j)) c.stack) e h).nodes = stays.1.nodes in
        let b : c.nodes ≡ length h.nodes = s.represents.nodes in
        let d : length (applied (deed_for c.stack) (place_in (pos 0) (pos (suc j)) c.stack) e h).nodes ≤ length later = goes.count in
        let some : 0 < length later = omega (arith, a, b, d, lt) in
        endless_by later h total (get_in sizes) (part_of e) e.end_mark j c.stack s.represents.opens s.says i
        (applied (deed_for c.stack) (place_in (pos 0) (pos (suc j)) c.stack) e h).nodes
        (sym (ap (λ (x : DocumentSoFar). x.nodes) same)) _ _ stays.1.opens goes some) stays goes same
      where
        F : Told → Type 0
        F x = ((o : Opening) × Represents x.composer (applied x.deed x.place e h) o)
            → Continues (applied x.deed x.place e h).nodes x.composer.stack later
            → applied_part x.deed x.place (part_of e) e.end_mark h ≡ applied x.deed x.place e h → IsCyclicAt later x.place.child

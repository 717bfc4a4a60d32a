-- Where the lists of each document that a load begins have room, the bound changes nothing.
use Rattle.std.proofs.Common.{◌≡◌, ◌≤◌, ◌+◌, ◌↔◌, ℕ, zero, suc, List, [], ◌∷◌, ◌++◌, length, nat_lt, All, Option, Some, None, Bool, false, refl, sym, ap, ◌∙◌, append_assoc, append-nil, arith, zero-add, le_refl, le_trans, suc-le-suc, zero-le, le-ltb, ltb-false}
use Rattle.std.proofs.lemmas.List.Elements.{All-cons, All-head, All-nil, All-tail}
use Rattle.std.proofs.lemmas.Bool.{or_parts}
use Rattle.libyaml_grammar.specs.grammar.Events.{Event}
use Rattle.libyaml_types.specs.Fault.{Fault}
use Rattle.libyaml_grammar.specs.runs.Runs.{Ending}
use Rattle.libyaml_documents.specs.declared.node.unnamed_yaml_node_t_data.{unnamed_yaml_node_t_data}
use Rattle.libyaml_graphs.specs.loads.Bounds.{HasRoom, HaveRoom, StaysWithin, bounded_loads, entries, first_stop, if_above, if_wrong, list_sizes, next_bounded, one_above, pairs_begun}
use Rattle.libyaml_graphs.specs.graphs.ComposerFaults.{composer_fault, or_else, composer_part_fault}
use Rattle.libyaml_graphs.specs.graphs.Graphs.{Start, anchored_node, id_or}
use Rattle.libyaml_graphs.specs.loads.Loads.{Begun, Load, begun, end_of_document, last_load, load_then, loads, loads_by, next_load}
use Rattle.libyaml_graphs.specs.graphs.GraphParts.{Closing, Part, alias_part, following, children, end_part, graph, if_outer, leaf_part, parts, anchored_node_start, start_part}
use Rattle.libyaml_graphs.proofs.machine.Sizes.{either_none}
use Rattle.libyaml_graphs.proofs.graphs.Ids.{moved}

outer_append : (d : ℕ) (is a x : List ℕ) → if_outer d is (a ++ x) ≡ if_outer d is a ++ x
outer_append d is a x = grind (arith, append_assoc)

abbrev Begins : List ℕ → List ℕ → Type 0
Begins a b = (x : List ℕ) × (b ≡ a ++ x)

outer_begin : (d : ℕ) (is a b : List ℕ) → Begins a b → Begins (if_outer d is a) (if_outer d is b)
outer_begin d is a b h = (h.0, ap (if_outer d is) h.1 ∙ outer_append d is a h.0)

children_begin : (f g : List Part) (d : ℕ) (es : List Start) → Begins (children d es f) (children d es (f ++ g))
children_begin [] g d es = (children d es g, refl)
children_begin (alias_part a m ∷ f) g d es = outer_begin d (id_or (anchored_node a es) ∷ []) (children d es f)
    (children d es (f ++ g)) (children_begin f g d es)
children_begin (leaf_part a x ∷ f) g d es
    = outer_begin d (suc (length es) ∷ []) (children d (anchored_node_start a x ∷ es) f) (children d (anchored_node_start a x ∷ es) (f ++ g))
    (children_begin f g d (anchored_node_start a x ∷ es))
children_begin (start_part a x ∷ f) g d es
    = outer_begin d (suc (length es) ∷ []) (children (suc d) (anchored_node_start a x ∷ es) f)
    (children (suc d) (anchored_node_start a x ∷ es) (f ++ g))
    (children_begin f g (suc d) (anchored_node_start a x ∷ es))
children_begin (end_part n ∷ f) g zero es = ([], refl)
children_begin (end_part n ∷ f) g (suc d) es = children_begin f g d es

more_items : (a x : List ℕ) → length a ≤ length (a ++ x)
more_items [] x = zero-le
more_items (i ∷ a) x = suc-le-suc (more_items a x)

more_pairs : (a x : List ℕ) → pairs_begun a ≤ pairs_begun (a ++ x)
more_pairs [] x = zero-le
more_pairs (k ∷ []) [] = le_refl _
more_pairs (k ∷ []) (y ∷ x) = suc-le-suc zero-le
more_pairs (k ∷ v ∷ a) x = suc-le-suc (more_pairs a x)

more_entries : (c : unnamed_yaml_node_t_data) (a b : List ℕ) → Begins a b → entries c a ≤ entries c b
more_entries c a b h = grind (arith, le_refl, more_items, more_pairs)

lt_down : (n a b : ℕ) → a ≤ b → nat_lt n b ≡ false → nat_lt n a ≡ false
lt_down n a b h e = le-ltb n a (le_trans h (ltb-false n b e))

-- the lists of a document so far are no longer than those of more of it
prefix_shorter : (f g : List Part) (es : List Start) (n : ℕ) → one_above n (list_sizes es (f ++ g)) ≡ false
    → one_above n (list_sizes es f) ≡ false
prefix_shorter [] g es n h = refl
prefix_shorter (alias_part a m ∷ f) g es n h = prefix_shorter f g es n h
prefix_shorter (leaf_part a x ∷ f) g es n h = prefix_shorter f g (anchored_node_start a x ∷ es) n h
prefix_shorter (start_part a x ∷ f) g es n h =
    let fs : List Start = anchored_node_start a x ∷ es in
    let k : (nat_lt n (entries x.content (children 0 fs (f ++ g))) ≡ false)
    × (one_above n (list_sizes fs (f ++ g)) ≡ false) = or_parts _ _ h in
    either_none _ _ (lt_down n _ _
    (more_entries x.content (children 0 fs f) (children 0 fs (f ++ g)) (children_begin f g 0 fs)) k.0)
    ∙ prefix_shorter f g fs n k.1
prefix_shorter (end_part m ∷ f) g es n h = prefix_shorter f g es n h

abbrev all_after : List Start → List Part → List Start
all_after es [] = es
all_after es (p ∷ r) = all_after (following p es) r

one_more : (p : Part) (es : List Start) → length es ≤ length (following p es)
one_more p es = grind arith

starts_grow : (r : List Part) (es : List Start) → length es ≤ length (all_after es r)
starts_grow [] es = le_refl _
starts_grow (p ∷ r) es = le_trans (one_more p es) (starts_grow r (following p es))

room : (r : List Part) (es : List Start) (F : List Part) (n : ℕ) → nat_lt n (length (all_after es r)) ≡ false
    → one_above n (list_sizes [] (F ++ r)) ≡ false
    → first_stop n es F r ≡ composer_fault es r
room [] es F n a b = refl
room (p ∷ r) es F n a b =
    let c : one_above n (list_sizes [] ((F ++ p ∷ []) ++ r)) ≡ false =
    ap (λ (l : List Part). one_above n (list_sizes [] l)) (append_assoc F (p ∷ []) r) ∙ b in
    let d : one_above n (list_sizes [] (F ++ p ∷ [])) ≡ false = prefix_shorter (F ++ p ∷ []) r [] n c in
    ap (λ (x : Bool). if_above x (if_wrong (composer_part_fault es p)
    (if_above (one_above n (list_sizes [] (F ++ p ∷ []))) (first_stop n (following p es) (F ++ p ∷ []) r))))
    (lt_down n _ _ (starts_grow r (following p es)) a)
    ∙ (ap (λ (x : Bool). if_wrong (composer_part_fault es p) (if_above x (first_stop n (following p es) (F ++ p ∷ []) r))) d
    ∙ (ap (if_wrong (composer_part_fault es p)) (room r (following p es) (F ++ p ∷ []) n a c) ∙ go (composer_part_fault es p)))
  where
    go : (w : Option Fault) → if_wrong w (composer_fault (following p es) r) ≡ or_else w (composer_fault (following p es) r)
    go None = refl
    go (Some f) = refl

graph_count : (r : List Part) (es : List Start) → length (all_after es r) ≡ length es + length (graph es r)
graph_count [] es = omega arith
graph_count (alias_part a m ∷ r) es = graph_count r es
graph_count (leaf_part a x ∷ r) es = graph_count r (anchored_node_start a x ∷ es) ∙ moved (length es) _
graph_count (start_part a x ∷ r) es = graph_count r (anchored_node_start a x ∷ es) ∙ moved (length es) _
graph_count (end_part n ∷ r) es = graph_count r es

none_above : (n : ℕ) (ks : List ℕ) → All (λ k. k ≤ n) ks → one_above n ks ≡ false
none_above n [] h = refl
none_above n (k ∷ ks) h = cc (either_none _ _ (le-ltb n k (All-head (λ i. i ≤ n) k ks h)), none_above n ks (All-tail (λ i. i ≤ n) k ks h))

fits_stop : (r : List Part) (n : ℕ) → StaysWithin n r → first_stop n [] [] r ≡ composer_fault [] r
fits_stop r n h = grind (arith, room, graph_count, zero-add, le-ltb, none_above)

-- so it is with the loads, up to the first composer error
have_room : (bs : List Begun) (x : Ending) (n : ℕ) → HaveRoom n bs
    → loads_by (first_stop n [] []) x bs ≡ loads_by (composer_fault []) x bs
have_room [] x n h = refl
have_room (b ∷ bs) x n h =
    let as_is : Option Fault → List Load → List Load
    = λ (g : Option Fault) (l : List Load). load_then g (end_of_document b.rest) b.opening (graph [] (parts b.rest))
    (last_load x) l in
    ap (λ (g : Option Fault). as_is g (loads_by (first_stop n [] []) x bs)) (fits_stop (parts b.rest) n h.0)
    ∙ go (composer_fault [] (parts b.rest)) (end_of_document b.rest) (λ e. have_room bs x n (h.1 e))
  where
    go : (g : Option Fault) (c : Option Closing)
        → (g ≡ None → loads_by (first_stop n [] []) x bs ≡ loads_by (composer_fault []) x bs)
        → load_then g c b.opening (graph [] (parts b.rest)) (last_load x) (loads_by (first_stop n [] []) x bs)
        ≡ load_then g c b.opening (graph [] (parts b.rest)) (last_load x) (loads_by (composer_fault []) x bs)
    go (Some g) c k = refl
    go None (Some c) k = ap (load_then None (Some c) b.opening (graph [] (parts b.rest)) (last_load x)) (k refl)
    go None None k = refl

pub room_loads : (r : List Event) (x : Ending) (n : ℕ) → HasRoom n r → bounded_loads n r x ≡ loads r x
room_loads r x n h = have_room (begun r) x n h

-- and one load alone
pub room_next : (r : List Event) (x : Ending) (n : ℕ) → HasRoom n r → next_bounded n r x ≡ next_load r x
room_next r x n h = grind (arith, fits_stop)

-- a document that nothing stops has no composer error, and its lists have room
abbrev Unstopped : ℕ → List Start → List Part → List Part → Type 0
Unstopped n es F P = (composer_fault es P ≡ None) × (nat_lt n (length (all_after es P)) ≡ false)
    × (one_above n (list_sizes [] (F ++ P)) ≡ false)

passed : (n : ℕ) (a b : Bool) (w o : Option Fault) → if_above a (if_wrong w (if_above b o)) ≡ None
    → (a ≡ false) × (w ≡ None) × (b ≡ false) × (o ≡ None)
passed n a b w o e = grind arith

unstopped : (P : List Part) (es : List Start) (F : List Part) (n : ℕ) → nat_lt n (length es) ≡ false
    → one_above n (list_sizes [] F) ≡ false
    → first_stop n es F P ≡ None → Unstopped n es F P
unstopped [] es F n a b e = (refl, a, ap (λ (l : List Part). one_above n (list_sizes [] l)) (append-nil F) ∙ b)
unstopped (p ∷ P) es F n a b e =
    let h = passed n (nat_lt n (length (following p es))) (one_above n (list_sizes [] (F ++ p ∷ []))) (composer_part_fault es p)
    (first_stop n (following p es) (F ++ p ∷ []) P) e in
    let k : Unstopped n (following p es) (F ++ p ∷ []) P = unstopped P (following p es) (F ++ p ∷ []) n h.0 h.2 h.3 in (
      ap (λ (w : Option Fault). or_else w (composer_fault (following p es) P)) h.1 ∙ k.0,
      k.1,
      ap (λ (l : List Part). one_above n (list_sizes [] l)) (sym (append_assoc F (p ∷ []) P)) ∙ k.2,
    )

all_within : (n : ℕ) (ks : List ℕ) → one_above n ks ≡ false → All (λ k. k ≤ n) ks
all_within n [] h = All-nil (λ k. k ≤ n)
all_within n (k ∷ ks) h = let e : (nat_lt n k ≡ false)
    × (one_above n ks ≡ false) = or_parts _ _ h in All-cons (λ i. i ≤ n) k ks (ltb-false n k e.0) (all_within n ks e.1)

-- the bound is exact
pub bound_exact : (P : List Part) (n : ℕ) → (first_stop n [] [] P ≡ None) ↔ ((composer_fault [] P ≡ None) × StaysWithin n P)
bound_exact P n = grind (arith, unstopped, le-ltb, zero-le, ltb-false, graph_count, zero-add, all_within, fits_stop)

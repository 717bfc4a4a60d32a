-- What a prefix tree determines is what its valid lists' events have in common.
use Rattle.std.proofs.Common.{◌≡◌, ◌↔◌, ℕ, List, [], ◌∷◌, ◌++◌, None, true, false, refl, sym, ap, ◌∙◌, subst, append_assoc, arith, append-nil}
use Rattle.std.proofs.lemmas.Bool.{false_from_ne_true}
use Rattle.libyaml_types.specs.Events.{zero_mark}
use Rattle.libyaml_grammar.specs.grammar.Events.{Event, events, first_block, first_flow}
use Rattle.libyaml_grammar.specs.grammar.Order.{in_order}
use Rattle.libyaml_grammar.specs.grammar.ValidLists.{IsViablePrefix, has_end}
use Rattle.libyaml_grammar.specs.grammar.Tokens.{Mark, Marks, Token}
use Rattle.libyaml_grammar.specs.grammar.Trees.{BlockNode, FlowNode, Stream, alone, explicit, flow, flow_node, flow_nothing, implicit, indentless, item, no_value, node, nothing, pair, part, single, slot_of, tokens, with_value}
use Rattle.libyaml_grammar.specs.partial.PartialEvents.{shown_block, shown_place}
use Rattle.libyaml_grammar.specs.partial.PartialTrees.{BlockPlace, PartialTree, Place, at_directive, at_tag, at_tag_after, before_stream, block, content_due, declared, declared_block, document_due, entry, entry_due, explicit_root, flow_entry, flow_key, flow_value, implicit_root, indentless_entry}
use Rattle.libyaml_grammar.specs.partial.PartialTrees.{part_due, part_place, root, separator_due, slot}
use Rattle.libyaml_grammar.specs.partial.Fits.{last_empty}
use Rattle.libyaml_grammar.specs.partial.DeterminedEvents.{Begins, BeginsEach, IsPrefixTree, IsPrefixPlace, IsOpen, Determines, next_event, sure, sure_block_node, sure_flow_node}
use Rattle.libyaml_grammar.specs.partial.Rest.{rest}
use Rattle.libyaml_grammar.proofs.exported.Given.{gives_all}
use Rattle.libyaml_grammar.proofs.exported.Positions.{Position, done, position_rest, shown, unopened}
use Rattle.libyaml_grammar.proofs.exported.Reading.{Step, along, feeds, goes, then_all}
use Rattle.libyaml_grammar.proofs.exported.Completion.{begin_reads, position_begins, reached_begins, read_order}
use Rattle.libyaml_grammar.proofs.exported.ReadSteps.{IsNotDone, front}
use Rattle.libyaml_grammar.proofs.exported.PrefixTrees.{prefix_not_done, prefix_of, prefix_reads, not_done_prefix}
use Rattle.libyaml_grammar.proofs.exported.Keeps.{feeds_keep}
use Rattle.libyaml_grammar.proofs.exported.Orders.{reads_to}
use Rattle.libyaml_grammar.proofs.exported.Run.{begin_events, given_shown}
use Rattle.libyaml_grammar.proofs.exported.Shows.{block_shows, node_shows}
use Rattle.libyaml_grammar.proofs.exported.Splits.{position_splits}
use Rattle.libyaml_grammar.proofs.exported.StreamEnds.{IsDone, end_is_done, not_end_not_done}
use Rattle.libyaml_grammar.proofs.trees.Complete.{edge_block, edge_flow, stream_reads}
use Rattle.libyaml_grammar.proofs.trees.Edge.{reached}
use Rattle.libyaml_grammar.proofs.runs.Prompt.{differ}
use Rattle.libyaml_grammar.proofs.exported.Injectivity.{head_same, tail_same}

-- what is sure is what is shown at the right edge
flow_edge_shows : (p : Place) (n : FlowNode) (m : Mark) → shown (edge_flow p n) m [] ≡ shown_place p (first_flow n)
    (sure_flow_node (declared p) n)
flow_edge_shows p (alone ps) m = refl
flow_edge_shows p n m = node_shows p n m []

block_edge_shows : (c : BlockPlace) (n : BlockNode) (m : Mark)
    → shown (edge_block c n) m [] ≡ shown_block c (first_block n) (sure_block_node (declared_block c) n)
block_edge_shows c (flow n) m = flow_edge_shows (block c) n m
block_edge_shows c n m = block_shows c n m []

abbrev IsShown : PartialTree → Mark → Type 0
IsShown c m = shown (reached c) m [] ≡ sure c

place_shows : (p : Place) (m : Mark) → IsShown (content_due p) m
place_shows (block (root (implicit_root f))) m = refl
place_shows _ m = refl

sure_shows : (c : PartialTree) (m : Mark) → IsPrefixPlace c → last_empty c ≡ None → IsShown c m
sure_shows (document_due (implicit f n)) m p e = block_edge_shows (root (implicit_root f)) n m
sure_shows (document_due (explicit b ds s nothing)) m p e = absurd cc
sure_shows (document_due (explicit b ds s (node n))) m p e = block_edge_shows (root (explicit_root b ds s)) n m
sure_shows (at_directive b ds) m p e = absurd p
sure_shows (content_due q) m p e = place_shows q m
sure_shows (at_tag q) m p e = absurd p
sure_shows (at_tag_after q a x) m p e = absurd p
sure_shows (entry_due c o s (item is x nothing)) m p e = absurd cc
sure_shows (entry_due c o s (item is x (node n))) m p e = block_edge_shows (entry c o s is x) n m
sure_shows (part_due c o s (part ps k v (slot_of nothing))) m p e = absurd cc
sure_shows (part_due c o s (part ps k v (slot_of (node n)))) m p e = block_edge_shows (slot (part_place c o s ps k v)) n m
sure_shows (part_due c o s (part ps k v (indentless y is x nothing))) m p e = absurd cc
sure_shows (part_due c o s (part ps k v (indentless y is x (node n)))) m p e =
    block_edge_shows (indentless_entry (part_place c o s ps k v) y is x) n m
sure_shows (separator_due c (single n)) m p e = flow_edge_shows (flow_entry c) n m
sure_shows (separator_due c (pair x flow_nothing no_value)) m p e = absurd cc
sure_shows (separator_due c (pair x (flow_node n) no_value)) m p e = flow_edge_shows (flow_key c x) n m
sure_shows (separator_due c (pair x y (with_value v flow_nothing))) m p e = absurd cc
sure_shows (separator_due c (pair x y (with_value v (flow_node n)))) m p e = flow_edge_shows (flow_value c x y v) n m
sure_shows _ m p e = refl

-- what the tokens give stands before all that later tokens give
pub gives_sure : (l : List Token) (c : PartialTree) → IsPrefixTree l c → (r : List Event) → gives_all l unopened r ≡ sure c ++ r
gives_sure l c f r =
    let e = (reads_to l unopened (reached c) (prefix_reads l c f)).0 in
    sym (given_shown l unopened (reached c) e zero_mark r)
    ∙ ((position_splits (reached c) zero_mark).splits r
    ∙ ap (λ (x : List Event). x ++ r) (sure_shows c zero_mark f.place f.full))

begins_each : (l : List Token) (c : PartialTree) → IsPrefixTree l c → BeginsEach l (sure c)
begins_each l c f = λ t rest o e. (
  gives_all rest (reached c) [],
  begin_events l rest (reached c) t (reads_to l unopened (reached c) (prefix_reads l c f)).0 (sym e)
      ∙ gives_sure l c f (gives_all rest (reached c) []),
)

-- lists of events
in_common : (d r s e x y : List Event) → e ++ x ≡ d ++ r → e ++ y ≡ d ++ s → (next_event x ≡ next_event y → ⊥) → Begins d e
in_common [] r s e x y f g n = (e, refl)
in_common (a ∷ d) r s [] x y f g n = absurd (n (ap next_event f ∙ sym (ap next_event g)))
in_common (a ∷ d) r s (b ∷ e) x y f g n =
    let (z, h) = in_common d r s e x y (tail_same b a (e ++ x) (d ++ r) f) (tail_same b a (e ++ y) (d ++ s) g) n in
    (z, ap (λ (c : Event). c ∷ e) (head_same b a (e ++ x) (d ++ r) f) ∙ ap (λ (l : List Event). a ∷ l) h)

none_after : (a u : List Event) → a ≡ a ++ u → u ≡ []
none_after [] u e = sym e
none_after (x ∷ a) u e = none_after a u (tail_same x x a (a ++ u) e)

none_before : (r s : List Event) → r ++ s ≡ [] → r ≡ []
none_before [] s e = refl
none_before (x ∷ r) s e = absurd cc

pub begin_each_other : (a b : List Event) → Begins a b → Begins b a → a ≡ b
begin_each_other a b (r, e) (s, f) =
    let g : a ≡ a ++ (r ++ s) = f ∙ (ap (λ (x : List Event). x ++ s) e ∙ append_assoc a r s) in
    let h : r ≡ [] = none_before r s (none_after a (r ++ s) g) in
    sym (e ∙ (ap (λ (x : List Event). a ++ x) h ∙ append-nil a))

pub one_determined_proof : (l : List Token) (d e : List Event) → Determines l d → Determines l e → d ≡ e
one_determined_proof l d e s t = begin_each_other d e (t.longest d s.begins_each) (s.longest e t.begins_each)

-- two completions of a prefix tree
abbrev mark_at : ℕ → Mark
mark_at n = record { index = n; line = 0; column = 0 }

abbrev marks_at : ℕ → Marks
marks_at n = record { start = mark_at n; end = mark_at n }

marks_differ : mark_at 0 ≡ mark_at 1 → ⊥
marks_differ e = zero_one (ap (λ (y : Mark). y.index) e)
  where
    zero_one : ◌≡◌ {A = ℕ} 0 1 → ⊥
    zero_one z = omega arith

pub prefix_open : (l : List Token) (c : PartialTree) → IsPrefixTree l c → IsOpen l (sure c)
prefix_open l c f =
    let e = prefix_reads l c f in
    let k = (reads_to l unopened (reached c) e).0 in
    let s = position_begins (marks_at 0) (reached c) (read_order l (reached c) e) in
    let t = position_begins (marks_at 1) (reached c) (read_order l (reached c) e) in
    let g : tokens s.tree ≡ l ++ position_rest (marks_at 0) (reached c) = sym s.all
    ∙ feeds_keep l unopened (reached c) k (position_rest (marks_at 0) (reached c)) in
    let h : tokens t.tree ≡ l ++ position_rest (marks_at 1) (reached c) = sym t.all
    ∙ feeds_keep l unopened (reached c) k (position_rest (marks_at 1) (reached c)) in
    record {
      first = s.tree;
      second = t.tree;
      first_rest = position_rest (marks_at 0) (reached c);
      second_rest = position_rest (marks_at 1) (reached c);
      first_events = gives_all (position_rest (marks_at 0) (reached c)) (reached c) [];
      second_events = gives_all (position_rest (marks_at 1) (reached c)) (reached c) [];
      first_order = s.order;
      second_order = t.order;
      first_tokens = g;
      second_tokens = h;
      first_goes_on = begin_events l (position_rest (marks_at 0) (reached c)) (reached c) s.tree k (sym g)
          ∙ gives_sure l c f (gives_all (position_rest (marks_at 0) (reached c)) (reached c) []);
      second_goes_on = begin_events l (position_rest (marks_at 1) (reached c)) (reached c) t.tree k (sym h)
          ∙ gives_sure l c f (gives_all (position_rest (marks_at 1) (reached c)) (reached c) []);
      differ = differ (marks_at 0) (marks_at 1) marks_differ marks_differ (reached c) (prefix_not_done l c f);
    }

pub prefix_determines : (l : List Token) (c : PartialTree) → IsPrefixTree l c → Determines l (sure c)
prefix_determines l c f = record { begins_each = begins_each l c f; longest = λ d b. longest d b }
  where
    longest : (d : List Event) → BeginsEach l d → Begins d (sure c)
    longest d b =
        let o = prefix_open l c f in
        let (r, g) = b o.first o.first_rest o.first_order o.first_tokens in
        let (s, h) = b o.second o.second_rest o.second_order o.second_tokens in
        in_common d r s (sure c) o.first_events o.second_events (sym o.first_goes_on ∙ g) (sym o.second_goes_on ∙ h)
        o.differ

feeds_append : (a b : List Token) (q p : Position) → feeds a q ≡ goes p → feeds (a ++ b) q ≡ feeds b p
feeds_append a b q p e = along (λ (l : List Token) (x : Position). feeds (l ++ b) x ≡ feeds b p) p refl
    (λ t l y x f h. ap (λ (s : Step). then_all s (feeds (l ++ b))) f ∙ h) a q e

-- a valid list begins itself alone
only_itself : (s t : Stream) (rest : List Token) → tokens t ≡ tokens s ++ rest → s ≡ t
only_itself s t rest e = go rest (sym (feeds_append (tokens s) rest unopened (done s) (stream_reads s))
    ∙ (ap (λ (l : List Token). feeds l unopened) (sym e) ∙ stream_reads t))
  where
    go : (rest : List Token) → feeds rest (done s) ≡ goes (done t) → s ≡ t
    go [] f = cc
    go (x ∷ rest) f = absurd cc

pub valid_list_determines : (t : Stream) → in_order t ≡ true → Determines (tokens t) (events t)
valid_list_determines t o = record {
  begins_each = λ s rest i e. ([], sym (ap events (only_itself t s rest e)) ∙ sym (append-nil (events t)));
  longest = λ d b. b t [] o (sym (append-nil (tokens t)));
}

-- each viable prefix without STREAM-END
pub begin_prefix : (l : List Token) → IsViablePrefix l → has_end l ≡ false → (c : PartialTree) × IsPrefixTree l c
begin_prefix l b h =
    let (q, e) = begin_reads l b in
    (front q, prefix_of l q e (not_end_not_done l q e h))

pub determined_open : (l : List Token) (e : List Event) → IsViablePrefix l → has_end l ≡ false → Determines l e → IsOpen l e
determined_open l e b h s =
    let (c, f) = begin_prefix l b h in
    subst (IsOpen l) (one_determined_proof l (sure c) e (prefix_determines l c f) s) (prefix_open l c f)

-- the laws as they stand in contracts
pub prefix_begins : (l : List Token) (c : PartialTree) → IsPrefixTree l c → IsViablePrefix l × (has_end l ≡ false)
prefix_begins l c f = (
  reached_begins l (reached c) (prefix_reads l c f),
  false_from_ne_true (has_end l) (λ e. open_still (reached c) (not_done_prefix l c f)
      (end_is_done l unopened (reached c) (prefix_reads l c f) e)),
)
  where
    open_still : (q : Position) → IsNotDone q → IsDone q → ⊥
    open_still (done t) n d = n
    open_still _ n d = d

determined_is : (l : List Token) (d e : List Event) → Determines l d → Determines l e ↔ (e ≡ d)
determined_is l d e s = (λ t. one_determined_proof l e d t s, λ f. subst (Determines l) (sym f) s)

pub determined_prefix : (l : List Token) (c : PartialTree) (e : List Event) → IsPrefixTree l c → (Determines l e ↔ (e ≡ sure c))
determined_prefix l c e f = determined_is l (sure c) e (prefix_determines l c f)

pub determined_valid_list : (t : Stream) (e : List Event) → in_order t ≡ true → (Determines (tokens t) e ↔ (e ≡ events t))
determined_valid_list t e o = determined_is (tokens t) (events t) e (valid_list_determines t o)

pub determined_nothing : (e : List Event) → Determines [] e ↔ (e ≡ [])
determined_nothing e = determined_is [] [] e
    (prefix_determines [] before_stream (record { tokens = refl; order = refl; place = tt; full = refl }))

-- Each position can be completed to a stream, so reading goes on exactly through viable prefixes; and one list of
-- tokens has one stream tree.
use Rattle.std.proofs.Common.{◌≡◌, List, [], ◌∷◌, ◌++◌, refl, sym, ap, ◌∙◌, subst, ◌⊎◌, inl, inr, Bool, true, append-nil}
use Rattle.libyaml_grammar.specs.grammar.Tokens.{Marks, Token, empty_plain, zero_marks}
use Rattle.libyaml_grammar.specs.grammar.Trees.{BlockNode, FlowNode, Stream, following, block_mapping, block_sequence, collection, directive, explicit, flow, flow_node, free, implicit, indentless, item, last, mapping, no_directives, no_last, no_value, node, nothing, opened, pair, part, scalar}
use Rattle.libyaml_grammar.specs.grammar.Trees.{sequence, single, slot_of, tokens, whole, with_value}
use Rattle.libyaml_grammar.specs.grammar.ValidLists.{IsViablePrefix, IsValidList}
use Rattle.libyaml_grammar.specs.partial.PartialTrees.{BlockPlace, PartialTree, Place, at_directive, block, partial_in_order, partial_tokens, entry, explicit_root, flow_entry, flow_key, flow_value, implicit_root, indentless_entry, open_collection, part_place, root, slot}
use Rattle.libyaml_grammar.specs.partial.Rest.{any_encoding, rest, rest_block_place, rest_place}
use Rattle.libyaml_grammar.proofs.exported.Positions.{Position, between, done, due, flow_after, flow_due, flow_keyed, headed, in_indentless, in_mapping, in_sequence, position_in_order, position_rest, position_tokens, position_of, unopened}
use Rattle.libyaml_grammar.proofs.exported.Reading.{Step, bad, feeds, fill, fill_flow, goes, over, reads, reads_all, then_all}
use Rattle.libyaml_grammar.proofs.exported.Keeps.{feeds_keep}
use Rattle.libyaml_grammar.proofs.exported.Orders.{feeds_order, reads_from, reads_to, tests}
use Rattle.libyaml_grammar.proofs.trees.Complete.{stream_reads}

-- one tree
done_same : (s t : Stream) → goes (done s) ≡ goes (done t) → s ≡ t
done_same s t e = cc

pub one_tree_proof : (s t : Stream) → tokens s ≡ tokens t → s ≡ t
one_tree_proof s t e = done_same s t (sym (stream_reads s) ∙ (ap (λ (l : List Token). feeds l unopened) e ∙ stream_reads t))

-- each position can be completed
abbrev pub Ends : List Token → Position → Type 0
Ends l q = (t : Stream) × (feeds l q ≡ goes (done t)) × (tests l q true ≡ true)

block_ends : (m : Marks) (c : BlockPlace) (x : BlockNode) → Ends (rest_block_place m c) (fill c x)
block_ends m (root (implicit_root f)) x = (whole (following (implicit f x)) m, refl, refl)
block_ends m (root (explicit_root b ds s)) x = (whole (following (explicit b ds s (node x))) m, refl, refl)
block_ends m (entry c o s is e) x = block_ends m c (block_sequence o s (item is e (node x)) m)
block_ends m (slot (part_place c o s ps k v)) x = block_ends m c (block_mapping o s (part ps k v (slot_of (node x))) m)
block_ends m (indentless_entry (part_place c o s ps k v) o' is e) x =
    block_ends m c (block_mapping o s (part ps k v (indentless o' is e (node x))) m)

flow_ends : (m : Marks) (p : Place) (x : FlowNode) → Ends (rest_place m p) (fill_flow p x)
flow_ends m (block c) x = block_ends m c (flow x)
flow_ends m (flow_entry (open_collection p o sequence s is)) x =
    flow_ends m p (collection o sequence s is (last (single x)) m)
flow_ends m (flow_entry (open_collection p o mapping s is)) x =
    flow_ends m p (collection o mapping s is (last (single x)) m)
flow_ends m (flow_key (open_collection p o sequence s is) k) x =
    flow_ends m p (collection o sequence s is (last (pair k (flow_node x) no_value)) m)
flow_ends m (flow_key (open_collection p o mapping s is) k) x =
    flow_ends m p (collection o mapping s is (last (pair k (flow_node x) no_value)) m)
flow_ends m (flow_value (open_collection p o sequence s is) k n v) x
    = flow_ends m p (collection o sequence s is (last (pair k n (with_value v (flow_node x)))) m)
flow_ends m (flow_value (open_collection p o mapping s is) k n v) x =
    flow_ends m p (collection o mapping s is (last (pair k n (with_value v (flow_node x)))) m)

pub position_ends : (m : Marks) (q : Position) → Ends (position_rest m q) q
position_ends m unopened = (whole (free (opened any_encoding m)) m, refl, refl)
position_ends m (between (free f)) = (whole (free f) m, refl, refl)
position_ends m (between (following d)) = (whole (following d) m, refl, refl)
position_ends m (headed b ds d) = (whole (following (explicit b (directive ds d) m nothing)) m, refl, refl)
position_ends m (due p o) = flow_ends m p (scalar o empty_plain m)
position_ends m (in_sequence c o s is) = block_ends m c (block_sequence o s is m)
position_ends m (in_mapping c o s ps) = block_ends m c (block_mapping o s ps m)
position_ends m (in_indentless (part_place c o s ps k v) o' is e n) =
    block_ends m c (block_mapping o s (part ps k v (indentless o' is e n)) m)
position_ends m (flow_due (open_collection p o sequence s is)) = flow_ends m p (collection o sequence s is no_last m)
position_ends m (flow_due (open_collection p o mapping s is)) = flow_ends m p (collection o mapping s is no_last m)
position_ends m (flow_keyed (open_collection p o sequence s is) k n) =
    flow_ends m p (collection o sequence s is (last (pair k n no_value)) m)
position_ends m (flow_keyed (open_collection p o mapping s is) k n) =
    flow_ends m p (collection o mapping s is (last (pair k n no_value)) m)
position_ends m (flow_after (open_collection p o sequence s is) e) = flow_ends m p (collection o sequence s is (last e) m)
position_ends m (flow_after (open_collection p o mapping s is) e) = flow_ends m p (collection o mapping s is (last e) m)
position_ends m (done t) = (t, refl, refl)

-- a position in order is completed to a valid list
pub position_begins : (m : Marks) (q : Position) → position_in_order q true ≡ true
    → IsValidList (position_tokens q (position_rest m q))
position_begins m q h =
    let e = position_ends m q in
    record {
      tree = e.0;
      all
          = sym (feeds_keep (position_rest m q) q (done e.0) e.1 []
          ∙ ap (λ (l : List Token). position_tokens q l) (append-nil (position_rest m q)));
      order = feeds_order (position_rest m q) q (done e.0) e.1 true ∙ (ap (position_in_order q) e.2 ∙ h);
    }

stand_tokens : (c : PartialTree) (r : List Token) → position_tokens (position_of c) r ≡ partial_tokens c r
stand_tokens (at_directive b no_directives) r = refl
stand_tokens _ r = refl

stand_order : (c : PartialTree) (r : Bool) → position_in_order (position_of c) r ≡ partial_in_order c r
stand_order (at_directive b no_directives) r = refl
stand_order _ r = refl

stand_rest : (m : Marks) (c : PartialTree) → position_rest m (position_of c) ≡ rest m c
stand_rest m (at_directive b no_directives) = refl
stand_rest m _ = refl

pub partial_begins_proof : (c : PartialTree) → partial_in_order c true ≡ true → IsValidList (partial_tokens c (rest zero_marks c))
partial_begins_proof c h = subst IsValidList (ap (position_tokens (position_of c)) (stand_rest zero_marks c)
    ∙ stand_tokens c (rest zero_marks c)) (position_begins zero_marks (position_of c) (stand_order c true ∙ h))

-- what is read is in order, and begins a valid list
pub read_order : (l : List Token) (q : Position) → reads_all l unopened ≡ goes q → position_in_order q true ≡ true
read_order l q e =
    let (f, g) = reads_to l unopened q e in
    feeds_order l unopened q f true ∙ g

pub reached_begins : (l : List Token) (q : Position) → reads_all l unopened ≡ goes q → IsViablePrefix l
reached_begins l q e =
    let (f, g) = reads_to l unopened q e in
    record {
      rest = position_rest zero_marks q;
      valid_list
          = subst IsValidList (feeds_keep l unopened q f (position_rest zero_marks q))
          (position_begins zero_marks q (read_order l q e));
    }

-- what is read to the stream's end is a valid list, and a valid list is read to its end
pub read_valid_list : (l : List Token) (t : Stream) → reads_all l unopened ≡ goes (done t) → IsValidList l
read_valid_list l t e = record {
  tree = t;
  all = sym (feeds_keep l unopened (done t) (reads_to l unopened (done t) e).0 [] ∙ append-nil l);
  order
      = read_order l (done t) e;
}

pub valid_list_reads : (l : List Token) (s : IsValidList l) → reads_all l unopened ≡ goes (done s.tree)
valid_list_reads l s =
    let e : feeds l unopened ≡ goes (done s.tree) = ap (λ (x : List Token). feeds x unopened) s.all ∙ stream_reads s.tree in
    reads_from l unopened (done s.tree) e (sym (feeds_order l unopened (done s.tree) e true) ∙ s.order)

pub reads_append : (a b : List Token) (q : Position) → reads_all (a ++ b) q ≡ then_all (reads_all a q) (reads_all b)
reads_append [] b q = refl
reads_append (t ∷ a) b q = go (λ (x : Position). reads_append a b x) (reads q t)
  where
    go : ((x : Position) → reads_all (a ++ b) x ≡ then_all (reads_all a x) (reads_all b)) → (s : Step)
        → then_all s (reads_all (a ++ b)) ≡ then_all (then_all s (reads_all a)) (reads_all b)
    go ih (goes x) = ih x
    go ih (bad x) = refl
    go ih over = refl

pub goes_before : (s : Step) (f : Position → Step) (p : Position) → then_all s f ≡ goes p
    → (q : Position) × (s ≡ goes q) × (f q ≡ goes p)
goes_before (goes q) f p e = (q, refl, e)
goes_before (bad c) f p e = cc
goes_before over f p e = cc

-- a viable prefix is read
pub begin_reads : (a : List Token) → IsViablePrefix a → (q : Position) × (reads_all a unopened ≡ goes q)
begin_reads a h =
    let (q, e, f) = goes_before (reads_all a unopened) (reads_all h.rest) (done h.valid_list.tree)
    (sym (reads_append a h.rest unopened) ∙ valid_list_reads (a ++ h.rest) h.valid_list) in
    (q, e)

-- a list that stops begins no valid list
pub not_done : (a : List Token) (s : Step) → ((q : Position) → s ≡ goes q → ⊥) → reads_all a unopened ≡ s
    → IsViablePrefix a → ⊥
not_done a s n e h =
    let (q, f) = begin_reads a h in
    n q (sym e ∙ f)

pub record Stops (l : List Token) (q : Position) : Type 0 where
  pub before : List Token
  pub token : Token
  pub after : List Token
  pub at : Position
  pub all : l ≡ before ++ token ∷ after
  pub reached : reads_all before q ≡ goes at
  pub stop : (p : Position) → reads at token ≡ goes p → ⊥

pub goes_or_stops : (l : List Token) (q : Position) → ((p : Position) × (reads_all l q ≡ goes p)) ⊎ Stops l q
goes_or_stops [] q = inl (q, refl)
goes_or_stops (t ∷ l) q = go (λ (x : Position). goes_or_stops l x) (reads q t) refl
  where
    go : ((x : Position) → ((p : Position) × (reads_all l x ≡ goes p)) ⊎ Stops l x) → (s : Step) → reads q t ≡ s
        → ((p : Position) × (then_all s (reads_all l) ≡ goes p)) ⊎ Stops (t ∷ l) q
    go ih (goes x) e = further (ih x)
      where
        further : ((p : Position) × (reads_all l x ≡ goes p)) ⊎ Stops l x
            → ((p : Position) × (reads_all l x ≡ goes p)) ⊎ Stops (t ∷ l) q
        further (inl h) = inl h
        further (inr h) = inr (record {
          before = t ∷ h.before;
          token = h.token;
          after = h.after;
          at = h.at;
          all = ap (λ (r : List Token). t ∷ r) h.all;
          reached = ap (λ (s : Step). then_all s (reads_all h.before)) e ∙ h.reached;
          stop = h.stop;
        })
    go ih (bad x) e = inr (record {
      before = [];
      token = t;
      after = l;
      at = q;
      all = refl;
      reached = refl;
      stop =
          λ p f. cc;
    })
    go ih over e = inr (record { before = []; token = t; after = l; at = q; all = refl; reached = refl; stop = λ p f. cc })

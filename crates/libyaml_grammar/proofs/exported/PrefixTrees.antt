-- Each viable prefix that is no valid list has one prefix tree: the partial tree at which a NO-TOKEN, bad everywhere,
-- is bad.
use Rattle.std.proofs.Common.{◌≡◌, List, [], ◌∷◌, ◌++◌, Option, Some, None, true, false, refl, sym, ap, ◌∙◌}
use Rattle.libyaml_grammar.specs.grammar.Tokens.{Marks, NoToken, Token, marks_of, tok}
use Rattle.libyaml_grammar.specs.grammar.Trees.{Properties, Stream, alone, free}
use Rattle.libyaml_grammar.specs.partial.PartialTrees.{PartialTree, Place, at_directive, at_tag, at_tag_after, block, content_due, document_due, implicit_root, indentless_entry, part_place, root, slot, start_due}
use Rattle.libyaml_grammar.specs.partial.Fits.{EndsEmpty, Fits, FitsDirective, FitsTag, WantsContent, ends_empty, last_empty}
use Rattle.libyaml_grammar.specs.partial.DeterminedEvents.{IsPrefixTree, IsPrefixPlace}
use Rattle.libyaml_grammar.proofs.exported.Positions.{Position, between, done, due, in_indentless, unopened}
use Rattle.libyaml_grammar.proofs.exported.Reading.{Step, bad, feeds, goes, over, reads, reads_all, then_all}
use Rattle.libyaml_grammar.proofs.exported.Completion.{not_done, reads_append}
use Rattle.libyaml_grammar.proofs.exported.Fitting.{stops_fits}
use Rattle.libyaml_grammar.proofs.exported.OnePartialTree.{fits_stop, one_partial_proof}
use Rattle.libyaml_grammar.proofs.exported.ReadSteps.{IsNotDone, filled, front}
use Rattle.libyaml_grammar.proofs.exported.Orders.{feeds_order, reads_from}
use Rattle.libyaml_grammar.proofs.trees.Edge.{partial_reads, reached}
use Rattle.libyaml_grammar.proofs.trees.Append.{edge_told}

nothing_stops : (p : Place) (m : Marks) → reads (due p None) (tok NoToken m) ≡ bad (content_due p)
nothing_stops (block (root (implicit_root f))) m = refl
nothing_stops (block (slot (part_place c o s ps k v))) m = refl
nothing_stops (block (indentless_entry (part_place c o s ps k v) y is e)) m = refl
nothing_stops _ m = refl

alone_stops : (p : Place) (ps : Properties) (m : Marks)
    → reads (due p (Some ps)) (tok NoToken m) ≡ bad (filled p (alone ps))
alone_stops (block (root (implicit_root f))) ps m = refl
alone_stops (block (slot (part_place c o s qs k v))) ps m = refl
alone_stops (block (indentless_entry (part_place c o s qs k v) y is e)) ps m = refl
alone_stops _ ps m = refl

pub none_stops : (q : Position) (m : Marks) → IsNotDone q → reads q (tok NoToken m) ≡ bad (front q)
none_stops (between (free f)) m n = refl
none_stops (due p None) m n = nothing_stops p m
none_stops (due p (Some ps)) m n = alone_stops p ps m
none_stops (in_indentless (part_place c o s ps k v) y is e x) m n = refl
none_stops (done t) m n = absurd n
none_stops _ m n = refl

-- no ends_empty has it
vector_lacks : (p : Place) → ends_empty p NoToken ≡ false
vector_lacks (block (root (implicit_root f))) = refl
vector_lacks _ = refl

not_in_vector : (p : Place) → ends_empty p NoToken ≡ true → ⊥
not_in_vector p e = let f = vector_lacks p in cc

none_empty : (o : Option Place) → EndsEmpty o NoToken → o ≡ None
none_empty None h = refl
none_empty (Some p) h = absurd (not_in_vector p h)

prefix_place : (l : List Token) (c : PartialTree) → FitsDirective c NoToken → FitsTag l c NoToken → IsPrefixPlace c
prefix_place l (at_directive b ds) d t = cc
prefix_place l (at_tag p) d t = t
prefix_place l (at_tag_after p a m) d t = t
prefix_place l _ d t = tt

wants_none : (c : PartialTree) → WantsContent c NoToken
wants_none (content_due p) = vector_lacks p
wants_none _ = tt

no_directive : (c : PartialTree) → IsPrefixPlace c → FitsDirective c NoToken
no_directive (document_due d) p = refl
no_directive (start_due b ds d) p = refl
no_directive (at_directive b ds) p = absurd p
no_directive (content_due (block (root (implicit_root f)))) p = refl
no_directive (content_due _) p = tt
no_directive _ p = tt

no_tag : (l : List Token) (c : PartialTree) → IsPrefixPlace c → FitsTag l c NoToken
no_tag l (at_tag q) p = absurd p
no_tag l (at_tag_after q a m) p = absurd p
no_tag l _ p = λ u. u.unknown

in_no_vector : (o : Option Place) → o ≡ None → EndsEmpty o NoToken
in_no_vector None e = tt
in_no_vector (Some p) e = cc

abbrev nowhere : Token
nowhere = tok NoToken (record {
  start = record { index = 0; line = 0; column = 0 };
  end =
      record { index = 0; line = 0; column = 0 };
})

never_goes : (q p : Position) → reads q nowhere ≡ goes p → ⊥
never_goes q p e = go q refl
  where
    go : (x : Position) → x ≡ q → ⊥
    go (done t) f = let g : over ≡ goes p = ap (λ (y : Position). reads y nowhere) f ∙ e in cc
    go x f = let g : bad (front x) ≡ goes p = sym (none_stops x (marks_of nowhere) tt)
        ∙ (ap (λ (y : Position). reads y nowhere) f ∙ e) in cc

-- the prefix tree's tokens lead to its right edge
pub prefix_reads : (l : List Token) (c : PartialTree) → IsPrefixTree l c → reads_all l unopened ≡ goes (reached c)
prefix_reads l c f =
    let e : feeds l unopened ≡ goes (reached c) = rw f.tokens at (partial_reads c []) in
    reads_from l unopened (reached c) e (sym (feeds_order l unopened (reached c) e true) ∙ ((edge_told c).1 true
    ∙ f.order))

prefix_fits : (l : List Token) (c : PartialTree) → IsPrefixTree l c → Fits l nowhere c
prefix_fits l c f = record {
  tokens = f.tokens;
  order = f.order;
  bad_token = not_done (l ++ nowhere
      ∷ []) (then_all (reads (reached c) nowhere) goes)
      (λ p e. not_then (reads (reached c) nowhere) (λ x. never_goes (reached c) x) p e)
      (reads_append l (nowhere ∷ []) unopened ∙ ap (λ (s : Step). then_all s (reads_all (nowhere ∷ [])))
      (prefix_reads l c f));
  empty_end = in_no_vector (last_empty c) f.full;
  wants_content = wants_none c;
  directive = no_directive c f.place;
  tag = no_tag l c f.place;
}
  where
    not_then : (s : Step) → ((p : Position) → s ≡ goes p → ⊥) → (p : Position) → then_all s goes ≡ goes p → ⊥
    not_then (goes x) n p e = n x refl
    not_then (bad x) n p e = cc
    not_then over n p e = cc

pub one_prefix_proof : (l : List Token) (c d : PartialTree) → IsPrefixTree l c → IsPrefixTree l d → c ≡ d
one_prefix_proof l c d f g = one_partial_proof l nowhere c d (prefix_fits l c f) (prefix_fits l d g)

pub prefix_of : (l : List Token) (q : Position) → reads_all l unopened ≡ goes q → IsNotDone q → IsPrefixTree l (front q)
prefix_of l q e n =
    let f = stops_fits l nowhere q (front q) e (none_stops q (marks_of nowhere) n) in
    record {
      tokens = f.tokens;
      order = f.order;
      place = prefix_place l (front q) f.directive f.tag;
      full =
          none_empty (last_empty (front q)) f.empty_end;
    }

-- a prefix tree is no whole stream
pub prefix_not_done : (l : List Token) (c : PartialTree) → IsPrefixTree l c → (t : Stream) → reached c ≡ done t → ⊥
prefix_not_done l c f t e = let g : bad c ≡ over = sym (fits_stop l nowhere c (prefix_fits l c f))
    ∙ ap (λ (x : Position). reads x nowhere) e in cc

pub not_done_prefix : (l : List Token) (c : PartialTree) → IsPrefixTree l c → IsNotDone (reached c)
not_done_prefix l c f = go (reached c) refl
  where
    go : (x : Position) → reached c ≡ x → IsNotDone x
    go (done t) e = prefix_not_done l c f t e
    go _ e = tt

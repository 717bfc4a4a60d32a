-- Where a partial tree fits, reading stops at its bad token with that partial tree; so one partial tree fits.
use Rattle.std.proofs.Common.{◌≡◌, List, [], ◌∷◌, ◌++◌, Some, None, refl, sym, ap, ◌∙◌, subst, inl, inr, Bool, true, false}
use Rattle.libyaml_grammar.specs.grammar.Tokens.{AnchorName, Content, HandleDeclared, Marks, Tag, TagDirective, TagName, Token, VersionAsked, VersionDirective, marks_of, tok}
use Rattle.libyaml_grammar.specs.grammar.Trees.{Before, BlockNode, Directives, Documents, FlowNode, Properties, alone, anchor, anchor_tag, following, directive, empty, explicit, flow, flow_node, flow_node_tokens, flow_nothing, free, implicit, indentless, item, no_directives, no_parts, no_value}
use Rattle.libyaml_grammar.specs.grammar.Trees.{node, nothing, pair, part, sequence, single, slot_of, tag, tag_directive, version, with_value}
use Rattle.libyaml_grammar.specs.grammar.Order.{flow_node_in_order, is_known}
use Rattle.libyaml_grammar.specs.grammar.Events.{Event}
use Rattle.libyaml_grammar.specs.partial.PartialTrees.{BlockPlace, PartialTree, Place, at_directive, at_tag, at_tag_after, before_stream, block, content_due, partial_in_order, partial_tokens, declared, declared_open, document_due, entry, entry_due, explicit_root, flow_entry, flow_key, flow_value}
use Rattle.libyaml_grammar.specs.partial.PartialTrees.{implicit_root, indentless_entry, open_collection, part_due, part_place, place_in_order, place_tokens, root, separator_due, slot, start_due}
use Rattle.libyaml_grammar.specs.partial.Fits.{EndsEmpty, Fits, FitsDirective, FitsTag, IsUnknown, IsUnknownTag, WantsContent, ends_empty, is_directive, last_empty}
use Rattle.libyaml_grammar.proofs.exported.Positions.{Position, between, due, flow_due, headed, in_mapping, in_sequence, unopened}
use Rattle.libyaml_grammar.proofs.exported.Reading.{Step, bad, bad_same, broken, checked, feed, feeds, fill, fill_flow, goes, goes_same, is_legal, keeps_order, on_due, over, reads, reads_all, then_all}
use Rattle.libyaml_grammar.proofs.exported.Completion.{reached_begins, reads_append}
use Rattle.libyaml_grammar.proofs.exported.Orders.{feeds_order, reads_from}
use Rattle.libyaml_grammar.proofs.exported.ReadSteps.{IsNotDone, Moves, ReadStep, a_tag, begins_entry, begins_root, fails, filled, filled_block, first_handle, first_version, front, is_alone, is_past, leaves, moved_open, moves, next_handle, next_version, no_content, no_stream, not_past, read_step}
use Rattle.libyaml_grammar.proofs.exported.ReadSteps.{tag_after_anchor}
use Rattle.libyaml_grammar.proofs.trees.Edge.{partial_reads, edge_documents, reached}
use Rattle.libyaml_grammar.proofs.trees.Complete.{directive_feed, edge_block, edge_flow, heads, home}
use Rattle.libyaml_grammar.proofs.trees.Append.{edge_told}

-- a step that does not go on stops at this cut
abbrev pub Stops : Step → PartialTree → Type 0
Stops s c = ((q : Position) → s ≡ goes q → ⊥) → s ≡ bad c

pub stops_order : (q : Position) (b : Bool) → Stops (checked (goes q) b) (broken q)
stops_order q true n = absurd (n q refl)
stops_order q false n = refl

stops_known : (q : Position) (c : PartialTree) (b : Bool) → (b ≡ false → ⊥) → Stops (checked (goes q) b) c
stops_known q c true u n = absurd (n q refl)
stops_known q c false u n = absurd (u refl)

-- the cut at which a token is bad is that of its position
node_partial : (p : Place) (x : FlowNode) → front (fill_flow p x) ≡ filled p x
node_partial (block (root (implicit_root f))) x = refl
node_partial (block (slot (part_place c o s ps t v))) x = refl
node_partial _ x = refl

moved_partial : {m : Marks} {q p : Position} {h : List Event → List Event} → Moves m q p h → front p ≡ front q
moved_partial (is_alone p ps) = node_partial p (alone ps)
moved_partial _ = refl

pub step_partial : {m : Marks} {q : Position} {k : Content} {s : Step} {g : List Event → List Event} {l : Bool}
    → ReadStep m q k s g l → (c : PartialTree) → s ≡ bad c → c ≡ front q
step_partial (moves x h) c e = step_partial h c e ∙ moved_partial x
step_partial (fails no_stream) c e = cc
step_partial _ c e = cc

-- content is expected where the token does not leave the node nothing
pub content_fails : {m : Marks} {q : Position} {k : Content} {s : Step} {g : List Event → List Event} {l : Bool}
    → ReadStep m q k s g l → (p : Place) → s ≡ bad (content_due p) → ends_empty p k ≡ false
content_fails (moves x h) p e = content_fails h p e
content_fails {k = k} (fails (no_content f)) p e = subst (λ (x : Place). ends_empty x k ≡ false) (same _ p e) f
  where
    same : (x y : Place) → bad (content_due x) ≡ bad (content_due y) → x ≡ y
    same x y e = cc
content_fails _ p e = cc

-- a TAG that goes on is known
abbrev NoTag : Position → Content → Type 0
NoTag (between (free f)) k = IsUnknown no_directives k → ⊥
NoTag (due p None) k = IsUnknown (declared p) k → ⊥
NoTag (due p (Some (anchor a m))) k = IsUnknown (declared p) k → ⊥
NoTag (flow_due c) k = IsUnknown (declared_open c) k → ⊥
NoTag _ k = Unit {0}

node_no_tag : (p : Place) (x : FlowNode) (k : Content) → NoTag (fill_flow p x) k
node_no_tag (block (root (implicit_root f))) x k = tt
node_no_tag (block (slot (part_place c o s ps t v))) x k = tt
node_no_tag _ x k = tt

moved_no_tag : {m : Marks} {q p : Position} {h : List Event → List Event} (k : Content) → Moves m q p h → NoTag q k
    → NoTag p k
moved_no_tag k (is_alone p ps) u = node_no_tag p (alone ps) k
moved_no_tag k begins_root u = u
moved_no_tag k begins_entry u = u
moved_no_tag k _ u = tt

-- a step that does not go on stops at the cut of its position
step_stops : {m : Marks} {q : Position} {k : Content} {s : Step} {g : List Event → List Event} {l : Bool}
    → ReadStep m q k s g l → IsNotDone q → FitsDirective (front q) k → WantsContent (front q) k → NoTag q k
    → Stops (checked s l) (front q)
step_stops is_past w d c u n = absurd w
step_stops {k = k} {s = s} {l = l} (moves x h) w d c u n = subst (Stops (checked s l)) (moved_partial x)
    (step_stops h (moved_open x)
    (subst (λ (y : PartialTree). FitsDirective y k) (sym (moved_partial x)) d)
    (subst (λ (y : PartialTree). WantsContent y k) (sym (moved_partial x)) c) (moved_no_tag k x u)) n
step_stops (leaves p e h) w d c u n = cc
step_stops (fails no_stream) w d c u n = refl
step_stops (fails _) w d c u n = refl
step_stops (first_version (free f) a) w d c u n = cc
step_stops (first_version (following x) a) w d c u n = cc
step_stops (first_handle (free f) h) w d c u n = cc
step_stops (first_handle (following x) h) w d c u n = cc
step_stops (next_version b ds x a) w d c u n = cc
step_stops (next_handle b ds x h) w d c u n = cc
step_stops {m = m} (a_tag p h) w d c u n = stops_known (due p (Some (tag h m))) (content_due p)
    (is_known (declared p) h.handle) u n
step_stops {m = m} (tag_after_anchor p a x h) w d c u n
    = stops_known (due p (Some (anchor_tag a x h m))) (filled p (alone (anchor a x))) (is_known (declared p) h.handle) u n
step_stops _ w d c u n = absurd (n _ refl)

stops_filled_block : (c : BlockPlace) (x : BlockNode) (k : Content) (m : Marks) → FitsDirective (filled_block c x) k
    → Stops (reads (fill c x) (tok k m)) (filled_block c x)
stops_filled_block (root (implicit_root f)) x k m d = step_stops (read_step m (fill (root (implicit_root f)) x) k)
    tt d tt tt
stops_filled_block (slot (part_place c o s ps t v)) x k m d =
    step_stops (read_step m (fill (slot (part_place c o s ps t v)) x) k) tt d tt tt
stops_filled_block (indentless_entry (part_place c o s ps t v) y is e) x k m d
    = step_stops (read_step m (fill (indentless_entry (part_place c o s ps t v) y is e) x) k) tt d tt tt
stops_filled_block c x k m d = step_stops (read_step m (fill c x) k) tt d tt tt

stops_filled : (p : Place) (x : FlowNode) (k : Content) (m : Marks) → FitsDirective (filled p x) k
    → Stops (reads (fill_flow p x) (tok k m)) (filled p x)
stops_filled (block c) x k m d = stops_filled_block c (flow x) k m d
stops_filled p x k m d = step_stops (read_step m (fill_flow p x) k) tt d tt tt

filled_wants : (p : Place) (x : FlowNode) (k : Content) → WantsContent (filled p x) k
filled_wants (block (root (implicit_root f))) x k = tt
filled_wants (block (slot (part_place c o s ps t v))) x k = tt
filled_wants (block (indentless_entry (part_place c o s ps t v) y is e)) x k = tt
filled_wants _ x k = tt

-- where content is expected: the token is in no ends_empty, no directive at an implicit root, and no unknown tag
abbrev Wanted : Place → Content → Type 0
Wanted p k = (ends_empty p k ≡ false) × FitsDirective (content_due p) k × (IsUnknown (declared p) k → ⊥)

stops_content : (p : Place) (k : Content) (m : Marks) → Wanted p k → Stops (reads (home p) (tok k m)) (content_due p)
stops_content (block (root (implicit_root f))) k m w = step_stops (read_step m (between (free f)) k) tt w.1 w.0 w.2
stops_content p k m w = step_stops (read_step m (home p) k) tt w.1 w.0 w.2

-- what ends a node that is nothing is no TAG, and a directive after a root alone
abbrev EndsRoot : Place → Content → Type 0
EndsRoot (block (root t)) k = is_directive k ≡ false
EndsRoot _ k = Unit {0}

not_end : (p : Place) → ((h : TagName) → ends_empty p (Tag h) ≡ false)
    × ((a : VersionAsked) → EndsRoot p (VersionDirective a) → ends_empty p (VersionDirective a) ≡ false)
    × ((h : HandleDeclared) → EndsRoot p (TagDirective h) → ends_empty p (TagDirective h) ≡ false)
not_end (block (root (implicit_root f))) = (λ h. refl, λ a d. refl, λ h d. refl)
not_end (block (root (explicit_root b ds s))) = (λ h. refl, λ a d. cc, λ h d. cc)
not_end (flow_key (open_collection p o sequence s is) e) = (λ h. refl, λ a d. refl, λ h d. refl)
not_end (flow_value (open_collection p o sequence s is) e x v) = (λ h. refl, λ a d. refl, λ h d. refl)
not_end _ = (λ h. refl, λ a d. refl, λ h d. refl)

end_legal : (p : Place) (k : Content) (es : Directives) → ends_empty p k ≡ true → EndsRoot p k
    → keeps_order no_directives es k ≡ true
end_legal p (Tag h) es e d = let f = (not_end p).0 h in cc
end_legal p (VersionDirective a) es e d = let f = (not_end p).1 a d in cc
end_legal p (TagDirective h) es e d = let f = (not_end p).2 h d in cc
end_legal p _ es e d = refl

stops_nothing : (p : Place) (x : PartialTree) (k : Content) (m : Marks) → ends_empty p k ≡ true → EndsRoot p k
    → Stops (reads (due p None) (tok k m)) x
stops_nothing p x k m e d = go (on_due p None k m) (keeps_order no_directives (declared p) k)
    (λ c f. content_fails (read_step m (due p None) k) p (f ∙ ap bad (step_partial (read_step m (due p None) k) c f)))
    (not_past (read_step m (due p None) k) tt) (end_legal p k (declared p) e d)
  where
    go : (s : Step) (l : Bool) → ((c : PartialTree) → s ≡ bad c → ends_empty p k ≡ false) → (s ≡ over → ⊥) → l ≡ true
        → Stops (checked s l) x
    go (goes q) true a b f n = absurd (n q refl)
    go (goes q) false a b f n = cc
    go (bad c) l a b f n = let g = a c refl in cc
    go over l a b f n = absurd (b refl)

filled_told : (p : Place) (x : FlowNode) → ((r : List Token)
    → partial_tokens (filled p x) r ≡ place_tokens p (flow_node_tokens x r))
    × ((r : Bool) → partial_in_order (filled p x) r ≡ place_in_order p (flow_node_in_order (declared p) x r))
filled_told (block (root (implicit_root f))) x = (λ r. refl, λ r. refl)
filled_told (block (slot (part_place c o s ps t v))) x = (λ r. refl, λ r. refl)
filled_told (block (indentless_entry (part_place c o s ps t v) y is e)) x = (λ r. refl, λ r. refl)
filled_told _ x = (λ r. refl, λ r. refl)

-- what the conditions say of a cut after a whole node
record Given (l : List Token) (c : PartialTree) (k : Content) : Type 0 where
  same : partial_tokens c [] ≡ l
  good : partial_in_order c true ≡ true
  way : FitsDirective c k
  none : IsUnknownTag l k → ⊥

no_tag : (p : Place) (ps : Properties) (k : Content) (l : List Token) → Given l (filled p (alone ps)) k
    → NoTag (due p (Some ps)) k
no_tag p (anchor a m) k l g = λ e. g.none (record {
  place = p;
  begins
      = (
        sym ((filled_told p (alone (anchor a m))).1 true)
            ∙ g.good,
        inr (a, m, sym ((filled_told p (alone (anchor a m))).0 []) ∙ g.same),
      );
  unknown = e;
})
no_tag p _ k l g = tt

stops_edge_flow : (p : Place) (x : FlowNode) (k : Content) (m : Marks) (l : List Token) → Given l (filled p x) k
    → Stops (reads (edge_flow p x) (tok k m)) (filled p x)
stops_edge_flow p (alone ps) k m l g
    = step_stops (read_step m (due p (Some ps)) k) tt g.way (filled_wants p (alone ps) k) (no_tag p ps k l g)
stops_edge_flow p x k m l g = stops_filled p x k m g.way

stops_edge_block : (c : BlockPlace) (x : BlockNode) (k : Content) (m : Marks) (l : List Token)
    → Given l (filled_block c x) k
    → Stops (reads (edge_block c x) (tok k m)) (filled_block c x)
stops_edge_block c (flow x) k m l g = stops_edge_flow (block c) x k m l g
stops_edge_block c x k m l g = stops_filled_block c x k m g.way

stops_led : (q p : Position) (t : Token) → feed q t ≡ goes p → Stops (reads q t) (broken p)
stops_led q p t e
    = rw (← e) at (stops_order p (is_legal q t.content))

stops_heads : (b : Before) (ds : Directives) (k : Content) (m : Marks) → is_directive k ≡ true
    → Stops (reads (heads b ds) (tok k m)) (at_directive b ds)
stops_heads b ds (VersionDirective x) m e
    = stops_led (heads b ds) (headed b ds (version x m)) (tok (VersionDirective x) m) (directive_feed b ds (version x m))
stops_heads b ds (TagDirective x) m e
    = stops_led (heads b ds) (headed b ds (tag_directive x m)) (tok (TagDirective x) m)
    (directive_feed b ds (tag_directive x m))
stops_heads b ds _ m e = absurd cc

directive_after : (d : Documents) (k : Content) (m : Marks) → is_directive k ≡ true
    → reads (edge_documents d) (tok k m) ≡ reads (between (following d)) (tok k m)
directive_after (implicit f (flow (alone ps))) (VersionDirective x) m e = refl
directive_after (implicit f (flow (alone ps))) (TagDirective x) m e = refl
directive_after (explicit b ds z (node (flow (alone ps)))) (VersionDirective x) m e = refl
directive_after (explicit b ds z (node (flow (alone ps)))) (TagDirective x) m e = refl
directive_after _ (VersionDirective x) m e = refl
directive_after _ (TagDirective x) m e = refl
directive_after _ _ m e = absurd cc

pub broken_by : (q : Position) (b : Bool) → b ≡ false → checked (goes q) b ≡ bad (broken q)
broken_by q true e = cc
broken_by q false e = refl

stops_tag_home : (p : Place) (h : TagName) (m : Marks) → is_known (declared p) h.handle ≡ false
    → reads (home p) (tok (Tag h) m) ≡ bad (at_tag p)
stops_tag_home (block (root (implicit_root f))) h m e
    = broken_by (due (block (root (implicit_root f))) (Some (tag h m)))
    (is_known (declared (block (root (implicit_root f)))) h.handle) e
stops_tag_home p h m e = broken_by (due p (Some (tag h m))) (is_known (declared p) h.handle) e

pub stops_at_tag : (p : Place) (k : Content) (m : Marks) → IsUnknown (declared p) k
    → reads (home p) (tok k m) ≡ bad (at_tag p)
stops_at_tag p (Tag h) m u = stops_tag_home p h m u
stops_at_tag p _ m u = absurd u

pub stops_at_tag_after : (p : Place) (a : AnchorName) (x : Marks) (k : Content) (m : Marks) → IsUnknown (declared p) k
    → reads (due p (Some (anchor a x))) (tok k m) ≡ bad (at_tag_after p a x)
stops_at_tag_after p a x (Tag h) m u = broken_by (due p (Some (anchor_tag a x h m))) (is_known (declared p) h.handle) u
stops_at_tag_after p a x _ m u = absurd u

abbrev Stopping : List Token → PartialTree → Content → Marks → Type 0
Stopping l c k m = partial_tokens c [] ≡ l → partial_in_order c true ≡ true → EndsEmpty (last_empty c) k → WantsContent c k
    → FitsDirective c k → FitsTag l c k
    → Stops (reads (reached c) (tok k m)) c

partial_stops : (l : List Token) (c : PartialTree) (k : Content) (m : Marks) → Stopping l c k m
partial_stops l before_stream k m t o r w d u n = step_stops (read_step m unopened k) tt tt tt tt n
partial_stops l (document_due (implicit f x)) k m t o r w d u n
    = stops_edge_block (root (implicit_root f)) x k m l (record { same = t; good = o; way = d; none = u }) n
partial_stops l (document_due (explicit b ds s nothing)) k m t o r w d u n =
    stops_nothing (block (root (explicit_root b ds s))) _ k m r d n
partial_stops l (document_due (explicit b ds s (node x))) k m t o r w d u n
    = stops_edge_block (root (explicit_root b ds s)) x k m l (record { same = t; good = o; way = d; none = u }) n
partial_stops l (start_due b ds x) k m t o r w d u n = step_stops (read_step m (headed b ds x) k) tt d tt tt n
partial_stops l (at_directive (free f) no_directives) k m t o r w d u n = stops_heads (free f) no_directives k m d n
partial_stops l (at_directive (following x) no_directives) k m t o r w d u n
    = rw (← (directive_after x k m d)) at (stops_heads (following x) no_directives k m d) n
partial_stops l (at_directive b (directive ds x)) k m t o r w d u n = stops_heads b (directive ds x) k m d n
partial_stops l (content_due p) k m t o r w d u n =
    stops_content p k m (w, d, λ e. u (record { place = p; begins = (o, inl t); unknown = e })) n
partial_stops l (at_tag p) k m t o r w d u n = stops_at_tag p k m u
partial_stops l (at_tag_after p a x) k m t o r w d u n = stops_at_tag_after p a x k m u
partial_stops l (entry_due c y s empty) k m t o r w d u n = step_stops (read_step m (in_sequence c y s empty) k) tt tt tt tt n
partial_stops l (entry_due c y s (item is e nothing)) k m t o r w d u n = stops_nothing (block (entry c y s is e)) _ k m r tt n
partial_stops l (entry_due c y s (item is e (node x))) k m t o r w d u n
    = stops_edge_block (entry c y s is e) x k m l (record { same = t; good = o; way = d; none = u }) n
partial_stops l (part_due c y s no_parts) k m t o r w d u n = step_stops (read_step m (in_mapping c y s no_parts) k) tt
    tt tt tt n
partial_stops l (part_due c y s (part ps i v (slot_of nothing))) k m t o r w d u n =
    stops_nothing (block (slot (part_place c y s ps i v))) _ k m r tt n
partial_stops l (part_due c y s (part ps i v (slot_of (node x)))) k m t o r w d u n
    = stops_edge_block (slot (part_place c y s ps i v)) x k m l (record { same = t; good = o; way = d; none = u }) n
partial_stops l (part_due c y s (part ps i v (indentless z is e nothing))) k m t o r w d u n
    = stops_nothing (block (indentless_entry (part_place c y s ps i v) z is e)) _ k m r tt n
partial_stops l (part_due c y s (part ps i v (indentless z is e (node x)))) k m t o r w d u n
    = stops_edge_block (indentless_entry (part_place c y s ps i v) z is e) x k m l
    (record { same = t; good = o; way = d; none = u }) n
partial_stops l (separator_due c (single x)) k m t o r w d u n = stops_edge_flow (flow_entry c) x k m l
    (record { same = t; good = o; way = d; none = u }) n
partial_stops l (separator_due c (pair e flow_nothing no_value)) k m t o r w d u n = stops_nothing (flow_key c e) _ k m r tt n
partial_stops l (separator_due c (pair e (flow_node x) no_value)) k m t o r w d u n
    = stops_edge_flow (flow_key c e) x k m l (record { same = t; good = o; way = d; none = u }) n
partial_stops l (separator_due c (pair e y (with_value v flow_nothing))) k m t o r w d u n =
    stops_nothing (flow_value c e y v) _ k m r tt n
partial_stops l (separator_due c (pair e y (with_value v (flow_node x)))) k m t o r w d u n
    = stops_edge_flow (flow_value c e y v) x k m l (record { same = t; good = o; way = d; none = u }) n

-- a partial tree that fits is where the reading stops
pub fits_reach : (l : List Token) (b : Token) (c : PartialTree) → Fits l b c → reads_all l unopened ≡ goes (reached c)
fits_reach l b c f =
    let e : feeds l unopened ≡ goes (reached c) = rw f.tokens at (partial_reads c []) in
    reads_from l unopened (reached c) e (sym (feeds_order l unopened (reached c) e true) ∙ ((edge_told c).1 true
    ∙ f.order))

pub fits_stop : (l : List Token) (b : Token) (c : PartialTree) → Fits l b c → reads (reached c) b ≡ bad c
fits_stop l b c f = partial_stops l c b.content (marks_of b) f.tokens f.order f.empty_end f.wants_content f.directive f.tag
    (λ q e. f.bad_token (reached_begins (l ++ b ∷ []) q (reads_append l (b ∷ []) unopened
    ∙ (ap (λ (s : Step). then_all s (reads_all (b ∷ []))) (fits_reach l b c f) ∙ ap (λ (s : Step). then_all s goes) e))))

pub one_partial_proof : (l : List Token) (b : Token) (c d : PartialTree) → Fits l b c → Fits l b d → c ≡ d
one_partial_proof l b c d f g =
    let e = goes_same (reached c) (reached d) (sym (fits_reach l b c f) ∙ fits_reach l b d g) in
    bad_same c d (sym (fits_stop l b c f) ∙ (ap (λ (q : Position). reads q b) e ∙ fits_stop l b d g))

-- Where reading stops with a partial tree, the rules name that one: what ends it, what its place wants, and whether its
-- token is a directive or a TAG.
use Rattle.std.proofs.Common.{◌≡◌, List, [], ◌∷◌, Some, None, sym, ap, ◌∙◌, subst, ◌⊎◌, inl, inr, ⊎_elim, Bool, true, false, arith}
use Rattle.std.proofs.lemmas.Bool.{true_from_ne_false}
use Rattle.libyaml_grammar.specs.grammar.Tokens.{Anchor, AnchorName, Content, Marks, Token, tok}
use Rattle.libyaml_grammar.specs.grammar.Trees.{Before, Directive, Directives, Documents, Free, anchor, anchor_tag, following, directive, explicit, flow_nothing, free, implicit, indentless, item, no_directives, no_value, node, nothing, pair, part, slot_of, tag, with_value}
use Rattle.libyaml_grammar.specs.grammar.Order.{is_known}
use Rattle.libyaml_grammar.specs.grammar.Events.{Event}
use Rattle.libyaml_grammar.specs.partial.PartialTrees.{PartialTree, Place, at_directive, at_tag, at_tag_after, before_stream, block, content_due, declared, document_due, entry, entry_due, explicit_root, flow_key, flow_value, implicit_root, indentless_entry, part_due, part_place, place_tokens, root}
use Rattle.libyaml_grammar.specs.partial.PartialTrees.{separator_due, slot, start_due}
use Rattle.libyaml_grammar.specs.partial.Fits.{EndsEmpty, FitsDirective, IsUnknownTag, WantsContent, empty_root, is_directive, last_empty}
use Rattle.libyaml_grammar.proofs.exported.Positions.{Position, between, due, headed, unopened}
use Rattle.libyaml_grammar.proofs.exported.Reading.{Step, bad, bad_same, broken, checked, feeds, goes, goes_same, is_legal, reads, reads_all, step}
use Rattle.libyaml_grammar.proofs.exported.OnePartialTree.{step_partial, stops_at_tag, stops_at_tag_after}
use Rattle.libyaml_grammar.proofs.exported.Orders.{reads_to}
use Rattle.libyaml_grammar.proofs.exported.ReadSteps.{ReadStep, a_tag, fails, leaves, moves, no_document, no_document_start, no_stream, read_step, tag_after_anchor}
use Rattle.libyaml_grammar.proofs.trees.Edge.{partial_reads, edge_documents, place_reads, reached}
use Rattle.libyaml_grammar.proofs.trees.Complete.{home}

-- where reading stops with a cut, that cut fits

-- an order cut is that of the position
order_or_goes : (q : Position) (b : Bool) (c : PartialTree) → checked (goes q) b ≡ bad c → broken q ≡ c
order_or_goes q b c e = grind arith

-- a cut by order
abbrev IsOrderPartial : PartialTree → Type 0
IsOrderPartial before_stream = Unit {0}
IsOrderPartial (at_directive b ds) = Unit {0}
IsOrderPartial (at_tag p) = Unit {0}
IsOrderPartial (at_tag_after p a m) = Unit {0}
IsOrderPartial _ = ⊥

-- where a token is bad at no cut of the order, the step fails
step_or_order : (s : Step) (l : Bool) (c : PartialTree) → checked s l ≡ bad c → (s ≡ bad c) ⊎ IsOrderPartial c
step_or_order s l c e = grind arith

step_fails : (q : Position) (k : Content) (m : Marks) (c : PartialTree) → (IsOrderPartial c → ⊥) → reads q (tok k m) ≡ bad c
    → step q k m ≡ bad c
step_fails q k m c n e = ⊎_elim (λ f. f) (λ f. absurd (n f)) (step_or_order (step q k m) (is_legal q k) c e)

-- a cut that is neither of its place nor of the order does not come there
not_left : (p : Place) (k : Content) (m : Marks) (c : PartialTree) → (c ≡ content_due p → ⊥) → (IsOrderPartial c → ⊥)
    → reads (due p None) (tok k m) ≡ bad c → ⊥
not_left p k m c a b e = a (step_partial (read_step m (due p None) k) c (step_fails (due p None) k m c b e))

bad_ends_root : (d : Documents) (k : Content) (m : Marks)
    → reads (edge_documents d) (tok k m) ≡ bad (document_due d) → EndsEmpty (empty_root d) k
bad_ends_root (explicit b ds s nothing) k m e
    = absurd (not_left (block (root (explicit_root b ds s))) k m (document_due (explicit b ds s nothing)) (λ f. cc)
    (λ f. f) e)
bad_ends_root (explicit b ds s (node x)) k m e = tt
bad_ends_root (implicit f x) k m e = tt

directive_ends_root : (d : Documents) (k : Content) → is_directive k ≡ true → EndsEmpty (empty_root d) k
directive_ends_root d k e = grind arith

abbrev pub StopsAt : PartialTree → Content → Marks → Type 0
StopsAt c k m = reads (reached c) (tok k m) ≡ bad c

pub gives_empty_end : (c : PartialTree) (k : Content) (m : Marks) → FitsDirective c k → StopsAt c k m → EndsEmpty (last_empty c) k
gives_empty_end (document_due x) k m d e = bad_ends_root x k m e
gives_empty_end (at_directive (following x) no_directives) k m d e = directive_ends_root x k d
gives_empty_end (entry_due c o s (item is y nothing)) k m d e
    = absurd (not_left (block (entry c o s is y)) k m (entry_due c o s (item is y nothing)) (λ f. cc) (λ f. f) e)
gives_empty_end (part_due c o s (part ps r v (slot_of nothing))) k m d e
    = absurd (not_left (block (slot (part_place c o s ps r v))) k m (part_due c o s (part ps r v (slot_of nothing)))
    (λ f. cc) (λ f. f) e)
gives_empty_end (part_due c o s (part ps r v (indentless z is y nothing))) k m d e
    = absurd (not_left (block (indentless_entry (part_place c o s ps r v) z is y)) k m
    (part_due c o s (part ps r v (indentless z is y nothing))) (λ f. cc)
    (λ f. f) e)
gives_empty_end (separator_due c (pair y flow_nothing no_value)) k m d e
    = absurd (not_left (flow_key c y) k m (separator_due c (pair y flow_nothing no_value)) (λ f. cc) (λ f. f) e)
gives_empty_end (separator_due c (pair y x (with_value v flow_nothing))) k m d e
    = absurd (not_left (flow_value c y x v) k m (separator_due c (pair y x (with_value v flow_nothing))) (λ f. cc)
    (λ f. f) e)
gives_empty_end _ k m d e = tt

pub gives_content : (c : PartialTree) (k : Content) (m : Marks) → StopsAt c k m → WantsContent c k
gives_content c k m e = grind arith

abbrev pub IsTagPartial : PartialTree → Type 0
IsTagPartial (at_tag p) = Unit {0}
IsTagPartial (at_tag_after p a m) = Unit {0}
IsTagPartial _ = ⊥

-- which places a bad tag has: where a node is front, an unknown tag is at the tag
pub gives_tag : (l : List Token) (c : PartialTree) (k : Content) (m : Marks) → reads_all l unopened ≡ goes (reached c)
    → StopsAt c k m → IsUnknownTag l k → IsTagPartial c
gives_tag l c k m r e u = at (u.begins.1)
  where
    home_is : (p : Place) → place_tokens p [] ≡ l → home p ≡ reached c
    home_is p f = goes_same (home p) (reached c)
        (sym (subst (λ (x : List Token). feeds x unopened ≡ goes (home p)) f (place_reads p []))
        ∙ (reads_to l unopened (reached c) r).0)

    after_is : (p : Place) (a : AnchorName) (x : Marks) → place_tokens p (tok (Anchor a) x ∷ []) ≡ l
        → due p (Some (anchor a x)) ≡ reached c
    after_is p a x f = goes_same (due p (Some (anchor a x))) (reached c)
        (sym (rw f at (partial_reads (at_tag_after p a x) []))
        ∙ (reads_to l unopened (reached c) r).0)

    at : (place_tokens u.place [] ≡ l)
        ⊎ ((a : AnchorName) × (x : Marks) × (place_tokens u.place (tok (Anchor a) x ∷ []) ≡ l)) → IsTagPartial c
    at (inl f) =
        let g = ap (λ (q : Position). reads q (tok k m)) (home_is u.place f) in
        let h = stops_at_tag u.place k m u.unknown in
        let same : at_tag u.place ≡ c = bad_same (at_tag u.place) c (sym h ∙ (g ∙ e)) in
        subst IsTagPartial same tt
    at (inr (a, x, f)) =
        let g = ap (λ (q : Position). reads q (tok k m)) (after_is u.place a x f) in
        let h = stops_at_tag_after u.place a x k m u.unknown in
        let same : at_tag_after u.place a x ≡ c = bad_same (at_tag_after u.place a x) c (sym h ∙ (g ∙ e)) in
        subst IsTagPartial same tt

-- no cut at a directive without a directive
no_directive : {m : Marks} {q : Position} {k : Content} {s : Step} {g : List Event → List Event} {l : Bool}
    → ReadStep m q k s g l → (b : Before) (ds : Directives) → is_directive k ≡ false
    → checked s l ≡ bad (at_directive b ds) → ⊥
no_directive (moves x h) b ds f e = no_directive h b ds f e
no_directive (leaves p a h) b ds f e = no_directive h b ds f e
no_directive (fails no_stream) b ds f e = cc
no_directive (a_tag p h) b ds f e = let z = order_or_goes (due p (Some (tag h _))) (is_known (declared p) h.handle)
    (at_directive b ds) e in cc
no_directive (tag_after_anchor p a n h) b ds f e =
    let z = order_or_goes (due p (Some (anchor_tag a n h _))) (is_known (declared p) h.handle) (at_directive b ds) e in cc
no_directive _ b ds f e = cc

document_fails : {m : Marks} {q : Position} {k : Content} {s : Step} {g : List Event → List Event} {l : Bool}
    → ReadStep m q k s g l → (d : Documents) → s ≡ bad (document_due d) → is_directive k ≡ false
document_fails (moves x h) d e = document_fails h d e
document_fails (fails (no_document f)) d e = f
document_fails _ d e = cc

start_fails : {m : Marks} {q : Position} {k : Content} {s : Step} {g : List Event → List Event} {l : Bool}
    → ReadStep m q k s g l → (b : Before) (ds : Directives) (d : Directive) → s ≡ bad (start_due b ds d)
    → is_directive k ≡ false
start_fails (moves x h) b ds d e = start_fails h b ds d e
start_fails (fails (no_document_start f)) b ds d e = f
start_fails _ b ds d e = cc

no_root : (f : Free) (k : Content) (m : Marks)
    → reads (between (free f)) (tok k m) ≡ bad (content_due (block (root (implicit_root f))))
    → is_directive k ≡ false
no_root f k m e = grind arith

pub gives_directive : (c : PartialTree) (k : Content) (m : Marks) → StopsAt c k m → FitsDirective c k
gives_directive (document_due d) k m e
    = document_fails (read_step m (edge_documents d) k) d (step_fails (edge_documents d) k m (document_due d) (λ f. f) e)
gives_directive (start_due b ds d) k m e
    = start_fails (read_step m (headed b ds d) k) b ds d (step_fails (headed b ds d) k m (start_due b ds d) (λ f. f) e)
gives_directive (at_directive (free f) no_directives) k m e =
    true_from_ne_false (is_directive k) (λ g. no_directive (read_step m (between (free f)) k) (free f) no_directives g e)
gives_directive (at_directive (following d) no_directives) k m e =
    true_from_ne_false (is_directive k) (λ g. no_directive (read_step m (edge_documents d) k) (following d) no_directives g e)
gives_directive (at_directive b (directive ds d)) k m e =
    true_from_ne_false (is_directive k) (λ g. no_directive (read_step m (headed b ds d) k) b (directive ds d) g e)
gives_directive (content_due (block (root (implicit_root f)))) k m e = no_root f k m e
gives_directive _ k m e = tt

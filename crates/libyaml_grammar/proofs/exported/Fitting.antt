-- Where reading stops with a partial tree, it has the tokens read, and fits.
use Rattle.std.proofs.Common.{◌≡◌, List, [], ◌∷◌, ◌++◌, refl, sym, ap, ◌∙◌, subst, ◌⊎◌, inl, inr, Bool, true, false, append-nil}
use Rattle.libyaml_grammar.specs.grammar.Tokens.{Content, Marks, Token, marks_of, tok}
use Rattle.libyaml_grammar.specs.grammar.Trees.{Stream}
use Rattle.libyaml_grammar.specs.grammar.Events.{Event}
use Rattle.libyaml_grammar.specs.partial.PartialTrees.{PartialTree, at_tag, at_tag_after, before_stream, partial_in_order, partial_tokens, declared}
use Rattle.libyaml_grammar.specs.partial.Fits.{Fits, FitsTag, IsUnknown, IsUnknownTag}
use Rattle.libyaml_grammar.proofs.exported.Positions.{Position, done, position_in_order, position_tokens, unopened}
use Rattle.libyaml_grammar.proofs.exported.Reading.{Step, bad, bad_same, broken, checked, feed, feeds, goes, goes_same, is_legal, over, reads, reads_all, step, then_all}
use Rattle.libyaml_grammar.proofs.exported.Keeps.{ToldAlike, feeds_keep, leave_keeps, moved_keeps}
use Rattle.libyaml_grammar.proofs.exported.Completion.{not_done, read_order, reads_append}
use Rattle.libyaml_grammar.proofs.exported.Orders.{reads_to}
use Rattle.libyaml_grammar.proofs.exported.ReadSteps.{IsNotDone, ReadStep, a_tag, fails, first_handle, first_version, is_past, leaves, moved_open, moves, next_handle, next_version, no_stream, read_step, tag_after_anchor}
use Rattle.libyaml_grammar.proofs.trees.Edge.{partial_reads, reached}
use Rattle.libyaml_grammar.proofs.trees.Existence.{IsTagPartial, StopsAt, gives_content, gives_directive, gives_empty_end, gives_tag}

-- no token is bad at a tag for grammar alone
abbrev pub NotTagPartial : PartialTree → Type 0
NotTagPartial (at_tag p) = ⊥
NotTagPartial (at_tag_after p a m) = ⊥
NotTagPartial _ = Unit {0}

abbrev pub NotTag : Step → Type 0
NotTag (goes q) = Unit {0}
NotTag (bad c) = NotTagPartial c
NotTag over = ⊥

no_tag : {m : Marks} {q : Position} {k : Content} {s : Step} {g : List Event → List Event} {l : Bool}
    → ReadStep m q k s g l → IsNotDone q → NotTag s
no_tag is_past w = absurd w
no_tag (moves x h) w = no_tag h (moved_open x)
no_tag (fails no_stream) w = tt
no_tag _ w = tt

pub not_tag : (q : Position) (k : Content) (m : Marks) → IsNotDone q → NotTag (step q k m)
not_tag q k m w = no_tag (read_step m q k) w

pub open_or_done : (q : Position) → IsNotDone q ⊎ ((t : Stream) × (q ≡ done t))
open_or_done (done t) = inr (t, refl)
open_or_done unopened = inl tt
open_or_done _ = inl tt

-- only a stream that is done looks at no token
pub over_done : (q : Position) (k : Content) (m : Marks) → step q k m ≡ over → (t : Stream) × (q ≡ done t)
over_done q k m e = go (open_or_done q)
  where
    go : IsNotDone q ⊎ ((t : Stream) × (q ≡ done t)) → (t : Stream) × (q ≡ done t)
    go (inl w) = absurd (subst NotTag e (not_tag q k m w))
    go (inr h) = h

pub read_over : (q : Position) (t : Token) → reads q t ≡ over → (s : Stream) × (q ≡ done s)
read_over q t e = over_done q t.content (marks_of t) (only_over (feed q t) (is_legal q t.content) e)
  where
    only_over : (s : Step) (b : Bool) → checked s b ≡ over → s ≡ over
    only_over (goes p) true e = cc
    only_over (goes p) false e = cc
    only_over (bad c) b e = cc
    only_over over b e = refl

-- at a tag's place the token is a tag that is unknown there
abbrev UnknownHere : PartialTree → Content → Type 0
UnknownHere (at_tag p) k = IsUnknown (declared p) k
UnknownHere (at_tag_after p a m) k = IsUnknown (declared p) k
UnknownHere _ k = Unit {0}

-- all that a place knows of the position
record Place_of (q : Position) (k : Content) (c : PartialTree) : Type 0 where
  tokens : (r : List Token) → partial_tokens c r ≡ position_tokens q r
  order : (r : Bool) → partial_in_order c r ≡ position_in_order q r
  unknown : UnknownHere c k

-- a bad token's place, or that of one that breaks the order
abbrev Placed : Step → Bool → Position → Content → Type 0
Placed (goes p) l q k = l ≡ false → Place_of q k (broken p)
Placed (bad c) l q k = Place_of q k c
Placed over l q k = Unit {0}

place_as : {p q : Position} {k : Content} {c : PartialTree} → ToldAlike p q → Place_of p k c → Place_of q k c
place_as e h = record { tokens = λ r. h.tokens r ∙ e.0 r; order = λ r. h.order r ∙ e.1 r; unknown = h.unknown }

placed_as : (s : Step) (l : Bool) (p q : Position) (k : Content) → ToldAlike p q → Placed s l p k → Placed s l q k
placed_as (goes x) l p q k e h = λ g. place_as e (h g)
placed_as (bad c) l p q k e h = place_as e h
placed_as over l p q k e h = tt

placed : {m : Marks} {q : Position} {k : Content} {s : Step} {g : List Event → List Event} {l : Bool}
    → ReadStep m q k s g l → Placed s l q k
placed is_past = tt
placed (moves x h) = placed_as _ _ _ _ _ (moved_keeps x) (placed h)
placed (leaves p e h) = λ g. place_as (leave_keeps p) (placed h g)
placed (fails no_stream) = record { tokens = λ r. refl; order = λ r. refl; unknown = tt }
placed (fails _) = record { tokens = λ r. refl; order = λ r. refl; unknown = tt }
placed (first_version b a) = λ f. record { tokens = λ r. refl; order = λ r. refl; unknown = tt }
placed (first_handle b h) = λ f. record { tokens = λ r. refl; order = λ r. refl; unknown = tt }
placed (next_version b ds d a) = λ f. record { tokens = λ r. refl; order = λ r. refl; unknown = tt }
placed (next_handle b ds d h) = λ f. record { tokens = λ r. refl; order = λ r. refl; unknown = tt }
placed (a_tag p h) = λ f. record { tokens = λ r. refl; order = λ r. refl; unknown = f }
placed (tag_after_anchor p a n h) = λ f. record { tokens = λ r. refl; order = λ r. refl; unknown = f }
placed _ = λ f. absurd cc

place_of : (q : Position) (k : Content) (m : Marks) (c : PartialTree) → reads q (tok k m) ≡ bad c → Place_of q k c
place_of q k m c h = go (step q k m) (is_legal q k) (placed (read_step m q k)) h
  where
    go : (s : Step) (l : Bool) → Placed s l q k → checked s l ≡ bad c → Place_of q k c
    go (goes p) true u e = absurd cc
    go (goes p) false u e = subst (Place_of q k) (bad_same (broken p) c e) (u refl)
    go (bad d) l u e = subst (Place_of q k) (bad_same d c e) u
    go over l u e = absurd cc

fits_tag : (l : List Token) (c : PartialTree) (k : Content) → UnknownHere c k → (IsUnknownTag l k → IsTagPartial c) → FitsTag l c k
fits_tag l (at_tag p) k h f = h
fits_tag l (at_tag_after p a m) k h f = h
fits_tag l before_stream k h f = f
fits_tag l _ k h f = f

-- where reading stops with a cut, the cut fits
pub stops_fits : (l : List Token) (b : Token) (q : Position) (c : PartialTree) → reads_all l unopened ≡ goes q
    → reads q b ≡ bad c → Fits l b c
stops_fits l b q c e f =
    let h = place_of q b.content (marks_of b) c f in
    let u : partial_tokens c [] ≡ l = h.tokens [] ∙ (feeds_keep l unopened q (reads_to l unopened q e).0 [] ∙ append-nil l) in
    let v : reached c ≡ q = goes_same (reached c) q
    (sym (partial_reads c []) ∙ (ap (λ (x : List Token). feeds x unopened) u ∙ (reads_to l unopened q e).0)) in
    let w : StopsAt c b.content (marks_of b) = subst (λ (x : Position). reads x b ≡ bad c) (sym v) f in
    let d = gives_directive c b.content (marks_of b) w in
    record {
      tokens = u;
      order = h.order true ∙ read_order l q e;
      bad_token = not_done (l ++ b ∷ []) (bad c) (λ x g. cc) (reads_append l (b ∷ []) unopened
          ∙ (ap (λ (s : Step). then_all s (reads_all (b ∷ []))) e ∙ ap (λ (s : Step). then_all s goes) f));
      empty_end = gives_empty_end c b.content (marks_of b) d w;
      wants_content = gives_content c b.content (marks_of b) w;
      directive = d;
      tag = fits_tag l c b.content h.unknown (gives_tag l c b.content (marks_of b) (e ∙ ap goes (sym v)) w);
    }

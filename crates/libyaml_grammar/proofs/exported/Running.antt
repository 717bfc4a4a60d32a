-- Each list has one run for each error of its source.
use Rattle.std.specs.Prelude.{◌||◌}
use Rattle.std.proofs.Common.{◌≡◌, ◌⊎◌, inl, inr, List, [], ◌∷◌, ◌++◌, Bool, true, false, refl, sym, ap, ◌∙◌, subst, append-nil}
use Rattle.std.proofs.lemmas.List.{append_cancel_left}
use Rattle.std.proofs.lemmas.Bool.{false_from_ne_true}
use Rattle.libyaml_grammar.specs.partial.PartialEvents.{shown_partial}
use Rattle.libyaml_grammar.specs.partial.PartialFaults.{fault}
use Rattle.libyaml_grammar.specs.partial.PartialTrees.{PartialTree, at_tag, at_tag_after, partial_tokens, declared}
use Rattle.libyaml_grammar.specs.grammar.Events.{Event, events}
use Rattle.libyaml_types.specs.Fault.{Fault}
use Rattle.libyaml_grammar.specs.partial.Fits.{Fits, FitsTag, IsUnknown}
use Rattle.libyaml_grammar.specs.grammar.Order.{in_order}
use Rattle.libyaml_grammar.proofs.exported.Positions.{Position, done, unopened}
use Rattle.libyaml_grammar.proofs.exported.Reading.{Step, bad, bad_same, goes, goes_same, over, reads, reads_all, then_all}
use Rattle.libyaml_grammar.specs.runs.Runs.{Ending, Ends, Fails, IsRun, amid_properties, has_token, is_after, is_after_properties, of_viable_prefix, of_partial_tree, of_valid_list}
use Rattle.libyaml_grammar.specs.grammar.ValidLists.{IsViablePrefix, IsValidList, has_end, is_end}
use Rattle.libyaml_grammar.specs.partial.DeterminedEvents.{Determines, sure}
use Rattle.libyaml_grammar.specs.runs.StreamEnds.{up_to_end}
use Rattle.libyaml_grammar.specs.grammar.Tokens.{Anchor, Content, Tag, Token}
use Rattle.libyaml_grammar.specs.grammar.Trees.{Directives, Stream, tokens}
use Rattle.libyaml_grammar.proofs.exported.Completion.{Stops, begin_reads, goes_or_stops, reached_begins, read_valid_list, reads_append, valid_list_reads}
use Rattle.libyaml_grammar.proofs.trees.Edge.{reached}
use Rattle.libyaml_grammar.proofs.exported.Fitting.{read_over, stops_fits}
use Rattle.libyaml_grammar.proofs.exported.ReadSteps.{IsNotDone}
use Rattle.libyaml_grammar.proofs.exported.OnePartialTree.{fits_reach, fits_stop}
use Rattle.libyaml_grammar.proofs.exported.Determining.{begin_prefix, prefix_determines, one_determined_proof}
use Rattle.libyaml_grammar.proofs.exported.StreamEnds.{IsDone, end_is_done, not_end_not_done, read_done, valid_list_has_end}
use Rattle.libyaml_grammar.proofs.exported.Injectivity.{head_same, tail_same}

-- before the last of these tokens there is no STREAM-END
end_last : (l a : List Token) (t : Token) (r : List Token) → up_to_end l ≡ a ++ t ∷ r → has_end a ≡ false
end_last l [] t r e = refl
end_last [] (x ∷ a) t r e = absurd cc
end_last (y ∷ l) (x ∷ a) t r e
    = go (λ (g : up_to_end l ≡ a ++ t ∷ r). end_last l a t r g) (is_end y.content)
    (ap (λ (u : Token). is_end u.content) (head_same y x _ (a ++ t ∷ r) e))
    (tail_same y x _ (a ++ t ∷ r) e)
  where
    none : (a : List Token) → [] ≡ a ++ t ∷ r → ⊥
    none [] f = cc
    none (z ∷ a) f = cc

    go : (up_to_end l ≡ a ++ t ∷ r → has_end a ≡ false) → (b : Bool) → b ≡ is_end x.content
        → elim b [ true ↦ [] | false ↦ up_to_end l ] ≡ a ++ t ∷ r
        → is_end x.content || has_end a ≡ false
    go ih true f g = absurd (none a g)
    go ih false f g = ap (λ (b : Bool). (b || has_end a)) (sym f) ∙ ih g

up_to_later : (a l : List Token) → has_end a ≡ false → up_to_end (a ++ l) ≡ a ++ up_to_end l
up_to_later [] l e = refl
up_to_later (x ∷ a) l e = go (λ (f : has_end a ≡ false). up_to_later a l f) (is_end x.content) e
  where
    go : (has_end a ≡ false → up_to_end (a ++ l) ≡ a ++ up_to_end l) → (b : Bool) → b || has_end a ≡ false
        → x ∷ elim b [ true ↦ [] | false ↦ up_to_end (a ++ l) ] ≡ x ∷ (a ++ up_to_end l)
    go ih true f = absurd cc
    go ih false f = ap (λ (r : List Token). x ∷ r) (ih f)

all_of_it : (l : List Token) → has_end l ≡ false → up_to_end l ≡ l
all_of_it l e = ap up_to_end (sym (append-nil l)) ∙ (up_to_later l [] e ∙ append-nil l)

none_left : (l : List Token) (q p : Position) → IsDone q → reads_all l q ≡ goes p → l ≡ []
none_left [] q p d e = refl
none_left (x ∷ l) (done t) p d e = absurd cc
none_left (x ∷ l) _ p d e = absurd d

-- a list that is read to its STREAM-END is its own prefix
pub up_to_read : (l : List Token) (q p : Position) (r : List Token) → reads_all l q ≡ goes p → has_end l ≡ true
    → up_to_end (l ++ r) ≡ l
up_to_read [] q p r e h = absurd cc
up_to_read (x ∷ l) q p r e h =
    go (λ (y : Position) (f : reads_all l y ≡ goes p) (g : has_end l ≡ true). up_to_read l y p r f g)
    (is_end x.content) refl
    (reads q x) refl e h
  where
    go : ((y : Position) → reads_all l y ≡ goes p → has_end l ≡ true → up_to_end (l ++ r) ≡ l) → (b : Bool)
        → is_end x.content ≡ b → (s : Step) → reads q x ≡ s
        → then_all s (reads_all l) ≡ goes p → b || has_end l ≡ true
        → x ∷ elim b [ true ↦ [] | false ↦ up_to_end (l ++ r) ] ≡ x ∷ l
    go ih true j (goes y) f g k = ap (λ (a : List Token). x ∷ a) (sym (none_left l y p (read_done q y x j f) g))
    go ih false j (goes y) f g k = ap (λ (a : List Token). x ∷ a) (ih y g k)
    go ih b j (bad c) f g k = absurd cc
    go ih b j over f g k = absurd cc

-- how the four kinds of runs are read
data Shape (l : List Token) (f : Fault) (e : List Event) (x : Ending) : Type 0 where
  is_valid_list : (t : Stream) → reads_all l unopened ≡ goes (done t) → e ≡ events t → x ≡ Ends → Shape l f e x
  is_cut : (before : List Token) (token : Token) (following : List Token) (c : PartialTree) → l ≡ before ++ token ∷ following
      → partial_tokens c [] ≡ before
      → reads_all l unopened ≡ bad c → e ≡ shown_partial c token.start_mark []
      → x ≡ elim (is_after_properties c following)
      [ true ↦ Fails (fault c token.content token.start_mark) | false ↦ Fails f ] → Shape l f e x
  is_viable_prefix : (q : Position) → reads_all l unopened ≡ goes q → has_end l ≡ false → Determines l e → x ≡ Fails f
      → Shape l f e x

partial_reading : (l before : List Token) (token : Token) (following : List Token) (c : PartialTree) → l ≡ before ++ token ∷ following
    → Fits before token c
    → reads_all l unopened ≡ bad c
partial_reading l before token following c e f = ap (λ (x : List Token). reads_all x unopened) e
    ∙ (reads_append before (token ∷ following) unopened
    ∙ (ap (λ (s : Step). then_all s (reads_all (token ∷ following))) (fits_reach before token c f)
    ∙ ap (λ (s : Step). then_all s (reads_all following)) (fits_stop before token c f)))

shape_of : (l : List Token) (f : Fault) (e : List Event) (x : Ending) → IsRun l f e x → Shape (up_to_end l) f e x
shape_of l f e x (of_valid_list t a o g h) =
    is_valid_list t (valid_list_reads (up_to_end l) (record { tree = t; all = a; order = o })) g h
shape_of l f e x (of_partial_tree before token following c a i o g h)
    = is_cut before token following c a i.tokens (partial_reading (up_to_end l) before token following c a i) g (h
    ∙ ap (λ (b : Bool). elim b [ true ↦ Fails (fault c token.content token.start_mark) | false ↦ Fails f ]) (sym o))
shape_of l f e x (amid_properties before token following c a i o g h)
    = is_cut before token following c a i.tokens (partial_reading (up_to_end l) before token following c a i) g (h
    ∙ ap (λ (b : Bool). elim b [ true ↦ Fails (fault c token.content token.start_mark) | false ↦ Fails f ]) (sym o))
shape_of l f e x (of_viable_prefix b n s h) =
    let (q, g) = begin_reads (up_to_end l) b in
    is_viable_prefix q g n s h

abbrev Same : List Event → List Event → Ending → Ending → Type 0
Same d e x y = (d ≡ e) × (x ≡ y)

partial_same : (l : List Token) (f : Fault) (d e : List Event) (x y : Ending) (a b : List Token) (t u : Token)
    (r s : List Token) (c : PartialTree) → l ≡ a ++ t ∷ r
    → l ≡ b ++ u ∷ s → a ≡ b → d ≡ shown_partial c t.start_mark []
    → x ≡ elim (is_after_properties c r) [ true ↦ Fails (fault c t.content t.start_mark) | false ↦ Fails f ]
    → e ≡ shown_partial c u.start_mark []
    → y ≡ elim (is_after_properties c s) [ true ↦ Fails (fault c u.content u.start_mark) | false ↦ Fails f ] → Same d e x y
partial_same l f d e x y a b t u r s c g h i j k m n =
    let o : t ∷ r ≡ u ∷ s = append_cancel_left a (t ∷ r) (u ∷ s) (sym g ∙ (h
    ∙ ap (λ (z : List Token). z ++ u ∷ s) (sym i))) in
    let p : t ≡ u = head_same t u r s o in
    let q : r ≡ s = tail_same t u r s o in
    let ending : Token → List Token
    → Ending = λ z w. elim (is_after_properties c w)
    [ true ↦ Fails (fault c z.content z.start_mark) | false ↦ Fails f ] in (
      j ∙ (ap (λ (z : Token). shown_partial c z.start_mark []) p ∙ sym m),
      k
          ∙ (ap (λ (z : Token). ending z r) p ∙ (ap (ending u) q ∙ sym n)),
    )

not_both : (l : List Token) (q : Position) (c : PartialTree) → reads_all l unopened ≡ goes q → reads_all l unopened ≡ bad c → ⊥
not_both l q c e f = no (sym e ∙ f)
  where
    no : goes q ≡ bad c → ⊥
    no g = cc

not_ended : (l : List Token) (q : Position) (t : Stream) → reads_all l unopened ≡ goes q → has_end l ≡ false
    → reads_all l unopened ≡ goes (done t) → ⊥
not_ended l q t e h f = subst IsNotDone (goes_same q (done t) (sym e ∙ f)) (not_end_not_done l q e h)

partial_of_same : (l : List Token) (c d : PartialTree) → reads_all l unopened ≡ bad c → reads_all l unopened ≡ bad d → c ≡ d
partial_of_same l c d e f = bad_same c d (sym e ∙ f)

same_shapes : (l : List Token) (f : Fault) (d e : List Event) (x y : Ending) → Shape l f d x → Shape l f e y → Same d e x y
same_shapes l f d e x y (is_valid_list t g h i) (is_valid_list u j k m) = let n : t ≡ u
    = same_done (goes_same (done t) (done u) (sym g ∙ j)) in (h ∙ (ap events n ∙ sym k), i ∙ sym m)
  where
    same_done : done t ≡ done u → t ≡ u
    same_done o = cc
same_shapes l f d e x y (is_valid_list t g h i) (is_cut a b r c j k m n o) = absurd (not_both l (done t) c g m)
same_shapes l f d e x y (is_valid_list t g h i) (is_viable_prefix q j k m n) = absurd (not_ended l q t j k g)
same_shapes l f d e x y (is_cut a b r c j k m n o) (is_valid_list t g h i) = absurd (not_both l (done t) c g m)
same_shapes l f d e x y (is_cut a t r c g h i j k) (is_cut b u s c' m n o p q) =
    let z : c' ≡ c = partial_of_same l c' c o i in
    partial_same l f d e x y a b t u r s c g m (sym h ∙ (ap (λ (w : PartialTree). partial_tokens w []) (sym z) ∙ n)) j k (p
    ∙ ap (λ (w : PartialTree). shown_partial w u.start_mark []) z) (q
    ∙ ap (λ (w : PartialTree). elim (is_after_properties w s)
    [ true ↦ Fails (fault w u.content u.start_mark) | false ↦ Fails f ]) z)
same_shapes l f d e x y (is_cut a t r c g h i j k) (is_viable_prefix q m n o p) = absurd (not_both l q c m i)
same_shapes l f d e x y (is_viable_prefix q j k m n) (is_valid_list t g h i) = absurd (not_ended l q t j k g)
same_shapes l f d e x y (is_viable_prefix q m n o p) (is_cut a t r c g h i j k) = absurd (not_both l q c m i)
same_shapes l f d e x y (is_viable_prefix q g h i j) (is_viable_prefix p k m n o) = (one_determined_proof l d e i n, j ∙ sym o)

pub one_run_proof : (l : List Token) (f : Fault) (d e : List Event) (x y : Ending) → IsRun l f d x → IsRun l f e y
    → (d ≡ e) × (x ≡ y)
one_run_proof l f d e x y r s = same_shapes (up_to_end l) f d e x y (shape_of l f d x r) (shape_of l f e y s)

-- every list has a run
abbrev HasRun : List Token → Fault → Type 0
HasRun l f = (e : List Event) × (x : Ending) × IsRun l f e x

partial_has_run : (l : List Token) (f : Fault) (before : List Token) (token : Token) (following : List Token) (c : PartialTree)
    → up_to_end l ≡ before ++ token ∷ following
    → Fits before token c → (b : Bool) → is_after_properties c following ≡ b → HasRun l f
partial_has_run l f before token following c e i true h = (
  shown_partial c token.start_mark [],
  Fails (fault c token.content token.start_mark),
  of_partial_tree before token following c e i h refl refl,
)
partial_has_run l f before token following c e i false h =
    (shown_partial c token.start_mark [], Fails f, amid_properties before token following c e i h refl refl)

begin_has_run : (l : List Token) (f : Fault) (q : Position) → reads_all (up_to_end l) unopened ≡ goes q → (b : Bool)
    → has_end (up_to_end l) ≡ b → HasRun l f
begin_has_run l f q e true h = go q (end_is_done (up_to_end l) unopened q e h) e
  where
    go : (q : Position) → IsDone q → reads_all (up_to_end l) unopened ≡ goes q → HasRun l f
    go (done t) d g =
        let s = read_valid_list (up_to_end l) t g in
        (events s.tree, Ends, of_valid_list s.tree s.all s.order refl refl)
    go _ d g = absurd d
begin_has_run l f q e false h =
    let b = reached_begins (up_to_end l) q e in
    let (c, i) = begin_prefix (up_to_end l) b h in
    (sure c, Fails f, of_viable_prefix b h (prefix_determines (up_to_end l) c i) refl)

-- a token after a valid list is none of the prefix's
not_past : (l before : List Token) (token : Token) (following : List Token) (q : Position)
    → up_to_end l ≡ before ++ token ∷ following
    → reads_all before unopened ≡ goes q → reads q token ≡ over → ⊥
not_past l before token following q e g h =
    let (t, f) = read_over q token h in
    let s = read_valid_list before t (g ∙ ap goes f) in
    let f : false ≡ true = sym (end_last l before token following e) ∙ valid_list_has_end before s in cc

pub some_run_proof : (l : List Token) (f : Fault) → HasRun l f
some_run_proof l f = go (goes_or_stops (up_to_end l) unopened)
  where
    stopped : (h : Stops (up_to_end l) unopened) → (s : Step) → reads h.at h.token ≡ s → HasRun l f
    stopped h (goes q) e = absurd (h.stop q e)
    stopped h (bad c) e = partial_has_run l f h.before h.token h.after c h.all
        (stops_fits h.before h.token h.at c h.reached e) (is_after_properties c h.after)
        refl
    stopped h over e = absurd (not_past l h.before h.token h.after h.at h.all h.reached e)

    go : ((q : Position) × (reads_all (up_to_end l) unopened ≡ goes q)) ⊎ Stops (up_to_end l) unopened → HasRun l f
    go (inl h) = begin_has_run l f h.0 h.1 (has_end (up_to_end l)) refl
    go (inr h) = stopped h (reads h.at h.token) refl

-- over known trees
pub valid_list_run : (t : Stream) (r : List Token) (f : Fault) → in_order t ≡ true → IsRun (tokens t ++ r) f (events t) Ends
valid_list_run t r f o =
    let s : IsValidList (tokens t) = record { tree = t; all = refl; order = o } in
    of_valid_list t (up_to_read (tokens t) unopened (done t) r (valid_list_reads (tokens t) s)
    (valid_list_has_end (tokens t) s)) o refl refl

-- no partial tree has a STREAM-END
partial_not_ended : (l : List Token) (b : Token) (c : PartialTree) → Fits l b c → has_end l ≡ false
partial_not_ended l b c f
    = false_from_ne_true (has_end l) (λ e. no (reached c) refl (end_is_done l unopened (reached c) (fits_reach l b c f) e))
  where
    no : (x : Position) → reached c ≡ x → IsDone x → ⊥
    no (done t) g d = let h : bad c ≡ over = sym (fits_stop l b c f) ∙ ap (λ (y : Position). reads y b) g in cc
    no _ g d = d

-- what follows the token of a partial tree
after_token : Token → List Token → List Token
after_token b r = elim (is_end b.content) [ true ↦ [] | false ↦ up_to_end r ]

partial_prefix : (l : List Token) (b : Token) (r : List Token) (c : PartialTree) → Fits l b c → up_to_end (l ++ b ∷ r) ≡ l
    ++ b ∷ after_token b r
unfolding after_token
partial_prefix l b r c f = up_to_later l (b ∷ r) (partial_not_ended l b c f)

has_front : (r : List Token) → has_token (up_to_end r) ≡ has_token r
has_front [] = refl
has_front (t ∷ r) = refl

tag_after : (t : Token) (r : List Token) (b : Bool) → is_end t.content ≡ b
    → is_after t.content (elim b [ true ↦ [] | false ↦ up_to_end r ]) ≡ is_after t.content r
tag_after t r b e = go t.content b e
  where
    go : (k : Content) (b : Bool) → is_end k ≡ b → is_after k (elim b [ true ↦ [] | false ↦ up_to_end r ]) ≡ is_after k r
    go (Anchor a) true f = absurd cc
    go (Anchor a) false f = has_front r
    go _ b f = refl

is_no_tag : (k : Content) (ds : Directives) → IsUnknown ds k → is_end k ≡ false
is_no_tag (Tag h) ds u = refl
is_no_tag _ ds u = absurd u

same_after : (l : List Token) (b : Token) (r : List Token) (c : PartialTree) → FitsTag l c b.content
    → is_after_properties c (after_token b r) ≡ is_after_properties c r
unfolding after_token
same_after l b [] (at_tag p) u =
    ap (λ (x : Bool). is_after_properties (at_tag p) (elim x [ true ↦ [] | false ↦ [] ]))
    (is_no_tag b.content (declared p) u)
same_after l b (t ∷ r) (at_tag p) u
    = ap (λ (x : Bool). is_after_properties (at_tag p) (elim x [ true ↦ [] | false ↦ up_to_end (t ∷ r) ]))
    (is_no_tag b.content (declared p) u)
    ∙ tag_after t r (is_end t.content) refl
same_after l b r (at_tag_after p a m) u =
    ap (λ (x : Bool). has_token (elim x [ true ↦ [] | false ↦ up_to_end r ])) (is_no_tag b.content (declared p) u)
    ∙ has_front r
same_after l b r _ u = refl

pub partial_run : (l : List Token) (b : Token) (r : List Token) (c : PartialTree) (f : Fault) → Fits l b c
    → is_after_properties c r ≡ true
    → IsRun (l ++ b ∷ r) f (shown_partial c b.start_mark []) (Fails (fault c b.content b.start_mark))
partial_run l b r c f i h = of_partial_tree l b (after_token b r) c (partial_prefix l b r c i) i (same_after l b r c i.tag ∙ h)
    refl refl

pub amid_run : (l : List Token) (b : Token) (r : List Token) (c : PartialTree) (f : Fault) → Fits l b c
    → is_after_properties c r ≡ false
    → IsRun (l ++ b ∷ r) f (shown_partial c b.start_mark []) (Fails f)
amid_run l b r c f i h = amid_properties l b (after_token b r) c (partial_prefix l b r c i) i
    (same_after l b r c i.tag ∙ h) refl refl

pub begin_run : (l : List Token) (e : List Event) (f : Fault) → IsViablePrefix l → has_end l ≡ false → Determines l e
    → IsRun l f e (Fails f)
begin_run l e f b h s =
    let g : up_to_end l ≡ l = all_of_it l h in
    of_viable_prefix (subst IsViablePrefix (sym g) b) (ap has_end g ∙ h) (subst (λ (x : List Token). Determines x e) (sym g) s) refl

-- what an ending says
pub ended_run : (l : List Token) (f : Fault) (e : List Event) → IsRun l f e Ends
    → (t : Stream) × (in_order t ≡ true) × (up_to_end l ≡ tokens t)
    × (e ≡ events t)
ended_run l f e (of_valid_list t a o g h) = (t, o, a, g)
ended_run l f e (of_partial_tree before token following c a i o g h) = absurd cc
ended_run l f e (amid_properties before token following c a i o g h) = absurd cc
ended_run l f e (of_viable_prefix b n s h) = absurd cc

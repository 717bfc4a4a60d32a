-- Where runs stop, and that by the same results they are one.
use Rattle.std.proofs.Common.{◌≡◌, ◌⊎◌, inl, inr, List, [], ◌∷◌, ◌++◌, Ok, Err, true, false, refl, sym, ap, ◌∙◌, subst, append-nil}
use Rattle.std.proofs.lemmas.Bool.{both_ways}
use Rattle.libyaml_types.specs.Fault.{SourceResult, Fault, no_fault}
use Rattle.libyaml_grammar.specs.grammar.Tokens.{Token}
use Rattle.libyaml_grammar.specs.grammar.Events.{Event}
use Rattle.libyaml_grammar.specs.grammar.ValidLists.{has_end}
use Rattle.libyaml_grammar.specs.partial.DeterminedEvents.{Begins}
use Rattle.libyaml_grammar.specs.runs.Runs.{Ending, Ends, Fails, IsRun}
use Rattle.libyaml_grammar.proofs.exported.StreamEnds.{valid_list_has_end}
use Rattle.libyaml_grammar.proofs.exported.Running.{one_run_proof, some_run_proof, valid_list_run, amid_run, begin_run}
use Rattle.libyaml_events.specs.sources.Determined.{BeginsEachRun, OneBegins}
use Rattle.libyaml_events.specs.sources.History.{source_results}
use Rattle.libyaml_events.specs.sources.Needs.{EachNeeded, EachWasNeeded, NeedsMore}
use Rattle.libyaml_events.specs.sources.Parsing.{HasFailed, IsWhole, StopsShort, after_viable_prefix, amid_properties}
use Rattle.libyaml_grammar.proofs.exported.Injectivity.{head_same, not_cons, ok_not_err, ok_same, tail_same}
use Rattle.libyaml_events.proofs.exported.OneOutcome.{answers_then, same_tokens, not_faulted, same_ends, ends_there, ends_here, Compared, same, first_longer, second_longer, compared, faulty_run, failed_needs_no_more}

-- Where a run stopped: at the end of tokens after which none is needed, whatever was given, or at the source's
-- error. Its events and its ending are those of the tokens' run.
pub data RunStop (a : List SourceResult) (given : List Event) (x : Ending) : Type 0 where
  at_token : (l : List Token) → a ≡ source_results l [] → ((g : List Event) → has_end l ≡ false → NeedsMore l g → ⊥)
      → ((f : Fault) → IsRun l f given x)
      → RunStop a given x
  at_fault : (l : List Token) (f : Fault) → a ≡ source_results l (Err f ∷ []) → IsRun l f given x → RunStop a given x

-- the tokens of a whole tree have their end
pub whole_ends : (asked : List Token) (given : List Event) → IsWhole asked given → has_end asked ≡ true
whole_ends asked given w = valid_list_has_end asked (record { tree = w.tree; all = w.all_tokens; order = w.order })

pub whole_run : (l : List Token) (g : List Event) (more : List Token) (f : Fault) → IsWhole l g → IsRun (l ++ more) f g Ends
whole_run l g more f h = rw (← h.all_tokens) at (rw (← h.all_events) at (valid_list_run h.tree more f h.order))

pub short_run : (l : List Token) (given : List Event) (f : Fault) → StopsShort l given → IsRun l f given (Fails f)
short_run l given f (after_viable_prefix b h s) = begin_run l given f b h s
short_run l given f (amid_properties before token following c a i b g)
    = rw (← a) at (rw (← g) at (amid_run before token following c f i b))

pub answers_both : (l : List Token) (m : List Token) (r : List SourceResult) → source_results l (source_results m r) ≡ source_results (l ++ m) r
answers_both [] m r = refl
answers_both (t ∷ l) m r = ap (λ (z : List SourceResult). Ok t ∷ z) (answers_both l m r)

-- no result is wanted after a whole tree
pub nothing_last : (asked : List Token) (last : List SourceResult) (given : List Event) → IsWhole asked given
    → EachNeeded asked last given → last ≡ []
nothing_last asked [] given w n = refl
nothing_last asked (x ∷ last) given w n
    = absurd (both_ways (has_end asked) (ap has_end (sym (append-nil asked)) ∙ (n [] x last refl).0) (whole_ends asked given w))

pub ended_stop : (asked : List Token) (last : List SourceResult) (given : List Event) → EachNeeded asked last given
    → IsWhole asked given
    → RunStop (source_results asked last) given Ends
ended_stop asked last given n w
    = at_token asked (ap (source_results asked) (nothing_last asked last given w n))
    (λ g h k. both_ways (has_end asked) h (whole_ends asked given w))
    (λ f. subst (λ (z : List Token). IsRun z f given Ends) (append-nil asked) (whole_run asked given [] f w))

pub grammar_stop : (asked : List Token) (last : List SourceResult) (given : List Event) (f : Fault) (l : List Token)
    → last ≡ source_results l [] → HasFailed (asked ++ l) given f
    → RunStop (source_results asked last) given (Fails f)
grammar_stop asked last given f l e h
    = at_token (asked ++ l) (ap (source_results asked) e ∙ answers_both asked l [])
    (λ g i n. failed_needs_no_more (asked ++ l) given g f h n)
    (faulty_run (asked ++ l) given f h)

pub source_stop : (asked : List Token) (last : List SourceResult) (given : List Event) (f : Fault) (l : List Token)
    → last ≡ source_results l (Err f ∷ [])
    → StopsShort (asked ++ l) given → RunStop (source_results asked last) given (Fails f)
source_stop asked last given f l e h
    = at_fault (asked ++ l) f (ap (source_results asked) e ∙ answers_both asked l (Err f ∷ [])) (short_run (asked ++ l) given f h)

-- a further result that was asked for, among the tokens or after them
data Further (l asked : List Token) (last : List SourceResult) (x : SourceResult) (rest : List SourceResult) : Type 0 where
  among : (t : Token) (following : List Token) → asked ≡ l ++ t ∷ following → Further l asked last x rest
  after : (front : List Token) → l ≡ asked ++ front → last ≡ source_results front (x ∷ rest) → Further l asked last x rest

further : (l asked : List Token) (last : List SourceResult) (x : SourceResult) (rest : List SourceResult)
    → source_results asked last ≡ source_results l (x ∷ rest)
    → Further l asked last x rest
further l [] last x rest e = after l refl e
further [] (u ∷ asked) last x rest e = among u asked refl
further (t ∷ l) (u ∷ asked) last x rest e
    = go (ok_same u t (head_same (Ok u) (Ok t) (source_results asked last) (source_results l (x ∷ rest)) e))
    (further l asked last x rest (tail_same (Ok u) (Ok t) (source_results asked last) (source_results l (x ∷ rest)) e))
  where
    go : u ≡ t → Further l asked last x rest → Further (t ∷ l) (u ∷ asked) last x rest
    go h (among v following i) = among v following (ap (λ (z : Token). z ∷ asked) h ∙ ap (λ (z : List Token). t ∷ z) i)
    go h (after front i j) = after front (ap (λ (z : Token). z ∷ l) (sym h) ∙ ap (λ (z : List Token). u ∷ z) i) j

-- it was needed
further_needed : (l asked : List Token) (last : List SourceResult) (given : List Event) (x : SourceResult) (rest : List SourceResult)
    → EachWasNeeded [] asked [] given
    → EachNeeded asked last given → source_results asked last ≡ source_results l (x ∷ rest)
    → (g : List Event) × ((has_end l ≡ false) × NeedsMore l g)
further_needed l asked last given x rest each then e = go (further l asked last x rest e)
  where
    go : Further l asked last x rest → (g : List Event) × ((has_end l ≡ false) × NeedsMore l g)
    go (among t following i) = let w = each l t following i in (w.before, (w.running, w.needs))
    go (after front i j) =
        let w = then front x rest j in
        (given, (ap has_end i ∙ w.0, subst (λ (z : List Token). NeedsMore z given) (sym i) w.1))

-- no run asks for more than another
not_further : (a b : List SourceResult) (c d : List Event) (x y : Ending) (asked : List Token) (last : List SourceResult)
    (given : List Event) → b ≡ source_results asked last
    → EachWasNeeded [] asked [] given → EachNeeded asked last given → RunStop a c x → RunStop b d y
    → (z : SourceResult) (rest : List SourceResult)
    → b ≡ a ++ z ∷ rest → ⊥
not_further a b c d x y asked last given h each then (at_token l e n r) s z rest f =
    let i : source_results asked last ≡ source_results l (z ∷ rest) = sym h
    ∙ (f ∙ (ap (λ (k : List SourceResult). k ++ z ∷ rest) e ∙ answers_then l (z ∷ rest))) in
    let w = further_needed l asked last given z rest each then i in
    n w.0 w.1.0 w.1.1
not_further a b c d x y asked last given h each then (at_fault l g e r) (at_token m i n s) z rest f
    = ends_there l m g z rest (sym i ∙ (f ∙ ap (λ (k : List SourceResult). k ++ z ∷ rest) e))
not_further a b c d x y asked last given h each then (at_fault l g e r) (at_fault m j i s) z rest f
    = ends_here l m g j z rest (sym i ∙ (f ∙ ap (λ (k : List SourceResult). k ++ z ∷ rest) e))

-- the runs after the same results
same_runs : (a : List SourceResult) (c d : List Event) (x y : Ending) → RunStop a c x → RunStop a d y → (c ≡ d) × (x ≡ y)
same_runs a c d x y (at_token l e n r) (at_token m f k s) =
    one_run_proof l no_fault c d x y (r no_fault)
    (rw (same_tokens m l (sym f ∙ e)) at (s no_fault))
same_runs a c d x y (at_token l e n r) (at_fault m g f s) = absurd (not_faulted l m g (sym e ∙ f))
same_runs a c d x y (at_fault l g e r) (at_token m f k s) = absurd (not_faulted m l g (sym f ∙ e))
same_runs a c d x y (at_fault l g e r) (at_fault m h f s) =
    one_run_proof l g c d x y r
    (rw (same_ends m l h g (sym f ∙ e)) at (rw (same_fronts m l h g (sym f ∙ e)) at s))
  where
    same_fronts : (m l : List Token) (h g : Fault) → source_results m (Err h ∷ []) ≡ source_results l (Err g ∷ []) → m ≡ l
    same_fronts [] [] h g i = refl
    same_fronts [] (u ∷ l) h g i
        = absurd (ok_not_err u h (sym (head_same (Err h) (Ok u) [] (source_results l (Err g ∷ [])) i)))
    same_fronts (t ∷ m) [] h g i
        = absurd (ok_not_err t g (head_same (Ok t) (Err g) (source_results m (Err h ∷ [])) [] i))
    same_fronts (t ∷ m) (u ∷ l) h g i
        = ap (λ (z : Token). z ∷ m)
        (ok_same t u (head_same _ _ (source_results m (Err h ∷ [])) (source_results l (Err g ∷ [])) i))
        ∙ ap (λ (z : List Token). u ∷ z)
        (same_fronts m l h g (tail_same (Ok t) (Ok u) (source_results m (Err h ∷ [])) (source_results l (Err g ∷ [])) i))

-- two runs that were asked for, each of them stopped: by the same results they are one
pub record AskedRun (given : List Event) (x : Ending) : Type 0 where
  pub asked : List Token
  pub last : List SourceResult
  pub needed : EachWasNeeded [] asked [] given
  pub needed_last : EachNeeded asked last given
  pub stop : RunStop (source_results asked last) given x

pub one_run_by_answers : (c d : List Event) (x y : Ending) (a : AskedRun c x)
    (b : AskedRun d y) → OneBegins (source_results a.asked a.last) (source_results b.asked b.last)
    → (source_results a.asked a.last ≡ source_results b.asked b.last) × (c ≡ d) × (x ≡ y)
one_run_by_answers c d x y a b one = go (compared (source_results a.asked a.last) (source_results b.asked b.last) one)
  where
    go : Compared (source_results a.asked a.last) (source_results b.asked b.last)
        → (source_results a.asked a.last ≡ source_results b.asked b.last) × (c ≡ d) × (x ≡ y)
    go (same e) = let s = same_runs (source_results a.asked a.last) c d x y a.stop
        (subst (λ (z : List SourceResult). RunStop z d y) (sym e) b.stop) in (e, s.0, s.1)
    go (first_longer z rest e)
        = absurd (not_further (source_results b.asked b.last) (source_results a.asked a.last) d c y x a.asked a.last c refl
        a.needed a.needed_last
        b.stop a.stop z rest e)
    go (second_longer z rest e)
        = absurd (not_further (source_results a.asked a.last) (source_results b.asked b.last) c d x y b.asked b.last d refl
        b.needed b.needed_last
        a.stop b.stop z rest e)

-- of two lists that begin one list, one begins the other
pub comparable : (a b e : List Event) → Begins a e → Begins b e → Begins a b ⊎ Begins b a
comparable [] b e h k = inl (b, refl)
comparable (x ∷ a) [] e h k = inr (x ∷ a, refl)
comparable (x ∷ a) (y ∷ b) [] h k = absurd (not_cons x (a ++ h.0) h.1)
comparable (x ∷ a) (y ∷ b) (z ∷ e) h k
    = go (head_same x z (a ++ h.0) e (sym h.1) ∙ head_same z y e (b ++ k.0) k.1)
    (comparable a b e (h.0, tail_same z x e (a ++ h.0) h.1) (k.0, tail_same z y e (b ++ k.0) k.1))
  where
    go : x ≡ y → Begins a b ⊎ Begins b a → Begins (x ∷ a) (y ∷ b) ⊎ Begins (y ∷ b) (x ∷ a)
    go f (inl g) = inl (g.0, ap (λ (w : Event). w ∷ b) (sym f) ∙ ap (λ (w : List Event). x ∷ w) g.1)
    go f (inr g) = inr (g.0, ap (λ (w : Event). w ∷ a) f ∙ ap (λ (w : List Event). y ∷ w) g.1)

-- the tokens that are asked for begin those of the longer list
pub token_prefix : (a b : List Token) (r s : List SourceResult) → OneBegins (source_results a r) (source_results b s)
    → ((rest : List Token) × (b ≡ a ++ rest)) ⊎ ((rest : List Token) × (a ≡ b ++ rest))
token_prefix [] b r s o = inl (b, refl)
token_prefix (t ∷ a) [] r s o = inr (t ∷ a, refl)
token_prefix (t ∷ a) (u ∷ b) r s o = go (heads o) (token_prefix a b r s (tails o))
  where
    heads : OneBegins (Ok t ∷ source_results a r) (Ok u ∷ source_results b s) → t ≡ u
    heads (inl (rest, e))
        = ok_same t u (sym (head_same _ _ (source_results b s) (source_results a r ++ rest) e))
    heads (inr (rest, e)) = ok_same t u (head_same _ _ (source_results a r) (source_results b s ++ rest) e)

    tails : OneBegins (Ok t ∷ source_results a r) (Ok u ∷ source_results b s) → OneBegins (source_results a r) (source_results b s)
    tails (inl (rest, e)) = inl (rest, tail_same (Ok u) (Ok t) (source_results b s) (source_results a r ++ rest) e)
    tails (inr (rest, e)) = inr (rest, tail_same (Ok t) (Ok u) (source_results a r) (source_results b s ++ rest) e)

    go : t ≡ u → ((rest : List Token) × (b ≡ a ++ rest)) ⊎ ((rest : List Token) × (a ≡ b ++ rest))
        → ((rest : List Token) × (u ∷ b ≡ (t ∷ a) ++ rest)) ⊎ ((rest : List Token) × (t ∷ a ≡ (u ∷ b) ++ rest))
    go h (inl (rest, e)) = inl (rest, ap (λ (z : Token). z ∷ b) (sym h) ∙ ap (λ (z : List Token). t ∷ z) e)
    go h (inr (rest, e)) = inr (rest, ap (λ (z : Token). z ∷ a) h ∙ ap (λ (z : List Token). u ∷ z) e)

pub taken_comparable : (a b : List Token) (r s : List SourceResult) (c d : List Event) → BeginsEachRun a c
    → BeginsEachRun b d → OneBegins (source_results a r) (source_results b s)
    → Begins c d ⊎ Begins d c
taken_comparable a b r s c d m n o = go (token_prefix a b r s o)
  where
    go : ((rest : List Token) × (b ≡ a ++ rest)) ⊎ ((rest : List Token) × (a ≡ b ++ rest)) → Begins c d ⊎ Begins d c
    go (inl (rest, e)) =
        let (es, x, run) = some_run_proof b no_fault in
        comparable c d es (m rest no_fault es x (subst (λ (z : List Token). IsRun z no_fault es x) e run))
        (n [] no_fault es x (subst (λ (z : List Token). IsRun z no_fault es x) (sym (append-nil b)) run))
    go (inr (rest, e)) =
        let (es, x, run) = some_run_proof a no_fault in
        comparable c d es (m [] no_fault es x (subst (λ (z : List Token). IsRun z no_fault es x) (sym (append-nil a)) run))
        (n rest no_fault es x (subst (λ (z : List Token). IsRun z no_fault es x) e run))

-- no token was given where the other's source failed
pub not_past_fault : (l : List Token) (t : Token) (rest : List Token) (r s : List SourceResult) (f : Fault)
    → OneBegins (source_results (l ++ t ∷ rest) r) (source_results l (Err f ∷ s)) → ⊥
not_past_fault [] t rest r s f o = go o
  where
    go : OneBegins (source_results (t ∷ rest) r) (Err f ∷ s) → ⊥
    go (inl (k, e)) = ok_not_err t f (sym (head_same (Err f) (Ok t) s (source_results rest r ++ k) e))
    go (inr (k, e)) = ok_not_err t f (head_same (Ok t) (Err f) (source_results rest r) (s ++ k) e)
not_past_fault (u ∷ l) t rest r s f o = not_past_fault l t rest r s f (go o)
  where
    go : OneBegins (Ok u ∷ source_results (l ++ t ∷ rest) r) (Ok u ∷ source_results l (Err f ∷ s))
        → OneBegins (source_results (l ++ t ∷ rest) r) (source_results l (Err f ∷ s))
    go (inl (k, e)) = inl (k, tail_same (Ok u) (Ok u) (source_results l (Err f ∷ s)) (source_results (l ++ t ∷ rest) r ++ k) e)
    go (inr (k, e)) = inr (k, tail_same (Ok u) (Ok u) (source_results (l ++ t ∷ rest) r) (source_results l (Err f ∷ s) ++ k) e)

-- where one stopped as a run does, the events that another took begin its events
pub begins_stopped : (asked : List Token) (last b : List SourceResult) (taken d : List Event) (x : Ending)
    → EachWasNeeded [] asked [] taken → BeginsEachRun asked taken
    → RunStop b d x → OneBegins (source_results asked last) b → Begins taken d
begins_stopped asked last b taken d x each runs (at_token l e n r) one
    = go (token_prefix asked l last [] (subst (OneBegins (source_results asked last)) e one))
  where
    go : ((rest : List Token) × (l ≡ asked ++ rest)) ⊎ ((rest : List Token) × (asked ≡ l ++ rest)) → Begins taken d
    go (inl (rest, i)) = runs rest no_fault d x (rw i at (r no_fault))
    go (inr ([], i)) = runs [] no_fault d x
        (rw (← (append-nil asked ∙ i ∙ append-nil l)) at (r no_fault))
    go (inr (t ∷ rest, i)) = let w = each l t rest i in absurd (n w.before w.running w.needs)
begins_stopped asked last b taken d x each runs (at_fault l f e r) one
    = go (token_prefix asked l last (Err f ∷ []) (subst (OneBegins (source_results asked last)) e one))
  where
    go : ((rest : List Token) × (l ≡ asked ++ rest)) ⊎ ((rest : List Token) × (asked ≡ l ++ rest)) → Begins taken d
    go (inl (rest, i)) = runs rest f d x (rw i at r)
    go (inr ([], i)) = runs [] f d x (rw (← (append-nil asked ∙ i ∙ append-nil l)) at r)
    go (inr (t ∷ rest, i))
        = absurd (not_past_fault l t rest last [] f
        (rw i at (subst (OneBegins (source_results asked last)) e one)))

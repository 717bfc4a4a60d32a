-- Two outcomes that the contract of a parse allows are one.
use Rattle.std.proofs.Common.{◌≡◌, ◌⊎◌, inl, inr, List, [], ◌∷◌, ◌++◌, Ok, Err, true, false, refl, sym, ap, ◌∙◌, subst, append_assoc, append-nil}
use Rattle.libyaml_types.specs.declared.enums.yaml_error_type_t.{yaml_error_type_t}
use Rattle.libyaml_types.specs.Fault.{SourceResult, Fault, no_fault, memory_fault}
use Rattle.libyaml_types.specs.declared.source.yaml_token_source_t.{Ghosts}
use Rattle.libyaml_grammar.specs.grammar.Tokens.{Anchor, Content, Token}
use Rattle.libyaml_grammar.specs.grammar.Trees.{tokens}
use Rattle.libyaml_grammar.specs.grammar.Events.{Event}
use Rattle.libyaml_grammar.specs.partial.PartialTrees.{PartialTree, at_tag, at_tag_after}
use Rattle.libyaml_grammar.specs.partial.PartialEvents.{partial_events}
use Rattle.libyaml_grammar.specs.partial.DeterminedEvents.{Begins, BeginsEach, next_event}
use Rattle.libyaml_grammar.specs.runs.Runs.{Ending, Fails, IsRun, has_token, is_after, is_after_properties}
use Rattle.libyaml_grammar.proofs.exported.Running.{one_run_proof, some_run_proof, partial_run, amid_run}
use Rattle.libyaml_grammar.proofs.exported.Injectivity.{err_same, fault_same, head_same, not_cons, ok_not_err, ok_same, tail_same}
use Rattle.libyaml_events.specs.machine.Config.{Parser}
use Rattle.libyaml_events.specs.parsers.Stages.{stage_of, takes_no_memory}
use Rattle.libyaml_events.specs.sources.Calls.{EventOrError, Gave, MeetsRefusal}
use Rattle.libyaml_events.specs.sources.Determined.{AnswersOneWay, OneBegins, OneByAnswers, CarriesOnOrFails, RunsOut, Alike, OneOutcome, alike, first_runs_out, second_runs_out, results_of}
use Rattle.libyaml_events.specs.sources.History.{History, source_results, is_over, kept_fault}
use Rattle.libyaml_events.specs.sources.Needs.{EachNeeded, NeedsMore, for_next_event, amid_properties, HasWaited, at_once, by_last}
use Rattle.libyaml_events.specs.sources.Parsing.{CarriesOn, Cause, FailsBy, HasFailed, of_memory, of_grammar, of_source}
use Rattle.libyaml_events.specs.sources.ParsesNext.{ParsesNext}
pub use Rattle.libyaml_events.proofs.pushes.Moments.{prefix_same, ran_once}

-- lists

-- tokens as results, and then further results
pub answers_then : (l : List Token) (r : List SourceResult) → source_results l [] ++ r ≡ source_results l r
answers_then [] r = refl
answers_then (t ∷ l) r = ap (λ (a : List SourceResult). Ok t ∷ a) (answers_then l r)

pub same_tokens : (l m : List Token) → source_results l [] ≡ source_results m [] → l ≡ m
same_tokens [] [] e = refl
same_tokens [] (u ∷ m) e = absurd (not_cons (Ok u) (source_results m []) e)
same_tokens (t ∷ l) [] e = absurd (not_cons (Ok t) (source_results l []) (sym e))
same_tokens (t ∷ l) (u ∷ m) e =
    let x = ok_same t u (head_same (Ok t) (Ok u) (source_results l []) (source_results m []) e) in
    let y = same_tokens l m (tail_same (Ok t) (Ok u) (source_results l []) (source_results m []) e) in
    ap (λ (z : Token). z ∷ l) x ∙ ap (λ (z : List Token). u ∷ z) y

-- tokens alone are not tokens and then an error
pub not_faulted : (l m : List Token) (f : Fault) → source_results l [] ≡ source_results m (Err f ∷ []) → ⊥
not_faulted [] [] f e = not_cons (Err f) [] e
not_faulted [] (u ∷ m) f e = not_cons (Ok u) (source_results m (Err f ∷ [])) e
not_faulted (t ∷ l) [] f e = ok_not_err t f (head_same (Ok t) (Err f) (source_results l []) [] e)
not_faulted (t ∷ l) (u ∷ m) f e = not_faulted l m f (tail_same (Ok t) (Ok u) (source_results l []) (source_results m (Err f ∷ [])) e)

pub same_ends : (l m : List Token) (f g : Fault) → source_results l (Err f ∷ []) ≡ source_results m (Err g ∷ []) → f ≡ g
same_ends [] [] f g e = err_same f g (head_same (Err f) (Err g) [] [] e)
same_ends [] (u ∷ m) f g e = absurd (ok_not_err u f (sym (head_same (Err f) (Ok u) [] (source_results m (Err g ∷ [])) e)))
same_ends (t ∷ l) [] f g e = absurd (ok_not_err t g (head_same (Ok t) (Err g) (source_results l (Err f ∷ [])) [] e))
same_ends (t ∷ l) (u ∷ m) f g e =
    same_ends l m f g (tail_same (Ok t) (Ok u) (source_results l (Err f ∷ [])) (source_results m (Err g ∷ [])) e)

-- nothing comes after an error
pub ends_there : (l m : List Token) (f : Fault) (x : SourceResult) (rest : List SourceResult)
    → source_results m [] ≡ source_results l (Err f ∷ []) ++ x ∷ rest → ⊥
ends_there [] [] f x rest e = not_cons (Err f) (x ∷ rest) e
ends_there [] (u ∷ m) f x rest e = ok_not_err u f (head_same (Ok u) (Err f) (source_results m []) (x ∷ rest) e)
ends_there (t ∷ l) [] f x rest e = not_cons (Ok t) (source_results l (Err f ∷ []) ++ x ∷ rest) e
ends_there (t ∷ l) (u ∷ m) f x rest e
    = ends_there l m f x rest (tail_same (Ok u) (Ok t) (source_results m []) (source_results l (Err f ∷ []) ++ x ∷ rest) e)

pub ends_here : (l m : List Token) (f g : Fault) (x : SourceResult) (rest : List SourceResult)
    → source_results m (Err g ∷ []) ≡ source_results l (Err f ∷ []) ++ x ∷ rest → ⊥
ends_here [] [] f g x rest e = not_cons x rest (tail_same (Err g) (Err f) [] (x ∷ rest) e)
ends_here [] (u ∷ m) f g x rest e = ok_not_err u f (head_same (Ok u) (Err f) (source_results m (Err g ∷ [])) (x ∷ rest) e)
ends_here (t ∷ l) [] f g x rest e = ok_not_err t g (sym (head_same (Err g) (Ok t) [] (source_results l (Err f ∷ []) ++ x ∷ rest) e))
ends_here (t ∷ l) (u ∷ m) f g x rest e
    = ends_here l m f g x rest (tail_same (Ok u) (Ok t) (source_results m (Err g ∷ [])) (source_results l (Err f ∷ []) ++ x ∷ rest) e)

-- two lists of results, of which one begins the other
pub data Compared (l m : List SourceResult) : Type 0 where
  same : l ≡ m → Compared l m
  first_longer : (x : SourceResult) (rest : List SourceResult) → l ≡ m ++ x ∷ rest → Compared l m
  second_longer : (x : SourceResult) (rest : List SourceResult) → m ≡ l ++ x ∷ rest → Compared l m

pub compared : (l m : List SourceResult) → OneBegins l m → Compared l m
compared l m (inl ([], e)) = same (sym (e ∙ append-nil l))
compared l m (inl (x ∷ rest, e)) = second_longer x rest e
compared l m (inr ([], e)) = same (e ∙ append-nil m)
compared l m (inr (x ∷ rest, e)) = first_longer x rest e

-- a source that returns in one way
pub one_source_proof : {S : Type 0} (gives : S → SourceResult → S → Type 0) (s t u : S) (a b : List SourceResult)
    → AnswersOneWay gives s → Gave gives s a t
    → Gave gives s b u → OneBegins a b × (a ≡ b → t ≡ u)
one_source_proof gives s t u [] [] one g h = (inl ([], refl), λ e. g ∙ sym h)
one_source_proof gives s t u [] (y ∷ b) one g h = (inl (y ∷ b, refl), λ e. absurd (not_cons y b e))
one_source_proof gives s t u (x ∷ a) [] one g h = (inr (x ∷ a, refl), λ e. absurd (not_cons x a (sym e)))
one_source_proof {S} gives s t u (x ∷ a) (y ∷ b) one (v, i, g) (w, j, h) =
    let e = one [] s refl x y v w i j in
    let z = one_source_proof gives v t u a b (λ k m n. one (x ∷ k) m (v, i, n)) g
    (subst (λ (n : S). Gave gives n b u) (sym e.1) h) in
    (go e.0 z.0, λ k. z.1 (tail_same x y a b k))
  where
    go : x ≡ y → OneBegins a b → OneBegins (x ∷ a) (y ∷ b)
    go e (inl (rest, f)) = inl (rest, ap (λ (z : SourceResult). z ∷ b) (sym e) ∙ ap (λ (z : List SourceResult). x ∷ z) f)
    go e (inr (rest, f)) = inr (rest, ap (λ (z : SourceResult). z ∷ a) e ∙ ap (λ (z : List SourceResult). y ∷ z) f)

-- events

pub next_there : (given d r : List Event) (e : Event) → given ++ d ≡ (given ++ e ∷ []) ++ r → d ≡ e ∷ r
next_there given d r e h = prefix_same given d (e ∷ r) (h ∙ append_assoc given (e ∷ []) r)

not_ahead : (given r : List Event) (e : Event) → given ≡ (given ++ e ∷ []) ++ r → ⊥
not_ahead given r e h = not_cons e r (next_there given [] r e (append-nil given ∙ h))

-- what a parser says that gave an event after these tokens
abbrev pub BeginsRuns : List Token → List Event → Type 0
BeginsRuns l g = (rest : List Token) (f : Fault) (e : List Event) (x : Ending) → IsRun (l ++ rest) f e x → Begins g e

pub run_here : (l : List Token) (f : Fault) (e : List Event) (x : Ending) → IsRun l f e x → IsRun (l ++ []) f e x
run_here l f e x r = subst (λ (k : List Token). IsRun k f e x) (sym (append-nil l)) r

-- after tokens that determine the next event no further one is needed
pub determined_needs_no_more : (l : List Token) (given : List Event) (e : Event) → BeginsEach l (given ++ e ∷ [])
    → BeginsRuns l (given ++ e ∷ []) → NeedsMore l given → ⊥
determined_needs_no_more l given e each runs (for_next_event o) =
    let a = each o.first o.first_rest o.first_order o.first_tokens in
    let b = each o.second o.second_rest o.second_order o.second_tokens in
    let x = next_there given o.first_events a.0 e (sym o.first_goes_on ∙ a.1) in
    let y = next_there given o.second_events b.0 e (sym o.second_goes_on ∙ b.1) in
    o.differ (ap next_event x ∙ sym (ap next_event y))
determined_needs_no_more l given e each runs (amid_properties before token following c a i b g) =
    let r = rw (← a) at (amid_run before token following c no_fault i b) in
    let n = runs [] no_fault (partial_events c token) (Fails no_fault)
    (run_here l no_fault (partial_events c token) (Fails no_fault) r) in
    not_ahead given n.0 e (g ∙ n.1)

pub waited : (c : PartialTree) (l : List Token) → HasWaited c l → is_after_properties c l ≡ true
waited c l (at_once e f) = ap (is_after_properties c) e ∙ f
waited c l (by_last front t e f g) = g

some_token : (a b : List Token) → has_token a ≡ true → has_token (a ++ b) ≡ true
some_token [] b h = absurd cc
some_token (t ∷ a) b h = refl

after_more : (c : PartialTree) (a b : List Token) → is_after_properties c a ≡ true → is_after_properties c (a ++ b) ≡ true
after_more (at_tag p) [] b h = absurd cc
after_more (at_tag p) (t ∷ a) b h = go t.content h
  where
    go : (k : Content) → is_after k a ≡ true → is_after k (a ++ b) ≡ true
    go (Anchor x) h = some_token a b h
    go _ h = refl
after_more (at_tag_after p x m) a b h = some_token a b h
after_more _ a b h = refl

-- the run of tokens that have an error, whatever comes after them
pub failed_run : (l : List Token) (g : List Event) (f : Fault) (more : List Token) (s : Fault) → HasFailed l g f
    → IsRun (l ++ more) s g (Fails f)
failed_run l g f more s h = rw (← (ap (λ (x : List Token). x ++ more) h.all_tokens ∙ append_assoc h.before (h.token ∷
    h.following) more)) at (rw (← h.all_events) at (rw (← h.fault_is) at
    (partial_run h.before h.token (h.following ++ more) h.cut s h.fits
    (after_more h.cut h.following more (waited h.cut h.following h.waited)))))

pub faulty_run : (l : List Token) (given : List Event) (g : Fault) → HasFailed l given g → (f : Fault)
    → IsRun l f given (Fails g)
faulty_run l given g h f = subst (λ (k : List Token). IsRun k f given (Fails g)) (append-nil l) (failed_run l given g [] f h)

two_faults : no_fault ≡ memory_fault → ⊥
two_faults e = go (ap (λ (f : Fault). f.error) e)
  where
    go : no_fault.error ≡ memory_fault.error → ⊥
    go h = cc

-- after tokens that have an error no further one is needed
pub failed_needs_no_more : (l : List Token) (given other : List Event) (g : Fault) → HasFailed l given g
    → NeedsMore l other → ⊥
failed_needs_no_more l given other g h (for_next_event o)
    = h.fits.bad_token (record {
      rest = h.following ++ o.first_rest;
      valid_list =
          record { tree = o.first; all = valid_list; order = o.first_order };
    })
  where
    valid_list : (h.before ++ h.token ∷ []) ++ (h.following ++ o.first_rest) ≡ tokens o.first
    valid_list = append_assoc h.before (h.token ∷ []) (h.following ++ o.first_rest)
        ∙ (sym (append_assoc h.before (h.token ∷ h.following) o.first_rest)
        ∙ (ap (λ (k : List Token). k ++ o.first_rest) (sym h.all_tokens) ∙ sym o.first_tokens))
failed_needs_no_more l given other g h (amid_properties before token following c a i b k) =
    two_faults (sym (at no_fault) ∙ at memory_fault)
  where
    at : (f : Fault) → g ≡ f
    at f = fault_same g f (one_run_proof l f given (partial_events c token) (Fails g) (Fails f) (faulty_run l given g h f)
        (rw (← a) at (amid_run before token following c f i b))).1

-- where a call in which no allocation failed stopped: at the end of tokens after which none is needed, or at the
-- source's error
data Stopped (asked : List Token) (given : List Event) (more : List SourceResult) : Type 0 where
  at_token : (l : List Token) → more ≡ source_results l [] → (NeedsMore (asked ++ l) given → ⊥) → Stopped asked given more
  at_fault : (l : List Token) (f : Fault) → more ≡ source_results l (Err f ∷ []) → Stopped asked given more

-- no other such call asks for more
not_further : (asked : List Token) (given : List Event) (a b : List SourceResult) → Stopped asked given a
    → Stopped asked given b → EachNeeded asked b given
    → (x : SourceResult) (rest : List SourceResult) → b ≡ a ++ x ∷ rest → ⊥
not_further asked given a b (at_token l e n) s needed x rest h
    = n (needed l x rest (h ∙ (ap (λ (z : List SourceResult). z ++ x ∷ rest) e ∙ answers_then l (x ∷ rest)))).1
not_further asked given a b (at_fault l f e) (at_token m g n) needed x rest h
    = ends_there l m f x rest (sym g ∙ (h ∙ ap (λ (z : List SourceResult). z ++ x ∷ rest) e))
not_further asked given a b (at_fault l f e) (at_fault m g k) needed x rest h
    = ends_here l m f g x rest (sym k ∙ (h ∙ ap (λ (z : List SourceResult). z ++ x ∷ rest) e))

same_answers : (asked : List Token) (given : List Event) (a b : List SourceResult) → OneBegins a b
    → EachNeeded asked a given → EachNeeded asked b given
    → Stopped asked given a → Stopped asked given b → a ≡ b
same_answers asked given a b one m n v w = go (compared a b one)
  where
    go : Compared a b → a ≡ b
    go (same e) = e
    go (first_longer x rest e) = absurd (not_further asked given b a w v m x rest e)
    go (second_longer x rest e) = absurd (not_further asked given a b v w n x rest e)

-- histories

not_empty : (g : List Event) (e : Event) → [] ≡ g ++ e ∷ [] → ⊥
not_empty [] e h = not_cons e [] h
not_empty (x ∷ g) e h = not_cons x (g ++ e ∷ []) h

pub before_last : (g h : List Event) (e f : Event) → g ++ e ∷ [] ≡ h ++ f ∷ [] → g ≡ h
before_last [] [] e f i = refl
before_last [] (y ∷ h) e f i = absurd (not_empty h f (tail_same e y [] (h ++ f ∷ []) i))
before_last (x ∷ g) [] e f i = absurd (not_empty g e (sym (tail_same x f (g ++ e ∷ []) [] i)))
before_last (x ∷ g) (y ∷ h) e f i
    = ap (λ (z : Event). z ∷ g) (head_same x y (g ++ e ∷ []) (h ++ f ∷ []) i)
    ∙ ap (λ (z : List Event). y ∷ z) (before_last g h e f (tail_same x y (g ++ e ∷ []) (h ++ f ∷ []) i))

pub one_history_proof : {S : Type 0} (p q : Parser S) (asked : List Token) (given : List Event)
    → History p asked given → History q asked given
    → p.config ≡ q.config
one_history_proof p q asked given g h = (ran_once g h [] [] refl refl).0

-- outcomes

module _ {S : Type 0} (g : Ghosts S) where
  abbrev Next : Parser S → EventOrError → Parser S → Type 0
  Next old r new = ParsesNext g old r new

  carried_stops : (old new : Parser S) (e : Event) (r : EventOrError) (asked : List Token) (given : List Event)
      → Next old r new
      → (h : CarriesOn g.gives old e new asked given) → Stopped asked given (source_results h.more [])
  carried_stops old new e r asked given n h
      = at_token h.more refl (determined_needs_no_more (asked ++ h.more) given e
      (n.always.begins (asked ++ h.more) (given ++ e ∷ []) h.history) (n.always.begins_run (asked ++ h.more) (given ++ e ∷ []) h.history))

  -- both gave an event
  both_give : (old p q : Parser S) (e f : Event) (asked : List Token) (given : List Event) → Next old (Ok e) p
      → Next old (Ok f) q
      → (v : CarriesOn g.gives old e p asked given) → (h : CarriesOn g.gives old f q asked given)
      → OneBegins (source_results v.more []) (source_results h.more [])
      → OneOutcome g.gives old asked given (source_results v.more []) (source_results h.more []) (Ok e) p (Ok f) q
  both_give old p q e f asked given n o v h one =
      let w = same_answers asked given (source_results v.more []) (source_results h.more []) one v.needed h.needed
      (carried_stops old p e (Ok e) asked given n v) (carried_stops old q f (Ok f) asked given o h) in
      let m : v.more ≡ h.more = same_tokens v.more h.more w in
      let (es, x, run) = some_run_proof (asked ++ v.more) no_fault in
      let a = n.always.begins_run (asked ++ v.more) (given ++ e ∷ []) v.history [] no_fault es x
      (run_here (asked ++ v.more) no_fault es x run) in
      let b = o.always.begins_run (asked ++ h.more) (given ++ f ∷ []) h.history [] no_fault es x
      (run_here (asked ++ h.more) no_fault es x
      (subst (λ (z : List Token). IsRun (asked ++ z) no_fault es x) m run)) in
      let same_event : e ≡ f = head_same e f a.0 b.0 (prefix_same given (e ∷ a.0) (f ∷ b.0)
      (sym (append_assoc given (e ∷ []) a.0) ∙ (sym a.1 ∙ (b.1 ∙ append_assoc given (f ∷ []) b.0)))) in
      let k = (ran_once v.history h.history [] [] (ap (λ (z : List Token). (asked ++ z) ++ []) m)
      (ap (λ (z : Event). given ++ z ∷ []) same_event)).0 in
      alike w (record { result = ap Ok same_event; bound = n.always.bound ∙ sym o.always.bound; after_event = k; after_error = tt })

  runs_out : (old new : Parser S) (x : yaml_error_type_t) (asked : List Token) (given : List Event) → Next old (Err x) new
      → (h : FailsBy g.gives old new asked given) (l : List Token) → h.more ≡ source_results l []
      → takes_no_memory (stage_of given) (asked ++ l) ≡ false
      → MeetsRefusal old.config h.more → kept_fault new ≡ memory_fault → RunsOut g.gives old (Err x) new asked given
  runs_out old new x asked given n h l e take meets f
      = record {
        more = l;
        gave = subst (λ (z : List SourceResult). Gave g.gives old.source z new.source) e h.gave;
        needed = subst (λ (z : List SourceResult). EachNeeded asked z given) e h.needed;
        may_take = take;
        meets = subst (λ (z : List SourceResult). MeetsRefusal old.config z) e meets;
        error = ap Err (n.error.kept.0 ∙ ap (λ (z : Fault). z.error) f);
        fault = f;
      }

  grammar_stops : (asked : List Token) (given : List Event) (more : List SourceResult) (f : Fault) (l : List Token)
      → more ≡ source_results l [] → HasFailed (asked ++ l) given f
      → Stopped asked given more
  grammar_stops asked given more f l i j = at_token l i (failed_needs_no_more (asked ++ l) given given f j)

  -- one gave an event, and the other failed
  gives_and_fails : (old p q : Parser S) (e : Event) (x : yaml_error_type_t) (asked : List Token)
      (given : List Event) → Next old (Ok e) p
      → Next old (Err x) q → (v : CarriesOn g.gives old e p asked given) → (h : FailsBy g.gives old q asked given)
      → OneBegins (source_results v.more []) h.more → RunsOut g.gives old (Err x) q asked given
  gives_and_fails old p q e x asked given n o v h one = go h.cause
    where
      alike_there : Stopped asked given h.more → source_results v.more [] ≡ h.more
      alike_there s = same_answers asked given (source_results v.more []) h.more one v.needed h.needed
          (carried_stops old p e (Ok e) asked given n v) s

      go : Cause old.config asked given h.more (kept_fault q) → RunsOut g.gives old (Err x) q asked given
      go (of_memory l i take meets f) = runs_out old q x asked given o h l i take meets f
      go (of_grammar l i f) =
          let m : v.more ≡ l = same_tokens v.more l
          (alike_there (grammar_stops asked given h.more (kept_fault q) l i f) ∙ i) in
          let run = rw (← m) at (faulty_run (asked ++ l) given (kept_fault q) f no_fault) in
          let b = n.always.begins_run (asked ++ v.more) (given ++ e ∷ []) v.history [] no_fault given (Fails (kept_fault q))
          (run_here (asked ++ v.more) no_fault given (Fails (kept_fault q)) run) in
          absurd (not_ahead given b.0 e b.1)
      go (of_source l i s f) = absurd (not_faulted v.more l (kept_fault q)
          (alike_there (at_fault l (kept_fault q) i) ∙ i))

  failed_alike : (old p q : Parser S) (x y : yaml_error_type_t) → Next old (Err x) p → Next old (Err y) q
      → kept_fault p ≡ kept_fault q
      → Alike (Err x) p (Err y) q
  failed_alike old p q x y n o f
      = record {
        result = ap Err (n.error.kept.0 ∙ (ap (λ (z : Fault). z.error) f ∙ sym o.error.kept.0));
        bound = n.always.bound ∙ sym o.always.bound;
        after_event = tt;
        after_error = record {
          fault = f;
          failed = (n.error.failed, o.error.failed);
          over = (n.error.kept.1, o.error.kept.1);
          held =
              (n.error.no_lookahead, o.error.no_lookahead);
        };
      }

  -- both failed
  both_fail : (old p q : Parser S) (x y : yaml_error_type_t) (asked : List Token) (given : List Event)
      → Next old (Err x) p → Next old (Err y) q
      → (v : FailsBy g.gives old p asked given) → (h : FailsBy g.gives old q asked given) → OneBegins v.more h.more
      → OneOutcome g.gives old asked given v.more h.more (Err x) p (Err y) q
  both_fail old p q x y asked given n o v h one = go v.cause h.cause
    where
      alike_there : Stopped asked given v.more → Stopped asked given h.more → v.more ≡ h.more
      alike_there s t = same_answers asked given v.more h.more one v.needed h.needed s t

      go : Cause old.config asked given v.more (kept_fault p) → Cause old.config asked given h.more (kept_fault q)
          → OneOutcome g.gives old asked given v.more h.more (Err x) p (Err y) q
      go (of_memory l i take meets f) d = first_runs_out (runs_out old p x asked given n v l i take meets f)
      go c (of_memory l i take meets f) = second_runs_out (runs_out old q y asked given o h l i take meets f)
      go (of_grammar l i f) (of_grammar m j k) =
          let w = alike_there (grammar_stops asked given v.more (kept_fault p) l i f)
          (grammar_stops asked given h.more (kept_fault q) m j k) in
          let e : l ≡ m = same_tokens l m (sym i ∙ (w ∙ j)) in
          let run = rw (← e) at (faulty_run (asked ++ m) given (kept_fault q) k no_fault) in
          let s = one_run_proof (asked ++ l) no_fault given given (Fails (kept_fault p)) (Fails (kept_fault q))
          (faulty_run (asked ++ l) given (kept_fault p) f no_fault) run in
          alike w (failed_alike old p q x y n o (fault_same (kept_fault p) (kept_fault q) s.1))
      go (of_grammar l i f) (of_source m j s k) =
          let w = alike_there (grammar_stops asked given v.more (kept_fault p) l i f) (at_fault m (kept_fault q) j) in
          absurd (not_faulted l m (kept_fault q) (sym i ∙ (w ∙ j)))
      go (of_source l i s f) (of_grammar m j k) =
          let w = alike_there (at_fault l (kept_fault p) i) (grammar_stops asked given h.more (kept_fault q) m j k) in
          absurd (not_faulted m l (kept_fault p) (sym j ∙ (sym w ∙ i)))
      go (of_source l i s f) (of_source m j t k) =
          let w = alike_there (at_fault l (kept_fault p) i) (at_fault m (kept_fault q) j) in
          alike w (failed_alike old p q x y n o (same_ends l m (kept_fault p) (kept_fault q) (sym i ∙ (w ∙ j))))

  turned : (a b : List SourceResult) → OneBegins a b → OneBegins b a
  turned a b (inl h) = inr h
  turned a b (inr h) = inl h

  pub one_outcome_proof : (old p q : Parser S) (r s : EventOrError) (asked : List Token) (given : List Event)
      → Next old r p → Next old s q
      → OneByAnswers g.gives old asked given r p s q
  one_outcome_proof old p q (Ok e) (Ok f) asked given n o a b one = both_give old p q e f asked given n o a b one
  one_outcome_proof old p q (Ok e) (Err y) asked given n o a b one =
      second_runs_out (gives_and_fails old p q e y asked given n o a b one)
  one_outcome_proof old p q (Err x) (Ok f) asked given n o a b one
      = first_runs_out (gives_and_fails old q p f x asked given o n b a (turned a.more (source_results b.more []) one))
  one_outcome_proof old p q (Err x) (Err y) asked given n o a b one = both_fail old p q x y asked given n o a b one

  -- the outcome that the contract says
  pub outcome_of : (old new : Parser S) (r : EventOrError) (asked : List Token) (given : List Event)
      → History old asked given → is_over old ≡ false → Next old r new
      → CarriesOnOrFails g.gives old asked given r new
  outcome_of old new (Ok e) asked given h running n = n.next.carries_on running asked given h
  outcome_of old new (Err x) asked given h running n = n.error.fails asked given h

  outcome_gave : (old new : Parser S) (r : EventOrError) (asked : List Token) (given : List Event)
      → (a : CarriesOnOrFails g.gives old asked given r new)
      → Gave g.gives old.source (results_of g.gives old asked given r new a) new.source
  outcome_gave old new (Ok e) asked given a = a.gave
  outcome_gave old new (Err x) asked given a = a.gave

  pub one_way_proof : (old p q : Parser S) (r s : EventOrError) (asked : List Token) (given : List Event)
      → History old asked given → is_over old ≡ false
      → AnswersOneWay g.gives old.source → Next old r p → Next old s q
      → (RunsOut g.gives old r p asked given ⊎ RunsOut g.gives old s q asked given)
      ⊎ (Alike r p s q × (p.source ≡ q.source))
  one_way_proof old p q r s asked given h running one n o =
      let a = outcome_of old p r asked given h running n in
      let b = outcome_of old q s asked given h running o in
      let z = one_source_proof g.gives old.source p.source q.source (results_of g.gives old asked given r p a)
      (results_of g.gives old asked given s q b) one
      (outcome_gave old p r asked given a) (outcome_gave old q s asked given b) in
      go (results_of g.gives old asked given r p a) (results_of g.gives old asked given s q b) z.1
      (one_outcome_proof old p q r s asked given n o a b z.0)
    where
      go : (a b : List SourceResult) → (a ≡ b → p.source ≡ q.source) → OneOutcome g.gives old asked given a b r p s q
          → (RunsOut g.gives old r p asked given ⊎ RunsOut g.gives old s q asked given)
          ⊎ (Alike r p s q × (p.source ≡ q.source))
      go a b k (alike e f) = inr (f, k e)
      go a b k (first_runs_out f) = inl (inl f)
      go a b k (second_runs_out f) = inl (inr f)

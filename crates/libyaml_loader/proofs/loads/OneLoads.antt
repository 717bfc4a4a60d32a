-- Two outcomes that the contract of a load allows are one.
use Rattle.std.proofs.Common.{◌≡◌, ◌⊎◌, inl, inr, List, [], ◌∷◌, ◌++◌, None, Ok, Err, IfErr, false, refl, sym, ap, ◌∙◌, subst, append_assoc, append-nil, arith}
use Rattle.libyaml_documents.specs.Documents.{empty_document}
use Rattle.libyaml_types.specs.Fault.{SourceResult, Fault, no_fault}
use Rattle.libyaml_types.specs.declared.source.yaml_token_source_t.{Ghosts}
use Rattle.libyaml_grammar.specs.grammar.Tokens.{Token}
use Rattle.libyaml_grammar.specs.grammar.Events.{Event}
use Rattle.libyaml_grammar.specs.partial.DeterminedEvents.{Begins}
use Rattle.libyaml_grammar.specs.runs.Runs.{Ending, Ends, Fails}
use Rattle.libyaml_events.specs.machine.Config.{Parser}
use Rattle.libyaml_events.specs.sources.Calls.{Gave, MeetsRefusal}
use Rattle.libyaml_events.specs.sources.CallsInTurn.{CarriedOn}
use Rattle.libyaml_events.specs.sources.Determined.{AnswersOneWay, OneBegins}
use Rattle.libyaml_events.specs.sources.History.{History, source_results, kept_fault}
use Rattle.libyaml_events.specs.sources.Needs.{EachNeeded}
use Rattle.libyaml_events.specs.sources.Parsing.{Cause, FailsBy, of_memory, of_grammar, of_source}
use Rattle.libyaml_events.proofs.exported.CallsInTurn.{gave_then}
use Rattle.libyaml_grammar.proofs.exported.Injectivity.{ok_not_err, tail_same}
use Rattle.libyaml_events.proofs.exported.OneOutcome.{before_last, prefix_same, one_source_proof, ran_once}
use Rattle.libyaml_events.proofs.exported.RunStops.{RunStop, answers_both, begins_stopped, ended_stop, grammar_stop, one_run_by_answers, source_stop, taken_comparable, token_prefix}
use Rattle.libyaml_events.proofs.exported.Histories as histories
use Rattle.libyaml_graphs.specs.loads.Loads.{Load, last_load}
use Rattle.libyaml_loader.specs.loads.Loading.{DocumentOrError, LoadsFrom, at_end, by_loader, by_memory, by_parser, whole}
use Rattle.libyaml_loader.specs.loads.OneLoad.{LoadRunsOut, in_parser, in_loader, LoadsAlike, OneLoad, alike, first_runs_out, second_runs_out, OneLoadByAnswers, LoadOutcome, results_in, load_results_of}

-- both after the same tokens
more_after : (l : List Token) (x y : List SourceResult) → source_results l (x ++ y) ≡ source_results l x ++ y
more_after [] x y = refl
more_after (t ∷ l) x y = ap (λ (z : List SourceResult). Ok t ∷ z) (more_after l x y)

both_after : (l : List Token) (x y : List SourceResult) → OneBegins x y → OneBegins (source_results l x) (source_results l y)
both_after l x y h = grind (arith, more_after)

same_after : (l : List Token) (x y : List SourceResult) → source_results l x ≡ source_results l y → x ≡ y
same_after [] x y e = e
same_after (t ∷ l) x y e = same_after l x y (tail_same (Ok t) (Ok t) (source_results l x) (source_results l y) e)

-- a list is empty or has a last event
last_of : (t : List Event) → (t ≡ []) ⊎ ((u : List Event) × (e : Event) × (t ≡ u ++ e ∷ []))
last_of [] = inl refl
last_of (x ∷ t) = go (last_of t)
  where
    go : (t ≡ []) ⊎ ((u : List Event) × (e : Event) × (t ≡ u ++ e ∷ []))
        → (x ∷ t ≡ []) ⊎ ((u : List Event) × (e : Event) × (x ∷ t ≡ u ++ e ∷ []))
    go (inl e) = inr ([], x, ap (λ (v : List Event). x ∷ v) e)
    go (inr (u, y, e)) = inr (x ∷ u, y, ap (λ (v : List Event). x ∷ v) e)

absolute : (asked m n : List Token) (x y : List SourceResult) → OneBegins (source_results m x) (source_results n y)
    → OneBegins (source_results (asked ++ m) x) (source_results (asked ++ n) y)
absolute asked m n x y o
    = rw (answers_both asked m x) at (subst (OneBegins (source_results asked (source_results m x))) (answers_both asked n y)
    (both_after asked (source_results m x) (source_results n y) o))

after_given : (given a b : List Event) → Begins (given ++ a) (given ++ b) → Begins a b
after_given given a b h = (h.0, prefix_same given b (a ++ h.0) (h.1 ∙ append_assoc given a h.0))

-- no load is the last one of every ending
not_last : (z : Load) → ((x : Ending) → z ≡ last_load x) → ⊥
not_last z h = ok_not_err (empty_document None [] false false) no_fault (sym (h Ends) ∙ h (Fails no_fault))

empty_prefix : (t : List Event) → t ++ [] ≡ [] → t ≡ []
empty_prefix t e = sym (append-nil t) ∙ e

module _ {S : Type 0} (g : Ghosts S) (load : List Event → Ending → Load) (left : List Event → List Event)
    (old : Parser S) (asked : List Token) (given : List Event) (history : History old asked given) where
  -- before the last of these events no load was decided
  record IsLastOf (taken : List Event) : Type 0 where
    before : List Event
    event : Event
    all : taken ≡ before ++ event ∷ []
    waits : (x : Ending) → load before x ≡ last_load x

  abbrev Decided : Load → Parser S → List Event → DocumentOrError → Parser S → Type 0
  Decided (Ok d) mid taken r new = (r ≡ Ok d) × (mid.config ≡ new.config)
      × ((rest : List Event) → left (taken ++ rest) ≡ rest)
  Decided (Err f) mid taken r new = (r ≡ Err f.error) × (kept_fault new ≡ f) × IsLastOf taken

  abbrev StoppedSo : Ending → Parser S → DocumentOrError → Parser S → Type 0
  StoppedSo Ends mid r new = (r ≡ Ok (empty_document None [] false false)) × (mid.config ≡ new.config)
  StoppedSo (Fails f) mid r new = (r ≡ Err f.error) × (kept_fault new ≡ f)

  -- how an outcome came: the events that were taken decide it, or the parser stopped, or memory ran out
  data Came (a : List SourceResult) (r : DocumentOrError) (new : Parser S) : Type 0 where
    decided : (more : List Token) (taken : List Event) (mid : Parser S) (z : Load) → a ≡ source_results more []
        → History mid (asked ++ more) (given ++ taken)
        → ((rest : List Event) (x : Ending) → load (taken ++ rest) x ≡ z) → Decided z mid taken r new → Came a r new
    stopped : (more : List Token) (last : List SourceResult) (taken : List Event) (mid : Parser S) (x : Ending)
        → a ≡ source_results more last
        → History mid (asked ++ more) (given ++ taken) → EachNeeded (asked ++ more) last (given ++ taken)
        → RunStop (source_results (asked ++ more) last) (given ++ taken) x → ((y : Ending) → load taken y ≡ last_load y)
        → StoppedSo x mid r new → Came a r new
    out : LoadRunsOut g.gives load old r new asked given → Came a r new

  record CameBy (a : List SourceResult) (r : DocumentOrError) (new : Parser S) : Type 0 where
    gave : Gave g.gives old.source a new.source
    came : Came a r new

  nothing_needed : (l : List Token) (w : List Event) → EachNeeded l [] w
  nothing_needed l w [] x following e = absurd cc
  nothing_needed l w (t ∷ front) x following e = absurd cc

  outcome : (r : DocumentOrError) (new : Parser S) → IfErr r (λ x. x ≡ (kept_fault new).error)
      → (l : LoadsFrom g load left old r new) → CameBy (results_in g load left old new asked given history r l) r new
  outcome (Ok d) new k (whole taken took l f b) =
      let c = took.history asked given history in
      record { gave = c.gave; came = decided c.more taken new (Ok d) refl c.history l (refl, refl, f) }
  outcome (Ok d) new k (at_end taken took l f runs e ended) =
      let c = took.history asked given history in
      let w = (ended asked given history).whole (asked ++ c.more) (given ++ taken) c.history in
      record {
        gave = c.gave;
        came = stopped c.more [] taken new Ends refl c.history (nothing_needed (asked ++ c.more) (given ++ taken))
            (ended_stop (asked ++ c.more) [] (given ++ taken) (nothing_needed (asked ++ c.more) (given ++ taken)) w)
            l (ap Ok e, refl);
      }
  outcome (Err x) new k (by_parser taken parser took fails l) =
      let c = took.history asked given history in
      let h = fails.history (asked ++ c.more) (given ++ taken) c.history in
      record {
        gave = gave_then g.gives c.more h.more old.source parser.source new.source c.gave h.gave;
        came =
            go c h h.cause;
      }
    where
      go : (c : CarriedOn g.gives old parser asked given taken)
          (h : FailsBy g.gives parser new (asked ++ c.more) (given ++ taken))
          → Cause parser.config (asked ++ c.more) (given ++ taken) h.more (kept_fault new)
          → Came (source_results c.more h.more) (Err x) new
      go c h (of_memory m e take meets f)
          = out (in_parser (ap Err (k ∙ ap (λ (z : Fault). z.error) f)) taken parser c (record {
            more = m;
            gave = subst (λ (z : List SourceResult). Gave g.gives parser.source z new.source) e h.gave;
            needed = subst (λ (z : List SourceResult). EachNeeded (asked ++ c.more) z (given ++ taken)) e h.needed;
            may_take = take;
            meets = subst (λ (z : List SourceResult). MeetsRefusal parser.config z) e meets;
            error = refl;
            fault = f;
          }))
      go c h (of_grammar m e f)
          = stopped c.more h.more taken parser (Fails (kept_fault new)) refl c.history h.needed
          (grammar_stop (asked ++ c.more) h.more (given ++ taken) (kept_fault new) m e f) l (ap Err k, refl)
      go c h (of_source m e s f)
          = stopped c.more h.more taken parser (Fails (kept_fault new)) refl c.history h.needed
          (source_stop (asked ++ c.more) h.more (given ++ taken) (kept_fault new) m e f) l (ap Err k, refl)
  outcome (Err x) new k (by_loader before e parser took f kept o l) =
      let c = took.history asked given history in
      let n = kept (asked ++ c.more) (given ++ (before ++ e ∷ [])) c.history in
      let v : kept_fault new ≡ f = ap (λ (p : Parser S). p.config.machine.fault) n in
      record {
        gave = subst (λ (p : Parser S). Gave g.gives old.source (source_results c.more []) p.source) (sym n) c.gave;
        came = decided c.more (before ++ e ∷ []) parser (Err f) refl c.history l (
          ap Err (k ∙ ap (λ (z : Fault). z.error) v),
          v,
          record { before = before; event = e; all = refl; waits = o },
        );
      }
  outcome (Err x) new k (by_memory before e parser took kept grows) =
      let c = took.history asked given history in
      let n = kept (asked ++ c.more) (given ++ (before ++ e ∷ [])) c.history in
      record {
        gave = subst (λ (p : Parser S). Gave g.gives old.source (source_results c.more []) p.source) (sym n) c.gave;
        came = out (in_loader (ap Err (k ∙ ap (λ (p : Parser S). p.config.machine.fault.error) n)) before e parser c grows n);
      }

  -- two parsers that gave the same events, over tokens of one list
  same_kept : (p q : Parser S) (m n : List Token) (w h : List Event) → History p (asked ++ m) w
      → History q (asked ++ n) h → w ≡ h
      → (r s : List SourceResult) → OneBegins (source_results (asked ++ m) r) (source_results (asked ++ n) s)
      → (p.config ≡ q.config) × (asked ++ m ≡ asked ++ n)
  same_kept p q m n w h i j e r s o = go (token_prefix (asked ++ m) (asked ++ n) r s o)
    where
      go : ((rest : List Token) × (asked ++ n ≡ (asked ++ m) ++ rest))
          ⊎ ((rest : List Token) × (asked ++ m ≡ (asked ++ n) ++ rest))
          → (p.config ≡ q.config) × (asked ++ m ≡ asked ++ n)
      go (inl k) = ran_once i j k.0 [] (sym k.1 ∙ sym (append-nil (asked ++ n))) e
      go (inr k) = ran_once i j [] k.0 (append-nil (asked ++ m) ∙ k.1) e

  -- where one of two lists begins the other, and both leave what follows them, they are one
  both_leave : (a b : List Event) → ((rest : List Event) → left (a ++ rest) ≡ rest)
      → ((rest : List Event) → left (b ++ rest) ≡ rest) → Begins a b → a ≡ b
  both_leave a b w h (t, i) =
      let j : t ++ [] ≡ [] = sym (w (t ++ []))
      ∙ (ap left (sym (append_assoc a t []) ∙ ap (λ (v : List Event). v ++ []) (sym i)) ∙ h []) in
      sym (append-nil a) ∙ (ap (λ (v : List Event). a ++ v) (sym (empty_prefix t j)) ∙ sym i)

  -- and where the one decides the load and the other does so by its last event alone
  both_last : (a b : List Event) (z : Load) → ((rest : List Event) (x : Ending) → load (a ++ rest) x ≡ z)
      → IsLastOf b → Begins a b → a ≡ b
  both_last a b z l h (t, i) = go (last_of t)
    where
      go : (t ≡ []) ⊎ ((u : List Event) × (e : Event) × (t ≡ u ++ e ∷ [])) → a ≡ b
      go (inl e) = sym (append-nil a) ∙ (ap (λ (v : List Event). a ++ v) (sym e) ∙ sym i)
      go (inr (u, x, e)) =
          let n : h.before ≡ a ++ u = before_last h.before (a ++ u) h.event x
          (sym h.all ∙ (i ∙ (ap (λ (v : List Event). a ++ v) e ∙ sym (append_assoc a u (x ∷ []))))) in
          absurd (not_last z (λ y. sym (l u y) ∙ (ap (λ (v : List Event). load v y) (sym n) ∙ h.waits y)))

  same_taken : (r s : DocumentOrError) (p q mid other : Parser S) (a b : List Event) (z y : Load) → z ≡ y
      → Begins a b ⊎ Begins b a
      → ((rest : List Event) (x : Ending) → load (a ++ rest) x ≡ z)
      → ((rest : List Event) (x : Ending) → load (b ++ rest) x ≡ y)
      → Decided z mid a r p → Decided y other b s q → a ≡ b
  same_taken r s p q mid other a b (Ok c) (Ok d) e (inl o) l k w h = both_leave a b w.2 h.2 o
  same_taken r s p q mid other a b (Ok c) (Ok d) e (inr o) l k w h = sym (both_leave b a h.2 w.2 o)
  same_taken r s p q mid other a b (Ok c) (Err f) e o l k w h = absurd (ok_not_err c f e)
  same_taken r s p q mid other a b (Err f) (Ok d) e o l k w h = absurd (ok_not_err d f (sym e))
  same_taken r s p q mid other a b (Err f) (Err x) e (inl o) l k w h = both_last a b (Err f) l h.2 o
  same_taken r s p q mid other a b (Err f) (Err x) e (inr o) l k w h = sym (both_last b a (Err x) k w.2 o)

  both_decided : (r s : DocumentOrError) (p q mid other : Parser S) (a b : List Event) (z y : Load) → z ≡ y
      → mid.config ≡ other.config
      → p.max_entries ≡ q.max_entries → Decided z mid a r p → Decided y other b s q → LoadsAlike r p s q
  both_decided r s p q mid other a b z y e k m w h = grind arith

  both_stopped : (r s : DocumentOrError) (p q mid other : Parser S) (x y : Ending) → x ≡ y
      → mid.config ≡ other.config → StoppedSo x mid r p → StoppedSo y other s q
      → p.max_entries ≡ q.max_entries → LoadsAlike r p s q
  both_stopped r s p q mid other x y e k w h m = grind arith

  -- what is decided by its events is no run that stopped
  not_both : (m n : List Token) (a b : List Event) (mid : Parser S) (r s : List SourceResult) (z : Load) (x : Ending)
      → History mid (asked ++ m) (given ++ a)
      → ((rest : List Event) (y : Ending) → load (a ++ rest) y ≡ z)
      → RunStop (source_results (asked ++ n) s) (given ++ b) x → ((y : Ending) → load b y ≡ last_load y)
      → OneBegins (source_results (asked ++ m) r) (source_results (asked ++ n) s) → ⊥
  not_both m n a b mid r s z x i l stop last o =
      let w = after_given given a b (begins_stopped (asked ++ m) r (source_results (asked ++ n) s) (given ++ a) (given ++ b) x
      (histories.needed mid (asked ++ m) (given ++ a) i) (histories.begins_each_run mid (asked ++ m) (given ++ a) i) stop o) in
      not_last z (λ y. sym (l w.0 y) ∙ (ap (λ (v : List Event). load v y) (sym w.1) ∙ last y))

  turned : (a b : List SourceResult) → OneBegins a b → OneBegins b a
  turned a b h = grind arith

  after_asked : (a b : List SourceResult) (m n : List Token) (u v : List SourceResult) → a ≡ source_results m u → b ≡ source_results n v
      → OneBegins a b
      → OneBegins (source_results (asked ++ m) u) (source_results (asked ++ n) v)
  after_asked a b m n u v e f o
      = absolute asked m n u v (subst (λ (z : List SourceResult). OneBegins z (source_results n v)) e (subst (OneBegins a) f o))

  one_of : (a b : List SourceResult) (r s : DocumentOrError) (p q : Parser S) → p.max_entries ≡ q.max_entries
      → OneBegins a b → Came a r p → Came b s q → OneLoad g.gives load old asked given a b r p s q
  one_of a b r s p q same o (out h) k = first_runs_out h
  one_of a b r s p q same o h (out k) = second_runs_out k
  one_of a b r s p q same o (decided m t mid z e i l gs) (decided n u other y f j k h) =
      let w = after_asked a b m n [] [] e f o in
      let c = taken_comparable (asked ++ m) (asked ++ n) [] [] (given ++ t) (given ++ u)
      (histories.begins_each_run mid (asked ++ m) (given ++ t) i)
      (histories.begins_each_run other (asked ++ n) (given ++ u) j) w in
      let d = within c in
      let v = same_taken r s p q mid other t u z y (same_load d) d l k gs h in
      let kept = same_kept mid other m n (given ++ t) (given ++ u) i j (ap (λ (x : List Event). given ++ x) v) [] [] w in
      alike (e ∙ (ap (λ (x : List Token). source_results x []) (prefix_same asked m n kept.1) ∙ sym f))
      (both_decided r s p q mid other t u z y (same_load d) kept.0 same gs h)
    where
      within : Begins (given ++ t) (given ++ u) ⊎ Begins (given ++ u) (given ++ t) → Begins t u ⊎ Begins u t
      within (inl x) = inl (after_given given t u x)
      within (inr x) = inr (after_given given u t x)

      same_load : Begins t u ⊎ Begins u t → z ≡ y
      same_load (inl (x, v))
          = sym (l (x ++ []) Ends) ∙ (ap (λ (w : List Event). load w Ends)
          (sym (append_assoc t x []) ∙ ap (λ (w : List Event). w ++ []) (sym v)) ∙ k [] Ends)
      same_load (inr (x, v))
          = sym (l [] Ends) ∙ (ap (λ (w : List Event). load w Ends)
          (ap (λ (w : List Event). w ++ []) v ∙ append_assoc u x []) ∙ k (x ++ []) Ends)
  one_of a b r s p q same o (decided m t mid z e i l w) (stopped n v u other y f j needed stop last h)
      = absurd (not_both m n t u mid [] v z y i l stop last (after_asked a b m n [] v e f o))
  one_of a b r s p q same o (stopped n v u other y f j needed stop last h) (decided m t mid z e i l w)
      = absurd (not_both m n t u mid [] v z y i l stop last
      (turned (source_results (asked ++ n) v) (source_results (asked ++ m) []) (after_asked a b n m v [] f e o)))
  one_of a b r s p q same o (stopped m u t mid x e i needed stop last gs) (stopped n v w other y f j wanted halt end h) =
      let c = after_asked a b m n u v e f o in
      let d = one_run_by_answers (given ++ t) (given ++ w) x y
      (record {
        asked = asked ++ m;
        last = u;
        needed = histories.needed mid (asked ++ m) (given ++ t) i;
        needed_last =
            needed;
        stop = stop;
      })
      (record {
        asked = asked ++ n;
        last = v;
        needed = histories.needed other (asked ++ n) (given ++ w) j;
        needed_last =
            wanted;
        stop = halt;
      }) c in
      let k = same_kept mid other m n (given ++ t) (given ++ w) i j d.1 u v c in
      let l : source_results (asked ++ m) u ≡ source_results (asked ++ m) v = d.0 ∙ ap (λ (z : List Token). source_results z v) (sym k.1) in
      alike (e ∙ (ap (source_results m) (same_after (asked ++ m) u v l)
      ∙ (ap (λ (z : List Token). source_results z v) (prefix_same asked m n k.1) ∙ sym f)))
      (both_stopped r s p q mid other x y d.2 k.0 gs h same)

  abbrev Of : DocumentOrError → Parser S → Type 0
  Of r new = LoadOutcome g load left old r new

  pub one_load_proof : (r s : DocumentOrError) (p q : Parser S) (a : Of r p) (b : Of s q)
      → OneLoadByAnswers g.gives load old asked given (load_results_of history a) (load_results_of history b) r p s q
  one_load_proof r s p q a b =
      let x = outcome r p a.error a.loads in
      let y = outcome s q b.error b.loads in
      record {
        first_gave = x.gave;
        second_gave = y.gave;
        one = λ o. one_of (load_results_of history a) (load_results_of history b) r s p q (a.bound ∙ sym b.bound) o x.came y.came;
      }

  -- over a source that returns in one way
  module _ (way : AnswersOneWay g.gives old.source) where
    pub one_way_load : (r s : DocumentOrError) (p q : Parser S) → Of r p → Of s q
        → (LoadRunsOut g.gives load old r p asked given ⊎ LoadRunsOut g.gives load old s q asked given)
        ⊎ (LoadsAlike r p s q × (p.source ≡ q.source))
    one_way_load r s p q a b =
        let x = one_load_proof r s p q a b in
        let w = one_source_proof g.gives old.source p.source q.source (load_results_of history a)
        (load_results_of history b) way x.first_gave x.second_gave in
        go (load_results_of history a) (load_results_of history b) w.1 (x.one w.0)
      where
        go : (k l : List SourceResult) → (k ≡ l → p.source ≡ q.source) → OneLoad g.gives load old asked given k l r p s q
            → (LoadRunsOut g.gives load old r p asked given ⊎ LoadRunsOut g.gives load old s q asked given)
            ⊎ (LoadsAlike r p s q × (p.source ≡ q.source))
        go k l same (alike e h) = inr (h, same e)
        go k l same (first_runs_out h) = inl (inl h)
        go k l same (second_runs_out h) = inl (inr h)

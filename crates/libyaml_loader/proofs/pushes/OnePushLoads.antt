-- A loader that is handed its tokens stands in one way after them, and so two outcomes of one push are one.
use Rattle.std.proofs.Common.{◌≡◌, ◌++◌, ◌∷◌, ℕ, List, [], Ok, Err, Bool, true, false, refl, sym, ap, ◌∙◌, subst, append-nil, arith}
use Rattle.std.proofs.lemmas.List.{append_cancel_left}
use Rattle.libyaml_types.specs.Fault.{Fault, memory_fault, no_fault}
use Rattle.libyaml_grammar.specs.runs.Runs.{Ends}
use Rattle.libyaml_grammar.specs.grammar.Events.{Event}
use Rattle.libyaml_grammar.specs.grammar.ValidLists.{has_end}
use Rattle.libyaml_grammar.specs.grammar.Tokens.{Token}
use Rattle.libyaml_grammar.proofs.exported.Running.{one_run_proof}
use Rattle.libyaml_grammar.proofs.exported.Injectivity.{err_same, ok_not_err}
use Rattle.libyaml_documents.specs.Documents.{Document}
use Rattle.libyaml_events.specs.sources.Pushed.{PushParser}
use Rattle.libyaml_events.specs.sources.Pushes.{Done}
use Rattle.libyaml_events.proofs.exported.Pushes.{one_pushed}
use Rattle.libyaml_graphs.specs.loads.Bounds.{IsBoundedLoads, bounded_loads}
use Rattle.libyaml_graphs.specs.loads.Loads.{Load, last_load}
use Rattle.libyaml_graphs.specs.machine.Loader.{State, between}
use Rattle.libyaml_graphs.proofs.exported.LoadLists.{same_loads}
use Rattle.libyaml_graphs.specs.loads.Leads.{Leads, as_loads, loads_from}
use Rattle.libyaml_loader.specs.pushes.Loaded.{Loaded, PushLoader, loader_fault, loader_has_stopped, standing_loader}
use Rattle.libyaml_loader.specs.pushes.OnePushLoads.{OnePushLoads, PushLoadsAlike, PushLoadsRunOut, alike, first_runs_out, second_runs_out}
use Rattle.libyaml_loader.specs.pushes.PushesLoads.{AreThen, PushesLoads, StopsLoading, TakesLoads, by_memory, by_tokens}
use Rattle.libyaml_graphs.proofs.exported.Leading.{from_none}

one_loads : (n : ℕ) (l : List Token) (f : Fault) (a b : List Load) → IsBoundedLoads n l f a
    → IsBoundedLoads n l f b → a ≡ b
one_loads n l f a b h k =
    let o = one_run_proof l f h.events k.events h.ending k.ending h.run k.run in
    h.all ∙ (ap (λ (e : List Event). bounded_loads n e h.ending) o.0 ∙ (ap (bounded_loads n k.events) o.1 ∙ sym k.all))

same_are : (n : ℕ) (l : List Token) (f : Fault) (a b : List Document) (x y : Load) → AreThen n l f a x
    → AreThen n l f b y → (a ≡ b) × (x ≡ y)
same_are n l f a b x y h k = same_loads a b x y (one_loads n l f (as_loads a ++ x ∷ []) (as_loads b ++ y ∷ []) h k)

-- the documents that events lead to
ends_there : (n : ℕ) (events : List Event) (a : List Document) (s : State) → Leads n between events a s
    → loads_from n between (events ++ []) Ends ≡ as_loads a ++ last_load Ends ∷ []
ends_there n events a s h = h.loads [] Ends ∙ ap (λ (l : List Load). as_loads a ++ l) (from_none n s Ends)

pub one_loaded_proof : (p q : PushLoader)
    (tokens : List Token) (a b : List Document) → p.max_entries ≡ q.max_entries → Loaded p tokens a
    → Loaded q tokens b → (p ≡ q) × (a ≡ b)
one_loaded_proof p q tokens a b bound h k =
    let s = one_pushed p.parser q.parser tokens h.events k.events h.pushed k.pushed in
    let led : Leads p.max_entries between h.events b q.state =
    rw (← s.1) at (rw (← bound) at k.leads)
    in
    let here : p.state ≡ q.state = h.leads.state ∙ sym led.state in
    let f : p.fault ≡ q.fault = h.none_kept ∙ sym k.none_kept in (
      ap (λ (x : PushParser). standing_loader x p.state p.fault p.max_entries) s.0
          ∙ (ap (λ (x : State). standing_loader q.parser x p.fault p.max_entries) here
          ∙ (ap (λ (x : Fault). standing_loader q.parser q.state x p.max_entries) f
          ∙ ap (standing_loader q.parser q.state q.fault) bound)),
      (same_loads a b (last_load Ends) (last_load Ends)
          (sym (ends_there p.max_entries h.events a p.state h.leads) ∙ ends_there p.max_entries h.events b q.state led)).0,
    )

-- what was pushed has these documents before every error of a source, or has ended
data LoadsSo (n : ℕ) (l : List Token) (g : List Document) : Type 0 where
  so_far : ((f : Fault) → AreThen n l f g (Err f)) → LoadsSo n l g
  to_end : ((f : Fault) → AreThen n (l ++ []) f g (last_load Ends)) → LoadsSo n l g

-- so its loads have no error of their own
no_failure : (n : ℕ) (l : List Token) (g k : List Document) (x : Fault) → LoadsSo n l g
    → ((f : Fault) → AreThen n (l ++ []) f k (Err x)) → ⊥
no_failure n l g k x (to_end r) s = never (last_load Ends) refl
  where
    never : (y : Load) → last_load Ends ≡ y → ⊥
    never (Ok d) i = ok_not_err d x
        (sym i ∙ (same_are n (l ++ []) no_fault g k (last_load Ends) (Err x) (r no_fault) (s no_fault)).1)
    never (Err f) i = absurd (by i)
      where
        by : last_load Ends ≡ Err f → ⊥
        by i = cc
no_failure n l g k x (so_far r) s = apart (each no_fault) (each memory_fault)
  where
    each : (f : Fault) → f ≡ x
    each f = err_same f x
        (same_are n (l ++ []) f g k (Err f) (Err x)
        (subst (λ (y : List Token). AreThen n y f g (Err f)) (sym (append-nil l)) (r f)) (s f)).1

    apart : no_fault ≡ x → memory_fault ≡ x → ⊥
    apart e f = let i = ap (λ (y : Fault). y.error) (e ∙ sym f) in cc

module _ (old : PushLoader) (t : Token)
    (before : List Document) (tokens : List Token) (documents : List Document) (h : Loaded old tokens documents)
    (running : loader_has_stopped old ≡ false) where
  abbrev now : List Token
  now = tokens ++ t ∷ []

  -- how a push ended
  data Ended (Full : Type 0) (r : Done) (new : PushLoader) (after : List Document) : Type 0 where
    went : (added : List Document) → r ≡ Ok tt → after ≡ before ++ added → Loaded new now (documents ++ added)
        → LoadsSo old.max_entries now (documents ++ added) → Ended Full r new after
    failed : (added : List Document) → r ≡ Err (loader_fault new).error → after ≡ before ++ added
        → ((f : Fault) → AreThen old.max_entries (now ++ []) f (documents ++ added) (Err (loader_fault new)))
        → Ended Full r new after
    ran_out : PushLoadsRunOut Full now h.events documents before r new after → Ended Full r new after

  ended : (Full : Type 0) (r : Done) (new : PushLoader) (after : List Document)
      → PushesLoads Full old t before r new after → Ended Full r new after
  ended Full (Ok u) new after p = went k.added refl k.appended (k.ends_so tokens documents h)
      (subst (λ (n : ℕ). LoadsSo n now (documents ++ k.added)) p.bound (by (has_end now) refl))
    where
      k : TakesLoads Full old t before (Ok u) new after
      k = p.takes running

      by : (b : Bool) → has_end now ≡ b → LoadsSo new.max_entries now (documents ++ k.added)
      by false i = so_far (p.so_far now (documents ++ k.added) (k.ends_so tokens documents h) i)
      by true i = to_end (λ f. p.whole now (documents ++ k.added) (k.ends_so tokens documents h) i [] f)
  ended Full (Err x) new after p = by (k.ends_so tokens documents h)
    where
      k : TakesLoads Full old t before (Err x) new after
      k = p.takes running

      by : StopsLoading Full new.max_entries now h.events (documents ++ k.added) (loader_fault new)
          → Ended Full (Err x) new after
      by (by_tokens loads) = failed k.added (ap Err p.kept.0) k.appended
          (λ f. subst (λ (n : ℕ). AreThen n (now ++ []) f (documents ++ k.added) (Err (loader_fault new))) p.bound (loads [] f))
      by (by_memory i more here begins leads needs) = ran_out (record {
        error = ap Err (p.kept.0 ∙ ap (λ (f : Fault). f.error) i);
        fault = i;
        added = k.added;
        appended = k.appended;
        more = more;
        here = here;
        begins = begins;
        leads = leads;
        needs = needs;
      })

  alike_ok : (r s : Done) (p q : PushLoader) (after later : List Document) → r ≡ Ok tt → s ≡ Ok tt → after ≡ later
      → p.max_entries ≡ q.max_entries
      → p ≡ q → PushLoadsAlike r p after s q later
  alike_ok r s p q after later i j e b f = grind arith

  alike_err : (r s : Done) (p q : PushLoader) (after later : List Document) → r ≡ Err (loader_fault p).error
      → s ≡ Err (loader_fault q).error → after ≡ later
      → p.max_entries ≡ q.max_entries → loader_fault p ≡ loader_fault q → PushLoadsAlike r p after s q later
  alike_err (Err x) s p q after later i j e b f
      = record {
        result = i ∙ (ap (λ (y : Fault). Err y.error) f ∙ sym j);
        appended = e;
        bound = b;
        after_push =
            tt;
        after_error = f;
      }
  alike_err (Ok u) s p q after later i j e b f = grind arith

  both_added : (a b : List Document) (after later : List Document) → after ≡ before ++ a → later ≡ before ++ b
      → documents ++ a ≡ documents ++ b
      → after ≡ later
  both_added a b after later i j e = grind (arith, append_cancel_left)

  pub one_push_loads : (Full More : Type 0) (p q : PushLoader) (after later : List Document) (r s : Done)
      → PushesLoads Full old t before r p after
      → PushesLoads More old t before s q later → OnePushLoads Full More now h.events documents before r p after s q later
  one_push_loads Full More p q after later r s x y = go (ended Full r p after x) (ended More s q later y)
    where
      n : ℕ
      n = old.max_entries

      bound : p.max_entries ≡ q.max_entries
      bound = x.bound ∙ sym y.bound

      go : Ended Full r p after → Ended More s q later → OnePushLoads Full More now h.events documents before r p after s q later
      go (ran_out m) z = first_runs_out m
      go z (ran_out m) = second_runs_out m
      go (went a i j k l) (went b i' j' k' l') =
          let o = one_loaded_proof p q now (documents ++ a) (documents ++ b) bound k k' in
          alike (alike_ok r s p q after later i i' (both_added a b after later j j' o.1) bound o.0)
      go (went a i j k l) (failed b i' j' loads) =
          absurd (no_failure n now (documents ++ a) (documents ++ b) (loader_fault q) l loads)
      go (failed a i j loads) (went b i' j' k l) =
          absurd (no_failure n now (documents ++ b) (documents ++ a) (loader_fault p) l loads)
      go (failed a i j loads) (failed b i' j' more) =
          let o = same_are n (now ++ []) no_fault (documents ++ a) (documents ++ b) (Err (loader_fault p))
          (Err (loader_fault q)) (loads no_fault) (more no_fault) in
          alike (alike_err r s p q after later i i' (both_added a b after later j j' o.0) bound
          (err_same (loader_fault p) (loader_fault q) o.1))

pub stopped_push_loads : (Full More : Type 0) (old p q : PushLoader) (t : Token)
    (before after later : List Document) (r s : Done) → loader_has_stopped old ≡ true
    → PushesLoads Full old t before r p after → PushesLoads More old t before s q later
    → (r ≡ s) × (p ≡ q) × (after ≡ later)
stopped_push_loads Full More old p q t before after later r s h x y = grind arith

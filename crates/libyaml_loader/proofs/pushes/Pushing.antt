-- What a push of a token to a loader did, by the push to its parser and by the events that were composed.
use Rattle.std.proofs.Common.{◌≡◌, ◌≤◌, ◌*◌, arith, length, inl, inr, ◌||◌, ℕ, List, [], ◌∷◌, ◌++◌, Ok, Err, IfErr, OnOk, Bool, true, false, refl, sym, ap, subst, ◌∙◌, append_assoc}
use Rattle.std.proofs.lemmas.List.{append-nil}
use Rattle.std.proofs.lemmas.Bool.{true≢false, or_parts}
use Rattle.libyaml_types.specs.declared.enums.yaml_error_type_t.{yaml_error_type_t}
use Rattle.libyaml_documents.specs.Documents.{Document}
use Rattle.libyaml_types.specs.Fault.{Fault, fault_of}
use Rattle.libyaml_grammar.specs.runs.Runs.{Ending, Ends, Fails, IsRun}
use Rattle.libyaml_grammar.specs.grammar.Events.{Event}
use Rattle.libyaml_grammar.specs.grammar.ValidLists.{has_end}
use Rattle.libyaml_grammar.specs.grammar.Tokens.{Token}
use Rattle.libyaml_grammar.proofs.exported.Running.{one_run_proof, some_run_proof}
use Rattle.libyaml_graphs.specs.loads.Bounds.{IsBoundedLoads, bounded_loads, first_stop}
use Rattle.libyaml_graphs.specs.loads.Linear.{documents_size}
use Rattle.libyaml_graphs.specs.loads.Loads.{Load, last_load}
use Rattle.libyaml_graphs.specs.machine.Loader.{State, between}
use Rattle.libyaml_graphs.proofs.exported.RunLoads.{first_linear}
use Rattle.libyaml_events.specs.machine.Config.{Machine, is_fault}
use Rattle.libyaml_events.specs.machine.Want.{Want}
use Rattle.libyaml_events.specs.sources.Determined.{BeginsEachRun}
use Rattle.libyaml_events.specs.sources.Pushed as pushed
use Rattle.libyaml_events.specs.sources.Pushed.{PushParser}
use Rattle.libyaml_events.specs.sources.Pushes as pushes
use Rattle.libyaml_events.specs.sources.Pushes.{Done, NeedsMemory, Pushes, Stops, Takes, done_by, for_event, for_step}
use Rattle.libyaml_events.proofs.exported.Pushes.{fed_begins_run, fed_count, fed_ended, fed_faultless, fed_determined, fed_whole}
use Rattle.libyaml_events.proofs.exported.RunStops.{short_run, whole_run}
use Rattle.libyaml_loader.specs.pushes.Composing.{Composes, RefusesEvent, RefusesOneOf, by_loads, by_memory as no_memory, composer_state}
use Rattle.libyaml_graphs.specs.loads.Leads.{Leads, as_loads, loads_from}
use Rattle.libyaml_loader.specs.pushes.Loaded.{ForLoaded, Loaded, PushLoader, RemembersLoads, loader_has_stopped, loader_keeps_fault, standing_loader}
use Rattle.libyaml_loader.specs.pushes.PushesLoads.{AreThen, BeginsEachLoads, PushesLoads, StopsLoading, by_memory, by_tokens, in_loader, in_parser}
use Rattle.libyaml_loader.specs.declared.composer.DocumentBuilder.{DocumentBuilder}
use Rattle.libyaml_graphs.proofs.exported.Leading.{from_none, leads_both}

-- the loads of a run whose events are these
pub are_then : (n : ℕ) (tokens : List Token) (source : Fault) (events : List Event) (x : Ending)
    (documents : List Document) (here : State)
    → IsRun tokens source events x → Leads n between events documents here
    → IsBoundedLoads n tokens source (as_loads documents ++ last_load x ∷ [])
are_then n tokens source events x documents here run leads = record {
  events = events;
  ending = x;
  run = run;
  all = sym (ap (λ (l : List Event). bounded_loads n l x) (sym (append-nil events))
      ∙ (leads.loads [] x ∙ ap (λ (l : List Load). as_loads documents ++ l) (from_none n here x)));
}

-- or begin those of a run
prefix_loads : (n : ℕ) (events : List Event) (documents : List Document) (here : State) (all rest : List Event)
    (x : Ending) → all ≡ events ++ rest
    → Leads n between events documents here → bounded_loads n all x ≡ as_loads documents ++ loads_from n here rest x
prefix_loads n events documents here all rest x is leads = grind arith

pub begin_loads : (n : ℕ) (tokens : List Token) (events : List Event) (documents : List Document) (here : State)
    → BeginsEachRun tokens events
    → Leads n between events documents here → BeginsEachLoads n tokens documents
begin_loads n tokens events documents here begins leads rest source loads are =
    let b = begins rest source are.events are.ending are.run in
    (loads_from n here b.0 are.ending, are.all ∙ prefix_loads n events documents here are.events b.0 are.ending b.1 leads)

begins_prefix : (tokens : List Token) (a b : List Event) → BeginsEachRun tokens (a ++ b) → BeginsEachRun tokens a
begins_prefix tokens a b h rest f e x run = let i = h rest f e x run in (b ++ i.0, i.1 ∙ append_assoc a b i.0)

-- what holds of all that a loader was handed and gave
module _ (l : PushLoader) where
  pub loads_so_far : ForLoaded l (λ tokens documents. has_end tokens ≡ false → (source : Fault)
      → AreThen l.max_entries tokens source documents (Err source))
  loads_so_far tokens documents h none source = are_then l.max_entries tokens source h.events
      (Fails source) documents l.state (short_run tokens h.events source (fed_determined h.pushed none)) h.leads

  pub whole_loads : ForLoaded l (λ tokens documents. has_end tokens ≡ true → (more : List Token) (source : Fault)
      → AreThen l.max_entries (tokens ++ more) source documents (last_load Ends))
  whole_loads tokens documents h is more source = are_then l.max_entries (tokens ++ more) source h.events Ends
      documents l.state (whole_run tokens h.events more source (fed_whole h.pushed is)) h.leads

  pub none_kept : ForLoaded l (λ _ _. loader_keeps_fault l ≡ false)
  none_kept tokens documents h = ap (λ (f : Fault). is_fault f.error) h.none_kept

  pub stopped_at : ForLoaded l (λ tokens _. loader_has_stopped l ≡ has_end tokens)
  stopped_at tokens documents h = grind (arith, none_kept, fed_ended)

  pub begins_loads : ForLoaded l (BeginsEachLoads l.max_entries)
  begins_loads tokens documents h = begin_loads l.max_entries tokens h.events documents l.state
      (fed_begins_run h.pushed) h.leads

  pub linear_loads : ForLoaded l (λ tokens documents. documents_size documents ≤ 8 * length tokens)
  linear_loads tokens documents h =
      let a : documents_size documents ≤ 2 * length h.events = first_linear (first_stop l.max_entries [] []) h.events Ends documents
      (loads_from l.max_entries l.state [] Ends)
      (prefix_loads l.max_entries h.events documents l.state h.events [] Ends (sym (append-nil h.events)) h.leads) in
      let b : length h.events ≤ 4 * length tokens = fed_count h.pushed in
      omega arith

-- the events of a push begin those of every run
begins_so : (Room : Type 0) (tokens : List Token) (events : List Event) (r : Done) (new : PushParser)
    → pushes.EndsSo Room tokens events r new → BeginsEachRun tokens events
begins_so Room tokens events (Ok u) new h = fed_begins_run h
begins_so Room tokens events (Err x) new (pushes.by_memory is w c u fed needs) = fed_begins_run fed
begins_so Room tokens events (Err x) new (pushes.by_grammar failed runs)
    = λ rest f e y run. (
      [],
      (one_run_proof (tokens ++ rest) f e events y (Fails (pushed.fault_in new)) run
          (runs rest f)).0 ∙ sym (append-nil events),
    )

-- an event is refused
refused_so : (Full : Type 0) (n : ℕ) (tokens : List Token) (given more later : List Event)
    (documents : List Document) (here : State) (e : Event) (f : Fault)
    → BeginsEachRun tokens ((given ++ more) ++ e ∷ later) → Leads n between (given ++ more) documents here
    → RefusesEvent Full n here e f → StopsLoading Full n tokens given documents f
refused_so Full n tokens given more later documents here e f begins leads (by_loads h) = by_tokens so
  where
    events : List Event
    events = given ++ more

    so : (more : List Token) (source : Fault) → AreThen n (tokens ++ more) source documents (Err f)
    so more source =
        let (all, x, run) = some_run_proof (tokens ++ more) source in
        let b = begins more source all x run in
        record {
          events = all;
          ending = x;
          run = run;
          all = sym (prefix_loads n events documents here all (e ∷ (later ++ b.0)) x
              (b.1 ∙ append_assoc events (e ∷ later) b.0) leads
              ∙ ap (λ (l : List Load). as_loads documents ++ l) (h (later ++ b.0) x));
        }
refused_so Full n tokens given more later documents here e f begins leads (no_memory is needs) =
    let events : List Event = given ++ more in
    let with_it : BeginsEachRun tokens (events ++ e ∷ []) = begins_prefix tokens (events ++ e ∷ []) later
    (subst (BeginsEachRun tokens) (sym (append_assoc events (e ∷ []) later)) begins) in
    by_memory is more here (begins_prefix tokens events (e ∷ later) begins) leads (in_loader e with_it needs)

-- the parser stopped
any_room : (Room : Type 0) (w : Want) (c : Machine) (u : Token) → NeedsMemory Room w c u → NeedsMemory (Unit {0}) w c u
any_room Room w c u (for_step grows) = for_step grows
any_room Room w c u (for_event e d is full) = for_event e d is tt

parser_stops : (Full Room : Type 0) (n : ℕ) (tokens : List Token) (given added : List Event)
    (documents : List Document) (here : State) (f : Fault)
    → Leads n between (given ++ added) documents here → Stops Room tokens (given ++ added) f
    → StopsLoading Full n tokens given documents f
parser_stops Full Room n tokens given added documents here f leads (pushes.by_grammar failed runs)
    = by_tokens (λ more source. are_then n (tokens ++ more) source (given ++ added) (Fails f) documents here
    (runs more source) leads)
parser_stops Full Room n tokens given added documents here f leads (pushes.by_memory is w c u fed needs)
    = by_memory is added here (fed_begins_run fed) leads
    (in_parser w c u fed (any_room Room w c u needs))

-- the loader keeps no error, and its parser was handed a token; the events that came were composed
module _ (Full Room : Type 0) (p q : PushParser) (t : Token) (given : List Event) (r : Done)
    (pushes_so : Pushes Room p t [] r q given) (old new : DocumentBuilder)
    (before after : List Document) (s : Done) (composes : Composes Full old given before s new after)
    (none_given : given ≡ [] → (new ≡ old) × (after ≡ before) × (s ≡ Ok tt)) (bound : new.max_entries ≡ old.max_entries)
    (kept_so : IfErr s (λ x. (x ≡ new.fault.error) × (is_fault new.fault.error ≡ true)))
    (same : s ≡ Ok tt → new.fault ≡ old.fault)
    (faultless : done_by (fault_of old.fault) ≡ Ok tt) where
  abbrev pub first : PushLoader
  first = standing_loader p (composer_state old) (fault_of old.fault) old.max_entries

  not_kept : loader_keeps_fault first ≡ false
  not_kept = grind arith

  running : loader_has_stopped first ≡ false → pushed.has_stopped p ≡ false
  running h = (or_parts (loader_keeps_fault first) (pushed.has_stopped p) h).1

  ended : loader_has_stopped first ≡ true → pushed.has_stopped p ≡ true
  ended h = sym (ap (λ (b : Bool). b || pushed.has_stopped p) not_kept) ∙ h

  taken : loader_has_stopped first ≡ false → Takes Room p t [] r q given
  taken h = pushes_so.takes (running h)

  -- all events of the tokens
  all_begin : (h : loader_has_stopped first ≡ false) (tokens : List Token) (l : List Document)
      (k : Loaded first tokens l) → pushes.EndsSo Room (tokens ++ t ∷ []) (k.events ++ given) r q
  all_begin h tokens l k = rw (← (taken h).appended) at ((taken h).ends_so tokens k.events k.pushed)

  from_start : (tokens : List Token) (l : List Document) (k : Loaded first tokens l) (composed : List Event)
      (here : State)
      → Leads old.max_entries (composer_state old) composed composes.added here
      → Leads old.max_entries between (k.events ++ composed) (l ++ composes.added) here
  from_start tokens l k composed here leads = leads_both old.max_entries between (composer_state old) here k.events
      composed l composes.added k.leads leads

  -- and the push goes on
  abbrev pub second : PushLoader
  second = standing_loader q (composer_state new) (fault_of new.fault) new.max_entries

  all_led : (u : Unit {0}) → s ≡ Ok u → Leads old.max_entries (composer_state old) given composes.added (composer_state new)
  all_led u is = rw is at composes.ends_so

  pub pushes_ok : (u v : Unit {0}) → s ≡ Ok u → r ≡ Ok v → PushesLoads Full first t before (Ok tt) second after
  pushes_ok u v is so = record {
    stopped = λ h.
        let k = pushes_so.stopped (ended h) in
        let n = none_given k.1 in (
          ap (λ (x : PushParser). standing_loader x (composer_state new) (fault_of new.fault) new.max_entries) k.0
              ∙ ap (λ (x : DocumentBuilder). standing_loader p (composer_state x) (fault_of x.fault) x.max_entries) n.0,
          n.1,
          sym faultless,
        );
    takes = λ h. record {
      added = composes.added;
      appended = composes.appended;
      ends_so = λ tokens l k. record {
        events = k.events ++ given;
        pushed = rw so at (all_begin h tokens l k);
        leads = rw (← bound) at (from_start tokens l k given (composer_state new) (all_led u is));
        none_kept = ap fault_of (same is) ∙ k.none_kept;
      };
    };
    kept = tt;
    bound = bound;
    so_far = loads_so_far second;
    whole = whole_loads second;
    ended = stopped_at second;
    faultless = none_kept second;
    begins = begins_loads second;
    linear = linear_loads second;
  }

  -- an event is refused
  not_ok : (x : yaml_error_type_t) → s ≡ Err x → s ≡ Ok tt → ⊥
  not_ok x is so = grind arith

  pub pushes_refused : (x : yaml_error_type_t) → s ≡ Err x → PushesLoads Full first t before (Err x) second after
  pushes_refused x is = record {
    stopped = λ h. absurd (not_ok x is (none_given (pushes_so.stopped (ended h)).1).2);
    takes = λ h. record {
      added = composes.added;
      appended = composes.appended;
      ends_so =
          λ tokens l k. stops h tokens l k;
    };
    kept = rw is at kept_so;
    bound = bound;
    so_far = loads_so_far second;
    whole = whole_loads second;
    ended = stopped_at second;
    faultless = none_kept second;
    begins = begins_loads second;
    linear = linear_loads second;
  }
    where
      one : RefusesOneOf Full old.max_entries (composer_state old) given composes.added (fault_of new.fault)
      one = rw is at composes.ends_so

      stops : loader_has_stopped first ≡ false → (tokens : List Token) (l : List Document) (k : Loaded first tokens l)
          → StopsLoading Full new.max_entries (tokens ++ t ∷ []) k.events (l ++ composes.added) (fault_of new.fault)
      stops h tokens l k = rw (← bound) at
          (refused_so Full old.max_entries (tokens ++ t ∷ []) k.events one.composed one.later
          (l ++ composes.added) one.here one.event (fault_of new.fault)
          (subst (BeginsEachRun (tokens ++ t ∷ []))
          (ap (λ (e : List Event). k.events ++ e) one.all
          ∙ sym (append_assoc k.events one.composed (one.event ∷ one.later)))
          (begins_so Room (tokens ++ t ∷ []) (k.events ++ given) r q (all_begin h tokens l k)))
          (from_start tokens l k one.composed one.here one.leads) one.refuses)

  -- or the parser stops
  abbrev pub third : PushLoader
  third = standing_loader q between (pushed.fault_in q) new.max_entries

  pub pushes_failed : RemembersLoads first → (u : Unit {0}) (y : yaml_error_type_t) → s ≡ Ok u → r ≡ Err y
      → PushesLoads Full first t before (Err y) third after
  pushes_failed remembers u y is so = record {
    stopped = λ h. absurd (never remembers (sym so ∙ (pushes_so.stopped (ended h)).2));
    takes = λ h. record {
      added = composes.added;
      appended = composes.appended;
      ends_so =
          λ tokens l k. stops h tokens l k;
    };
    kept = rw so at pushes_so.kept;
    bound = bound;
    so_far = loads_so_far third;
    whole = whole_loads third;
    ended = stopped_at third;
    faultless = none_kept third;
    begins = begins_loads third;
    linear = linear_loads third;
  }
    where
      differ : (f : Fault) (b : Bool) → b ≡ false → ◌≡◌ {A = Done} (Err y) (pushes.done_if b f) → ⊥
      differ f b i h = grind arith

      never : RemembersLoads first → ◌≡◌ {A = Done} (Err y) (done_by (pushed.fault_in p)) → ⊥
      never (inl kept) h = true≢false (sym kept ∙ not_kept)
      never (inr (tokens, l, k)) h = differ (pushed.fault_in p) (pushed.keeps_fault p)
          (fed_faultless k.pushed) h

      stops : loader_has_stopped first ≡ false → (tokens : List Token) (l : List Document) (k : Loaded first tokens l)
          → StopsLoading Full new.max_entries (tokens ++ t ∷ []) k.events (l ++ composes.added) (pushed.fault_in q)
      stops h tokens l k = rw (← bound) at
          (parser_stops Full Room old.max_entries (tokens ++ t ∷ []) k.events given (l ++ composes.added)
          (composer_state new) (pushed.fault_in q)
          (from_start tokens l k given (composer_state new) (all_led u is))
          (rw so at (all_begin h tokens l k)))

-- after a push an error is kept, or there is a history
pub push_remembers : (Full : Type 0) (old new : PushLoader) (t : Token) (before after : List Document) (r : Done)
    → PushesLoads Full old t before r new after
    → RemembersLoads old → RemembersLoads new
push_remembers Full old new t before after (Err x) h k = inl h.kept.1
push_remembers Full old new t before after (Ok u) h k = go (loader_has_stopped old) refl
  where
    go : (b : Bool) → loader_has_stopped old ≡ b → RemembersLoads new
    go true i = subst RemembersLoads (sym (h.stopped i).0) k
    go false i = by k
      where
        by : RemembersLoads old → RemembersLoads new
        by (inl kept) = absurd (true≢false (sym kept ∙ (or_parts (loader_keeps_fault old) (pushed.has_stopped old.parser) i).0))
        by (inr (tokens, l, m)) = inr (tokens ++ t ∷ [], l ++ (h.takes i).added, (h.takes i).ends_so tokens l m)

-- what holds where a call returned without an error
pub on_ok : (P : Type 0) (s : Done) → OnOk s P → s ≡ Ok tt → P
on_ok P s h is = grind arith

-- the parser's error is kept
pub kept_fault : (q : PushParser) (k : DocumentBuilder) (n : ℕ) (f : Fault) → k.is_open ≡ false → fault_of k.fault ≡ f
    → k.max_entries ≡ n
    → standing_loader q between f n ≡ standing_loader q (composer_state k) (fault_of k.fault) k.max_entries
kept_fault q k n f none fault bound = grind arith

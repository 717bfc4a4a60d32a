-- What a whole loop over composed events yielded, by the run that was to come.
use Rattle.std.proofs.Common.{◌≡◌, ◌⊎◌, inl, inr, ◌++◌, ◌∷◌, ℕ, List, [], Some, Ok, Err, refl, sym, ap, subst, ◌∙◌, append-nil, arith}
use Rattle.libyaml_types.specs.Fault.{Fault, fault_of, memory_fault, SourceResult}
use Rattle.libyaml_types.specs.Source.{Follows, coming}
use Rattle.libyaml_types.specs.declared.fault.yaml_parser_t_prefix.{yaml_parser_t_prefix}
use Rattle.libyaml_types.specs.declared.source.yaml_token_source_t.{Ghosts}
use Rattle.libyaml_documents.specs.Documents.{Document}
use Rattle.libyaml_grammar.specs.grammar.Events.{Event}
use Rattle.libyaml_grammar.specs.grammar.Tokens.{Token}
use Rattle.libyaml_grammar.specs.runs.Runs.{Ending, Ends, Fails, IsRun}
use Rattle.libyaml_events.specs.machine.Config.{Parser}
use Rattle.libyaml_events.specs.sources.History.{History, kept_fault}
use Rattle.libyaml_events.specs.sources.Iterates.{YieldsEvent}
use Rattle.libyaml_events.specs.sources.RunToCome.{FailsHere, RestOfRun, RunToCome}
use Rattle.libyaml_events.proofs.exported.KnownTokens.{fails_here, nothing_after_end}
use Rattle.libyaml_events.proofs.exported.Taking.{took_one}
use Rattle.libyaml_graphs.specs.loads.Bounds.{bounded_loads}
use Rattle.libyaml_graphs.specs.loads.Leads.{Leads, as_loads, loads_from}
use Rattle.libyaml_graphs.specs.loads.Loads.{Load, last_load}
use Rattle.libyaml_graphs.specs.machine.Loader.{State, between}
use Rattle.libyaml_graphs.proofs.exported.Leading.{from_none, leads_both, leads_none}
use Rattle.libyaml_loader.specs.composed.ComposedEvents.{ComposedEvents, YieldsFault, by_loader, by_parser}
use Rattle.libyaml_loader.specs.composed.ComposedLoops.{AreComposedOf, ComposesUpTo, LoopComposes, all, cut_short, event, fault, no_item, refused}
use Rattle.libyaml_loader.specs.composed.EventComposer.{EventComposer, EventRefused, StandsAt, by_loads, by_memory, entries_bound, is_between, new_event_composer}
use Rattle.libyaml_loader.specs.loads.LoadsInTurn as in_turn
use Rattle.libyaml_loader.specs.loads.LoadsInTurn.{AreLoadsOf}

-- Why no event more came, from where the loader then stands.
data Stops (n : ℕ) (MayBreak : Fault → Type 0) (there : State) (ending : Ending) (rest : List Event) (x : Ending)
    : Type 0 where
  at_end : rest ≡ [] → ending ≡ x → Stops n MayBreak there ending rest x
  at_event : (f : Fault) (e : Event) (later : List Event) → rest ≡ e ∷ later → ending ≡ Fails f
      → ((any : List Event) (y : Ending) → loads_from n there (e ∷ any) y ≡ Err f ∷ [])
      → Stops n MayBreak there ending rest x
  early : (f : Fault) → ending ≡ Fails f → (f ≡ memory_fault) ⊎ MayBreak f → Stops n MayBreak there ending rest x

record Composed {S : Type 0} (MayBreak : S → Fault → Type 0) (new : Parser S) (n : ℕ) (here : State)
    (yielded : List Event) (ending : Ending) (events : List Event) (x : Ending) : Type 0 where
  documents : List Document
  there : State
  leads : Leads n here yielded documents there
  rest : List Event
  first : events ≡ yielded ++ rest
  stops : Stops n (MayBreak new.source) there ending rest x

module _ {S : Type 0} (g : Ghosts S)
    (follows : (s t : S) (a : SourceResult) → g.gives s a t → Follows (g.may_break t) (g.known s) a (g.known t)) where
  -- the event is the first of the run
  pub rest_of : (old new : Parser S) (e : Event) → YieldsEvent g old (Some (Ok e)) new → (events : List Event) (x : Ending)
      → RunToCome g.known old events x → RestOfRun g.known new (e ∷ []) events x
  rest_of old new e y events x run = (took_one g follows old new e (y.1.next.carries_on y.0)).runs events x run

  stays : (new : Parser S) (n : ℕ) (here : State) (ending : Ending) (events : List Event) (x : Ending)
      → Stops n (g.may_break new.source) here ending events x → Composed g.may_break new n here [] ending events x
  stays new n here ending events x s = record {
    documents = [];
    there = here;
    leads = leads_none n here;
    rest = events;
    first = refl;
    stops = s;
  }

  of_fault : (old new : ComposedEvents S) (f : yaml_parser_t_prefix) (n : ℕ) (here : State) (events : List Event)
      (x : Ending) → entries_bound old.composer ≡ n → StandsAt old.composer here
      → RunToCome g.known old.parser events x → YieldsFault g old f new
      → Stops n (g.may_break new.parser.source) here (Fails (fault_of f)) events x
  of_fault old new f n here events x most stands run (by_parser y) = go
      (fails_here g follows old.parser new.parser events x run (y.1.error.fails run.asked run.given run.history))
    where
      go : FailsHere (g.may_break new.parser.source) (kept_fault new.parser) events x
          → Stops n (g.may_break new.parser.source) here (Fails (fault_of f)) events x
      go (inl i) = at_end i.0 (ap Fails y.2 ∙ sym i.1)
      go (inr (inl m)) = early (fault_of f) refl (inl (y.2 ∙ m))
      go (inr (inr b)) = early (fault_of f) refl (inr (subst (λ (h : Fault). g.may_break new.parser.source h) (sym y.2) b))
  of_fault old new f n here events x most stands run (by_loader e parser y fails kept) = go (fails here stands)
    where
      go : EventRefused old.composer here e (fault_of f)
          → Stops n (g.may_break new.parser.source) here (Fails (fault_of f)) events x
      go (by_loads loads) =
          let r = rest_of old.parser parser e y events x run in
          at_event (fault_of f) e r.later r.all refl (rw most at loads)
      go (by_memory is needs) = early (fault_of f) refl (inl is)

  composed : (n : ℕ) (old new : ComposedEvents S) (here : State) (yielded : List Event) (ending : Ending)
      (events : List Event) (x : Ending) → entries_bound old.composer ≡ n → StandsAt old.composer here
      → RunToCome g.known old.parser events x → LoopComposes g old yielded ending new
      → Composed g.may_break new.parser n here yielded ending events x
  composed n old new here yielded ending events x most stands run (no_item y) =
      let e = nothing_after_end g.known old.parser y.0.0 events x run in
      stays new.parser n here Ends events x (at_end e.0 (sym e.1))
  composed n old new here yielded ending events x most stands run (fault f y) =
      stays new.parser n here (Fails (fault_of f)) events x (of_fault old new f n here events x most stands run y)
  composed n old new here yielded ending events x most stands run (event e later end next y more) =
      let r = rest_of old.parser next.parser e y.0 events x run in
      let step = y.1 here stands in
      let c = composed n next new step.there later end r.later x (step.bound ∙ most) step.stands r.run more in
      record {
        documents = step.documents ++ c.documents;
        there = c.there;
        leads = leads_both n here step.there c.there (e ∷ []) later step.documents c.documents (rw most at step.leads) c.leads;
        rest = c.rest;
        first = r.all ∙ ap (λ (l : List Event). e ∷ l) c.first;
        stops = c.stops;
      }

  module _ (n : ℕ) (new : Parser S) (yielded : List Event) (ending : Ending) (events : List Event) (x : Ending)
      (c : Composed g.may_break new n between yielded ending events x) where
    from_there : (rest : List Event) (y : Ending)
        → bounded_loads n (yielded ++ rest) y ≡ as_loads c.documents ++ loads_from n c.there rest y
    from_there = c.leads.loads

    faultless : (y : Ending) → bounded_loads n yielded y ≡ as_loads c.documents ++ last_load y ∷ []
    faultless y = grind (arith, append-nil, from_there, from_none)

    loads_then : (l : List Load) → loads_from n c.there c.rest x ≡ l → bounded_loads n events x ≡ as_loads c.documents ++ l
    loads_then l is = grind arith

    up_to : Stops n (g.may_break new.source) c.there ending c.rest x
        → ComposesUpTo n (g.may_break new.source) yielded c.documents ending c.rest x
    up_to (at_end none same) = all none same
    up_to (at_event f e later is ends loads) = refused f e later is ends
        (λ any y. from_there (e ∷ any) y ∙ ap (λ (l : List Load). as_loads c.documents ++ l) (loads any y))
    up_to (early f ends why) = cut_short f ends why

    loads : Stops n (g.may_break new.source) c.there ending c.rest x
        → AreLoadsOf g.may_break new c.documents ending (bounded_loads n events x)
    loads (at_end none same) = grind arith
    loads (at_event f e later is ends there) = grind arith
    loads (early f ends why) = in_turn.cut_short f ends why (loads_from n c.there c.rest x)
        (loads_then (loads_from n c.there c.rest x) refl)

    are_composed : AreComposedOf g.may_break new n yielded ending events x
    are_composed = record {
      documents = c.documents;
      rest = c.rest;
      first = c.first;
      faultless = faultless;
      up_to = up_to c.stops;
      loads = loads c.stops;
    }

  pub of_run : (n : ℕ) (old new : ComposedEvents S) (yielded : List Event) (ending : Ending) (events : List Event)
      (x : Ending) → old.composer ≡ new_event_composer n → RunToCome g.known old.parser events x
      → LoopComposes g old yielded ending new → AreComposedOf g.may_break new.parser n yielded ending events x
  of_run n old new yielded ending events x made run loop =
      are_composed n new.parser yielded ending events x
      (composed n old new between yielded ending events x (ap entries_bound made)
      (subst (λ (c : EventComposer). StandsAt c between) (sym made) (is_between refl refl)) run loop)

  pub of_list : (n : ℕ) (old new : ComposedEvents S) (yielded : List Event) (ending : Ending) (l : List Token) (f : Fault)
      (events : List Event) (x : Ending) → old.composer ≡ new_event_composer n → History old.parser [] []
      → g.known old.parser.source ≡ Some (coming l f) → IsRun l f events x → LoopComposes g old yielded ending new
      → AreComposedOf g.may_break new.parser n yielded ending events x
  of_list n old new yielded ending l f events x made history knows run =
      of_run n old new yielded ending events x made
      (record { asked = []; given = []; rest = l; fault = f; history = history; knows = knows; run = run })

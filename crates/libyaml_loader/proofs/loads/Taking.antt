-- What one call of the parser says of the events that a load takes.
use Rattle.std.proofs.Common.{◌≡◌, ◌<◌, ◌∷◌, List, [], Some, Bool, Ok, Err, true, false, refl, sym, ap, ◌∙◌, subst, arith}
use Rattle.std.proofs.lemmas.Bool.{true≢false}
use Rattle.libyaml_types.specs.declared.enums.yaml_error_type_t.{yaml_error_type_t}
use Rattle.libyaml_types.specs.declared.event.unnamed_yaml_event_t_data.{unnamed_yaml_event_t_data}
use Rattle.libyaml_types.specs.declared.mark.yaml_mark_t.{yaml_mark_t}
use Rattle.libyaml_types.specs.Events.{empty_event}
use Rattle.libyaml_events.specs.sources.Calls.{EventOrError}
use Rattle.libyaml_events.specs.sources.CallsInTurn.{CarriedOn, Took}
use Rattle.libyaml_events.specs.machine.Config.{Parser}
use Rattle.libyaml_grammar.specs.grammar.Events.{Event}
use Rattle.libyaml_types.specs.Fault.{SourceResult}
use Rattle.libyaml_events.specs.sources.History.{History, between_documents, has_failed, is_over}
use Rattle.libyaml_events.specs.sources.ParsesNext.{ParsesNext}
use Rattle.libyaml_events.specs.sources.Parsing.{CarriesOn}
use Rattle.libyaml_events.specs.sources.RunToCome.{RestOfRun, RunToCome}
use Rattle.libyaml_grammar.specs.runs.Runs.{Ending, Ends}
use Rattle.libyaml_types.specs.Source.{Follows}
use Rattle.libyaml_types.specs.declared.source.yaml_token_source_t.{Ghosts}
use Rattle.libyaml_events.specs.parsers.EventsLeft.{events_left}
use Rattle.libyaml_events.specs.parsers.OutsideEvents.{is_outside_event}
use Rattle.libyaml_events.specs.parsers.Stages.{is_event}
use Rattle.libyaml_grammar.specs.grammar.Tokens.{Token}
use Rattle.libyaml_events.proofs.exported.Histories as histories
use Rattle.libyaml_events.proofs.exported.KnownTokens.{fails_here}
use Rattle.libyaml_events.proofs.exported.Taking.{took_none, took_one}
use Rattle.libyaml_graphs.specs.graphs.GraphParts.{Closing, closing_in, closing_of}
use Rattle.libyaml_loader.specs.loads.Loading.{HasEnded, ParserFails}

outside_end : (k : unnamed_yaml_event_t_data) (m : yaml_mark_t) (c : Closing) → closing_in k m ≡ Some c
    → is_outside_event k ≡ true
outside_end k m c h = grind arith

module _ {S : Type 0} (g : Ghosts S) where
  -- an event came
  pub record Came (old new : Parser S) (e : Event) : Type 0 where
    pub took : Took g old new (e ∷ [])
    pub runs : is_over old ≡ false
    pub fell : events_left g.bound new < events_left g.bound old

  -- no event was left
  pub record FindsEnd (old new : Parser S) : Type 0 where
    pub took : Took g old new []
    pub ends : (events : List Event) (ending : Ending) → RunToCome g.known old events ending
        → (events ≡ []) × (ending ≡ Ends)
    pub stands : (asked : List Token) (given : List Event) → History old asked given → HasEnded new

  module _ (follows : (s t : S) (a : SourceResult) → g.gives s a t → Follows (g.may_break t) (g.known s) a (g.known t))
      (old new : Parser S) (r : EventOrError) where
    -- the clauses of a call
    abbrev pub Called : Type 0
    Called = ParsesNext g old r new

    module _ (c : Called) (e : Event) (is : r ≡ Ok e) where
      same : r ≡ Ok empty_event → e ≡ empty_event
      same h = grind arith

      running : is_event e.content ≡ true → is_over old ≡ false
      running an_event = go (is_over old) refl
        where
          go : (b : Bool) → is_over old ≡ b → is_over old ≡ false
          go false h = h
          go true h = absurd (true≢false (sym an_event ∙ ap (λ (x : Event). is_event x.content) (same (c.next.ended h).0)))

      carried : is_event e.content ≡ true → (asked : List Token) (given : List Event) → History old asked given
          → CarriesOn g.gives old e new asked given
      carried an_event = rw is at (c.next.carries_on (running an_event))

      took_event : is_event e.content ≡ true → Took g old new (e ∷ [])
      took_event an_event = took_one g follows old new e (carried an_event)

      pub event_came : is_event e.content ≡ true → Came old new e
      event_came an_event = record {
        took = took_event an_event;
        runs = running an_event;
        fell = rw is at (c.next.falls (running an_event));
      }

      -- after a document's end the parser stands between documents
      pub after_close : (d : Closing) → closing_of e ≡ Some d → between_documents new ≡ true
      after_close d closes = (rw is at c.always.outside) (outside_end e.content e.end_mark d closes)

      over : is_event e.content ≡ false → (asked : List Token) (given : List Event) → History old asked given
          → is_over old ≡ true
      over empty asked given history = go (is_over old) refl
        where
          go : (b : Bool) → is_over old ≡ b → is_over old ≡ true
          go true h = h
          go false h = absurd (true≢false (sym ((rw is at (c.next.carries_on h)) asked given history).an_event ∙ empty))

      pub finds_end : is_event e.content ≡ false → FindsEnd old new
      finds_end empty = record {
        took = record {
          history = λ asked given h. subst (λ (p : Parser S). CarriedOn g.gives old p asked given [])
              (sym (c.next.ended (over empty asked given h)).1) ((took_none g old).history asked given h);
          runs = λ events ending run. subst (λ (p : Parser S). RestOfRun g.known p [] events ending)
              (sym (c.next.ended (over empty run.asked run.given run.history)).1) ((took_none g old).runs events ending run);
        };
        ends = λ (events : List Event) (ending : Ending) (run : RunToCome g.known old events ending).
            let h = over empty run.asked run.given run.history in
            let s = (c.next.ended h).1 in
            c.next.nothing_after_end (ap is_over s ∙ h) events ending
            (subst (λ (p : Parser S). RunToCome g.known p events ending) (sym s) run);
        stands = λ (asked : List Token) (given : List Event) (history : History old asked given).
            let h = over empty asked given history in
            let s = (c.next.ended h).1 in
            let over : is_over new ≡ true = ap is_over s ∙ h in
            record {
              over = over;
              no_fault = ap has_failed s ∙ histories.faultless old asked given history;
              whole = histories.whole new over;
            };
      }

    pub parser_fails : Called → (x : yaml_error_type_t) → r ≡ Err x → ParserFails g old new
    parser_fails c x is = record {
      history = rw is at c.error.fails;
      no_lookahead = rw is at c.error.no_lookahead;
      depth_left = rw is at c.error.depth_left;
      runs = λ events ending run. fails_here g follows old new events ending run
          ((rw is at c.error.fails) run.asked run.given run.history);
    }

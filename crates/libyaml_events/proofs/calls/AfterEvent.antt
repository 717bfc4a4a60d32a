-- After a call that gave an event no error is kept, and no document is open where the event leaves none.
use Rattle.std.proofs.Common.{◌≡◌, ◌∙◌, ◌++◌, ◌∷◌, ◌||◌, List, [], Bool, true, false, Ok, Err, IfOk, ap, refl, arith}
use Rattle.libyaml_types.specs.declared.enums.yaml_parser_state_t.{yaml_parser_state_t}
use Rattle.libyaml_types.specs.declared.event.unnamed_yaml_event_t_data.{unnamed_yaml_event_t_data}
use Rattle.libyaml_types.specs.Events.{empty_event}
use Rattle.libyaml_types.specs.Fault.{SourceResult}
use Rattle.libyaml_grammar.specs.grammar.Events.{Event}
use Rattle.libyaml_grammar.specs.grammar.Tokens.{Token}
use Rattle.libyaml_events.specs.machine.Config.{Parser, is_between, is_end_state}
use Rattle.libyaml_events.specs.parsers.OutsideEvents.{is_outside_event}
use Rattle.libyaml_events.specs.parsers.Stages.{Stage, after, at_start, is_event, is_outside, stage_of}
use Rattle.libyaml_events.specs.sources.Calls.{Call, EventOrError, ParsesIf}
use Rattle.libyaml_events.specs.sources.History.{Remembers, between_documents, has_failed, is_over}
use Rattle.libyaml_events.specs.sources.Parsing.{CarriesOn}
use Rattle.libyaml_events.proofs.calls.Parsed.{carried_on}
use Rattle.libyaml_events.proofs.calls.Remembering.{its_history}
use Rattle.libyaml_events.proofs.calls.StageFacts.{stage_snoc, staged_between}
use Rattle.libyaml_events.proofs.exported.Histories as histories
use Rattle.libyaml_events.proofs.pushes.HistoryInvariant.{ran_staged}

over_between : (b : Bool) (s : yaml_parser_state_t) → (b || is_end_state s) ≡ true
    → (b || is_between s) ≡ true
over_between b s h = grind arith

not_empty : (e : Event) → ◌≡◌ {A = EventOrError} (Ok e) (Ok empty_event) → is_event e.content ≡ true → ⊥
not_empty e h k = grind arith

outside_after : (st : Stage) (e : unnamed_yaml_event_t_data) → is_event e ≡ true → is_outside_event e ≡ true
    → is_outside (after st e) ≡ true
outside_after st e h k = grind arith

module _ {S : Type 0} (gives : S → SourceResult → S → Type 0) (old new : Parser S)
    (remembered : Remembers old) where
  -- the parser had ended, or it goes on
  either : (e : Event) (h : Call gives old (Ok e) new) (P : Type 0)
      → (is_over old ≡ true → ParsesIf true old.config h.asked (Ok e) new.config → P)
      → ((asked : List Token) (given : List Event) → CarriesOn gives old e new asked given → P) → P
  either e h P over goes_on = by (is_over old) refl h.does
    where
      by : (b : Bool) → is_over old ≡ b → ParsesIf b old.config h.asked (Ok e) new.config → P
      by true i x = over i x
      by false i x = let (asked, given, ran) = its_history old remembered i in
          goes_on asked given (carried_on gives old new (Ok e) h i asked given ran)

  pub faultless : (r : EventOrError) → Call gives old r new
      → IfOk r (λ e. is_event e.content ≡ true → has_failed new ≡ false)
  faultless (Err x) h = tt
  faultless (Ok e) h = λ k. either e h (has_failed new ≡ false) (λ i x. absurd (not_empty e x.1 k))
      (λ asked given c. histories.faultless new (asked ++ c.more) (given ++ e ∷ []) c.history)

  pub stands_outside : (r : EventOrError) → Call gives old r new
      → IfOk r (λ e. is_outside_event e.content ≡ true → between_documents new ≡ true)
  stands_outside (Err x) h = tt
  stands_outside (Ok e) h = λ k. either e h (between_documents new ≡ true)
      (λ i x. rw (← x.2) at (over_between (has_failed old) old.config.machine.state i))
      (λ asked given c. staged_between new.config (given ++ e ∷ []) (ran_staged c.history)
      ∙ (ap is_outside (stage_snoc at_start given e)
      ∙ outside_after (stage_of given) e.content c.an_event k))

-- How the steps of a push take the token.
use Rattle.std.proofs.Common.{◌≡◌, ◌≤◌, ◌<◌, ◌+◌, arith, ◌++◌, ◌∷◌, List, [], length, Option, Some, None, Ok, Err, Bool, true, false, refl, sym, ap, ◌∙◌, subst, append_assoc, append-nil}
use Rattle.std.proofs.lemmas.Bool.{both_ways}
use Rattle.libyaml_types.specs.declared.enums.yaml_error_type_t.{yaml_error_type_t}
use Rattle.libyaml_types.specs.declared.enums.yaml_error_type_t.TheVariants.{YAML_MEMORY_ERROR, YAML_PARSER_ERROR}
use Rattle.libyaml_types.specs.declared.enums.yaml_parser_state_t.TheVariants.{YAML_PARSE_END_STATE}
use Rattle.libyaml_types.specs.Fault.{memory_fault}
use Rattle.libyaml_grammar.specs.grammar.Tokens.{Token}
use Rattle.libyaml_grammar.specs.grammar.Events.{Event}
use Rattle.libyaml_events.specs.machine.Config.{Config, Machine, holding, token_if, ended_or_failed}
use Rattle.libyaml_events.specs.machine.Growth.{may_grow}
use Rattle.libyaml_events.specs.machine.Machine.{Progressed, step}
use Rattle.libyaml_events.specs.machine.Steps.{FailsAs, Steps}
use Rattle.libyaml_events.specs.machine.StepsOnto.{FailsOnto}
use Rattle.libyaml_events.specs.machine.Want.{Want, AtState, Given, Wants}
use Rattle.libyaml_events.specs.parsers.EventsLeft.{rank}
use Rattle.libyaml_events.specs.parsers.Left.{without_stacks}
use Rattle.libyaml_events.specs.sources.Pushed.{Fed, push_parser_at}
use Rattle.libyaml_events.proofs.pushes.Steps.{gives_on, takes, wants}
use Rattle.libyaml_events.specs.sources.Pushes.{Stops, Takes, by_grammar, by_memory, for_event, for_step}
use Rattle.libyaml_events.proofs.calls.CallLemmas.{begun_alive}
use Rattle.libyaml_events.proofs.calls.Measure.{falls_on}
use Rattle.libyaml_events.proofs.calls.Parsed.{has_failed}
use Rattle.libyaml_events.proofs.machine.StepKinds.{room}
use Rattle.libyaml_events.proofs.machine.MachinePosition.{Leads, Links}
use Rattle.libyaml_events.proofs.pushes.HistoryInvariant.{InHand, Running, fed_to, has_ended, running, runs}
use Rattle.libyaml_events.proofs.pushes.AtMostFourEvents.{at_most_four}
use Rattle.libyaml_events.proofs.exported.OneOutcome.{failed_run}

-- a step that gives an event after which the token stays leaves less
pub step_falls : (w : Want) (c : Machine) (u : Token) (e : Event) (d : Machine) (v : Token)
    → step w c u ≡ Ok (Given e (holding (Some v) d))
    → length d.states + rank d.state v.content < length c.states + room w c u.content
step_falls w c u e d v h = rw h at (falls_on w c u)

-- within a push, with the token u in hand: these events were added
pub record Taking (w0 : Want) (c0 : Machine) (t : Token) (before : List Event) (w : Want) (c : Machine) (u : Token)
    (now : List Event) : Type 0 where
  pub begun : ended_or_failed c0 ≡ false
  pub alive : c.state ≡ YAML_PARSE_END_STATE → ⊥
  pub added : List Event
  pub appended : now ≡ before ++ added
  pub fed : (l : List Token) (g : List Event) → Fed w0 c0 None l g → Fed w c (Some u) (l ++ t ∷ []) (g ++ added)
  pub at_most_four : (l : List Token) (g : List Event) → Fed w0 c0 None l g → length added ≤ 4

pub taking_begins : (w : Want) (c : Machine) (t : Token) (before : List Event) → ended_or_failed c ≡ false
    → Taking w c t before w c t before
taking_begins w c t before h = record {
  begun = h;
  alive = begun_alive c h;
  added = [];
  at_most_four = λ l g f. omega arith;
  appended = sym (append-nil before);
  fed = λ l g f. takes w c l (g ++ []) t (subst (λ (x : List Event). Fed w c None l x) (sym (append-nil g)) f) h;
}

module _ (Full : Type 0) (w0 : Want) (c0 : Machine) (t : Token) (before : List Event) (w : Want)
    (old : Machine) (u : Token) (now : List Event)
    (k : Taking w0 c0 t before w old u now) where
  -- a further token is wanted
  pub wants_next : (w' : Want) (new : Machine) → step w old u ≡ Ok (Wants w' new)
      → Takes Full (push_parser_at w0 c0) t before (Ok tt) (push_parser_at w' new) now
  wants_next w' new h = record {
    added = k.added;
    appended = k.appended;
    at_most_four = k.at_most_four;
    ends_so =
        λ l g f. wants w old u (k.fed l g f) h;
  }

  -- the step failed
  pub fails : (x : yaml_error_type_t) (w' : Want) (new : Machine) → Steps (step w old u) (Err x) new
      → (x ≡ YAML_MEMORY_ERROR → may_grow w old u.content ≡ true)
      → Takes Full (push_parser_at w0 c0) t before (Err x) (push_parser_at w' (without_stacks new)) now
  fails x w' new h grows = record {
    added = k.added;
    appended = k.appended;
    at_most_four = k.at_most_four;
    ends_so =
        λ l g f. by l g f x grows h;
  }
    where
      by : (l : List Token) (g : List Event) → Fed w0 c0 None l g → (x : yaml_error_type_t)
          → (x ≡ YAML_MEMORY_ERROR → may_grow w old u.content ≡ true) → FailsAs new (step w old u) x
          → Stops Full (l ++ t ∷ []) (g ++ k.added) new.fault
      by l g f YAML_MEMORY_ERROR m i = by_memory i w old u (k.fed l g f) (for_step (m refl))
      by l g f YAML_PARSER_ERROR m i =
          let failed = has_failed (l ++ t ∷ []) (g ++ k.added) new.fault
          (subst (λ (o : Progressed). Leads o (l ++ t ∷ []) (g ++ k.added)) i.0 (fed_to (k.fed l g f)).leads) in
          by_grammar failed (λ more s. failed_run (l ++ t ∷ []) (g ++ k.added) new.fault more s failed)
      by l g f _ m i = absurd i

  -- an event is given that finds no room
  pub no_room : (e : Event) (mid : Config) → step w old u ≡ Ok (Given e mid)
      → (w' : Want) (d : Machine) → d.fault ≡ memory_fault
      → Full → Takes Full (push_parser_at w0 c0) t before (Err YAML_MEMORY_ERROR) (push_parser_at w' d) now
  no_room e mid h w' d i full = record {
    added = k.added;
    appended = k.appended;
    at_most_four = k.at_most_four;
    ends_so = λ l g f. by_memory i w old u (k.fed l g f) (for_event e mid h full);
  }

  -- a step failed that appends its event
  pub fails_onto : (Room : Type 0) → (Room → Full)
      → (x : yaml_error_type_t) (w' : Want) (new : Machine) (more : List Event) → FailsOnto Room w old u x new
      → more ≡ now → Takes Full (push_parser_at w0 c0) t before (Err x) (push_parser_at w' (without_stacks new)) more
  fails_onto Room full x w' new more f m = grind (arith, fails, no_room)

  -- an event is given
  module _ (e : Event) (o : Option Token) (d : Machine) (h : step w old u ≡ Ok (Given e (holding o d))) (more : List Event)
      (m : more ≡ now ++ e ∷ []) where
    pub all_added : more ≡ before ++ (k.added ++ e ∷ [])
    all_added = m ∙ (ap (λ (x : List Event). x ++ e ∷ []) k.appended ∙ append_assoc before k.added (e ∷ []))

    pub given_fed : (l : List Token) (g : List Event) → Fed w0 c0 None l g
        → Fed AtState d o (l ++ t ∷ []) (g ++ (k.added ++ e ∷ []))
    given_fed l g f = subst (λ (x : List Event). Fed AtState d o (l ++ t ∷ []) x) (append_assoc g k.added (e ∷ []))
        (gives_on w old u (k.fed l g f) e (holding o d) h)

    given_few : (l : List Token) (g : List Event) → Fed w0 c0 None l g → length (k.added ++ e ∷ []) ≤ 4
    given_few l g f = by (fed_to f).running
      where
        links : Links (holding o d) (l ++ t ∷ []) (g ++ (k.added ++ e ∷ []))
        links = subst (Links (holding o d) (l ++ t ∷ [])) (append_assoc g k.added (e ∷ []))
            (subst (λ (o : Progressed). Leads o (l ++ t ∷ []) (g ++ k.added)) h (fed_to (k.fed l g f)).leads)

        by : Running w0 c0 l g → length (k.added ++ e ∷ []) ≤ 4
        by (runs i s) = at_most_four l g w0 c0 t (k.added ++ e ∷ []) (holding o d) s links
        by (has_ended i m) = absurd (both_ways (ended_or_failed c0) k.begun i)

    -- and the token stays
    pub goes_on : (v : Token) → o ≡ Some v → ended_or_failed d ≡ false
        → Taking w0 c0 t before AtState d v more
    goes_on v i r = record {
      begun = k.begun;
      alive = begun_alive d r;
      added = k.added ++ e ∷ [];
      appended = all_added;
      fed = rw i at given_fed;
      at_most_four = given_few;
    }

    -- or none is held, or the stream has ended
    pub is_done : (held : Bool) (v : Token) → o ≡ token_if held v
        → (held ≡ true → ended_or_failed d ≡ true)
        → Takes Full (push_parser_at w0 c0) t before (Ok tt) (push_parser_at AtState d) more
    is_done false v i r = record {
      added = k.added ++ e ∷ [];
      appended = all_added;
      at_most_four = given_few;
      ends_so = rw i at given_fed;
    }
    is_done true v i r = record {
      added = k.added ++ e ∷ [];
      appended = all_added;
      at_most_four = given_few;
      ends_so = λ l g f.
          let b : InHand AtState d v (l ++ t ∷ []) (g ++ (k.added ++ e ∷ [])) = fed_to (rw i at (given_fed l g f)) in
          absurd (both_ways (ended_or_failed d) (running d b.good.1 b.alive) (r refl));
    }

-- The tokens of a list pushed in turn.
use Rattle.std.proofs.Common.{◌≡◌, ◌⊎◌, inl, inr, ◌++◌, ◌∷◌, List, [], length, Result, Bool, true, false, Ok, Err, refl, sym, ap, ◌∙◌, subst, append_assoc}
use Rattle.std.proofs.lemmas.List.{append-nil}
use Rattle.std.specs.Result.{is_err}
use Rattle.libyaml_types.specs.declared.event.yaml_event_t.{yaml_event_t}
use Rattle.libyaml_types.specs.declared.token.yaml_token_t.{yaml_token_t}
use Rattle.libyaml_types.specs.declared.fault.yaml_parser_t_prefix.{yaml_parser_t_prefix}
use Rattle.libyaml_types.specs.Fault.{Fault}
use Rattle.libyaml_grammar.specs.runs.Runs.{Ends, Fails, IsRun}
use Rattle.libyaml_grammar.specs.grammar.ValidLists.{has_end}
use Rattle.libyaml_events.specs.sources.Pushed.{ForPushed, Pushed, PushParser, fault_in, has_stopped, keeps_fault}
use Rattle.libyaml_events.specs.sources.Pushes.{Done, Pushes, Stops, Takes, by_grammar, by_memory, done_if, done_of}
use Rattle.example_theorems.specs.Answer.{FailsSo, GivesRun}

abbrev Tokens : Type 0
Tokens = List yaml_token_t

abbrev Events : Type 0
Events = List yaml_event_t

-- a push with its whole error fails if the push with the error's kind does
pub is_err_of : (r : Result (Unit {0}) yaml_parser_t_prefix) → is_err (done_of r) ≡ is_err r
is_err_of (Ok u) = refl
is_err_of (Err f) = refl

-- after some tokens of a list: those that were taken, and those after the stream's end
pub record Turn (p : PushParser) (all : Tokens) (events : Events) : Type 0 where
  pub taken : Tokens
  pub later : Tokens
  pub parts : all ≡ taken ++ later
  pub pushed : Pushed p taken events
  pub none_or_end : (later ≡ []) ⊎ (has_stopped p ≡ true)

pub first_turn : (p : PushParser) → Pushed p [] [] → Turn p [] []
first_turn p h = record { taken = []; later = []; parts = refl; pushed = h; none_or_end = inl refl }

module _ (Full : Type 0) (old : PushParser) (t : yaml_token_t) (all : Tokens) (events : Events)
    (turn : Turn old all events) (new : PushParser) (after : Events) where
  ended_turn : has_stopped old ≡ true → new ≡ old → after ≡ events → Turn new (all ++ t ∷ []) after
  ended_turn h e f = record {
    taken = turn.taken;
    later = turn.later ++ t ∷ [];
    parts = ap (λ (x : Tokens). x ++ t ∷ []) turn.parts ∙ append_assoc turn.taken turn.later (t ∷ []);
    pushed = subst (λ (x : PushParser). Pushed x turn.taken after) (sym e)
        (subst (Pushed old turn.taken) (sym f) turn.pushed);
    none_or_end = inr (ap has_stopped e ∙ h);
  }

  no_end : (has_stopped old ≡ false) → all ≡ turn.taken
  no_end h = go turn.none_or_end
    where
      never : true ≡ false → ⊥
      never i = cc

      go : (turn.later ≡ []) ⊎ (has_stopped old ≡ true) → all ≡ turn.taken
      go (inl e) = turn.parts ∙ (ap (λ (x : Tokens). turn.taken ++ x) e ∙ append-nil turn.taken)
      go (inr e) = absurd (never (sym e ∙ h))

  -- a push without an error
  pub next_turn : (r : Done) → is_err r ≡ false → Pushes Full old t events r new after → Turn new (all ++ t ∷ []) after
  next_turn (Err x) k p = absurd cc
  next_turn (Ok u) k p = go (has_stopped old) refl
    where
      go : (b : Bool) → has_stopped old ≡ b → Turn new (all ++ t ∷ []) after
      go true h = let s = p.stopped h in ended_turn h s.0 s.1
      go false h =
          let f : Takes Full old t events (Ok u) new after = p.takes h in
          record {
            taken = turn.taken ++ t ∷ [];
            later = [];
            parts = ap (λ (x : Tokens). x ++ t ∷ []) (no_end h) ∙ sym (append-nil (turn.taken ++ t ∷ []));
            pushed = subst (Pushed new (turn.taken ++ t ∷ [])) (sym f.appended) (f.ends_so turn.taken events turn.pushed);
            none_or_end = inl refl;
          }

  -- a push with an error
  pub failed_turn : ((q : PushParser) → ForPushed q (λ _ _. keeps_fault q ≡ false)) → (r : Done) → is_err r ≡ true
      → Pushes Full old t events r new after
      → (rest : Tokens) (source : Fault) → FailsSo (all ++ t ∷ rest) source (fault_in new)
  failed_turn faultless (Ok u) k p rest source = absurd cc
  failed_turn faultless (Err x) k p rest source = go (has_stopped old) refl
    where
      never : (f : Fault) (b : Bool) → b ≡ false → ◌≡◌ {A = Done} (Err x) (done_if b f) → ⊥
      never f false e i = cc
      never f true e i = cc

      so : Stops Full (turn.taken ++ t ∷ []) after (fault_in new) → all ≡ turn.taken
          → FailsSo (all ++ t ∷ rest) source (fault_in new)
      so (by_memory e w c u f m) i = inl e
      so (by_grammar e runs) i = inr (
        after,
        subst (λ (y : Tokens). IsRun y source after (Fails (fault_in new)))
            (append_assoc turn.taken (t ∷ []) rest ∙ ap (λ (y : Tokens). y ++ t ∷ rest) (sym i)) (runs rest source),
      )

      go : (b : Bool) → has_stopped old ≡ b → FailsSo (all ++ t ∷ rest) source (fault_in new)
      go true h = absurd (never (fault_in old) (keeps_fault old) (faultless old turn.taken events turn.pushed)
          (p.stopped h).2)
      go false h =
          let f : Takes Full old t events (Err x) new after = p.takes h in
          so (subst (λ (y : Events). Stops Full (turn.taken ++ t ∷ []) y (fault_in new)) (sym f.appended)
          (f.ends_so turn.taken events turn.pushed)) (no_end h)

-- after all tokens
pub last_turn : (p : PushParser) (all : Tokens) (events : Events) → Turn p all events
    → ((q : PushParser) → ForPushed q (λ tokens _. has_stopped q ≡ has_end tokens))
    → ((q : PushParser) → ForPushed q (λ tokens events. has_end tokens ≡ false → (source : Fault)
    → IsRun tokens source events (Fails source)))
    → ((q : PushParser) → ForPushed q (λ tokens events. has_end tokens ≡ true → (more : Tokens) (source : Fault)
    → IsRun (tokens ++ more) source events Ends))
    → (source : Fault) → GivesRun all source events
last_turn p all events turn ended so_far run source = go (has_end turn.taken) refl
  where
    go : (b : Bool) → has_end turn.taken ≡ b → GivesRun all source events
    go true h = inl (subst (λ (y : Tokens). IsRun y source events Ends) (sym turn.parts)
        (run p turn.taken events turn.pushed h turn.later source))
    go false h = inr (by turn.none_or_end)
      where
        never : true ≡ false → ⊥
        never i = cc

        by : (turn.later ≡ []) ⊎ (has_stopped p ≡ true) → IsRun all source events (Fails source)
        by (inl e) = subst (λ (y : Tokens). IsRun y source events (Fails source))
            (sym (turn.parts ∙ (ap (λ (x : Tokens). turn.taken ++ x) e ∙ append-nil turn.taken)))
            (so_far p turn.taken events turn.pushed h source)
        by (inr e) = absurd (never (sym e ∙ (ended p turn.taken events turn.pushed ∙ h)))

-- the list goes on by its next token
pub goes_by : (list done rest : Tokens) {t : yaml_token_t} (left : Tokens) → list ≡ done ++ rest → rest ≡ t ∷ left
    → list ≡ done ++ t ∷ left
goes_by list done rest left e f = e ∙ ap (λ (x : Tokens). done ++ x) f

-- or it has none
pub none_left : (list done rest : Tokens) → list ≡ done ++ rest → length rest ≡ 0 → list ≡ done
none_left list done [] e f = e ∙ append-nil done
none_left list done (t ∷ rest) e f = absurd cc

-- What our machine does in a call, of a list that it is handed token by token and then an error.
use Rattle.std.proofs.Common.{◌≡◌, ◌∷◌, ◌++◌, List, [], Option, Some, None, Ok, Err, false, append-nil, append_assoc, refl, sym, subst, ◌∙◌}
use Rattle.libyaml_types.specs.Fault.{Fault}
use Rattle.libyaml_grammar.specs.runs.Runs.{Fails, IsRun}
use Rattle.libyaml_grammar.specs.grammar.Events.{Event}
use Rattle.libyaml_grammar.specs.grammar.Tokens.{Token}
use Rattle.libyaml_events.specs.machine.Config.{Config, Machine, ended_or_failed}
use Rattle.libyaml_events.specs.machine.Machine.{Progressed, step}
use Rattle.libyaml_events.specs.machine.Want.{AtState, Given, Want, Wants}
use Rattle.libyaml_events.specs.sources.History.{is_stream_end}
use Rattle.libyaml_events.specs.sources.Pushed.{Fed}
use Rattle.libyaml_events.proofs.exported.Pushes as push_lemmas
use Rattle.libyaml_events.proofs.exported.Pushes.{fault_runs, fed_ended, fed_determined, gives_end, wants_runs}
use Rattle.libyaml_events.proofs.exported.RunStops.{short_run}
use Rattle.rust_original.proofs.parser.Relation.{HereCall, feed, given, led, stopped, tokens_of}

module _ (f : Fault) where
  -- From where it was handed l and gave g it takes some of the tokens and gives an event, or has the run's error.
  pub data Does (l : List Token) (g : List Event) (rest : List Token) : HereCall → Type 0 where
    gives : {e : Event} {d : Config} {r : List Token} (more : List Token) → rest ≡ more ++ r
        → Fed AtState d.machine d.lookahead (l ++ more) (g ++ e ∷ []) → ended_or_failed d.machine ≡ is_stream_end e
        → Does l g rest (given e d r)
    fails : {x : Fault} → IsRun (l ++ rest) f g (Fails x) → Does l g rest (stopped x)

  one_more : {l rest : List Token} {g : List Event} (t : Token) {o : HereCall} → Does (l ++ t ∷ []) g rest o
      → Does l g (t ∷ rest) o
  one_more {l} {rest} {g} t (gives {e} {d} more i h n)
      = gives (t ∷ more) (cc)
      (subst (λ (y : List Token). Fed AtState d.machine d.lookahead y (g ++ e ∷ [])) (append_assoc l (t ∷ []) more) h) n
  one_more {l} {rest} {g} t (fails {x} run)
      = fails (subst (λ (y : List Token). IsRun y f g (Fails x)) (append_assoc l (t ∷ []) rest) run)

  abbrev DoesFrom : List Token → Type 0
  DoesFrom rest = (w : Want) (c : Machine) (l : List Token) (g : List Event) → Fed w c None l g
      → ended_or_failed c ≡ false → Does l g rest (feed f w c rest)

  -- with a token in hand
  by_hand : (rest : List Token) → DoesFrom rest → (w : Want) (c : Machine) (u : Token) (l : List Token) (g : List Event)
      → Fed w c (Some u) l g → Does l g rest (led (step w c u) rest (λ v d. feed f v d rest))
  by_hand rest next w c u l g h = go (step w c u) refl
    where
      go : (o : Progressed) → step w c u ≡ o → Does l g rest (led o rest (λ v d. feed f v d rest))
      go (Err x) i = fails (fault_runs h x i rest f)
      go (Ok (Wants v d)) i = next v d l g (push_lemmas.wants w c u h i) (wants_runs h v d i)
      go (Ok (Given e d)) i
          = gives [] refl (rw (← (append-nil l)) at (push_lemmas.gives_on w c u h e d i)) (gives_end h e d i)

  by_tokens : (rest : List Token) → DoesFrom rest
  by_tokens [] w c l g h n = fails (rw (← (append-nil l)) at (short_run l g f (fed_determined h (sym (fed_ended h) ∙ n))))
  by_tokens (t ∷ rest) w c l g h n
      = one_more t (by_hand rest (by_tokens rest) w c t (l ++ t ∷ []) g (push_lemmas.takes w c l g t h n))

  pub does : (d : Config) (rest l : List Token) (g : List Event) → Fed AtState d.machine d.lookahead l g
      → ended_or_failed d.machine ≡ false → Does l g rest (feed f AtState d.machine (tokens_of d.lookahead rest))
  does d rest l g h n = go d.lookahead h
    where
      go : (o : Option Token) → Fed AtState d.machine o l g
          → Does l g rest (feed f AtState d.machine (tokens_of o rest))
      go None h = by_tokens rest AtState d.machine l g h n
      go (Some u) h = by_hand rest (by_tokens rest) AtState d.machine u l g h

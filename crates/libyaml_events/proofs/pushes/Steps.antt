-- One more step of a machine that is handed its tokens.
use Rattle.std.proofs.Common.{◌≡◌, ◌++◌, ◌∷◌, List, [], Some, None, Ok, false, refl, sym, subst}
use Rattle.libyaml_grammar.specs.grammar.Tokens.{Token}
use Rattle.libyaml_grammar.specs.grammar.Events.{Event}
use Rattle.libyaml_events.specs.machine.Config.{Config, Machine, ended_or_failed, start}
use Rattle.libyaml_events.specs.machine.Machine.{Progressed, step}
use Rattle.libyaml_events.specs.machine.Want.{Want, AtState, Given, Wants}
use Rattle.libyaml_events.specs.sources.Pushed.{Fed}
use Rattle.libyaml_events.specs.sources.Trace.{Moment, Next, Reached, StepLeads, Trace, after_event, amid, goes_on, here}

pub and_then : {a b c : Moment} → Trace a b → Next b c → Trace a c
and_then here n = goes_on n here
and_then (goes_on m t) n = goes_on m (and_then t n)

pub begins : Fed AtState start None [] []
begins = goes_on refl here

pub takes : (w : Want) (c : Machine) (l : List Token) (g : List Event) (t : Token) → Fed w c None l g
    → ended_or_failed c ≡ false → Fed w c (Some t) (l ++ t ∷ []) g
takes w c l g t f h = and_then f (h, (t, refl))

module _ (w : Want) (c : Machine) (t : Token) {l : List Token} {g : List Event} (f : Fed w c (Some t) l g) where
  pub wants : {v : Want} {d : Machine} → step w c t ≡ Ok (Wants v d) → Fed v d None l g
  wants {v} {d} i = and_then f (subst (λ (o : Progressed). StepLeads o l g (amid v d None l g)) (sym i) refl)

  pub gives : (e : Event) (d : Config) → step w c t ≡ Ok (Given e d) → Reached (after_event d l (g ++ e ∷ []))
  gives e d i = and_then f (subst (λ (o : Progressed). StepLeads o l g (after_event d l (g ++ e ∷ []))) (sym i) refl)

  -- the token stays in hand, or a further one is wanted
  pub gives_on : (e : Event) (d : Config) → step w c t ≡ Ok (Given e d)
      → Fed AtState d.machine d.lookahead l (g ++ e ∷ [])
  gives_on e d i = and_then (gives e d i) refl

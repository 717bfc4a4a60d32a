-- What a load says of the run that is to come.
use Rattle.std.proofs.Common.{◌≡◌, ◌++◌, ◌∷◌, List, [], Ok, Err, IfErr, false, true, refl, sym, ap, ◌∙◌, subst, inl, inr, length, arith, length-append, append-nil}
use Rattle.libyaml_types.specs.declared.enums.yaml_error_type_t.{yaml_error_type_t}
use Rattle.libyaml_documents.specs.Documents.{Document}
use Rattle.libyaml_events.specs.machine.Config.{Parser}
use Rattle.libyaml_grammar.specs.grammar.Events.{Event}
use Rattle.libyaml_types.specs.Fault.{Fault}
use Rattle.libyaml_events.specs.sources.History.{is_over, has_failed, kept_fault}
use Rattle.libyaml_grammar.specs.runs.Runs.{Ending}
use Rattle.libyaml_events.specs.sources.RunToCome.{FailsHere, RestOfRun, RunToCome, UnlessBroken, breaks, does, no_memory}
use Rattle.libyaml_events.proofs.exported.Histories as histories
use Rattle.libyaml_types.specs.declared.source.yaml_token_source_t.{Ghosts}
use Rattle.libyaml_graphs.specs.loads.Loads.{Load, last_load}
use Rattle.libyaml_loader.specs.loads.Loading.{DocumentOrError, LoadsFrom, at_end, by_loader, by_memory, by_parser, whole}
use Rattle.libyaml_loader.specs.loads.NextLoad.{Answers, LoadOfRun}

nothing_more : (a b : List Event) → a ++ b ≡ a → b ≡ []
nothing_more a [] e = refl
nothing_more a (x ∷ b) e = absurd (omega (arith, ap length e, length-append a (x ∷ b)))

module _ {S : Type 0} (g : Ghosts S) (load : List Event → Ending → Load) (left : List Event → List Event) where
  pub load_of_run : (old new : Parser S) (r : DocumentOrError) (events : List Event) (ending : Ending)
      → RunToCome g.known old events ending
      → LoadsFrom g load left old r new → LoadOfRun g load left r new events ending
  load_of_run old new (Ok d) events ending run (whole taken took gives_it leaves stands) =
      let l = took.runs events ending run in (
        ap (λ (e : List Event). load e ending) l.all ∙ gives_it l.later ending,
        subst (λ (e : List Event). RunToCome g.known new e ending) (sym (ap left l.all ∙ leaves l.later)) l.run,
      )
  load_of_run old new (Ok d) events ending run (at_end taken took gives_it leaves ends is stands) =
      let l = took.runs events ending run in
      let e = ends events ending run in
      let none : l.later ≡ [] = nothing_more taken l.later (sym l.all ∙ e.0) in (
        ap (λ (x : List Event). load x ending) e.0 ∙ gives_it ending ∙ ap last_load e.1
            ∙ ap (λ (x : Document). Ok x) (sym is),
        subst (λ (x : List Event). RunToCome g.known new x ending) (none ∙ sym leaves ∙ ap left (sym e.0)) l.run,
      )
  load_of_run old new (Err y) events ending run (by_parser taken parser took fails gives_it) =
      here (fails.runs l.later ending l.run)
    where
      l : RestOfRun g.known parser taken events ending
      l = took.runs events ending run

      here : FailsHere (g.may_break new.source) (kept_fault new) l.later ending
          → LoadOfRun g load left (Err y) new events ending
      here (inl h) = inl (ap (λ (x : List Event). load x ending)
          (l.all ∙ ap (λ (x : List Event). taken ++ x) h.0 ∙ append-nil taken) ∙ gives_it ending
          ∙ ap last_load h.1)
      here (inr h) = inr h
  load_of_run old new (Err y) events ending run (by_loader before e parser took f keeps waits gives_it) =
      let l = took.runs events ending run in
      inl (ap (λ (x : List Event). load x ending) l.all ∙ gives_it l.later ending
      ∙ ap (λ (p : Parser S). Err (kept_fault p)) (sym (keeps l.run.asked l.run.given l.run.history)))
  load_of_run old new (Err y) events ending run (by_memory before e parser took keeps grows) = grind arith

  pub next_load : (old new : Parser S) (r : DocumentOrError)
      → IfErr r (λ (x : yaml_error_type_t). (x ≡ (kept_fault new).error) × (is_over new ≡ true))
      → (has_failed old ≡ false → LoadsFrom g load left old r new)
      → (events : List Event) (ending : Ending) → RunToCome g.known old events ending
      → UnlessBroken g.may_break r new (Answers g.known (load events ending) r new (left events) ending)
  next_load old new r kept loads events ending run
      = go r kept (load_of_run old new r events ending run (loads (histories.faultless old run.asked run.given run.history)))
    where
      event_result : (l : Load) (q : DocumentOrError) → load events ending ≡ l → Answers g.known l q new (left events) ending
          → UnlessBroken g.may_break q new (Answers g.known (load events ending) q new (left events) ending)
      event_result l q e h = does (subst (λ (m : Load). Answers g.known m q new (left events) ending) (sym e) h)

      go : (q : DocumentOrError) → IfErr q (λ (x : yaml_error_type_t). (x ≡ (kept_fault new).error) × (is_over new ≡ true))
          → LoadOfRun g load left q new events ending
          → UnlessBroken g.may_break q new (Answers g.known (load events ending) q new (left events) ending)
      go (Ok d) k h = event_result (Ok d) (Ok d) h.0 (refl, h.1)
      go (Err y) k (inl h) = event_result (Err (kept_fault new)) (Err y) h (ap (λ (x : yaml_error_type_t). Err x) k.0, refl)
      go (Err y) k (inr (inl m)) = no_memory (ap (λ (x : yaml_error_type_t). Err x) (k.0 ∙ ap (λ (f : Fault). f.error) m)) m
      go (Err y) k (inr (inr b)) = breaks (kept_fault new) b (ap (λ (x : yaml_error_type_t). Err x) k.0) refl

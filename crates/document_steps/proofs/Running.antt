-- A run of calls leads where the loader's machine does.
use Rattle.std.proofs.Common.{◌≡◌, ◌++◌, ◌∷◌, List, [], ℕ, refl, sym, ap, subst, ◌∙◌, Err, true≢false, append-nil, length, arith}
use Rattle.libyaml_grammar.specs.grammar.Events.{Event}
use Rattle.libyaml_grammar.specs.runs.Runs.{Ending}
use Rattle.libyaml_documents.specs.Documents.{Document}
use Rattle.libyaml_graphs.specs.loads.Bounds.{bounded_loads}
use Rattle.libyaml_graphs.specs.loads.Leads.{as_loads}
use Rattle.libyaml_graphs.specs.loads.Loads.{Load, last_load}
use Rattle.libyaml_graphs.specs.machine.Loader.{between}
use Rattle.libyaml_composer.specs.declared.composer.composer_t.{composer_t}
use Rattle.libyaml_composer.specs.declared.deed.Deed.{Deed}
use Rattle.libyaml_composer.specs.declared.deed.Deed.TheVariants as deed
use Rattle.libyaml_composer.specs.declared.records.open_t.{open_t}
use Rattle.libyaml_composer.specs.declared.records.place_t.{place_t}
use Rattle.libyaml_composer.specs.Composing.{Composer, composer_of, told}
use Rattle.libyaml_composer.specs.DocumentSoFar.{DocumentSoFar, deed_fault, nothing_held, loader_state, IsRefused}
use Rattle.libyaml_composer.proofs.exported.Deeds.{represents_roomy}
use Rattle.libyaml_composer.proofs.exported.Standing.{Stood, refuses, stands_on}
use Rattle.libyaml_graphs.proofs.exported.Leading.{from_none, leads_none}
use Rattle.document_steps.specs.Runs.{ComposeCalls, IsTaken, ComposerRun, begins, moves, takes}

not_both : (d : Deed) → IsTaken d → IsRefused d → ⊥
not_both d t r = grind arith

not_full : (d : Deed) → IsTaken d → d ≡ deed.FullStack → ⊥
not_full d t e = grind arith

pub stood : {most : ℕ} (d : composer_t) (ss : List open_t) (h : DocumentSoFar) (es : List Event) (ds : List Document)
    → ComposerRun most d ss h es ds → Stood most (composer_of d ss) h es ds
stood {most} d ss _ _ _ (begins _ _ is) = subst (λ (c : Composer). Stood most c nothing_held [] []) (sym is) (record {
  bound = refl;
  leads = leads_none most between;
  standing = λ w. absurd (true≢false (sym w));
})
stood {most} d' ss' h es ds (moves d _ ss _ _ _ _ run is) =
    let s = stood d ss h es ds run in
    subst (λ (c : Composer). Stood most c h es ds) (sym is) (record {
      bound = s.bound;
      leads = s.leads;
      standing = λ w. let (o, there) = s.standing w in (o, represents_roomy (composer_of d ss) h o (length ss') there);
    })
stood {most} _ _ _ _ _ (takes d d' ss ss' h es ds a e p p' run calls taken) =
    stands_on most (composer_of d ss) h es ds (stood d ss h es ds run) e p (told a p' (composer_of d' ss')) calls
    (not_both a taken, not_full a taken)

pub all_loads : {most : ℕ} (d : composer_t) (ss : List open_t) (h : DocumentSoFar) (es : List Event) (ds : List Document)
    → ComposerRun most d ss h es ds → (x : Ending) → bounded_loads most es x ≡ as_loads ds ++ last_load x ∷ []
all_loads {most} d ss h es ds run x =
    let s = stood d ss h es ds run in
    ap (λ (l : List Event). bounded_loads most l x) (sym (append-nil es))
    ∙ (s.leads.loads [] x ∙ ap (λ (l : List Load). as_loads ds ++ l) (from_none most (loader_state (composer_of d ss) h) x))

pub fault : {most : ℕ} (d d' : composer_t) (ss ss' : List open_t) (h : DocumentSoFar) (es : List Event) (ds : List Document) (a : Deed)
    (e : Event) (p p' : place_t) → ComposerRun most d ss h es ds → ComposeCalls a d ss h e d' ss' p p' → IsRefused a
    → (rest : List Event) (x : Ending) → bounded_loads most (es ++ e ∷ rest) x ≡ as_loads ds ++ Err (deed_fault a h e) ∷ []
fault {most} d d' ss ss' h es ds a e p p' run calls r =
    refuses most (composer_of d ss) h es ds (stood d ss h es ds run) e p (told a p' (composer_of d' ss')) calls r

-- What a whole loop over documents yielded, by the run that was to come.
use Rattle.std.proofs.Common.{◌≡◌, ◌∷◌, ℕ, List, [], None, Some, Ok, Err, inl, inr, refl, sym, ap, subst, ◌∙◌, arith}
use Rattle.std.proofs.lemmas.Bool.{true≢false}
use Rattle.libyaml_documents.specs.Documents.{Document}
use Rattle.libyaml_events.specs.machine.Config.{Parser}
use Rattle.libyaml_events.specs.sources.History.{History, kept_fault}
use Rattle.libyaml_events.specs.sources.RunToCome.{RunToCome, UnlessBroken, breaks, does, no_memory}
use Rattle.libyaml_events.proofs.exported.Histories as histories
use Rattle.libyaml_grammar.specs.runs.Runs.{Ending, Ends, Fails}
use Rattle.libyaml_grammar.specs.grammar.Events.{Event}
use Rattle.libyaml_grammar.specs.grammar.Tokens.{Token}
use Rattle.libyaml_grammar.proofs.exported.NestingSoFar.{run_nests_so_far}
use Rattle.libyaml_graphs.specs.loads.Bounds.{IsBoundedLoads, bounded_loads, next_bounded}
use Rattle.libyaml_graphs.specs.loads.GraphLaws.{RootsFollow}
use Rattle.libyaml_graphs.specs.loads.Loads.{Load, last_load, left_over}
use Rattle.libyaml_graphs.proofs.exported.Roots as roots
use Rattle.libyaml_graphs.proofs.exported.Roots.{earlier_of, last_of, left_roots, roots_follow}
use Rattle.libyaml_loader.specs.document.Ids.{magnitude}
use Rattle.libyaml_loader.specs.loads.Loading.{DocumentOrError}
use Rattle.libyaml_loader.specs.loads.LoadsInTurn.{AreLoadsOf, LoopYields, YieldsDocument, cut_short, document, fault, no_item, whole}
use Rattle.libyaml_loader.specs.loads.NextLoad.{Answers}
use Rattle.libyaml_types.specs.Fault.{Fault, fault_of}
use Rattle.libyaml_types.specs.Source.{coming}
use Rattle.libyaml_types.specs.declared.fault.yaml_parser_t_prefix.{yaml_parser_t_prefix}
use Rattle.libyaml_types.specs.declared.enums.yaml_error_type_t.{yaml_error_type_t}
use Rattle.libyaml_types.specs.declared.source.yaml_token_source_t.{Ghosts}

no_error : {d : Document} {y : yaml_error_type_t} → ◌≡◌ {A = DocumentOrError} (Ok d) (Err y) → ⊥
no_error h = cc

ends_here : (x : Ending) (d : Document) → last_load x ≡ Ok d → Ends ≡ x
ends_here x d h = grind arith

module _ {S : Type 0} (g : Ghosts S) where
  -- a load that returned this document, or failed
  event_result : (new : Parser S) (d : Document) (a : Load) (e : List Event) (x : Ending)
      → UnlessBroken {A = Document} g.may_break (Ok d) new (Answers g.known a (Ok d) new e x)
      → (a ≡ Ok d) × RunToCome g.known new e x
  event_result new d a e x h = grind arith

  failed : (new : Parser S) (f : yaml_parser_t_prefix) → fault_of f ≡ kept_fault new
      → (l : List Load) (a : Load) (e : List Event) (x : Ending)
      → ((w : Fault) → a ≡ Err w → l ≡ Err w ∷ [])
      → UnlessBroken {A = Document} g.may_break (Err f.error) new (Answers g.known a (Err f.error) new e x)
      → AreLoadsOf g.may_break new [] (Fails (fault_of f)) l
  failed new f kept l a e x last (no_memory h k) = cut_short (fault_of f) refl (inl (kept ∙ k)) l refl
  failed new f kept l a e x last (breaks w b h k) =
      cut_short (fault_of f) refl (inr (subst (λ (y : Fault). g.may_break new.source y) (sym (kept ∙ k)) b)) l refl
  failed new f kept l (Ok d) e x last (does h) = absurd (no_error (sym h.0))
  failed new f kept l (Err w) e x last (does h) = whole (last w refl ∙ ap (λ (y : Fault). Err y ∷ []) (sym (kept ∙ h.1)))

  one_more : (new : Parser S) (d : Document) (documents : List Document) (ending : Ending) (loads all : List Load)
      → all ≡ Ok d ∷ loads
      → AreLoadsOf g.may_break new documents ending loads → AreLoadsOf g.may_break new (d ∷ documents) ending all
  one_more new d documents ending loads all is (whole h) = whole (is ∙ ap (λ (l : List Load). Ok d ∷ l) h)
  one_more new d documents ending loads all is (cut_short f e why rest h) =
      cut_short f e why rest (is ∙ ap (λ (l : List Load). Ok d ∷ l) h)

  pub of_run : (n : ℕ) (old new : Parser S) (documents : List Document) (ending : Ending) (e : List Event)
      (x : Ending) → magnitude old.max_entries ≡ n
      → RunToCome g.known old e x → RootsFollow e → LoopYields g old documents ending new
      → AreLoadsOf g.may_break new documents ending (bounded_loads n e x)
  of_run n old new documents ending e x within run follow (no_item y) = go y
    where
      go : YieldsDocument g old None new → AreLoadsOf g.may_break new [] Ends (bounded_loads n e x)
      go (inl (failed_before, same)) = absurd (true≢false (sym failed_before ∙ histories.faultless old run.asked run.given run.history))
      go (inr (none, over, (d, no_root, next))) =
          let b = event_result new d (next_bounded n e x) (left_over e) x
          (rw within at (next.next_load e x run)) in
          let z = last_of e x n d follow b.0 no_root in
          whole (z.0 ∙ ap (λ (t : Load). t ∷ []) (sym z.1 ∙ ap last_load (sym (ends_here x d z.1))))
  of_run n old new documents ending e x within run follow (fault f (none, next, kept)) =
      failed new f kept (bounded_loads n e x) (next_bounded n e x) (left_over e) x (λ (w : Fault). roots.fault_of e x n w)
      (rw within at (next.next_load e x run))
  of_run n old new documents ending e x within run follow (document d later end mid (none, root, next) more) =
      let b = event_result mid d (next_bounded n e x) (left_over e) x
      (rw within at (next.next_load e x run)) in
      one_more new d later end (bounded_loads n (left_over e) x) (bounded_loads n e x) (earlier_of e x n d b.0 root)
      (of_run n mid new later end (left_over e) x (ap magnitude next.bound ∙ within) b.1 (left_roots e follow) more)

  -- from the start
  pub of_list : (old new : Parser S)
      (documents : List Document) (ending : Ending) (l : List Token) (f : Fault) (loads : List Load) → History old [] []
      → g.known old.source ≡ Some (coming l f) → IsBoundedLoads (magnitude old.max_entries) l f loads
      → LoopYields g old documents ending new → AreLoadsOf g.may_break new documents ending loads
  of_list old new documents ending l f loads history knows are y =
      let run : RunToCome g.known old are.events are.ending
      = record { asked = []; given = []; rest = l; fault = f; history = history; knows = knows; run = are.run } in
      rw (← are.all) at (of_run (magnitude old.max_entries) old new documents ending are.events are.ending refl run
      (roots_follow are.events (run_nests_so_far l f are.events are.ending are.run)) y)

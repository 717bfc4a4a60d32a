-- After a document no error is kept.
use Rattle.std.proofs.Common.{◌≡◌, List, Ok, Err, IfOk, inl, inr, false, sym, ◌∙◌, arith}
use Rattle.std.proofs.lemmas.Bool.{true≢false}
use Rattle.libyaml_events.specs.machine.Config.{Parser}
use Rattle.libyaml_events.specs.sources.History.{Remembers, has_failed}
use Rattle.libyaml_events.proofs.exported.Histories as histories
use Rattle.libyaml_grammar.specs.runs.Runs.{Ending}
use Rattle.libyaml_grammar.specs.grammar.Events.{Event}
use Rattle.libyaml_graphs.specs.loads.Loads.{Load}
use Rattle.libyaml_loader.specs.loads.Loading.{DocumentOrError, LoadsFrom, at_end, whole}
use Rattle.libyaml_types.specs.declared.source.yaml_token_source_t.{Ghosts}

module _ {S : Type 0} (g : Ghosts S) (load : List Event → Ending → Load) (left : List Event → List Event)
    (old new : Parser S) (none : has_failed old ≡ false) where
  pub faultless : Remembers old → (r : DocumentOrError) → LoadsFrom g load left old r new
      → IfOk r (λ _. has_failed new ≡ false)
  faultless h (Err x) l = tt
  faultless (inl fault) (Ok d) l = absurd (true≢false (sym fault ∙ none))
  faultless (inr (asked, given, history)) (Ok d) (whole taken took loads leaves stands) =
      histories.faultless new _ _ (took.history asked given history).history
  faultless (inr (asked, given, history)) (Ok d) (at_end taken took loads leaves runs is ended) = grind arith

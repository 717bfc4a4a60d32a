-- What an iterator over the documents of a parser yields, by the clauses of a load.
use Rattle.std.proofs.Common.{◌≡◌, inl, inr, true, false, sym, subst, ◌∙◌}
use Rattle.std.proofs.lemmas.Bool.{true≢false}
use Rattle.libyaml_events.specs.machine.Config.{Parser}
use Rattle.libyaml_events.specs.sources.History.{ForHistory, Remembers, has_failed, is_over}
use Rattle.libyaml_loader.specs.loads.Loading.{DocumentOrError, HasEnded}
use Rattle.libyaml_loader.specs.loads.LoadsInTurn.{LoadsNext}
use Rattle.libyaml_types.specs.declared.source.yaml_token_source_t.{Ghosts}

module _ {S : Type 0} (g : Ghosts S) (old new : Parser S) where
  pub loads_as : (q r : DocumentOrError) → q ≡ r → LoadsNext g old q new → LoadsNext g old r new
  loads_as q r e l = subst (λ (s : DocumentOrError). LoadsNext g old s new) e l

  -- a parser that ends by its history ends
  pub ended : Remembers old → has_failed old ≡ false → ForHistory old (λ _ _. HasEnded new) → is_over new ≡ true
  ended (inl fault) none h = absurd (true≢false (sym fault ∙ none))
  ended (inr (asked, given, history)) none h = (h asked given history).over

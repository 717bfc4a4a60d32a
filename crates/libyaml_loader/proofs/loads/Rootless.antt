-- A load gives a document without nodes only where the parser has ended: a whole document begins with a node.
use Rattle.std.proofs.Common.{◌≡◌, ◌++◌, ℕ, List, [], Ok, Err, IfOk, sym, ap, ◌∙◌}
use Rattle.std.proofs.lemmas.List.{append-nil}
use Rattle.libyaml_documents.specs.Documents.{Document}
use Rattle.libyaml_events.specs.machine.Config.{Parser}
use Rattle.libyaml_grammar.specs.grammar.Events.{Event}
use Rattle.libyaml_types.specs.Fault.{Fault, memory_fault}
use Rattle.libyaml_grammar.specs.runs.Runs.{Fails}
use Rattle.libyaml_events.specs.sources.History.{ForHistory}
use Rattle.libyaml_events.proofs.exported.Histories as histories
use Rattle.libyaml_types.specs.declared.source.yaml_token_source_t.{Ghosts}
use Rattle.libyaml_graphs.specs.loads.Bounds.{next_bounded}
use Rattle.libyaml_graphs.specs.loads.Loads.{Load, left_over}
use Rattle.libyaml_graphs.proofs.exported.LoadLists.{roots_after}
use Rattle.libyaml_graphs.proofs.exported.Roots.{last_of, roots_follow}
use Rattle.libyaml_loader.specs.loads.Loading.{DocumentOrError, HasEnded, Loads, LoadsFrom, at_end, whole}

no_fault : {f : Fault} {d : Document} → ◌≡◌ {A = Load} (Err f) (Ok d) → ⊥
no_fault h = cc

module _ {S : Type 0} (g : Ghosts S) (n : ℕ) (old new : Parser S) where
  ended_of : (d : Document) → Loads g (next_bounded n) left_over old new d → d.nodes ≡ []
      → ForHistory old (λ _ _. HasEnded new)
  ended_of d (whole taken took loads left between) none asked given history =
      let on = took.history asked given history in
      let roots = roots_after given taken
      (roots_follow (given ++ taken) (histories.nests new (asked ++ on.more) (given ++ taken) on.history)) in
      let x = Fails memory_fault in
      absurd (no_fault (last_of taken x n d roots
      (ap (λ (l : List Event). next_bounded n l x) (sym (append-nil taken)) ∙ loads [] x) none).1)
  ended_of d (at_end taken took loads left ends is has_ended) none asked given history = has_ended asked given history

  pub rootless : (r : DocumentOrError) → LoadsFrom g (next_bounded n) left_over old r new
      → IfOk r (λ (d : Document). d.nodes ≡ [] → ForHistory old (λ _ _. HasEnded new))
  rootless (Ok d) loads = ended_of d loads
  rootless (Err x) loads = tt

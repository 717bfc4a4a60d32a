-- What one step of a run over documents writes: `None` is the step after which more is to come.
use Rattle.std.specs.Prelude.{◌≡◌, ◌≢◌, ℕ, List, [], Option, Some, None, Ok, Err}
use Rattle.std.specs.List.{concat}
use Rattle.std.specs.Io.KnownBytes.{Appends, Keeps}
use Rattle.libyaml_events.specs.machine.Config.{Parser}
use Rattle.libyaml_types.specs.Fault.{Fault, fault_of, memory_fault}
use Rattle.libyaml_events.specs.sources.History.{ForHistory, kept_fault}
use Rattle.libyaml_types.specs.declared.source.yaml_token_source_t.{Ghosts}
use Rattle.libyaml_graphs.specs.loads.Bounds.{next_bounded}
use Rattle.libyaml_graphs.specs.loads.Loads.{left_over}
use Rattle.libyaml_loader.specs.loads.Loading.{DocumentOrError, HasEnded, LoadsFrom}
use Rattle.line_writing.specs.DocumentText.{WroteBefore, document_lines}
use Rattle.token_lines.specs.declared.run.LastStep.{LastStep}
use Rattle.token_lines.specs.declared.run.LastStep.TheVariants.{Ended, Failed, OutputFailed}

-- what a step wrote after a load that returned this
abbrev pub StepForLoad : Option LastStep → DocumentOrError → (kept : Fault) → (before after : Option (List ℕ)) → Type 0
StepForLoad None (Ok d) kept before after = (d.nodes ≢ []) × Appends before after (concat (document_lines d))
StepForLoad (Some Ended) (Ok d) kept before after = (d.nodes ≡ []) × Keeps before after
StepForLoad (Some (Failed f)) (Ok d) kept before after = (fault_of f ≡ memory_fault) × (d.nodes ≢ [])
    × WroteBefore before after (document_lines d)
StepForLoad (Some OutputFailed) (Ok d) kept before after = Unit {0}
StepForLoad (Some (Failed f)) (Err x) kept before after = (fault_of f ≡ kept) × Keeps before after
StepForLoad _ (Err x) kept before after = ⊥

-- one step: its load, and what was written after it
pub record LoadTurn {S : Type 0} (g : Ghosts S) (n : ℕ) (step : Option LastStep) (old new : Parser S)
    (before after : Option (List ℕ)) : Type 0 where
  pub loaded : DocumentOrError
  pub load : LoadsFrom g (next_bounded n) left_over old loaded new
  pub wrote : StepForLoad step loaded (kept_fault new) before after
  pub ends : step ≡ Some Ended → ForHistory old (λ _ _. HasEnded new)

-- an error that the parser kept is the step's, and nothing changed
abbrev pub IsKept : Option LastStep → Fault → Type 0
IsKept (Some (Failed f)) kept = fault_of f ≡ kept
IsKept _ kept = ⊥

-- What a load does where a run is to come (docs/DEFINITIONS.md, "Loads of a parser").
use Rattle.std.specs.Prelude.{◌≡◌, ◌⊎◌, List, Option, Ok, Err}
use Rattle.libyaml_events.specs.machine.Config.{Parser}
use Rattle.libyaml_grammar.specs.grammar.Events.{Event}
use Rattle.libyaml_events.specs.sources.History.{kept_fault}
use Rattle.libyaml_grammar.specs.runs.Runs.{Ending}
use Rattle.libyaml_events.specs.sources.RunToCome.{RunToCome}
use Rattle.libyaml_types.specs.Fault.{memory_fault}
use Rattle.libyaml_types.specs.Source.{Coming}
use Rattle.libyaml_types.specs.declared.source.yaml_token_source_t.{Ghosts}
use Rattle.libyaml_graphs.specs.loads.Loads.{Load}
use Rattle.libyaml_loader.specs.loads.Loading.{DocumentOrError}

-- A load returns this document, and these events are to come; or it returns this error's kind, and the error is kept.
abbrev pub Answers : {S : Type 0} → (known : S → Option Coming) → Load → DocumentOrError → (new : Parser S)
    → (to_come : List Event) → Ending → Type 0
Answers known (Ok d) r new to_come ending = (r ≡ Ok d) × RunToCome known new to_come ending
Answers known (Err f) r new to_come ending = (r ≡ Err f.error) × (kept_fault new ≡ f)

-- What a load that returned this says of a run that was to come: its first load is this document, and the events that it
-- leaves are to come; or its first load is the error that is kept, or an allocation failed, or the source
-- failed early.
abbrev pub LoadOfRun : {S : Type 0} → (g : Ghosts S) → (load : List Event → Ending → Load)
    → (left : List Event → List Event) → DocumentOrError → (new : Parser S) → List Event → Ending → Type 0
LoadOfRun g load left (Ok d) new events ending = (load events ending ≡ Ok d)
    × RunToCome g.known new (left events) ending
LoadOfRun g load left (Err x) new events ending
    = (load events ending ≡ Err (kept_fault new)) ⊎ ((kept_fault new ≡ memory_fault)
    ⊎ g.may_break new.source (kept_fault new))

-- A whole loop over the composed events of a parser (docs/DEFINITIONS.md, "Composed events").
use Rattle.std.specs.Prelude.{◌≡◌, ◌⊎◌, ◌++◌, ◌∷◌, ℕ, List, [], Some, None, Ok, Err}
use Rattle.libyaml_types.specs.Fault.{Fault, fault_of, memory_fault}
use Rattle.libyaml_types.specs.declared.fault.yaml_parser_t_prefix.{yaml_parser_t_prefix}
use Rattle.libyaml_types.specs.declared.source.yaml_token_source_t.{Ghosts}
use Rattle.libyaml_grammar.specs.grammar.Events.{Event}
use Rattle.libyaml_grammar.specs.runs.Runs.{Ending, Ends, Fails}
use Rattle.libyaml_documents.specs.Documents.{Document}
use Rattle.libyaml_events.specs.machine.Config.{Parser}
use Rattle.libyaml_graphs.specs.loads.Bounds.{bounded_loads}
use Rattle.libyaml_graphs.specs.loads.Leads.{as_loads}
use Rattle.libyaml_graphs.specs.loads.Loads.{last_load}
use Rattle.libyaml_loader.specs.composed.ComposedEvents.{ComposedEvents, YieldsComposed}
use Rattle.libyaml_loader.specs.loads.LoadsInTurn.{AreLoadsOf}

-- these events came, and then no item, or this error
pub data LoopComposes {S : Type 0} (g : Ghosts S) : ComposedEvents S → List Event → Ending → ComposedEvents S → Type 0 where
  no_item : {old new : ComposedEvents S} → YieldsComposed g old None new → LoopComposes g old [] Ends new
  fault : (f : yaml_parser_t_prefix) → {old new : ComposedEvents S} → YieldsComposed g old (Some (Err f)) new
      → LoopComposes g old [] (Fails (fault_of f)) new
  event : (e : Event) (later : List Event) (ending : Ending) (next : ComposedEvents S) → {old new : ComposedEvents S}
      → YieldsComposed g old (Some (Ok e)) next → LoopComposes g next later ending new
      → LoopComposes g old (e ∷ later) ending new

-- Why no event more came, where these are the rest of a run with the ending x: none is left; or loading fails at the
-- first of them, whatever comes after it; or memory ran out, or the source failed early.
pub data ComposesUpTo (n : ℕ) (MayBreak : Fault → Type 0) (yielded : List Event) (documents : List Document)
    (ending : Ending) (rest : List Event) (x : Ending) : Type 0 where
  all : rest ≡ [] → ending ≡ x → ComposesUpTo n MayBreak yielded documents ending rest x
  refused : (f : Fault) (e : Event) (later : List Event) → rest ≡ e ∷ later → ending ≡ Fails f
      → ((any : List Event) (y : Ending) → bounded_loads n (yielded ++ e ∷ any) y ≡ as_loads documents ++ Err f ∷ [])
      → ComposesUpTo n MayBreak yielded documents ending rest x
  cut_short : (f : Fault) → ending ≡ Fails f → (f ≡ memory_fault) ⊎ MayBreak f
      → ComposesUpTo n MayBreak yielded documents ending rest x

-- The events that a loop yielded are the first of a run's, up to the first with which a load fails, and the loop ended as
-- the loads of the whole run do, within the bound n.
pub record AreComposedOf {S : Type 0} (MayBreak : S → Fault → Type 0) (new : Parser S) (n : ℕ) (yielded : List Event)
    (ending : Ending) (events : List Event) (x : Ending) : Type 0 where
  pub documents : List Document
  pub rest : List Event
  pub first : events ≡ yielded ++ rest
  -- in the events that were yielded no load fails
  pub faultless : (y : Ending) → bounded_loads n yielded y ≡ as_loads documents ++ last_load y ∷ []
  pub up_to : ComposesUpTo n (MayBreak new.source) yielded documents ending rest x
  pub loads : AreLoadsOf MayBreak new documents ending (bounded_loads n events x)

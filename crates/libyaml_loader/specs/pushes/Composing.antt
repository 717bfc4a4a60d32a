-- What the code that composes documents keeps, and what it does with events.
use Rattle.std.specs.Prelude.{◌≡◌, ◌≤◌, ◌++◌, ◌∷◌, ℕ, List, [], Bool, true, false, Option, Some, None, Result, Ok, Err}
use Rattle.libyaml_types.specs.declared.enums.yaml_error_type_t.{yaml_error_type_t}
use Rattle.libyaml_documents.specs.Documents.{Document}
use Rattle.libyaml_grammar.specs.grammar.Events.{Event}
use Rattle.libyaml_grammar.specs.runs.Runs.{Ending}
use Rattle.libyaml_graphs.specs.graphs.GraphParts as parts
use Rattle.libyaml_graphs.specs.graphs.GraphParts.{closing_of}
use Rattle.libyaml_graphs.specs.loads.Loads.{document}
use Rattle.libyaml_graphs.specs.machine.Loader.{State, between, no_anchors, within}
use Rattle.libyaml_types.specs.Fault.{Fault, fault_of, memory_fault}
use Rattle.libyaml_loader.specs.declared.composer.Closing.{Closing}
use Rattle.libyaml_loader.specs.declared.composer.DocumentBuilder.{DocumentBuilder}
use Rattle.libyaml_loader.specs.declared.composer.Opening.{Opening}
use Rattle.libyaml_loader.specs.declared.context.loader_ctx.{loader_ctx}
use Rattle.libyaml_loader.specs.document.Context.{ComposerMatches, loader_of, opening_of_document}
use Rattle.libyaml_graphs.specs.loads.Leads.{Leads, loads_from}
use Rattle.libyaml_loader.specs.pushes.LoadMemory.{NeedsMemoryAt}

-- the start and the end of a document
abbrev pub opening_by : Opening → parts.Opening
opening_by o = record { start = o.start; mark = o.mark }

abbrev pub closing_by : Closing → parts.Closing
closing_by c = record { is_implicit = c.implicit; mark = c.mark }

abbrev pub state_by : (is_open : Bool) → loader_ctx → State
state_by false c = between
state_by true c = within (opening_of_document c.document) (loader_of c)

abbrev pub composer_state : DocumentBuilder → State
composer_state c = state_by c.is_open c.ctx

-- the document that was open, ended so
abbrev pub ended_by : parts.Closing → loader_ctx → Document
ended_by c x = document (opening_of_document x.document) x.document.nodes c

-- the document that is open is sound, or nothing is left of the one before; the bound is the composer's
pub record IsSound (c : DocumentBuilder) : Type 0 where
  pub stands : c.is_open ≡ true → ComposerMatches c.ctx
  pub fresh : c.is_open ≡ false → (c.ctx.collections.is_within ≡ false) × (c.ctx.anchors ≡ no_anchors)
  pub bound : c.ctx.collections.most ≡ c.max_entries
  pub most : c.max_entries ≤ 2147483647

-- The event is refused: the loads end there with this error, whatever comes after it; or an allocation failed.
pub data RefusesEvent (Full : Type 0) (n : ℕ) (here : State) (e : Event) (f : Fault) : Type 0 where
  by_loads : ((rest : List Event) (x : Ending) → loads_from n here (e ∷ rest) x ≡ Err f ∷ []) → RefusesEvent Full n here e f
  by_memory : f ≡ memory_fault → NeedsMemoryAt Full here e → RefusesEvent Full n here e f

-- What one event did: it ended no document; or it ends the one that is open, and nothing is done yet; or it was
-- refused, and the error is kept.
abbrev pub ComposesEvent : (old : DocumentBuilder) → Event → Result (Option Closing) yaml_error_type_t → (new : DocumentBuilder) → Type 0
ComposesEvent old e (Ok None) new = Leads old.max_entries (composer_state old) (e ∷ []) [] (composer_state new)
ComposesEvent old e (Ok (Some c)) new = (old.is_open ≡ true) × (closing_of e ≡ Some (closing_by c)) × (new ≡ old)
ComposesEvent old e (Err x) new = RefusesEvent ⊥ old.max_entries (composer_state old) e (fault_of new.fault)

-- Some of these events were composed, and the next was refused.
pub record RefusesOneOf (Full : Type 0) (n : ℕ) (old : State) (events : List Event) (added : List Document)
    (f : Fault) : Type 0 where
  pub composed : List Event
  pub event : Event
  pub later : List Event
  pub all : events ≡ composed ++ event ∷ later
  pub here : State
  pub leads : Leads n old composed added here
  pub refuses : RefusesEvent Full n here event f

-- what became of events, where these documents were added
abbrev pub ComposedSo : (Full : Type 0) → ℕ → State → List Event → List Document → Result (Unit {0}) yaml_error_type_t
    → DocumentBuilder → Type 0
ComposedSo Full n old events added (Ok u) new = Leads n old events added (composer_state new)
ComposedSo Full n old events added (Err x) new = RefusesOneOf Full n old events added (fault_of new.fault)

-- Events were composed, and the documents that ended were appended.
pub record Composes (Full : Type 0) (old : DocumentBuilder) (events : List Event) (before : List Document)
    (r : Result (Unit {0}) yaml_error_type_t) (new : DocumentBuilder)
    (after : List Document) : Type 0 where
  pub added : List Document
  pub appended : after ≡ before ++ added
  pub ends_so : ComposedSo Full old.max_entries (composer_state old) events added r new

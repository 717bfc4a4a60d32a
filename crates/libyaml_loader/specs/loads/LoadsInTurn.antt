-- A loop over the documents of a parser (docs/DEFINITIONS.md, "Loads of a parser").
use Rattle.std.specs.Prelude.{◌≡◌, ◌≢◌, ◌≤◌, ◌<◌, ◌⊎◌, ◌*◌, ◌++◌, ◌∷◌, ℕ, List, [], All, length, map, Option, None, Some, Result, Ok, Err, IfOk, IfErr, true, false}
use Rattle.libyaml_types.specs.Fault.{SourceResult, Fault, fault_of, memory_fault}
use Rattle.libyaml_types.specs.declared.fault.yaml_parser_t_prefix.{yaml_parser_t_prefix}
use Rattle.libyaml_types.specs.declared.source.yaml_token_source_t.{Ghosts}
use Rattle.libyaml_grammar.specs.runs.Runs.{Ending, Ends, Fails}
use Rattle.libyaml_grammar.specs.grammar.Events.{Event}
use Rattle.libyaml_grammar.specs.grammar.Tokens.{Token}
use Rattle.libyaml_events.specs.machine.Config.{Parser}
use Rattle.libyaml_events.specs.parsers.EventsLeft.{events_left}
use Rattle.libyaml_events.specs.sources.CallsInTurn.{CarriedOn, Took}
use Rattle.libyaml_events.specs.sources.History.{ForHistory, between_documents, has_failed, is_over, kept_fault}
use Rattle.libyaml_events.specs.sources.RunToCome.{ForRun, UnlessBroken}
use Rattle.libyaml_documents.specs.Documents.{Document, empty_document}
use Rattle.libyaml_graphs.specs.loads.Bounds.{bounded_loads, next_bounded}
use Rattle.libyaml_graphs.specs.loads.Linear.{size}
use Rattle.libyaml_graphs.specs.loads.Loads.{Load, last_load, left_over}
use Rattle.libyaml_loader.specs.document.Ids.{magnitude}
use Rattle.libyaml_loader.specs.loads.Loading.{DocumentOrError, HasEnded, LoadsFrom}
use Rattle.libyaml_loader.specs.loads.NextLoad.{Answers}

-- what the clauses of `yaml_parser_load` say of a parser that keeps no error
pub record LoadsNext {S : Type 0} (g : Ghosts S) (old : Parser S) (r : DocumentOrError) (new : Parser S) : Type 0 where
  pub ended : is_over old ≡ true → (r ≡ Ok (empty_document None [] false false)) × (new ≡ old)
  pub fails : IfErr r (λ x. (x ≡ (kept_fault new).error) × (is_over new ≡ true))
  pub failed : IfErr r (λ _. has_failed new ≡ true)
  pub faultless : IfOk r (λ _. has_failed new ≡ false)
  pub bound : new.max_entries ≡ old.max_entries
  pub between : between_documents new ≡ true
  pub falls : IfOk r (λ d. (d ≡ empty_document None [] false false)
      ⊎ (events_left g.bound new < events_left g.bound old))
  pub loads : LoadsFrom g (next_bounded (magnitude old.max_entries)) left_over old r new
  pub linear : IfOk r (λ d. (taken : List Event) × Took g old new taken × (size d.nodes ≤ 2 * length taken))
  pub without_root : IfOk r (λ d. d.nodes ≡ [] → ForHistory old (λ _ _. HasEnded new))
  pub next_load : ForRun g.known old (λ events ending. UnlessBroken g.may_break r new
      (Answers g.known (next_bounded (magnitude old.max_entries) events ending) r new (left_over events) ending))

-- The next document as `yaml_parser_load` returns it, or the error once; after the stream's end or an error no item.
-- A document without nodes is no item.
abbrev pub YieldsDocument : {S : Type 0} → Ghosts S → Parser S → Option (Result Document yaml_parser_t_prefix)
    → Parser S → Type 0
YieldsDocument g old None new =
    ((has_failed old ≡ true) × (new ≡ old))
    ⊎ ((has_failed old ≡ false) × (is_over new ≡ true)
    × ((d : Document) × (d.nodes ≡ []) × LoadsNext g old (Ok d) new))
YieldsDocument g old (Some (Ok d)) new = (has_failed old ≡ false) × (d.nodes ≢ []) × LoadsNext g old (Ok d) new
YieldsDocument g old (Some (Err f)) new =
    (has_failed old ≡ false) × LoadsNext g old (Err f.error) new × (fault_of f ≡ kept_fault new)

-- A whole loop over the documents, from one parser to a later one: these documents came, and then no item, or this error.
pub data LoopYields {S : Type 0} (g : Ghosts S) : Parser S → List Document → Ending → Parser S → Type 0 where
  no_item : {old new : Parser S} → YieldsDocument g old None new → LoopYields g old [] Ends new
  fault : (f : yaml_parser_t_prefix) → {old new : Parser S} → YieldsDocument g old (Some (Err f)) new
      → LoopYields g old [] (Fails (fault_of f)) new
  document : (d : Document) (later : List Document) (ending : Ending) (next : Parser S) → {old new : Parser S}
      → YieldsDocument g old (Some (Ok d)) next → LoopYields g next later ending new
      → LoopYields g old (d ∷ later) ending new

-- From the one parser to the other loads returned these documents, each with a root: the history went on by the events
-- that they took, whose loads they are, whatever follows them.
pub record LoadedInTurn {S : Type 0} (gives : S → SourceResult → S → Type 0) (n : ℕ) (old new : Parser S)
    (documents : List Document) (asked : List Token) (given : List Event) : Type 0 where
  pub taken : List Event
  pub carried : CarriedOn gives old new asked given taken
  pub loads : (rest : List Event) (x : Ending)
      → bounded_loads n (taken ++ rest) x ≡ map (λ (d : Document). Ok d) documents ++ bounded_loads n rest x
  pub roots : All (λ (d : Document). d.nodes ≢ []) documents

-- The documents of a loop and its ending are these loads; or memory ran out, or the source failed early, with an
-- error that it names as possible where it then stands, and the documents are a prefix.
pub data AreLoadsOf {S : Type 0} (MayBreak : S → Fault → Type 0) (new : Parser S) (documents : List Document)
    (ending : Ending) (loads : List Load)
    : Type 0 where
  whole : loads ≡ map (λ (d : Document). Ok d) documents ++ last_load ending ∷ []
      → AreLoadsOf MayBreak new documents ending loads
  cut_short : (f : Fault) → ending ≡ Fails f → (f ≡ memory_fault) ⊎ MayBreak new.source f → (rest : List Load)
      → loads ≡ map (λ (d : Document). Ok d) documents ++ rest → AreLoadsOf MayBreak new documents ending loads

-- Two outcomes of one load that its contract allows: they are one, unless memory ran out in one of them
-- (docs/DEFINITIONS.md, "One outcome").
use Rattle.std.specs.Prelude.{◌≡◌, ◌++◌, ◌∷◌, List, [], Ok, Err, IfOk, IfErr}
use Rattle.libyaml_types.specs.declared.enums.yaml_error_type_t.TheVariants.{YAML_MEMORY_ERROR}
use Rattle.libyaml_types.specs.Fault.{SourceResult, memory_fault}
use Rattle.libyaml_types.specs.declared.source.yaml_token_source_t.{Ghosts}
use Rattle.libyaml_grammar.specs.grammar.Tokens.{Token}
use Rattle.libyaml_grammar.specs.grammar.Events.{Event}
use Rattle.libyaml_grammar.specs.runs.Runs.{Ending}
use Rattle.libyaml_events.specs.machine.Config.{Parser}
use Rattle.libyaml_events.specs.sources.Calls.{Gave}
use Rattle.libyaml_events.specs.sources.CallsInTurn.{CarriedOn}
use Rattle.libyaml_events.specs.sources.Determined.{OneBegins, RunsOut}
use Rattle.libyaml_events.specs.sources.History.{History, source_results, kept_fault, keeping}
use Rattle.libyaml_graphs.specs.loads.Loads.{Load}
use Rattle.libyaml_loader.specs.loads.LoadGrowth.{GrowsAt}
use Rattle.libyaml_loader.specs.loads.Loading.{DocumentOrError, LoadsFrom, at_end, by_loader, by_memory, by_parser, whole}

-- what the clauses `fails`, `bound` and `loads` of a load say of an outcome
pub record LoadOutcome {S : Type 0} (g : Ghosts S) (load : List Event → Ending → Load)
    (left : List Event → List Event) (old : Parser S) (r : DocumentOrError) (new : Parser S) : Type 0 where
  pub error : IfErr r (λ x. x ≡ (kept_fault new).error)
  pub bound : new.max_entries ≡ old.max_entries
  pub loads : LoadsFrom g load left old r new

-- The results of the source that an outcome names: the tokens by which its events came, and then what the parser's failed
-- call asked for.
abbrev pub results_in : {S : Type 0} → (g : Ghosts S) → (load : List Event → Ending → Load)
    → (left : List Event → List Event) → (old new : Parser S) → (asked : List Token) → (given : List Event)
    → History old asked given → (r : DocumentOrError) → LoadsFrom g load left old r new → List SourceResult
results_in g load left old new asked given h (Ok d) (whole taken took loads leaves stands) =
    source_results (took.history asked given h).more []
results_in g load left old new asked given h (Ok d) (at_end taken took loads leaves runs is ended)
    = source_results (took.history asked given h).more []
results_in g load left old new asked given h (Err x) (by_parser taken parser took fails loads) =
    let c = took.history asked given h in
    source_results c.more (fails.history (asked ++ c.more) (given ++ taken) c.history).more
results_in g load left old new asked given h (Err x) (by_loader before e parser took f kept waits loads)
    = source_results (took.history asked given h).more []
results_in g load left old new asked given h (Err x) (by_memory before e parser took kept grows)
    = source_results (took.history asked given h).more []

abbrev pub load_results_of : {S : Type 0} {g : Ghosts S} {load : List Event → Ending → Load}
    {left : List Event → List Event} {old new : Parser S} {asked : List Token} {given : List Event}
    {r : DocumentOrError} → History old asked given → LoadOutcome g load left old r new → List SourceResult
load_results_of {S} {g} {load} {left} {old} {new} {asked} {given} {r} h o
    = results_in g load left old new asked given h r o.loads

-- Memory ran out: in the parser, after the events that were taken; or in the loader, at an event where a load may take it.
pub data LoadRunsOut {S : Type 0} (gives : S → SourceResult → S → Type 0) (load : List Event → Ending → Load)
    (old : Parser S) (r : DocumentOrError) (new : Parser S)
    (asked : List Token) (given : List Event) : Type 0 where
  in_parser : r ≡ Err YAML_MEMORY_ERROR → (taken : List Event) (parser : Parser S)
      → (c : CarriedOn gives old parser asked given taken)
      → RunsOut gives parser (Err YAML_MEMORY_ERROR) new (asked ++ c.more) (given ++ taken)
      → LoadRunsOut gives load old r new asked given
  in_loader : r ≡ Err YAML_MEMORY_ERROR → (before : List Event) (e : Event) (parser : Parser S)
      → CarriedOn gives old parser asked given (before ++ e ∷ [])
      → GrowsAt load before e → new ≡ keeping memory_fault parser → LoadRunsOut gives load old r new asked given

-- One result, and what is kept: the bound; after a document all, else the error.
pub record LoadsAlike {S : Type 0} (r : DocumentOrError) (p : Parser S) (s : DocumentOrError) (q : Parser S) : Type 0 where
  pub result : r ≡ s
  pub bound : p.max_entries ≡ q.max_entries
  pub after_document : IfOk r (λ _. p.config ≡ q.config)
  pub after_error : IfErr r (λ _. kept_fault p ≡ kept_fault q)

-- after the same results; or memory ran out in one of them
pub data OneLoad {S : Type 0} (gives : S → SourceResult → S → Type 0) (load : List Event → Ending → Load) (old : Parser S)
    (asked : List Token) (given
    : List Event) (a b : List SourceResult) (r : DocumentOrError) (p : Parser S) (s : DocumentOrError) (q : Parser S) :
    Type 0 where
  alike : a ≡ b → LoadsAlike r p s q → OneLoad gives load old asked given a b r p s q
  first_runs_out : LoadRunsOut gives load old r p asked given → OneLoad gives load old asked given a b r p s q
  second_runs_out : LoadRunsOut gives load old s q asked given → OneLoad gives load old asked given a b r p s q

-- The source gave in each the results that the outcome names. Where it gave the same as far as both asked, the outcomes are
-- one.
pub record OneLoadByAnswers {S : Type 0} (gives : S → SourceResult → S → Type 0) (load : List Event → Ending → Load)
    (old : Parser S) (asked : List Token) (given
    : List Event) (a b : List SourceResult) (r : DocumentOrError) (p : Parser S) (s : DocumentOrError) (q : Parser S) :
    Type 0 where
  pub first_gave : Gave gives old.source a p.source
  pub second_gave : Gave gives old.source b q.source
  pub one : OneBegins a b → OneLoad gives load old asked given a b r p s q

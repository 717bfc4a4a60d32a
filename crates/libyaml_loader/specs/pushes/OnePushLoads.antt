-- Two outcomes of one push to a loader that its contract allows: they are one, unless memory ran out in one of them
-- (docs/DEFINITIONS.md, "One outcome").
use Rattle.std.specs.Prelude.{◌≡◌, ◌++◌, List, Err, IfOk, IfErr}
use Rattle.libyaml_types.specs.declared.enums.yaml_error_type_t.TheVariants.{YAML_MEMORY_ERROR}
use Rattle.libyaml_types.specs.Fault.{memory_fault}
use Rattle.libyaml_grammar.specs.grammar.Tokens.{Token}
use Rattle.libyaml_grammar.specs.grammar.Events.{Event}
use Rattle.libyaml_documents.specs.Documents.{Document}
use Rattle.libyaml_events.specs.sources.Determined.{BeginsEachRun}
use Rattle.libyaml_events.specs.sources.Pushes.{Done}
use Rattle.libyaml_graphs.specs.machine.Loader.{State, between}
use Rattle.libyaml_graphs.specs.loads.Leads.{Leads}
use Rattle.libyaml_loader.specs.pushes.Loaded.{PushLoader, loader_fault}
use Rattle.libyaml_loader.specs.pushes.PushesLoads.{LoadNeedsMemory}

-- An allocation failed: after the events that were given before, some more that the tokens determine gave the documents
-- and those that were added, and then memory is needed.
pub record PushLoadsRunOut (Full : Type 0) (tokens : List Token) (given : List Event) (documents before : List Document)
    (r : Done) (new : PushLoader) (after : List Document)
    : Type 0 where
  pub error : r ≡ Err YAML_MEMORY_ERROR
  pub fault : loader_fault new ≡ memory_fault
  pub added : List Document
  pub appended : after ≡ before ++ added
  pub more : List Event
  pub here : State
  pub begins : BeginsEachRun tokens (given ++ more)
  pub leads : Leads new.max_entries between (given ++ more) (documents ++ added) here
  pub needs : LoadNeedsMemory Full tokens (given ++ more) here

-- One result, the same documents and bound; without an error the same loader, and with one the same error.
pub record PushLoadsAlike (r : Done) (p : PushLoader) (after : List Document) (s : Done) (q : PushLoader)
    (later : List Document) : Type 0 where
  pub result : r ≡ s
  pub appended : after ≡ later
  pub bound : p.max_entries ≡ q.max_entries
  pub after_push : IfOk r (λ _. p ≡ q)
  pub after_error : IfErr r (λ _. loader_fault p ≡ loader_fault q)

pub data OnePushLoads (Full More : Type 0) (tokens : List Token) (given : List Event) (documents before : List Document)
    (r : Done) (p : PushLoader) (after : List Document)
    (s : Done) (q : PushLoader) (later : List Document) : Type 0 where
  alike : PushLoadsAlike r p after s q later → OnePushLoads Full More tokens given documents before r p after s q later
  first_runs_out : PushLoadsRunOut Full tokens given documents before r p after
      → OnePushLoads Full More tokens given documents before r p after s q later
  second_runs_out : PushLoadsRunOut More tokens given documents before s q later
      → OnePushLoads Full More tokens given documents before r p after s q later

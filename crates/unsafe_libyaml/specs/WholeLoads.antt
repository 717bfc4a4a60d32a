-- All documents of a source as a value (docs/DEFINITIONS.md, "Loads").
use Rattle.std.specs.Prelude.{◌≡◌, ◌⊎◌, ◌++◌, ◌∷◌, List, [], None, Some, map, Ok}
use Rattle.libyaml_documents.specs.Documents.{Document}
use Rattle.libyaml_grammar.specs.partial.DeterminedEvents.{BeginsEach}
use Rattle.libyaml_types.specs.Fault.{SourceResult, Fault, fault_of}
use Rattle.libyaml_grammar.specs.runs.Runs.{Ending, Fails}
use Rattle.libyaml_grammar.specs.grammar.Events.{Event}
use Rattle.libyaml_grammar.specs.grammar.Nesting.{NestsSoFar}
use Rattle.libyaml_grammar.specs.grammar.Tokens.{Token}
use Rattle.libyaml_types.specs.declared.fault.yaml_parser_t_prefix.{yaml_parser_t_prefix}
use Rattle.libyaml_types.specs.declared.source.yaml_token_source_t.{Ghosts}
use Rattle.libyaml_events.specs.sources.Calls.{Gave}
use Rattle.libyaml_events.specs.sources.Determined.{BeginsEachRun}
use Rattle.libyaml_events.specs.sources.Parsing.{IsWhole}
use Rattle.libyaml_graphs.specs.loads.Loads.{Load, last_load, loads}
use Rattle.unsafe_libyaml.specs.declared.load_all.yaml_documents_t.{yaml_documents_t}
use Rattle.unsafe_libyaml.specs.WholeRun.{Asked, StoppedBy, ending_of}

-- these documents, and after them the document without root or the error
abbrev pub as_whole_loads : List Document → Ending → List Load
as_whole_loads documents ending = map (λ (d : Document). Ok d) documents ++ last_load ending ∷ []

-- These loads; or the source failed early after the results that it gave, by an error that it names as possible where
-- it then stood, and the documents are a prefix. A list never does.
pub data LoadsTo {S : Type 0} (g : Ghosts S) (source : S) (all : yaml_documents_t) (loads : List Load) : Type 0 where
  whole : as_whole_loads all.documents.items (ending_of all.fault) ≡ loads → LoadsTo g source all loads
  broken_off : (given : List SourceResult) (s : S) (f : Fault) → Gave g.gives source given s → g.may_break s f
      → ending_of all.fault ≡ Fails f
      → (rest : List Load) → loads ≡ map (λ (d : Document). Ok d) all.documents.items ++ rest
      → LoadsTo g source all loads

-- these events have a composer error, whatever follows them: their loads are these documents and the error
abbrev pub ComposerError : List Event → yaml_documents_t → Type 0
ComposerError taken all = (rest : List Event) (x : Ending)
    → loads (taken ++ rest) x ≡ as_whole_loads all.documents.items (ending_of all.fault)

-- The loads over any source, which took these events of the parser: the documents and the error are the loads of these
-- events, and the documents are the first loads of them, whatever comes after. The events begin those of each valid
-- list that begins with the tokens, and nest; without an error they are a whole tree's, and so are the tokens; and an
-- error is the parser's, or a composer error of these events.
pub record GathersLoads {S : Type 0} (gives : S → SourceResult → S → Type 0) (source : S) (all : yaml_documents_t) : Type 0 where
  pub asked : List Token
  pub last : List SourceResult
  pub taken : List Event
  pub tokens : Asked gives source asked last taken
  pub begins : BeginsEach asked taken
  pub begins_run : BeginsEachRun asked taken
  pub nests : NestsSoFar taken
  pub are_loads : as_whole_loads all.documents.items (ending_of all.fault) ≡ loads taken (ending_of all.fault)
  pub are_first : (rest : List Event) (x : Ending)
      → (later : List Load) × (loads (taken ++ rest) x ≡ map (λ (d : Document). Ok d) all.documents.items ++ later)
  pub whole : all.fault ≡ None → IsWhole asked taken
  pub stopped : (f : yaml_parser_t_prefix) → all.fault ≡ Some f → StoppedBy asked last taken (fault_of f)
      ⊎ ComposerError taken all

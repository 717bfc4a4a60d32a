-- A whole run as a value (docs/DEFINITIONS.md, "Runs").
use Rattle.std.specs.Prelude.{◌≡◌, ◌++◌, ◌∷◌, List, [], Option, Some, None, Err}
use Rattle.libyaml_grammar.specs.grammar.Events.{Event}
use Rattle.libyaml_types.specs.Fault.{SourceResult, Fault, fault_of}
use Rattle.libyaml_types.specs.Errors.{IsSourceError}
use Rattle.libyaml_grammar.specs.runs.Runs.{Ending, Ends, Fails}
use Rattle.libyaml_grammar.specs.partial.DeterminedEvents.{Begins, BeginsEach}
use Rattle.libyaml_grammar.specs.grammar.Nesting.{NestsSoFar}
use Rattle.libyaml_grammar.specs.grammar.Tokens.{Token}
use Rattle.libyaml_events.specs.sources.Calls.{Gave}
use Rattle.libyaml_events.specs.sources.Determined.{BeginsEachRun}
use Rattle.libyaml_events.specs.sources.History.{source_results}
use Rattle.libyaml_events.specs.sources.Needs.{EachNeeded, EachWasNeeded}
use Rattle.libyaml_events.specs.sources.Parsing.{HasFailed, IsWhole, StopsShort}
use Rattle.libyaml_types.specs.declared.fault.yaml_parser_t_prefix.{yaml_parser_t_prefix}
use Rattle.libyaml_types.specs.declared.source.yaml_token_source_t.{Ghosts}
use Rattle.unsafe_libyaml.specs.declared.parse_all.yaml_run_t.{yaml_run_t}

-- how a run ended, by the error after its events
abbrev pub ending_of : Option yaml_parser_t_prefix → Ending
ending_of None = Ends
ending_of (Some f) = Fails (fault_of f)

-- These events and this ending; or the source failed early after the results that it gave, by an error that it names as
-- possible where it then stood, and the events are a prefix. A list never does.
pub data RunsTo {S : Type 0} (g : Ghosts S) (source : S) (run : yaml_run_t) (events : List Event)
    (ending : Ending) : Type 0 where
  whole : run.events.items ≡ events → ending_of run.fault ≡ ending → RunsTo g source run events ending
  broken_off : (given : List SourceResult) (s : S) (f : Fault) → Gave g.gives source given s → g.may_break s f
      → ending_of run.fault ≡ Fails f → Begins run.events.items events → RunsTo g source run events ending

-- What a source was asked for until a run stopped: it gave these tokens and then, where a call failed, what that call asked
-- for. Each was needed when it was asked for.
pub record Asked {S : Type 0} (gives : S → SourceResult → S → Type 0) (source : S) (asked : List Token)
    (last : List SourceResult) (given : List Event) : Type 0 where
  pub stands : S
  pub gave : Gave gives source (source_results asked last) stands
  pub needed : EachWasNeeded [] asked [] given
  pub needed_last : EachNeeded asked last given

-- Why the parser failed after these tokens and events, in a call that asked for the results `last`: by an error of the
-- grammar, or by the source's own, which is kept with all its fields.
pub data StoppedBy (asked : List Token) (last : List SourceResult) (given : List Event) (f : Fault) : Type 0 where
  of_grammar : (l : List Token) → last ≡ source_results l [] → HasFailed (asked ++ l) given f → StoppedBy asked last given f
  of_source : (l : List Token) → last ≡ source_results l (Err f ∷ []) → IsSourceError f.error
      → StopsShort (asked ++ l) given → StoppedBy asked last given f

-- A run over any source: the events begin those of each valid list that begins with the tokens, and of each run that
-- does, and nest; without an error they are a whole tree's, and so are the tokens; and an error came of these tokens.
pub record Gathers {S : Type 0} (gives : S → SourceResult → S → Type 0) (source : S) (run : yaml_run_t) : Type 0 where
  pub asked : List Token
  pub last : List SourceResult
  pub tokens : Asked gives source asked last run.events.items
  pub begins : BeginsEach asked run.events.items
  pub begins_run : BeginsEachRun asked run.events.items
  pub nests : NestsSoFar run.events.items
  pub whole : run.fault ≡ None → IsWhole asked run.events.items
  pub stopped : (f : yaml_parser_t_prefix) → run.fault ≡ Some f → StoppedBy asked last run.events.items (fault_of f)

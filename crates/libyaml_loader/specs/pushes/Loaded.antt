-- What a loader was handed since it was made, and the documents that it gave (docs/DEFINITIONS.md, "Documents pushed").
use Rattle.std.specs.Prelude.{◌≡◌, ◌⊎◌, ◌||◌, ℕ, List, Bool, true}
use Rattle.libyaml_types.specs.Fault.{Fault, no_fault}
use Rattle.libyaml_grammar.specs.grammar.Tokens.{Token}
use Rattle.libyaml_grammar.specs.grammar.Events.{Event}
use Rattle.libyaml_documents.specs.Documents.{Document}
use Rattle.libyaml_events.specs.machine.Config.{is_fault}
use Rattle.libyaml_events.specs.sources.Pushed as pushed
use Rattle.libyaml_events.specs.sources.Pushed.{PushParser, Pushed}
use Rattle.libyaml_graphs.specs.machine.Loader.{State, between}
use Rattle.libyaml_graphs.specs.loads.Leads.{Leads}

-- What is kept between two tokens: the parser; whether a document is open, and its nodes so far; the error; and how
-- many entries each list of a document may have.
pub record PushLoader : Type 0 where
  pub parser : PushParser
  pub state : State
  pub fault : Fault
  pub max_entries : ℕ

abbrev pub standing_loader : PushParser → State → Fault → ℕ → PushLoader
standing_loader p s f n = record { parser = p; state = s; fault = f; max_entries = n }

-- a loader that no token was handed to
abbrev pub made_loader : ℕ → PushLoader
made_loader n = standing_loader pushed.new_push_parser between no_fault n

-- Since the loader was made it was handed these tokens and gave these documents, without an error: its parser gave
-- some events, and the loads of all that begin so are these documents and then those from where it stands.
pub record Loaded (l : PushLoader) (tokens : List Token) (documents : List Document) : Type 0 where
  pub events : List Event
  pub pushed : Pushed l.parser tokens events
  pub leads : Leads l.max_entries between events documents l.state
  pub none_kept : l.fault ≡ no_fault

-- P holds of all that the loader was handed and gave
abbrev pub ForLoaded : PushLoader → (List Token → List Document → Type 0) → Type 0
ForLoaded l P = (tokens : List Token) (documents : List Document) → Loaded l tokens documents → P tokens documents

abbrev pub loader_fault : PushLoader → Fault
loader_fault l = l.fault

abbrev pub loader_keeps_fault : PushLoader → Bool
loader_keeps_fault l = is_fault l.fault.error

-- the stream's end was handed to the loader, or it keeps an error
abbrev pub loader_has_stopped : PushLoader → Bool
loader_has_stopped l = loader_keeps_fault l || pushed.has_stopped l.parser

-- an error is kept, or some pushes lead to a loader that stands so
abbrev pub RemembersLoads : PushLoader → Type 0
RemembersLoads l = (loader_keeps_fault l ≡ true)
    ⊎ ((tokens : List Token) × (documents : List Document) × Loaded l tokens documents)

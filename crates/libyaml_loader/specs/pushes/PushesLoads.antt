-- What a push of a token to a loader did, and what it left (docs/DEFINITIONS.md, "Documents pushed").
use Rattle.std.specs.Prelude.{◌≡◌, ◌≤◌, ◌*◌, ◌++◌, ◌∷◌, ℕ, List, [], length, Ok, Err, IfErr, Some, true, false}
use Rattle.libyaml_types.specs.Fault.{Fault, memory_fault}
use Rattle.libyaml_grammar.specs.grammar.Tokens.{Token}
use Rattle.libyaml_grammar.specs.grammar.Events.{Event}
use Rattle.libyaml_grammar.specs.grammar.ValidLists.{has_end}
use Rattle.libyaml_grammar.specs.runs.Runs.{Ends}
use Rattle.libyaml_documents.specs.Documents.{Document}
use Rattle.libyaml_events.specs.machine.Config.{Machine}
use Rattle.libyaml_events.specs.machine.Want.{Want}
use Rattle.libyaml_events.specs.sources.Determined.{BeginsEachRun}
use Rattle.libyaml_events.specs.sources.Pushed.{Fed}
use Rattle.libyaml_events.specs.sources.Pushes.{Done, NeedsMemory, done_by}
use Rattle.libyaml_graphs.specs.loads.Bounds.{IsBoundedLoads}
use Rattle.libyaml_graphs.specs.loads.Linear.{documents_size}
use Rattle.libyaml_graphs.specs.loads.Loads.{Load, last_load}
use Rattle.libyaml_graphs.specs.machine.Loader.{State, between}
use Rattle.libyaml_graphs.specs.loads.Leads.{Leads, as_loads}
use Rattle.libyaml_loader.specs.pushes.LoadMemory.{NeedsMemoryAt}
use Rattle.libyaml_loader.specs.pushes.Loaded.{ForLoaded, Loaded, PushLoader, loader_fault, loader_has_stopped, loader_keeps_fault}

-- The loads over these tokens, after which the source fails so, are these documents and then this load: within the bound n.
abbrev pub AreThen : ℕ → List Token → Fault → List Document → Load → Type 0
AreThen n tokens source documents last = IsBoundedLoads n tokens source (as_loads documents ++ last ∷ [])

-- the documents are the first of the loads of all tokens that begin so, also of tokens with an error
abbrev pub BeginsEachLoads : ℕ → List Token → List Document → Type 0
BeginsEachLoads n tokens documents = (rest : List Token) (source : Fault) (loads : List Load)
    → IsBoundedLoads n (tokens ++ rest) source loads
    → (later : List Load) × (loads ≡ as_loads documents ++ later)

-- Where memory is needed, after these tokens, these events and where they led: for the next step of the parser, or
-- for the event that it gives, for which the loader's own list may have no room; or at an event that the tokens
-- determine.
pub data LoadNeedsMemory (Full : Type 0) (tokens : List Token) (events : List Event) (here : State) : Type 0 where
  in_parser : (w : Want) (c : Machine) (u : Token) → Fed w c (Some u) tokens events → NeedsMemory (Unit {0}) w c u
      → LoadNeedsMemory Full tokens events here
  in_loader : (e : Event) → BeginsEachRun tokens (events ++ e ∷ []) → NeedsMemoryAt Full here e
      → LoadNeedsMemory Full tokens events here

-- The loads of the tokens are these documents and then this error, whatever comes after them. Or an allocation
-- failed: after the events that were given before, some more that the tokens determine have these documents, and then
-- memory is needed.
pub data StopsLoading (Full : Type 0) (n : ℕ) (tokens : List Token) (given : List Event) (documents : List Document)
    (f : Fault) : Type 0 where
  by_tokens : ((more : List Token) (source : Fault) → AreThen n (tokens ++ more) source documents (Err f))
      → StopsLoading Full n tokens given documents f
  by_memory : f ≡ memory_fault → (more : List Event) (here : State) → BeginsEachRun tokens (given ++ more)
      → Leads n between (given ++ more) documents here
      → LoadNeedsMemory Full tokens (given ++ more) here → StopsLoading Full n tokens given documents f

-- after these tokens, the events given before the last of them, and these documents a push ended so, and left this
abbrev pub LoadEndsSo : (Full : Type 0) → List Token → (given : List Event) → List Document → Done → PushLoader → Type 0
LoadEndsSo Full tokens given documents (Ok u) new = Loaded new tokens documents
LoadEndsSo Full tokens given documents (Err x) new = StopsLoading Full new.max_entries tokens given documents (loader_fault new)

-- The token was taken: the documents that ended with it were added to those before, and the push ended so. Full
-- says that the list of documents had no room for one.
pub record TakesLoads (Full : Type 0) (old : PushLoader) (t : Token) (before : List Document) (r : Done)
    (new : PushLoader) (after : List Document)
    : Type 0 where
  pub added : List Document
  pub appended : after ≡ before ++ added
  pub ends_so : (tokens : List Token) (documents : List Document) → (l : Loaded old tokens documents)
      → LoadEndsSo Full (tokens ++ t ∷ []) l.events (documents ++ added) r new

-- A push of the token t, with these documents in the list before and after it.
pub record PushesLoads (Full : Type 0) (old : PushLoader) (t : Token) (before : List Document) (r : Done)
    (new : PushLoader) (after : List Document)
    : Type 0 where
  -- after the stream's end or an error nothing is taken
  pub stopped : loader_has_stopped old ≡ true → (new ≡ old) × (after ≡ before) × (r ≡ done_by (loader_fault old))
  -- else the token is taken, and documents are appended
  pub takes : loader_has_stopped old ≡ false → TakesLoads Full old t before r new after
  -- an error is kept for good
  pub kept : IfErr r (λ x. (x ≡ (loader_fault new).error) × (loader_keeps_fault new ≡ true))
  pub bound : new.max_entries ≡ old.max_entries
  -- what was handed and given since the loader was made: before STREAM-END the documents are all that the tokens
  -- have, whatever the source's error; and with it those of the whole stream
  pub so_far : ForLoaded new (λ tokens documents. has_end tokens ≡ false → (source : Fault)
      → AreThen new.max_entries tokens source documents (Err source))
  pub whole : ForLoaded new (λ tokens documents. has_end tokens ≡ true → (more : List Token) (source : Fault)
      → AreThen new.max_entries (tokens ++ more) source documents (last_load Ends))
  pub ended : ForLoaded new (λ tokens _. loader_has_stopped new ≡ has_end tokens)
  pub faultless : ForLoaded new (λ _ _. loader_keeps_fault new ≡ false)
  pub begins : ForLoaded new (BeginsEachLoads new.max_entries)
  -- nodes and the entries of their lists are together at most eight times the tokens
  pub linear : ForLoaded new (λ tokens documents. documents_size documents ≤ 8 * length tokens)

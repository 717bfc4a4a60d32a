-- What a load asked for, took and returned (docs/DEFINITIONS.md, "Loads of a parser").
use Rattle.std.specs.Prelude.{◌≡◌, ◌≤◌, ◌+◌, ◌++◌, ◌∷◌, List, [], None, Result, Ok, Err, true, false}
use Rattle.libyaml_types.specs.declared.enums.yaml_error_type_t.{yaml_error_type_t}
use Rattle.libyaml_documents.specs.Documents.{Document, empty_document}
use Rattle.libyaml_events.specs.sources.CallsInTurn.{Took}
use Rattle.libyaml_events.specs.machine.Config.{Parser}
use Rattle.libyaml_grammar.specs.grammar.Events.{Event}
use Rattle.libyaml_types.specs.Fault.{Fault, memory_fault}
use Rattle.libyaml_events.specs.sources.History.{ForHistory, History, between_documents, has_failed, is_over, kept_fault, keeping, stack_depth}
use Rattle.libyaml_events.specs.parsers.Lookahead.{lookahead_tokens}
use Rattle.libyaml_events.specs.parsers.Stages.{open_collections, stage_of}
use Rattle.libyaml_events.specs.sources.Parsing.{FailsBy, IsWhole}
use Rattle.libyaml_grammar.specs.runs.Runs.{Ending, Ends}
use Rattle.libyaml_events.specs.sources.RunToCome.{FailsHere, RunToCome}
use Rattle.libyaml_types.specs.declared.source.yaml_token_source_t.{Ghosts}
use Rattle.libyaml_grammar.specs.grammar.Tokens.{Token}
use Rattle.libyaml_graphs.specs.loads.Loads.{Load, last_load}
use Rattle.libyaml_loader.specs.loads.LoadGrowth.{GrowsAt}

-- what a load returns
abbrev pub DocumentOrError : Type 0
DocumentOrError = Result Document yaml_error_type_t

-- a call of the parser failed, and left no token held and the stack within its depth
pub record ParserFails {S : Type 0} (g : Ghosts S) (old new : Parser S) : Type 0 where
  pub history : (asked : List Token) (given : List Event) → History old asked given → FailsBy g.gives old new asked given
  pub runs : (events : List Event) (ending : Ending) → RunToCome g.known old events ending
      → FailsHere (g.may_break new.source) (kept_fault new) events ending
  pub no_lookahead : lookahead_tokens new ≡ []
  pub depth_left : ForHistory old (λ _ given. stack_depth new ≤ open_collections (stage_of given) + 1)

-- the parser keeps an error of the loader
abbrev pub KeptBy : {S : Type 0} → Fault → (parser new : Parser S) → Type 0
KeptBy f parser new = (asked : List Token) (given : List Event) → History parser asked given → new ≡ keeping f parser

-- The parser has ended without an error: it asked for the tokens of a whole tree, and gave the tree's events.
pub record HasEnded {S : Type 0} (p : Parser S) : Type 0 where
  pub over : is_over p ≡ true
  pub no_fault : has_failed p ≡ false
  pub whole : ForHistory p IsWhole

-- A load that returned a document: it took the events up to a document's end, which have that document whatever stands
-- after them; or all events up to the stream's end, where the parser has ended, and the document is that without root.
pub data Loads {S : Type 0} (g : Ghosts S) (load : List Event → Ending → Load) (left : List Event → List Event)
    (old new : Parser S) (d : Document) : Type 0 where
  whole : (taken : List Event) → Took g old new taken
      → ((rest : List Event) (x : Ending) → load (taken ++ rest) x ≡ Ok d)
      → ((rest : List Event) → left (taken ++ rest) ≡ rest)
      → ((asked : List Token) (given : List Event) → History old asked given → between_documents new ≡ true)
      → Loads g load left old new d
  at_end : (taken : List Event) → Took g old new taken → ((x : Ending) → load taken x ≡ last_load x)
      → (left taken ≡ [])
      → ((events : List Event) (ending : Ending) → RunToCome g.known old events ending → (events ≡ taken)
      × (ending ≡ Ends))
      → d ≡ empty_document None [] false false
      → ((asked : List Token) (given : List Event) → History old asked given → HasEnded new)
      → Loads g load left old new d

-- A load that failed: after the events that it took the parser did, and these have no error of a load; or the last of these
-- has one, which the parser keeps; or an allocation failed at the last of them, where the load may take memory.
pub data LoadFails {S : Type 0} (g : Ghosts S) (load : List Event → Ending → Load) (left : List Event → List Event)
    (old new : Parser S) : Type 0 where
  by_parser : (taken : List Event) (parser : Parser S) → Took g old parser taken → ParserFails g parser new
      → ((x : Ending) → load taken x ≡ last_load x) → LoadFails g load left old new
  by_loader : (before : List Event) (e : Event) (parser : Parser S) → Took g old parser (before ++ e ∷ [])
      → (f : Fault) → KeptBy f parser new
      → ((x : Ending) → load before x ≡ last_load x)
      → ((rest : List Event) (x : Ending) → load ((before ++ e ∷ []) ++ rest) x ≡ Err f)
      → LoadFails g load left old new
  by_memory : (before : List Event) (e : Event) (parser : Parser S) → Took g old parser (before ++ e ∷ [])
      → KeptBy memory_fault parser new → GrowsAt load before e → LoadFails g load left old new

abbrev pub LoadsFrom : {S : Type 0} → Ghosts S → (List Event → Ending → Load) → (List Event → List Event) → Parser S
    → DocumentOrError → Parser S → Type 0
LoadsFrom g load left old (Ok d) new = Loads g load left old new d
LoadsFrom g load left old (Err x) new = LoadFails g load left old new

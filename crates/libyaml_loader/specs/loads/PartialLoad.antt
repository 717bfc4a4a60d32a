-- What a load gives that fails (docs/DEFINITIONS.md, "Half a document").
use Rattle.std.specs.Prelude.{◌≡◌, ◌++◌, ◌∷◌, ℕ, List, [], Option, None, Result, Ok, Err, option_map, string_bytes}
use Rattle.libyaml_types.specs.Events.{zero_mark}
use Rattle.libyaml_types.specs.Fault.{Fault, memory_fault}
use Rattle.libyaml_types.specs.Types.{event_anchor}
use Rattle.libyaml_types.specs.declared.enums.yaml_error_type_t.{yaml_error_type_t}
use Rattle.libyaml_types.specs.declared.enums.yaml_error_type_t.TheVariants.{YAML_MEMORY_ERROR}
use Rattle.libyaml_types.specs.declared.source.yaml_token_source_t.{Ghosts}
use Rattle.libyaml_grammar.specs.grammar.Events.{Event}
use Rattle.libyaml_grammar.specs.runs.Runs.{Ending}
use Rattle.libyaml_documents.specs.Documents.{Document}
use Rattle.libyaml_events.specs.machine.Config.{Parser}
use Rattle.libyaml_events.specs.sources.CallsInTurn.{Took}
use Rattle.libyaml_events.specs.sources.Naming.{NamesHandle}
use Rattle.libyaml_graphs.specs.graphs.GraphParts.{Opening, part_of}
use Rattle.libyaml_graphs.specs.loads.Leads.{Leads, loads_from}
use Rattle.libyaml_graphs.specs.machine.Loader.{Loader, State, between, bounded_option, failed, within}
use Rattle.libyaml_loader.specs.declared.load_partial.yaml_partial_t.{yaml_partial_t}
use Rattle.libyaml_loader.specs.loads.HalfDocument.{IsHalf, last_end}
use Rattle.libyaml_loader.specs.loads.Loading.{DocumentOrError, KeptBy, ParserFails}
use Rattle.libyaml_loader.specs.pushes.LoadMemory.{NeedsMemoryAt}

-- the same as a load's result, without the half
abbrev pub as_load : Result Document yaml_partial_t → DocumentOrError
as_load (Ok d) = Ok d
as_load (Err p) = Err p.error

-- what an error of a load is about: the anchor of its event, unless a list is full
abbrev pub named_by : yaml_error_type_t → Option (List ℕ) → Option (List ℕ)
named_by YAML_MEMORY_ERROR a = None
named_by _ a = a

-- the document that is open, if one is, takes the event: no list is full, no anchor repeated, no alias undefined
abbrev pub DocumentTakes : ℕ → State → Event → Type 0
DocumentTakes n here e = (o : Opening) (l : Loader) → here ≡ within o l → (x : Fault) → bounded_option n l (part_of e) ≡ failed x → ⊥

-- After the events that it took the parser failed, with the name of an undefined handle, or the next event has an error of a
-- load: then the document that they leave open is closed where the last of them ends. None is given if an allocation failed
-- where the load takes memory for the next event, and the document takes that.
pub data HalfOf {S : Type 0} (g : Ghosts S) (n : ℕ) (old new : Parser S) (p : yaml_partial_t) : Type 0 where
  by_parser : (taken : List Event) (parser : Parser S) (here : State) → Took g old parser taken
      → ParserFails g parser new → Leads n between taken [] here → IsHalf n (last_end zero_mark taken) here p.document
      → NamesHandle g.gives parser p.error new (option_map string_bytes p.name) → HalfOf g n old new p
  by_loader : (taken : List Event) (e : Event) (parser : Parser S) (here : State) (f : Fault)
      → Took g old parser (taken ++ e ∷ []) → KeptBy f parser new → Leads n between taken [] here
      → ((rest : List Event) (x : Ending) → loads_from n here (e ∷ rest) x ≡ Err f ∷ [])
      → IsHalf n (last_end zero_mark taken) here p.document
      → option_map string_bytes p.name ≡ named_by f.error (event_anchor e.content) → HalfOf g n old new p
  by_memory : (taken : List Event) (e : Event) (parser : Parser S) (here : State) → Took g old parser (taken ++ e ∷ [])
      → KeptBy memory_fault parser new → Leads n between taken [] here → NeedsMemoryAt ⊥ here e → DocumentTakes n here e
      → p.document ≡ None → p.name ≡ None → HalfOf g n old new p

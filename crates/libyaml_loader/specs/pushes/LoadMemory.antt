-- Where a loader that is handed events needs memory (docs/DEFINITIONS.md, "Documents pushed").
use Rattle.std.specs.Prelude.{◌≡◌, Some, true}
use Rattle.libyaml_grammar.specs.grammar.Events.{Event}
use Rattle.libyaml_graphs.specs.graphs.GraphParts.{Closing, Opening, closing_of, part_of}
use Rattle.libyaml_graphs.specs.machine.Loader.{Loader, State, within}
use Rattle.libyaml_loader.specs.loads.LoadGrowth.{load_may_grow}

-- At this event memory is needed: for a node, an item or a pair of the document that is open; or it ends a
-- document, for which the list of documents has no room.
pub data NeedsMemoryAt (Full : Type 0) (here : State) (e : Event) : Type 0 where
  for_node : (o : Opening) (l : Loader) → here ≡ within o l → load_may_grow l (part_of e) ≡ true → NeedsMemoryAt Full here e
  for_document : (c : Closing) → closing_of e ≡ Some c → Full → NeedsMemoryAt Full here e

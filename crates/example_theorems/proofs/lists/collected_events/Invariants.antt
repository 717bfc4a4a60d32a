use Rattle.std.proofs.Common.{[]}
use Rattle.libyaml_events.specs.sources.Iterated.{Iterated, items_then}
use Rattle.example_theorems.proofs.lists.collected_events.Given as goal

abbrev pub invariant-loop-item : goal.invariant-loop-item
invariant-loop-item g l =
    Iterated g.S.yaml_token_source_t l.initial.item-iterator (items_then [] l.events.items) l.item-iterator

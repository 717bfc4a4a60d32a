use Rattle.std.proofs.Common.{◌≡◌, Ok, Some, refl, rules}
use Rattle.libyaml_loader.proofs.exported.Yielding.{after_event}
use Rattle.yaml_bounds.specs.BoundedEvents.{by_event}
use Rattle.yaml_bounds.proofs.bounded_events.Yaml_parser_bounded_events_tIterator.next.Goals as goal

pub keep_fault-requires-clause-first : goal.keep_fault-requires-clause-first
keep_fault-requires-clause-first g c =
    let it : c.next-item.result ≡ Some (Ok c.in-Some-Ok.event) = search rules in
    after_event g.S.yaml_token_source_t _ _ _ c.remembered.ensures (rw it at c.next-item.ensures.steps)

pub returns-in-Err-clause-steps : goal.returns-in-Err-clause-steps
returns-in-Err-clause-steps g c =
    let it : c.next-item.result ≡ Some (Ok c.in-Some-Ok.event) = search rules in
    (by_event c.in-Some-Ok.event c.next-item.new.self (rw it at c.next-item.ensures.steps) c.in-Err.ensures.refuses c.keep_fault.ensures.kept, refl)

use Rattle.std.proofs.Common.{◌≡◌, Ok, Some, refl, rules, subst, sym, arith}
use Rattle.libyaml_types.specs.Fault.{Fault}
use Rattle.libyaml_loader.specs.composed.ComposedEvents.{by_loader}
use Rattle.libyaml_loader.specs.composed.EventComposer.{RefusesBy}
use Rattle.libyaml_loader.proofs.exported.Yielding.{after_event}
use Rattle.libyaml_loader.proofs.composed_events.Yaml_parser_composed_events_tIterator.next.Goals as goal

pub keep_fault-requires-clause-first : goal.keep_fault-requires-clause-first
keep_fault-requires-clause-first g c =
    let it : c.next-item.result ≡ Some (Ok c.in-Some-Ok.event) = search rules in
    after_event g.S.yaml_token_source_t _ _ _ c.remembered.ensures (rw it at c.next-item.ensures.steps)

pub returns-in_default-take-clause-steps : goal.returns-in_default-take-clause-steps
returns-in_default-take-clause-steps g c = grind arith

pub returns-in-Err-clause-steps : goal.returns-in-Err-clause-steps
returns-in-Err-clause-steps g c =
    let it : c.next-item.result ≡ Some (Ok c.in-Some-Ok.event) = search rules in
    let refuses = subst (λ (f : Fault). RefusesBy c.args.self.now.composer c.in-Some-Ok.event f)
    (sym c.fault-fault.ensures.fault) c.in-Err.ensures.refuses in
    (by_loader c.in-Some-Ok.event c.next-item.new.self (rw it at c.next-item.ensures.steps) refuses c.keep_fault.ensures.kept, refl)

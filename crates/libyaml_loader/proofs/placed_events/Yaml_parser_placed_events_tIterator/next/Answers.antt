use Rattle.std.proofs.Common.{◌≡◌, Ok, Some, refl, rules, subst, sym}
use Rattle.libyaml_types.specs.Fault.{Fault}
use Rattle.libyaml_loader.specs.composed.ComposedEvents.{by_loader}
use Rattle.libyaml_loader.specs.composed.EventComposer.{RefusesBy}
use Rattle.libyaml_loader.proofs.exported.Yielding.{after_event}
use Rattle.libyaml_loader.proofs.placed_events.Yaml_parser_placed_events_tIterator.next.Goals as goal

pub keep_fault-requires-clause-first : goal.keep_fault-requires-clause-first
keep_fault-requires-clause-first g c =
    let it : c.next.result ≡ Some (Ok c.in-Ok.event) = search rules in
    after_event g.S.yaml_token_source_t _ _ _ c.remembered.ensures (rw it at c.next.ensures.steps)

pub returns-in-Err-take_placed-clause-steps : goal.returns-in-Err-take_placed-clause-steps
returns-in-Err-take_placed-clause-steps g c =
    let it : c.next.result ≡ Some (Ok c.in-Ok.event) = search rules in
    let refuses = subst (λ (f : Fault). RefusesBy c.args.self.now.composer c.in-Ok.event f)
    (sym c.fault-fault.ensures.fault) c.in-Err-take_placed.ensures.refuses in
    (by_loader c.in-Ok.event c.next.new.self (rw it at c.next.ensures.steps) refuses c.keep_fault.ensures.kept, refl)

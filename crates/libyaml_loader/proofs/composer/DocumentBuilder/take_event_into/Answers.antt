use Rattle.std.proofs.Common.{arith}
use Rattle.libyaml_loader.proofs.pushes.Steps.{into_full, into_refused}
use Rattle.libyaml_loader.proofs.composer.DocumentBuilder.take_event_into.Goals as goal

pub returns-in_err-take_event-clause-composes : goal.returns-in_err-take_event-clause-composes
returns-in_err-take_event-clause-composes c = grind (arith, into_refused)

pub returns-then-is_err-clause-composes : goal.returns-then-is_err-clause-composes
returns-then-is_err-clause-composes c = grind (arith, into_full)

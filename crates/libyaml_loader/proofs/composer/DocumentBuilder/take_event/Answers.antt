use Rattle.std.proofs.Common.{sym, arith}
use Rattle.libyaml_loader.proofs.pushes.Steps.{refused}
use Rattle.libyaml_loader.proofs.composer.DocumentBuilder.take_event.Goals as goal

pub returns-in-Ok-clause-sound : goal.returns-in-Ok-clause-sound
returns-in-Ok-clause-sound c = grind arith

pub returns-in-Err-clause-composes : goal.returns-in-Err-clause-composes
returns-in-Err-clause-composes c =
    refused c.args.self.now c.add_event.new.self c.args.event.now c.requires.sound c.if-not-self.false c.in-Err.refusal _
    (sym c.in_default.ensures) c.in-Err.ensures.err (rw c.in-Err.ensures.mark at c.refuse.ensures.fault)

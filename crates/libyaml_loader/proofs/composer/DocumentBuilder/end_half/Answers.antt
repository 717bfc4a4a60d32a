use Rattle.libyaml_loader.proofs.document.Closing.{half_here, none_here, no_memory}
use Rattle.libyaml_loader.proofs.composer.DocumentBuilder.end_half.Goals as goal

pub returns-in-Ok : goal.returns-in-Ok
returns-in-Ok c = half_here c.args.self.now c.args.mark c.close.new.self c.end.result c.if-not-self.false c.requires
    c.in-Ok.ensures.closed c.in-Ok.ensures.document c.end.ensures.ended

pub returns-then-not-self : goal.returns-then-not-self
returns-then-not-self c = none_here c.args.self.now c.args.mark c.if-not-self.true

pub returns-in-Err : goal.returns-in-Err
returns-in-Err c = no_memory c.args.self.now c.args.mark c.if-not-self.false c.requires c.in-Err.ensures.err

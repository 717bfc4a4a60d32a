use Rattle.std.proofs.Common.{ap}
use Rattle.libyaml_events.specs.machine.Config.{Machine, config_of}
use Rattle.libyaml_events.specs.machine.Machine.{seen}
use Rattle.libyaml_events.proofs.layer.Putting.{fails_as, refused}
use Rattle.libyaml_events.proofs.parser.TokenParser.take_version.Goals as goal

pub returns-in_default : goal.returns-in_default
returns-in_default c = record {
  puts = λ e out h l.
      let s = c.version_directive.ensures.steps (seen c.args.token.now c.args.token.now.content) in
      let o = refused c.version_directive.result c.args.self.now c.args.token.now c.version_directive.new.read out h _
      c.version_directive.new.self c.version_directive.ensures.fits c.in_default.not-Wants l.1
      (rw (
        c.hold_version-is_accepted.ensures.accepted,
        c.hold_version-is_accepted.ensures.reading,
        ap config_of c.self.view_is,
      ) at s) in
      rw c.set_document_problem.ensures.failed (
        fails_as out c.set_document_problem.new.self _ c.set_document_problem.ensures.error
            (ap (λ (d : Machine). d.fault) c.set_document_problem.ensures.kept) o,
        λ i. absurd cc,
      );
  error = λ h. c.set_document_problem.ensures.error;
}

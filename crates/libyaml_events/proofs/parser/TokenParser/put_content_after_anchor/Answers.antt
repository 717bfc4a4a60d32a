use Rattle.std.proofs.Common.{None, refl}
use Rattle.libyaml_events.proofs.layer.Contents.{asked_content}
use Rattle.libyaml_events.proofs.parser.TokenParser.put_content_after_anchor.Goals as goal

pub returns-clause-puts : goal.returns-clause-puts
returns-clause-puts c = λ out h l.
    let w = c.put_content.ensures.puts out h
    (asked_content out h c.args.token.now c.args.pending.now c.args.self.now None (rw c.requires.untagged refl) l) in
    (w.0, λ e. absurd (w.1 e))

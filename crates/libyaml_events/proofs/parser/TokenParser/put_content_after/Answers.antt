use Rattle.std.proofs.Common.{option_map, string_bytes}
use Rattle.libyaml_events.proofs.layer.Contents.{asked_content}
use Rattle.libyaml_events.proofs.parser.TokenParser.put_content_after.Goals as goal

pub returns-clause-puts : goal.returns-clause-puts
returns-clause-puts c = λ out h l.
    let w = c.put_content.ensures.puts out h
    (rw (c.take_tag.ensures.reading, c.take_tag.ensures.anchor, c.in-Ok.ensures.ok)
    (asked_content out h c.args.token.now c.args.pending.now c.args.self.now (option_map string_bytes c.in-Ok.tag)
    c.in-Ok.ensures.tag l)) in
    (w.0, λ e. absurd (w.1 e))

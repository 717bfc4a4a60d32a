use Rattle.std.proofs.Common.{ap}
use Rattle.libyaml_events.specs.declared.pending.Pending.{Pending}
use Rattle.libyaml_events.proofs.parser.TokenParser.lead_content.Goals as goal

pub returns-in-FullMarks-clause-led : goal.returns-in-FullMarks-clause-led
returns-in-FullMarks-clause-led g c = λ o h a t i.
    let u = c.lead_content_within.ensures.undone c.in-FullMarks.is in
    let reading = ap (λ (x : Pending). x.reading) u.1 in
    rw reading at (c.lead_content_again.ensures.led o h a t (rw (u.0, reading) i))

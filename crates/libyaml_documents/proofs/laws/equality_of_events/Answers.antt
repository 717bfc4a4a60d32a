use Rattle.std.proofs.Common.{sym, ◌∙◌}
use Rattle.libyaml_documents.proofs.EventsEqual.{event_decides}
use Rattle.libyaml_documents.proofs.laws.equality_of_events.Goals as goal

pub returns : goal.returns
returns c =
    let decides = event_decides c.args.event.now c.args.other.now in
    (λ is. decides.0 (sym c.eq.ensures ∙ is), λ one. c.eq.ensures ∙ decides.1 one)

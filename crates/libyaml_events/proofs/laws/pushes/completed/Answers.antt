use Rattle.libyaml_events.proofs.expected.Completing.{fed_completed}
use Rattle.libyaml_events.proofs.laws.pushes.completed.Goals as goal

pub returns : goal.returns
returns c p tokens events h n viable = fed_completed h n viable

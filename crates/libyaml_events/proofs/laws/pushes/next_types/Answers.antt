use Rattle.libyaml_events.proofs.expected.Expected.{fed_accepts}
use Rattle.libyaml_events.proofs.laws.pushes.next_types.Goals as goal

pub returns : goal.returns
returns c w p tokens events h n viable k = fed_accepts h n viable k

use Rattle.libyaml_graphs.proofs.loads.StopFaults.{in_stream, whatever_follows}
use Rattle.libyaml_graphs.proofs.laws.faults_of_loads.Goals as goal

pub returns-clause-whatever_follows : goal.returns-clause-whatever_follows
returns-clause-whatever_follows c n e f is = whatever_follows f n e is

pub returns-clause-in_stream : goal.returns-clause-in_stream
returns-clause-in_stream c n e f is = in_stream f n e is

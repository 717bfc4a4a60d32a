use Rattle.rust_original.proofs.runs.Laws.{run_here, whole_here}
use Rattle.rust_original.proofs.laws.runs_here.Goals as goal

pub returns-clause-run : goal.returns-clause-run
returns-clause-run c = run_here

pub returns-clause-whole : goal.returns-clause-whole
returns-clause-whole c = whole_here

use Rattle.libyaml_grammar.proofs.exported.Running.{one_run_proof, some_run_proof}
use Rattle.libyaml_grammar.proofs.laws.one_run.Goals as goal

pub returns-clause-some : goal.returns-clause-some
returns-clause-some c = some_run_proof

pub returns-clause-one : goal.returns-clause-one
returns-clause-one c = one_run_proof

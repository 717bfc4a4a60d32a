use Rattle.libyaml_graphs.proofs.graphs.Nestings.{one_nesting, one_value}
use Rattle.libyaml_graphs.proofs.laws.one_nesting.Goals as goal

pub returns-clause-of_value : goal.returns-clause-of_value
returns-clause-of_value c = one_value

pub returns-clause-of_documents : goal.returns-clause-of_documents
returns-clause-of_documents c = one_nesting

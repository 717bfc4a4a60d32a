use Rattle.libyaml_graphs.proofs.graphs.Ids.{holds_children, texts_hold}
use Rattle.libyaml_graphs.proofs.laws.no_value_lacks.Goals as goal

pub returns-clause-of_value : goal.returns-clause-of_value
returns-clause-of_value c = holds_children

pub returns-clause-of_documents : goal.returns-clause-of_documents
returns-clause-of_documents c = texts_hold

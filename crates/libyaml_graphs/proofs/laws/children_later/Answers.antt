use Rattle.libyaml_graphs.proofs.graphs.Ids.{children_later, texts_later}
use Rattle.libyaml_graphs.proofs.laws.children_later.Goals as goal

pub returns-clause-of_value : goal.returns-clause-of_value
returns-clause-of_value c = children_later

pub returns-clause-of_documents : goal.returns-clause-of_documents
returns-clause-of_documents c = texts_later

use Rattle.libyaml_documents.proofs.Named.{each_pair}
use Rattle.libyaml_documents.proofs.document.yaml_document_t.pairs.Goals as goal

pub returns-clause-each : goal.returns-clause-each
returns-clause-each c there =
    rw c.new.ensures (rw c.nodes.ensures.all (rw c.pairs.ensures
    (each_pair c.args.self.now.nodes c.args.node.now c.nodes.ensures.ids_in_range there)))

use Rattle.libyaml_documents.proofs.Named.{each_item}
use Rattle.libyaml_documents.proofs.document.yaml_document_t.items.Goals as goal

pub returns-clause-each : goal.returns-clause-each
returns-clause-each c there =
    rw c.new.ensures (rw c.nodes.ensures.all (rw c.items.ensures
    (each_item c.args.self.now.nodes c.args.node.now c.nodes.ensures.ids_in_range there)))

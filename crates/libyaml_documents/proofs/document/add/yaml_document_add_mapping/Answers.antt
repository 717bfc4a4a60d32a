use Rattle.libyaml_documents.proofs.document.add.yaml_document_add_mapping.Goals as goal

pub returns-clause-added : goal.returns-clause-added
returns-clause-added c = rw (
  c.in_ok-node.ensures.ok,
  c.in_ok-tag.ensures.ok,
  c.new.ensures.items,
) at c.push_node.ensures.added

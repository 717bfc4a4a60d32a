use Rattle.libyaml_documents.proofs.document.add.yaml_document_add_scalar.Goals as goal

pub returns-clause-added : goal.returns-clause-added
returns-clause-added c = rw (
  c.in_ok-node.ensures.ok,
  c.in_ok-tag.ensures.ok,
  c.in_ok-from_str.ensures.ok,
  c.in_ok-value.ensures.ok,
) at c.push_node.ensures.added

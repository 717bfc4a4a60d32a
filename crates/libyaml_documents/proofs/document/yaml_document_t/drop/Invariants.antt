use Rattle.libyaml_documents.proofs.document.yaml_document_t.drop.Given as goal

abbrev pub decreases-loop : goal.decreases-loop
decreases-loop l = goal.left-loop l

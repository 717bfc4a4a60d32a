-- How large documents are: their nodes, and the entries of all their lists.
use Rattle.std.specs.Prelude.{◌+◌, ℕ, suc, List, [], ◌∷◌, Ok, Err}
use Rattle.libyaml_documents.specs.Documents.{Document}
use Rattle.libyaml_documents.specs.LoadedNodes.{children_of}
use Rattle.libyaml_documents.specs.declared.node.yaml_node_t.{yaml_node_t}
use Rattle.libyaml_graphs.specs.loads.Loads.{Load}

-- nodes, and the items or pairs of each
abbrev pub size : List yaml_node_t → ℕ
size [] = 0
size (x ∷ xs) = suc (children_of x.content + size xs)

-- those of all these documents
abbrev pub documents_size : List Document → ℕ
documents_size [] = 0
documents_size (d ∷ l) = size d.nodes + documents_size l

-- those of the documents among loads
abbrev pub total_size : List Load → ℕ
total_size [] = 0
total_size (Ok d ∷ l) = size d.nodes + total_size l
total_size (Err f ∷ l) = total_size l

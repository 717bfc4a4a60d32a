-- The anchors of a document, by the entries of their map.
use Rattle.std.specs.Prelude.{ℕ, List, [], ◌∷◌, String, string_bytes, refl}
use Rattle.std.specs.FinMap.{from_entries, code}
use Rattle.std.specs.Coded.{Coded, code_by, coded_ℕ, coded_list, coded×}
use Rattle.libyaml_graphs.specs.graphs.Graphs as graphs
use Rattle.libyaml_graphs.specs.machine.Loader as loader
use Rattle.libyaml_loader.specs.declared.ids.AnchoredNode.{AnchoredNode}
use Rattle.libyaml_loader.specs.document.Ids.{anchored_node_of}

-- an anchored node is stored as the tuple of its numbers
abbrev pub carrier_code : Coded graphs.AnchoredNode
carrier_code =
    code_by (ℕ × (ℕ × (ℕ × ℕ))) (coded× coded_ℕ (coded× coded_ℕ (coded× coded_ℕ coded_ℕ)))
    (λ c. (c.id, (c.mark.index, (c.mark.line, c.mark.column))))
    (λ p. record { id = p.0; mark = record { index = p.1.0; line = p.1.1.0; column = p.1.1.1 } })
    (λ _. refl)

abbrev pub anchors_code : Coded loader.Anchors
anchors_code = code (coded_list coded_ℕ) carrier_code

abbrev pub anchored_nodes_of : {Y : Type 0} → List (String Y × AnchoredNode) → List (List ℕ × graphs.AnchoredNode)
anchored_nodes_of [] = []
anchored_nodes_of (e ∷ es) = (string_bytes e.0, anchored_node_of e.1) ∷ anchored_nodes_of es

abbrev pub anchors_of : {Y : Type 0} → List (String Y × AnchoredNode) → loader.Anchors
anchors_of es = from_entries (anchored_nodes_of es)

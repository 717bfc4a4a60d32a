-- The documents of an input's token lines, and what is written of them (docs/DEFINITIONS.md, "Runs over lines").
use Rattle.std.specs.Prelude.{ℕ, List, [], ◌∷◌, Option, IfSome, Ok, Err}
use Rattle.std.specs.List.{flat_map}
use Rattle.libyaml_documents.specs.declared.node.yaml_node_t.{yaml_node_t}
use Rattle.libyaml_types.specs.Fault.{Fault}
use Rattle.libyaml_grammar.specs.runs.Runs.{Ending, Ends, Fails}
use Rattle.libyaml_graphs.specs.loads.Loads.{IsLoads, Load}
use Rattle.line_reading.specs.sources.ReadLines.{read_lines}
use Rattle.line_writing.specs.DocumentText.{document_lines}
use Rattle.token_lines.specs.declared.run.run_end_t.{run_end_t}
use Rattle.token_lines.specs.events.EventRun.{most_tokens}
use Rattle.token_lines.specs.lines.LineRun.{Writes}

-- the lines of a load: those of a document with nodes. The document without root has none, nor has an error.
abbrev pub lines_with : List yaml_node_t → List (List ℕ) → List (List ℕ)
lines_with [] lines = []
lines_with (n ∷ ns) lines = lines

abbrev pub load_lines : Load → List (List ℕ)
load_lines (Ok d) = lines_with d.nodes (document_lines d)
load_lines (Err f) = []

abbrev pub loads_lines : List Load → List (List ℕ)
loads_lines loads = flat_map load_lines loads

-- loads end by an error, or else with the document without root
abbrev pub loads_ending : List Load → Ending
loads_ending [] = Ends
loads_ending (Ok d ∷ loads) = loads_ending loads
loads_ending (Err f ∷ loads) = Fails f

-- what was written of these loads
abbrev pub WritesLoads : (MayBreak : Fault → Type 0) → run_end_t → (old new : Option (List ℕ)) → List Load → Type 0
WritesLoads MayBreak end old new loads = Writes MayBreak end old new (loads_lines loads) (loads_ending loads)

-- the loads of the token lines of an input
abbrev pub AreLoadsOfLines : List ℕ → List Load → Type 0
AreLoadsOfLines bytes loads = IsLoads (read_lines bytes most_tokens).tokens (read_lines bytes most_tokens).fault loads

-- what a run writes of an input, where its bytes are known
abbrev pub WritesNodesOf : (bytes : Option (List ℕ)) → (MayBreak : Fault → Type 0) → run_end_t
    → (old new : Option (List ℕ)) → Type 0
WritesNodesOf bytes MayBreak end old new = IfSome bytes (λ known. (loads : List Load) → AreLoadsOfLines known loads
    → WritesLoads MayBreak end old new loads)

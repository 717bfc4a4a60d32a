-- The text of a document: its line, and a line for each node in the order of their ids (docs/DEFINITIONS.md, "Lines").
use Rattle.std.specs.Prelude.{◌≡◌, ℕ, ◌+◌, List, [], ◌∷◌, ◌++◌, Option, length, map, codes}
use Rattle.std.specs.List.{concat}
use Rattle.std.specs.Fmt.{decimal, signed_decimal}
use Rattle.std.specs.Io.KnownBytes.{Appends}
use Rattle.libyaml_documents.specs.declared.node.yaml_node_t.{yaml_node_t}
use Rattle.libyaml_documents.specs.declared.node.unnamed_yaml_node_t_data.{unnamed_yaml_node_t_data}
use Rattle.libyaml_documents.specs.declared.node.unnamed_yaml_node_t_data.TheVariants.{Scalar, Sequence, Mapping}
use Rattle.libyaml_documents.specs.declared.pairs.yaml_node_pair_t.{yaml_node_pair_t}
use Rattle.libyaml_documents.specs.Documents.{Document}
use Rattle.line_writing.specs.FieldTexts.{line_text, mark_text, flag_text, optional_version_text, string_text, directive_fields, scalar_style_text, sequence_style_text, mapping_style_text}

-- the fields of a document that follow its marks
abbrev pub document_fields : Document → List (List ℕ)
document_fields d =
    flag_text d.start_implicit ∷ flag_text d.end_implicit ∷ optional_version_text d.version_directive ∷ decimal
    (length d.tag_directives)
    ∷ directive_fields d.tag_directives

abbrev pub document_line : Document → List ℕ
document_line d = line_text (codes "DOCUMENT" ∷ mark_text d.start_mark ∷ mark_text d.end_mark ∷ document_fields d)

abbrev pub node_name : unnamed_yaml_node_t_data → List ℕ
node_name (Scalar s) = codes "SCALAR"
node_name (Sequence s) = codes "SEQUENCE"
node_name (Mapping m) = codes "MAPPING"

-- the ids of a key and its value, with `:` between them
abbrev pub pair_text : yaml_node_pair_t → List ℕ
pair_text p = signed_decimal p.key ++ codes ":" ++ signed_decimal p.value

-- the fields of a node that follow its tag
abbrev pub node_fields : unnamed_yaml_node_t_data → List (List ℕ)
node_fields (Scalar s) = string_text s.value ∷ scalar_style_text s.style ∷ []
node_fields (Sequence s) = sequence_style_text s.style ∷ decimal (length s.items) ∷ map signed_decimal s.items
node_fields (Mapping m) = mapping_style_text m.style ∷ decimal (length m.pairs) ∷ map pair_text m.pairs

-- the line of the node of this id
abbrev pub node_line : ℕ → yaml_node_t → List ℕ
node_line id n = line_text
    (decimal id ∷ node_name n.content ∷ mark_text n.start_mark ∷ mark_text n.end_mark ∷ string_text
    n.tag ∷ node_fields n.content)

-- the lines of nodes whose ids count from this one on
abbrev pub node_lines : ℕ → List yaml_node_t → List (List ℕ)
node_lines id [] = []
node_lines id (n ∷ ns) = node_line id n ∷ node_lines (id + 1) ns

abbrev pub document_lines : Document → List (List ℕ)
document_lines d = document_line d ∷ node_lines 1 d.nodes

-- the lines before one of these were written, and nothing of that one
pub record WroteBefore (before after : Option (List ℕ)) (lines : List (List ℕ)) : Type 0 where
  pub written : List (List ℕ)
  pub line : List ℕ
  pub rest : List (List ℕ)
  pub all : lines ≡ written ++ line ∷ rest
  pub wrote : Appends before after (concat written)

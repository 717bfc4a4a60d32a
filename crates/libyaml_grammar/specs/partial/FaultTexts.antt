-- The errors of a parser, field by field (docs/DEFINITIONS.md, "Errors").
use Rattle.std.specs.Prelude.{ℕ, List, Some, Bool, true, false, codes}
use Rattle.libyaml_types.specs.declared.mark.yaml_mark_t.{yaml_mark_t}
use Rattle.libyaml_types.specs.declared.enums.yaml_error_type_t.TheVariants.{YAML_PARSER_ERROR}
use Rattle.libyaml_types.specs.Fault.{Fault, no_fault}

abbrev pub parser_fault : List ℕ → yaml_mark_t → Fault
parser_fault problem mark = record no_fault { error = YAML_PARSER_ERROR; problem = Some problem; problem_mark = mark }

abbrev pub parser_fault_in : List ℕ → yaml_mark_t → List ℕ → yaml_mark_t → Fault
parser_fault_in context context_mark problem mark =
    record (parser_fault problem mark) { context = Some context; context_mark = context_mark }

-- The mark m is the start of the bad token; `opened` is the start of the collection that it stands in.

abbrev pub stream_start_fault : yaml_mark_t → Fault
stream_start_fault m = parser_fault (codes "did not find expected <stream-start>") m

abbrev pub document_start_fault : yaml_mark_t → Fault
document_start_fault m = parser_fault (codes "did not find expected <document start>") m

-- of a VERSION-DIRECTIVE after another
abbrev pub duplicate_version_fault : yaml_mark_t → Fault
duplicate_version_fault m = parser_fault (codes "found duplicate %YAML directive") m

-- of a version that is not accepted
abbrev pub version_fault : yaml_mark_t → Fault
version_fault m = parser_fault (codes "found incompatible YAML document") m

-- of a TAG-DIRECTIVE after one of the same handle
abbrev pub duplicate_tag_fault : yaml_mark_t → Fault
duplicate_tag_fault m = parser_fault (codes "found duplicate %TAG directive") m

-- no node begins here, in block or in flow context
abbrev pub content_fault : (block : Bool) → yaml_mark_t → Fault
content_fault true m = parser_fault_in (codes "while parsing a block node") m (codes "did not find expected node content") m
content_fault false m = parser_fault_in (codes "while parsing a flow node") m (codes "did not find expected node content") m

-- a TAG's handle is not declared; `first` is the start of the node's first property
abbrev pub tag_fault : (first m : yaml_mark_t) → Fault
tag_fault first m = parser_fault_in (codes "while parsing a node") first (codes "found undefined tag handle") m

abbrev pub item_fault : (opened m : yaml_mark_t) → Fault
item_fault opened m = parser_fault_in (codes "while parsing a block collection") opened
    (codes "did not find expected '-' indicator") m

abbrev pub part_fault : (opened m : yaml_mark_t) → Fault
part_fault opened m = parser_fault_in (codes "while parsing a block mapping") opened (codes "did not find expected key") m

abbrev pub sequence_fault : (opened m : yaml_mark_t) → Fault
sequence_fault opened m = parser_fault_in (codes "while parsing a flow sequence") opened
    (codes "did not find expected ',' or ']'") m

abbrev pub mapping_fault : (opened m : yaml_mark_t) → Fault
mapping_fault opened m = parser_fault_in (codes "while parsing a flow mapping") opened
    (codes "did not find expected ',' or '}'") m

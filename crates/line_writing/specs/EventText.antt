-- The line of an event: its name, its two marks, and the fields of its kind (docs/DEFINITIONS.md, "Lines").
use Rattle.std.specs.Prelude.{ℕ, List, [], ◌∷◌, length, codes}
use Rattle.std.specs.Fmt.{decimal}
use Rattle.libyaml_types.specs.declared.event.yaml_event_t.{yaml_event_t}
use Rattle.libyaml_types.specs.declared.event.unnamed_yaml_event_t_data.{unnamed_yaml_event_t_data}
use Rattle.libyaml_types.specs.declared.event.unnamed_yaml_event_t_data.TheVariants as ev
use Rattle.line_writing.specs.FieldTexts.{line_text, mark_text, optional_version_text, flag_text, string_text, optional_string_text, directive_fields, encoding_text, scalar_style_text, sequence_style_text, mapping_style_text}

abbrev pub event_name : unnamed_yaml_event_t_data → List ℕ
event_name ev.NoEvent = codes "NO-EVENT"
event_name (ev.StreamStart e) = codes "STREAM-START"
event_name ev.StreamEnd = codes "STREAM-END"
event_name (ev.DocumentStart e) = codes "DOCUMENT-START"
event_name (ev.DocumentEnd e) = codes "DOCUMENT-END"
event_name (ev.Alias e) = codes "ALIAS"
event_name (ev.Scalar e) = codes "SCALAR"
event_name (ev.SequenceStart e) = codes "SEQUENCE-START"
event_name ev.SequenceEnd = codes "SEQUENCE-END"
event_name (ev.MappingStart e) = codes "MAPPING-START"
event_name ev.MappingEnd = codes "MAPPING-END"

-- the fields that follow the marks
abbrev pub event_fields : unnamed_yaml_event_t_data → List (List ℕ)
event_fields ev.NoEvent = []
event_fields (ev.StreamStart e) = encoding_text e.encoding ∷ []
event_fields ev.StreamEnd = []
event_fields (ev.DocumentStart e) =
    flag_text e.implicit ∷ optional_version_text e.version_directive ∷ decimal
    (length e.tag_directives) ∷ directive_fields e.tag_directives
event_fields (ev.DocumentEnd e) = flag_text e.implicit ∷ []
event_fields (ev.Alias e) = string_text e.anchor ∷ []
event_fields (ev.Scalar e) =
    optional_string_text e.anchor ∷ optional_string_text e.tag ∷ string_text e.value ∷ flag_text
    e.plain_implicit ∷ flag_text e.quoted_implicit
    ∷ scalar_style_text e.style ∷ []
event_fields (ev.SequenceStart e) =
    optional_string_text e.anchor ∷ optional_string_text e.tag ∷ flag_text e.implicit ∷ sequence_style_text e.style ∷ []
event_fields ev.SequenceEnd = []
event_fields (ev.MappingStart e) =
    optional_string_text e.anchor ∷ optional_string_text e.tag ∷ flag_text e.implicit ∷ mapping_style_text e.style ∷ []
event_fields ev.MappingEnd = []

abbrev pub event_line : yaml_event_t → List ℕ
event_line e = line_text (event_name e.content ∷ mark_text e.start_mark ∷ mark_text e.end_mark ∷ event_fields e.content)

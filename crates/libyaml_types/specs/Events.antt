-- The events that calls make of their arguments, with zero marks, and the empty token and event
-- (docs/DEFINITIONS.md, "Events made by calls").
use Rattle.std.specs.Prelude.{ℕ, List, Bool, Option}
use Rattle.libyaml_types.specs.declared.enums.yaml_encoding_t.{yaml_encoding_t}
use Rattle.libyaml_types.specs.declared.enums.yaml_scalar_style_t.{yaml_scalar_style_t}
use Rattle.libyaml_types.specs.declared.enums.yaml_sequence_style_t.{yaml_sequence_style_t}
use Rattle.libyaml_types.specs.declared.enums.yaml_mapping_style_t.{yaml_mapping_style_t}
use Rattle.libyaml_types.specs.declared.mark.yaml_mark_t.{yaml_mark_t}
use Rattle.libyaml_types.specs.declared.directive.yaml_tag_directive_t.{yaml_tag_directive_t}
use Rattle.libyaml_types.specs.declared.directive.yaml_version_directive_t.{yaml_version_directive_t}
use Rattle.libyaml_types.specs.declared.token.yaml_token_t.{yaml_token_t}
use Rattle.libyaml_types.specs.declared.token.unnamed_yaml_token_t_data.TheVariants as tok
use Rattle.libyaml_types.specs.declared.event.yaml_event_t.{yaml_event_t}
use Rattle.libyaml_types.specs.declared.event.unnamed_yaml_event_t_data.{unnamed_yaml_event_t_data}
use Rattle.libyaml_types.specs.declared.event.unnamed_yaml_event_t_data.TheVariants as ev

-- the place at which a text begins
abbrev pub zero_mark : yaml_mark_t
zero_mark = record { index = 0; line = 0; column = 0 }

-- a token that holds nothing
abbrev pub empty_token : yaml_token_t
empty_token = record { content = tok.NoToken; start_mark = zero_mark; end_mark = zero_mark }

-- an event with zero marks
abbrev pub unmarked : unnamed_yaml_event_t_data → yaml_event_t
unmarked content = record { content = content; start_mark = zero_mark; end_mark = zero_mark }

-- an event that holds nothing
abbrev pub empty_event : yaml_event_t
empty_event = unmarked ev.NoEvent

abbrev pub stream_start_event : yaml_encoding_t → yaml_event_t
stream_start_event encoding = unmarked (ev.StreamStart (record { encoding = encoding }))

abbrev pub stream_end_event : yaml_event_t
stream_end_event = unmarked ev.StreamEnd

abbrev pub document_start_event : Option yaml_version_directive_t → List yaml_tag_directive_t → Bool → yaml_event_t
document_start_event version directives implicit =
    unmarked (ev.DocumentStart (record { version_directive = version; tag_directives = directives; implicit = implicit }))

abbrev pub document_end_event : Bool → yaml_event_t
document_end_event implicit = unmarked (ev.DocumentEnd (record { implicit = implicit }))

abbrev pub alias_event : List ℕ → yaml_event_t
alias_event anchor = unmarked (ev.Alias (record { anchor = anchor }))

abbrev pub scalar_event : Option (List ℕ) → Option (List ℕ) → List ℕ → Bool → Bool → yaml_scalar_style_t → yaml_event_t
scalar_event anchor tag value plain quoted style =
    unmarked (ev.Scalar (record {
      anchor = anchor;
      tag = tag;
      value = value;
      plain_implicit = plain;
      quoted_implicit = quoted;
      style = style;
    }))

abbrev pub sequence_start_event : Option (List ℕ) → Option (List ℕ) → Bool → yaml_sequence_style_t → yaml_event_t
sequence_start_event anchor tag implicit style =
    unmarked (ev.SequenceStart (record { anchor = anchor; tag = tag; implicit = implicit; style = style }))

abbrev pub sequence_end_event : yaml_event_t
sequence_end_event = unmarked ev.SequenceEnd

abbrev pub mapping_start_event : Option (List ℕ) → Option (List ℕ) → Bool → yaml_mapping_style_t → yaml_event_t
mapping_start_event anchor tag implicit style =
    unmarked (ev.MappingStart (record { anchor = anchor; tag = tag; implicit = implicit; style = style }))

abbrev pub mapping_end_event : yaml_event_t
mapping_end_event = unmarked ev.MappingEnd

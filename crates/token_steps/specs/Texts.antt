-- The texts that a caller keeps beside the automaton, and the facts of tokens.
use Rattle.std.specs.Prelude.{ℕ, List, [], ◌∷◌, ◌++◌, Option, None, Some, Bool, true, false, bytes_eq, codes, is_some, if◌then◌else◌}
use Rattle.std.specs.FinMap.{get}
use Rattle.libyaml_types.specs.Types.{token_type}
use Rattle.libyaml_types.specs.declared.enums.yaml_scalar_style_t.{yaml_scalar_style_t}
use Rattle.libyaml_types.specs.declared.enums.yaml_scalar_style_t.TheVariants.{YAML_PLAIN_SCALAR_STYLE}
use Rattle.libyaml_types.specs.declared.token.yaml_token_t.{yaml_token_t}
use Rattle.libyaml_types.specs.declared.token.unnamed_yaml_token_t_data.{unnamed_yaml_token_t_data}
use Rattle.libyaml_types.specs.declared.token.unnamed_yaml_token_t_data.TheVariants as tok
use Rattle.libyaml_types.specs.declared.token.unnamed_yaml_token_t_data_tag.{unnamed_yaml_token_t_data_tag}
use Rattle.libyaml_types.specs.declared.event.unnamed_yaml_event_t_data.{unnamed_yaml_event_t_data}
use Rattle.libyaml_types.specs.declared.event.unnamed_yaml_event_t_data.TheVariants as ev
use Rattle.libyaml_grammar.specs.grammar.Events as grammar
use Rattle.libyaml_grammar.specs.grammar.Events.{event, is_plain}
use Rattle.libyaml_grammar.specs.grammar.Order.{is_accepted}
use Rattle.libyaml_events.specs.machine.Outcomes.{only_if}
use Rattle.libyaml_events.specs.machine.Config.{Handles, no_handles}
use Rattle.libyaml_events.specs.machine.Machine.{resolve, text_in, style_in, encoding_in, sequence_style_by, mapping_style_by, document_with, document_end}
use Rattle.libyaml_events.specs.machine.Want.{Texts}
use Rattle.token_steps.specs.Facts.{StepToken, TagRead, NoTag, tag_read, StepShape, StepEvent}
use Rattle.token_steps.specs.Facts as facts

-- facts

abbrev pub bit : Bool → ℕ
bit true = 1
bit false = 0

-- of a tag in full
abbrev pub tag_fact : Option (List ℕ) → ℕ
tag_fact None = 4
tag_fact (Some []) = 1
tag_fact (Some (x ∷ xs)) = if bytes_eq (x ∷ xs) (codes "!") then 2 else 3

-- and of a token
abbrev pub fact_of : Handles → unnamed_yaml_token_t_data → ℕ
fact_of hs (tok.VersionDirective v) = bit (is_accepted v.major v.minor)
fact_of hs (tok.TagDirective g) = bit (is_some (get hs g.handle))
fact_of hs (tok.Tag g) = tag_fact (resolve hs g.handle g.suffix)
fact_of hs (tok.Scalar s) = bit (is_plain s.style)
fact_of hs _ = 0

-- a token of this content with the marks of t
abbrev pub token_with : Handles → yaml_token_t → unnamed_yaml_token_t_data → StepToken
token_with hs t k = record { kind = token_type k; fact = fact_of hs k; start_mark = t.start_mark; end_mark = t.end_mark }

abbrev pub token_of : Handles → yaml_token_t → StepToken
token_of hs t = token_with hs t t.content

-- the tag that is kept
abbrev pub tag_read_of : Handles → Option unnamed_yaml_token_t_data_tag → TagRead
tag_read_of hs None = NoTag
tag_read_of hs (Some g) = tag_read (tag_fact (resolve hs g.handle g.suffix))

-- what is kept once a token was taken: a property or a directive is added
abbrev pub texts_kept_after : Texts → unnamed_yaml_token_t_data → Texts
texts_kept_after h (tok.Anchor a) = record h { anchor = Some a.value }
texts_kept_after h (tok.Tag g) = record h { tag = Some g }
texts_kept_after h (tok.VersionDirective v) = record h { version = Some (record { major = v.major; minor = v.minor }) }
texts_kept_after h (tok.TagDirective g)
    = record h { tag_directives = h.tag_directives ++ record { handle = g.handle; prefix = g.prefix } ∷ [] }
texts_kept_after h _ = h

-- events

abbrev pub resolved_tag : Handles → Option unnamed_yaml_token_t_data_tag → Option (List ℕ)
resolved_tag hs None = None
resolved_tag hs (Some g) = resolve hs g.handle g.suffix

-- a scalar's text and style are its token's, unless the token stays
abbrev pub scalar_text : (stays : Bool) → unnamed_yaml_token_t_data → List ℕ
scalar_text true k = []
scalar_text false k = text_in k

abbrev pub scalar_style : (stays : Bool) → unnamed_yaml_token_t_data → yaml_scalar_style_t
scalar_style true k = YAML_PLAIN_SCALAR_STYLE
scalar_style false k = style_in k

-- the content of an event of this shape at the token content k, with the texts that are kept and the token's
abbrev pub content_of_shape : Handles → Texts → unnamed_yaml_token_t_data → (stays : Bool) → StepShape → unnamed_yaml_event_t_data
content_of_shape hs h k y facts.StreamStart = ev.StreamStart (record { encoding = encoding_in k })
content_of_shape hs h k y facts.StreamEnd = ev.StreamEnd
content_of_shape hs h k y (facts.DocumentStart implicit) = document_with implicit h
content_of_shape hs h k y (facts.DocumentEnd implicit) = document_end implicit
content_of_shape hs h k y facts.Alias = ev.Alias (record { anchor = text_in k })
content_of_shape hs h k y (facts.Scalar anchor tag plain quoted) = ev.Scalar (record {
  anchor = only_if anchor h.anchor;
  tag = only_if tag (resolved_tag hs h.tag);
  value = scalar_text y k;
  plain_implicit = plain;
  quoted_implicit = quoted;
  style = scalar_style y k;
})
content_of_shape hs h k y (facts.SequenceStart anchor tag implicit is_flow) = ev.SequenceStart (record {
  anchor = only_if anchor h.anchor;
  tag = only_if tag (resolved_tag hs h.tag);
  implicit = implicit;
  style = sequence_style_by is_flow;
})
content_of_shape hs h k y facts.SequenceEnd = ev.SequenceEnd
content_of_shape hs h k y (facts.MappingStart anchor tag implicit is_flow) = ev.MappingStart (record {
  anchor = only_if anchor h.anchor;
  tag = only_if tag (resolved_tag hs h.tag);
  implicit = implicit;
  style = mapping_style_by is_flow;
})
content_of_shape hs h k y facts.MappingEnd = ev.MappingEnd

abbrev pub event_with : Handles → Texts → unnamed_yaml_token_t_data → StepEvent → grammar.Event
event_with hs h k e = event (content_of_shape hs h k e.stays e.shape) e.start_mark e.end_mark

-- a document's handles end with it
abbrev pub handles_past : Handles → StepShape → Handles
handles_past hs (facts.DocumentEnd implicit) = no_handles
handles_past hs _ = hs

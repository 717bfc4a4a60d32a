-- The notation of test vectors. Token k of a list, counted from 0, begins at index and column 2k and ends at 2k + 1, on
-- line 0; events and errors are written out field by field.
use Rattle.std.specs.Prelude.{◌∷◌, ◌+◌, ◌*◌, ℕ, pos, List, [], Option, Some, None, Bool, true, false, codes}
use Rattle.libyaml_types.specs.declared.directive.yaml_tag_directive_t.{yaml_tag_directive_t}
use Rattle.libyaml_types.specs.declared.directive.yaml_version_directive_t.{yaml_version_directive_t}
use Rattle.libyaml_types.specs.declared.enums.yaml_encoding_t.TheVariants.{YAML_UTF16LE_ENCODING, YAML_UTF8_ENCODING}
use Rattle.libyaml_types.specs.declared.enums.yaml_error_type_t.TheVariants.{YAML_PARSER_ERROR, YAML_READER_ERROR}
use Rattle.libyaml_types.specs.declared.enums.yaml_mapping_style_t.TheVariants.{YAML_BLOCK_MAPPING_STYLE, YAML_FLOW_MAPPING_STYLE}
use Rattle.libyaml_types.specs.declared.enums.yaml_scalar_style_t.{yaml_scalar_style_t}
use Rattle.libyaml_types.specs.declared.enums.yaml_scalar_style_t.TheVariants.{YAML_PLAIN_SCALAR_STYLE}
use Rattle.libyaml_types.specs.declared.enums.yaml_sequence_style_t.TheVariants.{YAML_BLOCK_SEQUENCE_STYLE, YAML_FLOW_SEQUENCE_STYLE}
use Rattle.libyaml_types.specs.declared.event.unnamed_yaml_event_t_data.TheVariants as ev
use Rattle.libyaml_types.specs.declared.event.unnamed_yaml_event_t_data.{unnamed_yaml_event_t_data}
use Rattle.libyaml_types.specs.declared.event.yaml_event_t.{yaml_event_t}
use Rattle.libyaml_types.specs.declared.mark.yaml_mark_t.{yaml_mark_t}
use Rattle.libyaml_types.specs.declared.token.unnamed_yaml_token_t_data.TheVariants as tok
use Rattle.libyaml_types.specs.declared.token.unnamed_yaml_token_t_data.{unnamed_yaml_token_t_data}
use Rattle.libyaml_types.specs.declared.token.yaml_token_t.{yaml_token_t}
use Rattle.libyaml_types.specs.Fault.{Fault}

abbrev pub place : ℕ → yaml_mark_t
place n = record { index = n; line = 0; column = n }

-- token k
abbrev pub token : ℕ → unnamed_yaml_token_t_data → yaml_token_t
token k c = record { content = c; start_mark = place (2 * k); end_mark = place (2 * k + 1) }

-- tokens: the contents of a list from token k on, with their marks
abbrev pub tokens_from : ℕ → List unnamed_yaml_token_t_data → List yaml_token_t
tokens_from k [] = []
tokens_from k (c ∷ l) = token k c ∷ tokens_from (k + 1) l

abbrev pub list : List unnamed_yaml_token_t_data → List yaml_token_t
list l = tokens_from 0 l

abbrev pub STREAM : unnamed_yaml_token_t_data
STREAM = tok.StreamStart (record { encoding = YAML_UTF8_ENCODING })

abbrev pub STREAM_LE : unnamed_yaml_token_t_data
STREAM_LE = tok.StreamStart (record { encoding = YAML_UTF16LE_ENCODING })

abbrev pub VERSION : (major minor : ℕ) → unnamed_yaml_token_t_data
VERSION a b = tok.VersionDirective (record { major = pos a; minor = pos b })

abbrev pub HANDLE : (handle prefix : List ℕ) → unnamed_yaml_token_t_data
HANDLE h p = tok.TagDirective (record { handle = h; prefix = p })

abbrev pub ALIAS : List ℕ → unnamed_yaml_token_t_data
ALIAS a = tok.Alias (record { value = a })

abbrev pub ANCHOR : List ℕ → unnamed_yaml_token_t_data
ANCHOR a = tok.Anchor (record { value = a })

abbrev pub TAG : (handle suffix : List ℕ) → unnamed_yaml_token_t_data
TAG h s = tok.Tag (record { handle = h; suffix = s })

abbrev pub SCALAR : List ℕ → unnamed_yaml_token_t_data
SCALAR v = tok.Scalar (record { value = v; style = YAML_PLAIN_SCALAR_STYLE })

abbrev pub STYLED : yaml_scalar_style_t → List ℕ → unnamed_yaml_token_t_data
STYLED s v = tok.Scalar (record { value = v; style = s })

-- an event with the indices of its two marks
abbrev pub at : ℕ → ℕ → unnamed_yaml_event_t_data → yaml_event_t
at i j k = record { content = k; start_mark = place i; end_mark = place j }

abbrev pub stream : unnamed_yaml_event_t_data
stream = ev.StreamStart (record { encoding = YAML_UTF8_ENCODING })

abbrev pub stream_le : unnamed_yaml_event_t_data
stream_le = ev.StreamStart (record { encoding = YAML_UTF16LE_ENCODING })

-- documents, implicit and explicit
abbrev pub bare_document : unnamed_yaml_event_t_data
bare_document = ev.DocumentStart (record { version_directive = None; tag_directives = []; implicit = true })

abbrev pub headed_document : Option yaml_version_directive_t → List yaml_tag_directive_t → unnamed_yaml_event_t_data
headed_document v l = ev.DocumentStart (record { version_directive = v; tag_directives = l; implicit = false })

abbrev pub asks_version : (major minor : ℕ) → Option yaml_version_directive_t
asks_version a b = Some (record { major = pos a; minor = pos b })

abbrev pub declaring : (handle prefix : List ℕ) → yaml_tag_directive_t
declaring h p = record { handle = h; prefix = p }

abbrev pub no_document_end : unnamed_yaml_event_t_data
no_document_end = ev.DocumentEnd (record { implicit = true })

abbrev pub explicit_end : unnamed_yaml_event_t_data
explicit_end = ev.DocumentEnd (record { implicit = false })

-- nodes, plain and with no properties
abbrev pub alias : List ℕ → unnamed_yaml_event_t_data
alias a = ev.Alias (record { anchor = a })

abbrev pub text : List ℕ → unnamed_yaml_event_t_data
text v = ev.Scalar (record {
  anchor = None;
  tag = None;
  value = v;
  plain_implicit = true;
  quoted_implicit = false;
  style = YAML_PLAIN_SCALAR_STYLE;
})

abbrev pub nothing : unnamed_yaml_event_t_data
nothing = text []

abbrev pub sequence : unnamed_yaml_event_t_data
sequence = ev.SequenceStart (record { anchor = None; tag = None; implicit = true; style = YAML_BLOCK_SEQUENCE_STYLE })

abbrev pub flow_sequence : unnamed_yaml_event_t_data
flow_sequence = ev.SequenceStart (record { anchor = None; tag = None; implicit = true; style = YAML_FLOW_SEQUENCE_STYLE })

abbrev pub mapping : unnamed_yaml_event_t_data
mapping = ev.MappingStart (record { anchor = None; tag = None; implicit = true; style = YAML_BLOCK_MAPPING_STYLE })

abbrev pub flow_mapping : unnamed_yaml_event_t_data
flow_mapping = ev.MappingStart (record { anchor = None; tag = None; implicit = true; style = YAML_FLOW_MAPPING_STYLE })

-- nodes with properties: a scalar with its flags and style, and collections with their flag
abbrev pub scalar : (anchor tag : Option (List ℕ)) → List ℕ → (plain_implicit quoted_implicit : Bool)
    → yaml_scalar_style_t → unnamed_yaml_event_t_data
scalar a t v p q s = ev.Scalar
    (record { anchor = a; tag = t; value = v; plain_implicit = p; quoted_implicit = q; style = s })

abbrev pub sequence_of : (anchor tag : Option (List ℕ)) → (implicit : Bool) → unnamed_yaml_event_t_data
sequence_of a t i = ev.SequenceStart (record { anchor = a; tag = t; implicit = i; style = YAML_BLOCK_SEQUENCE_STYLE })

abbrev pub flow_sequence_of : (anchor tag : Option (List ℕ)) → (implicit : Bool) → unnamed_yaml_event_t_data
flow_sequence_of a t i = ev.SequenceStart (record { anchor = a; tag = t; implicit = i; style = YAML_FLOW_SEQUENCE_STYLE })

abbrev pub mapping_of : (anchor tag : Option (List ℕ)) → (implicit : Bool) → unnamed_yaml_event_t_data
mapping_of a t i = ev.MappingStart (record { anchor = a; tag = t; implicit = i; style = YAML_BLOCK_MAPPING_STYLE })

abbrev pub flow_mapping_of : (anchor tag : Option (List ℕ)) → (implicit : Bool) → unnamed_yaml_event_t_data
flow_mapping_of a t i = ev.MappingStart (record { anchor = a; tag = t; implicit = i; style = YAML_FLOW_MAPPING_STYLE })

-- the source's error after each list
abbrev pub no_more : Fault
no_more = record {
  error = YAML_READER_ERROR;
  problem = Some (codes "no more tokens");
  problem_offset = 5;
  problem_value = pos 7;
  problem_mark
      = record { index = 1; line = 2; column = 3 };
  context = Some (codes "while reading");
  context_mark = record { index = 4; line = 5; column = 6 };
}

-- a parser's error: its problem at an index, and its context at another, or none
abbrev pub says : List ℕ → ℕ → Fault
says p i = record {
  error = YAML_PARSER_ERROR;
  problem = Some p;
  problem_offset = 0;
  problem_value = pos 0;
  problem_mark = place i;
  context = None;
  context_mark
      = place 0;
}

abbrev pub says_while : List ℕ → ℕ → List ℕ → ℕ → Fault
says_while c j p i = record {
  error = YAML_PARSER_ERROR;
  problem = Some p;
  problem_offset = 0;
  problem_value = pos 0;
  problem_mark = place i;
  context
      = Some c;
  context_mark = place j;
}

-- one content of each kind, and those of a list that pass a test
abbrev pub kinds : List unnamed_yaml_token_t_data
kinds = tok.NoToken ∷ STREAM ∷ tok.StreamEnd ∷ VERSION 1 1 ∷ HANDLE []
    [] ∷ tok.DocumentStart ∷ tok.DocumentEnd ∷ tok.BlockSequenceStart ∷ tok.BlockMappingStart
    ∷ tok.BlockEnd ∷ tok.FlowSequenceStart ∷ tok.FlowSequenceEnd ∷ tok.FlowMappingStart ∷ tok.FlowMappingEnd ∷
    tok.BlockEntry ∷ tok.FlowEntry ∷ tok.Key
    ∷ tok.Value ∷ ALIAS [] ∷ ANCHOR [] ∷ TAG [] [] ∷ SCALAR [] ∷ []

abbrev pub passing : (unnamed_yaml_token_t_data → Bool) → List unnamed_yaml_token_t_data → List unnamed_yaml_token_t_data
passing test [] = []
passing test (k ∷ l) = elim (test k) [ true ↦ k ∷ passing test l | false ↦ passing test l ]

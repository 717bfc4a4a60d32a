-- What a parser is, whatever keeps it (docs/DEFINITIONS.md, "The parser as a machine").
use Rattle.std.specs.Prelude.{◌∷◌, ◌||◌, ℕ, ℤ, List, [], Option, None, Some, Bool, true, false, map, String, string_bytes}
use Rattle.std.specs.FinMap.{FinMap, from_entries, code, insert}
use Rattle.std.specs.Coded.{Coded, coded_ℕ, coded_list}
use Rattle.std.specs.Cmp.Lexicographic.{slice_cmp}
use Rattle.std.specs.Ordering.{nat_cmp}
use Rattle.libyaml_types.specs.declared.mark.yaml_mark_t.{yaml_mark_t}
use Rattle.libyaml_types.specs.declared.token.yaml_token_t.{yaml_token_t}
use Rattle.libyaml_types.specs.declared.enums.yaml_error_type_t.{yaml_error_type_t}
use Rattle.libyaml_types.specs.declared.enums.yaml_error_type_t.TheVariants.{YAML_NO_ERROR, YAML_MEMORY_ERROR, YAML_READER_ERROR, YAML_SCANNER_ERROR, YAML_PARSER_ERROR, YAML_COMPOSER_ERROR, YAML_WRITER_ERROR, YAML_EMITTER_ERROR}
use Rattle.libyaml_types.specs.declared.enums.yaml_parser_state_t.{yaml_parser_state_t}
use Rattle.libyaml_types.specs.declared.enums.yaml_parser_state_t.TheVariants as st
use Rattle.libyaml_automaton.specs.Config as automaton_config
use Rattle.libyaml_events.specs.declared.lookahead.Lookahead.{Lookahead}
use Rattle.libyaml_types.specs.Fault.{Fault, no_fault}

-- the prefix of each handle that the document declares
abbrev pub Handles : Type 0
Handles = FinMap (slice_cmp nat_cmp) (List ℕ)

abbrev pub handles_code : Coded Handles
handles_code = code (coded_list coded_ℕ) (coded_list coded_ℕ)

-- the map of these entries, by their bytes
abbrev pub text_entries : {Y : Type 0} → List (String Y × String Y) → List (List ℕ × List ℕ)
text_entries = map (λ e. (string_bytes e.0, string_bytes e.1))

abbrev pub handles_of : {Y : Type 0} → List (String Y × String Y) → Handles
handles_of entries = from_entries (text_entries entries)

abbrev pub no_handles : Handles
no_handles = from_entries []

-- What the parser keeps between tokens. Both stacks have their top first. A document's explicit end came last where
-- behind_document_end is true.
pub record Machine : Type 0 where
  pub state : yaml_parser_state_t
  pub states : List yaml_parser_state_t
  pub marks : List yaml_mark_t
  pub handles : Handles
  pub behind_document_end : Bool
  pub fault : Fault

-- and between calls: a token may be held, which is looked at again
pub record Config : Type 0 where
  pub lookahead : Option yaml_token_t
  pub machine : Machine

pub record Parser (S : Type 0) : Type 0 where
  pub source : S
  pub config : Config
  pub max_entries : ℤ

abbrev pub start : Machine
start = record {
  state = st.YAML_PARSE_STREAM_START_STATE;
  states = [];
  marks = [];
  handles = no_handles;
  behind_document_end = false;
  fault = no_fault;
}

abbrev pub holding : Option yaml_token_t → Machine → Config
holding o c = record { lookahead = o; machine = c }

-- a parser of this source that stands so
abbrev pub parser : {S : Type 0} → ℤ → S → Config → Parser S
parser max source c = record { source = source; config = c; max_entries = max }

abbrev pub with_config : {S : Type 0} → Parser S → Config → Parser S
with_config p c = record p { config = c }

abbrev pub with_fault : Machine → Fault → Machine
with_fault c f = record c { fault = f }

abbrev pub state_set : yaml_parser_state_t → Machine → Machine
state_set state c = record c { state = state }

-- a token, where there is one
abbrev pub token_if : Bool → yaml_token_t → Option yaml_token_t
token_if true t = Some t
token_if false t = None

-- the token in this variable stays, or there is no lookahead
abbrev pub with_lookahead : Lookahead → Machine → Config
with_lookahead l c = holding (token_if l.stays l.token) c

abbrev pub pushed : yaml_parser_state_t → Machine → Machine
pushed state c = record c { states = state ∷ c.states }

abbrev pub popped : Machine → Machine
popped c = record c { state = automaton_config.top c.states; states = automaton_config.below c.states }

abbrev pub pushed_mark : yaml_mark_t → Machine → Machine
pushed_mark mark c = record c { marks = mark ∷ c.marks }

abbrev pub popped_mark : Machine → Machine
popped_mark c = record c { marks = automaton_config.below c.marks }

-- the parser without its texts
abbrev pub config_of : Machine → automaton_config.Stacks
config_of c = record {
  state = c.state;
  states = c.states;
  marks = c.marks;
  behind_document_end = c.behind_document_end;
}

-- and with them
abbrev pub config_with : automaton_config.Stacks → Handles → Fault → Machine
config_with x hs f = record {
  state = x.state;
  states = x.states;
  marks = x.marks;
  handles = hs;
  behind_document_end = x.behind_document_end;
  fault = f;
}

abbrev pub with_handle : List ℕ → List ℕ → Machine → Machine
with_handle handle prefix c = record c { handles = insert c.handles handle prefix }

abbrev pub without_handles : Machine → Machine
without_handles c = record c { handles = no_handles }

abbrev pub is_fault : yaml_error_type_t → Bool
is_fault YAML_NO_ERROR = false
is_fault YAML_MEMORY_ERROR = true
is_fault YAML_READER_ERROR = true
is_fault YAML_SCANNER_ERROR = true
is_fault YAML_PARSER_ERROR = true
is_fault YAML_COMPOSER_ERROR = true
is_fault YAML_WRITER_ERROR = true
is_fault YAML_EMITTER_ERROR = true

abbrev pub is_end_state : yaml_parser_state_t → Bool
is_end_state st.YAML_PARSE_END_STATE = true
is_end_state _ = false

-- after the stream's end or an error
abbrev pub ended_or_failed : Machine → Bool
ended_or_failed c = is_fault c.fault.error || is_end_state c.state

-- in no document
abbrev pub is_between : yaml_parser_state_t → Bool
is_between st.YAML_PARSE_STREAM_START_STATE = true
is_between st.YAML_PARSE_IMPLICIT_DOCUMENT_START_STATE = true
is_between st.YAML_PARSE_DOCUMENT_START_STATE = true
is_between st.YAML_PARSE_END_STATE = true
is_between _ = false

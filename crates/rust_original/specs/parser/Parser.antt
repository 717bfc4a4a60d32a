-- The parser of unsafe-libyaml 0.2.11, src/parser.rs: its functions under their own names and in their order,
-- to be read beside it. A function that has no name there is named for what it does, and stands before the
-- one that it is a part of.
--
-- Memory is left out: no allocation fails, and what is freed is not spoken of. Texts end at a zero byte
-- there; that is done to the tokens beforehand (`as_held` in Texts). Where the Rust would read what is not
-- there (an empty stack, no token in a collection's first state) the outcome here is any; no run gets there.
use Rattle.std.specs.Prelude.{◌∷◌, ◌++◌, ◌||◌, ◌&&◌, ◌==◌, ℕ, pos, List, [], Option, Some, None, bytes_eq, Bool, true, false, not, codes, if◌then◌else◌}
use Rattle.std.specs.Ordering.{int_eq}
use Rattle.libyaml_types.specs.Events.{empty_event}
use Rattle.libyaml_types.specs.Numbers.{token_type_number}
use Rattle.libyaml_types.specs.Types.{token_type}
use Rattle.libyaml_types.specs.declared.directive.yaml_tag_directive_t.{yaml_tag_directive_t}
use Rattle.libyaml_types.specs.declared.directive.yaml_version_directive_t.{yaml_version_directive_t}
use Rattle.libyaml_types.specs.declared.enums.yaml_mapping_style_t.{yaml_mapping_style_t}
use Rattle.libyaml_types.specs.declared.enums.yaml_mapping_style_t.TheVariants.{YAML_BLOCK_MAPPING_STYLE, YAML_FLOW_MAPPING_STYLE}
use Rattle.libyaml_types.specs.declared.enums.yaml_parser_state_t.{yaml_parser_state_t}
use Rattle.libyaml_types.specs.declared.enums.yaml_parser_state_t.TheVariants as st
use Rattle.libyaml_types.specs.declared.enums.yaml_scalar_style_t.{yaml_scalar_style_t}
use Rattle.libyaml_types.specs.declared.enums.yaml_scalar_style_t.TheVariants.{YAML_PLAIN_SCALAR_STYLE}
use Rattle.libyaml_types.specs.declared.enums.yaml_sequence_style_t.{yaml_sequence_style_t}
use Rattle.libyaml_types.specs.declared.enums.yaml_sequence_style_t.TheVariants.{YAML_BLOCK_SEQUENCE_STYLE, YAML_FLOW_SEQUENCE_STYLE}
use Rattle.libyaml_types.specs.declared.enums.yaml_token_type_t.{yaml_token_type_t}
use Rattle.libyaml_types.specs.declared.enums.yaml_token_type_t.TheVariants as kinds
use Rattle.libyaml_types.specs.declared.event.unnamed_yaml_event_t_data.{unnamed_yaml_event_t_data}
use Rattle.libyaml_types.specs.declared.event.unnamed_yaml_event_t_data.TheVariants as ev
use Rattle.libyaml_types.specs.declared.token.unnamed_yaml_token_t_data.TheVariants as tok
use Rattle.libyaml_types.specs.Fault.{Fault}
use Rattle.libyaml_grammar.specs.partial.FaultTexts.{parser_fault, parser_fault_in}
use Rattle.libyaml_grammar.specs.grammar.Events.{Event, event, is_missing, is_plain}
use Rattle.libyaml_grammar.specs.grammar.Tokens.{Mark, Token}
use Rattle.libyaml_events.specs.machine.Config.{is_end_state, is_fault}
use Rattle.libyaml_automaton.specs.Config.{below, top, top_mark}

-- The three places where this repository's parser differs (docs/DIFFERENCES.md): as there where the field is
-- false, as here where it is true.
pub record Fixes : Type 0 where
  pub pair_key_stays : Bool
  pub value_begins_entry : Bool
  pub bare_document_after_end : Bool

-- The parser's fields: the tokens that the scanner will give, and what it fails with after them; the stacks,
-- their top first; the tag directives in their order. `after_explicit_end`, which a fix alone looks at, is
-- no field there: the last document had an explicit end.
pub record OriginalParser : Type 0 where
  pub tokens : List Token
  pub scanner_fault : Fault
  pub stream_end_produced : Bool
  pub state : yaml_parser_state_t
  pub states : List yaml_parser_state_t
  pub marks : List Mark
  pub tag_directives : List yaml_tag_directive_t
  pub after_explicit_end : Bool

-- What a function returns: an event and the parser after it, or the error that is set.
pub data ParserResult : Type 0 where
  OK : Event → OriginalParser → ParserResult
  FAIL : Fault → ParserResult

-- tokens

-- What follows takes the next token, which stays; where the scanner fails, that is the outcome.
abbrev pub PEEK_TOKEN : OriginalParser → (Token → ParserResult) → ParserResult
PEEK_TOKEN p next = elim p.tokens [ [] ↦ FAIL p.scanner_fault | token ∷ rest ↦ next token ]

-- The token's type is one of these.
abbrev pub is_one_of : Token → List yaml_token_type_t → Bool
is_one_of token [] = false
is_one_of token (t ∷ types)
    = (token_type_number (token_type token.content) == token_type_number t) || is_one_of token types

-- The next token is taken away.
abbrev pub SKIP_TOKEN : OriginalParser → OriginalParser
SKIP_TOKEN p = elim p.tokens [
  | [] ↦ p
  | token ∷ rest ↦
      record p { tokens = rest; stream_end_produced = is_one_of token (kinds.YAML_STREAM_END_TOKEN ∷ []) }
]

-- stacks and the state

-- PUSH!((*parser).states, s)
abbrev pub PUSH_state : yaml_parser_state_t → OriginalParser → OriginalParser
PUSH_state s p = record p { states = s ∷ p.states }

-- (*parser).state = s
abbrev pub set_state : yaml_parser_state_t → OriginalParser → OriginalParser
set_state s p = record p { state = s }

-- (*parser).state = POP!((*parser).states)
abbrev pub POP_state : OriginalParser → OriginalParser
POP_state p = record p { state = top p.states; states = below p.states }

-- PUSH!((*parser).marks, m)
abbrev pub PUSH_mark : Mark → OriginalParser → OriginalParser
PUSH_mark m p = record p { marks = m ∷ p.marks }

-- POP!((*parser).marks), whose mark is not looked at
abbrev pub POP_mark : OriginalParser → OriginalParser
POP_mark p = record p { marks = below p.marks }

-- `if first { .. }`: in a collection's first state its opening token's start is pushed, and the token
-- skipped.
abbrev pub past_opening : (first : Bool) → OriginalParser → (OriginalParser → ParserResult) → ParserResult
past_opening first p next
    = if first then PEEK_TOKEN p (λ token. next (SKIP_TOKEN (PUSH_mark token.start_mark p))) else next p

-- errors

-- An error of kind YAML_PARSER_ERROR with its problem.
abbrev pub yaml_parser_set_parser_error : (problem : List ℕ) → (problem_mark : Mark) → ParserResult
yaml_parser_set_parser_error problem problem_mark = FAIL (parser_fault problem problem_mark)

-- The same with a context.
abbrev pub yaml_parser_set_parser_error_context : (context : List ℕ) → (context_mark : Mark)
    → (problem : List ℕ) → (problem_mark : Mark) → ParserResult
yaml_parser_set_parser_error_context context context_mark problem problem_mark
    = FAIL (parser_fault_in context context_mark problem problem_mark)

-- events' contents, field by field

-- YAML_SCALAR_EVENT
abbrev pub scalar_event_with : (anchor tag : Option (List ℕ)) (value : List ℕ)
    (plain_implicit quoted_implicit : Bool) → yaml_scalar_style_t → unnamed_yaml_event_t_data
scalar_event_with anchor tag value plain_implicit quoted_implicit style = ev.Scalar (record {
  anchor = anchor;
  tag = tag;
  value = value;
  plain_implicit = plain_implicit;
  quoted_implicit = quoted_implicit;
  style = style;
})

-- YAML_SEQUENCE_START_EVENT
abbrev pub sequence_start_data : (anchor tag : Option (List ℕ)) → (implicit : Bool) → yaml_sequence_style_t
    → unnamed_yaml_event_t_data
sequence_start_data anchor tag implicit style
    = ev.SequenceStart (record { anchor = anchor; tag = tag; implicit = implicit; style = style })

-- YAML_MAPPING_START_EVENT
abbrev pub mapping_start_data : (anchor tag : Option (List ℕ)) → (implicit : Bool) → yaml_mapping_style_t
    → unnamed_yaml_event_t_data
mapping_start_data anchor tag implicit style
    = ev.MappingStart (record { anchor = anchor; tag = tag; implicit = implicit; style = style })

-- YAML_DOCUMENT_START_EVENT
abbrev pub document_start_data : Option yaml_version_directive_t → List yaml_tag_directive_t → (implicit : Bool)
    → unnamed_yaml_event_t_data
document_start_data version tags implicit
    = ev.DocumentStart (record { version_directive = version; tag_directives = tags; implicit = implicit })

-- empty scalars and directives; the Rust has these functions last

-- An empty plain scalar at a mark.
abbrev pub yaml_parser_process_empty_scalar : Mark → OriginalParser → ParserResult
yaml_parser_process_empty_scalar mark p
    = OK (event (scalar_event_with None None [] true false YAML_PLAIN_SCALAR_STYLE) mark mark) p

-- The prefix of the first directive whose handle strcmp finds equal.
abbrev pub directive_named : List yaml_tag_directive_t → (handle : List ℕ) → Option (List ℕ)
directive_named [] handle = None
directive_named (d ∷ ds) handle = if bytes_eq d.handle handle then Some d.prefix else directive_named ds handle

-- The directive comes after the others; one whose handle is there already is an error, or left out.
abbrev pub yaml_parser_append_tag_directive : yaml_tag_directive_t → (allow_duplicates : Bool) → Mark → OriginalParser
    → (OriginalParser → ParserResult) → ParserResult
yaml_parser_append_tag_directive value allow_duplicates mark p next
    = elim (directive_named p.tag_directives value.handle) [
      | Some earlier ↦
          if allow_duplicates then next p
          else yaml_parser_set_parser_error (codes "found duplicate %TAG directive") mark
      | None ↦ next (record p { tag_directives = p.tag_directives ++ value ∷ [] })
    ]

-- The loop over default_tag_directives.
abbrev pub default_tag_directives : Mark → OriginalParser → (OriginalParser → ParserResult) → ParserResult
default_tag_directives mark p next =
    yaml_parser_append_tag_directive (record { handle = codes "!"; prefix = codes "!" }) true mark p λ q.
    yaml_parser_append_tag_directive
    (record { handle = codes "!!"; prefix = codes "tag:yaml.org,2002:" }) true mark q next

-- What comes after the directives takes the version, the tag directives that were read, and the parser.
abbrev pub AfterDirectives : Type 0
AfterDirectives = Option yaml_version_directive_t → List yaml_tag_directive_t → OriginalParser → ParserResult

-- The loop over the directives, where these tokens are to come, and then the defaults.
abbrev pub directives_from : Option yaml_version_directive_t → List yaml_tag_directive_t → AfterDirectives
    → List Token → OriginalParser → ParserResult
directives_from version tags next [] p = FAIL p.scanner_fault
directives_from version tags next (token ∷ rest) p = elim token.content [
  | tok.VersionDirective v ↦ elim version [
    | Some earlier ↦ yaml_parser_set_parser_error (codes "found duplicate %YAML directive") token.start_mark
    | None ↦
        if not (int_eq v.major (pos 1)) || (not (int_eq v.minor (pos 1)) && not (int_eq v.minor (pos 2)))
        then yaml_parser_set_parser_error (codes "found incompatible YAML document") token.start_mark
        else directives_from (Some (record { major = v.major; minor = v.minor })) tags next rest
        (SKIP_TOKEN p)
  ]
  | tok.TagDirective d ↦
      yaml_parser_append_tag_directive
      (record { handle = d.handle; prefix = d.prefix }) false token.start_mark p λ q.
      directives_from version (tags ++ record { handle = d.handle; prefix = d.prefix } ∷ []) next rest
      (SKIP_TOKEN q)
  | _ ↦ default_tag_directives token.start_mark p (next version tags)
]

-- The directives of a document, from the next token on.
abbrev pub yaml_parser_process_directives : OriginalParser → AfterDirectives → ParserResult
yaml_parser_process_directives p next = directives_from None [] next p.tokens p

-- the stream and its documents

-- STREAM-START gives the stream start event, both of whose marks are the token's start.
abbrev pub yaml_parser_parse_stream_start : OriginalParser → ParserResult
yaml_parser_parse_stream_start p = PEEK_TOKEN p λ token. elim token.content [
  | tok.StreamStart s ↦
      OK (event (ev.StreamStart (record { encoding = s.encoding })) token.start_mark token.start_mark)
      (SKIP_TOKEN (set_state st.YAML_PARSE_IMPLICIT_DOCUMENT_START_STATE p))
  | _ ↦ yaml_parser_set_parser_error (codes "did not find expected <stream-start>") token.start_mark
]

-- `while (*token).type_ == YAML_DOCUMENT_END_TOKEN`: where these tokens are to come
abbrev pub skip_document_ends : List Token → OriginalParser → OriginalParser
skip_document_ends [] p = p
skip_document_ends (token ∷ rest) p
    = elim token.content [ tok.DocumentEnd ↦ skip_document_ends rest (SKIP_TOKEN p) | _ ↦ p ]

-- An implicit document's start event, at its first token's start.
abbrev pub begins_implicit : Mark → AfterDirectives
begins_implicit mark version tags p
    = OK (event (document_start_data None [] true) mark mark)
    (set_state st.YAML_PARSE_BLOCK_NODE_STATE (PUSH_state st.YAML_PARSE_DOCUMENT_END_STATE p))

-- The branch of an implicit document: no token of it is a directive, so the defaults alone are appended.
abbrev pub implicit_document_start : Mark → OriginalParser → ParserResult
implicit_document_start mark p = yaml_parser_process_directives p (begins_implicit mark)

-- An explicit document's start event, from its first directive or its DOCUMENT-START to the end of
-- DOCUMENT-START.
abbrev pub after_directives : (start_mark : Mark) → AfterDirectives
after_directives start_mark version tags p = PEEK_TOKEN p λ token. elim token.content [
  | tok.DocumentStart ↦
      OK (event (document_start_data version tags false) start_mark token.end_mark)
      (SKIP_TOKEN
      (set_state st.YAML_PARSE_DOCUMENT_CONTENT_STATE (PUSH_state st.YAML_PARSE_DOCUMENT_END_STATE p)))
  | _ ↦ yaml_parser_set_parser_error (codes "did not find expected <document start>") token.start_mark
]

-- The branch of an explicit document.
abbrev pub explicit_document_start : (start_mark : Mark) → OriginalParser → ParserResult
explicit_document_start start_mark p = yaml_parser_process_directives p (after_directives start_mark)

-- The branch of STREAM-END.
abbrev pub end_of_stream : Token → OriginalParser → ParserResult
end_of_stream token p = OK (event ev.StreamEnd token.start_mark token.end_mark)
    (SKIP_TOKEN (set_state st.YAML_PARSE_END_STATE p))

-- `implicit` there; the fix lets a document be implicit after an explicit end too.
abbrev pub may_be_implicit : Fixes → (implicit : Bool) → OriginalParser → Bool
may_be_implicit fixes implicit p = implicit || (fixes.bare_document_after_end && p.after_explicit_end)

-- A document's start, or the stream's end; after the first document, DOCUMENT-ENDs are skipped before.
abbrev pub yaml_parser_parse_document_start : Fixes → OriginalParser → (implicit : Bool) → ParserResult
yaml_parser_parse_document_start fixes p implicit =
    let q : OriginalParser = if implicit then p else skip_document_ends p.tokens p in
    PEEK_TOKEN q λ token.
    if may_be_implicit fixes implicit q && not (is_one_of token (
    kinds.YAML_VERSION_DIRECTIVE_TOKEN ∷ kinds.YAML_TAG_DIRECTIVE_TOKEN ∷ kinds.YAML_DOCUMENT_START_TOKEN
    ∷ kinds.YAML_STREAM_END_TOKEN ∷ []
    ))
    then implicit_document_start token.start_mark q
    else if not (is_one_of token (kinds.YAML_STREAM_END_TOKEN ∷ []))
    then explicit_document_start token.start_mark q
    else end_of_stream token q

-- nodes

-- tag_handle, tag_suffix and tag_mark
pub record WrittenTag : Type 0 where
  pub handle : List ℕ
  pub suffix : List ℕ
  pub mark : Mark

-- The prefix that was found, and the suffix after it; none is an error.
abbrev pub prefixed : (start_mark : Mark) → WrittenTag → Option (List ℕ) → (Option (List ℕ) → ParserResult)
    → ParserResult
prefixed start_mark g None next
    = yaml_parser_set_parser_error_context (codes "while parsing a node") start_mark
    (codes "found undefined tag handle") g.mark
prefixed start_mark g (Some prefix) next = next (Some (prefix ++ g.suffix))

-- `if !tag_handle.is_null()`: the tag in full. With an empty handle it is the suffix.
abbrev pub node_tag : OriginalParser → (start_mark : Mark) → Option WrittenTag → (Option (List ℕ) → ParserResult) → ParserResult
node_tag p start_mark None next = next None
node_tag p start_mark (Some g) next = elim g.handle [
  | [] ↦ next (Some g.suffix)
  | x ∷ xs ↦ prefixed start_mark g (directive_named p.tag_directives g.handle) next
]

-- A scalar's plain_implicit: no tag and plain style, or the tag `!`.
abbrev pub is_plain_implicit : (tag : Option (List ℕ)) → yaml_scalar_style_t → Bool
is_plain_implicit None style = is_plain style
is_plain_implicit (Some tag) style = bytes_eq tag (codes "!")

-- A scalar's quoted_implicit: no tag and another style.
abbrev pub is_quoted_implicit : (tag : Option (List ℕ)) → yaml_scalar_style_t → Bool
is_quoted_implicit None style = if is_plain style then false else true
is_quoted_implicit (Some tag) style = false

-- The last two branches: an empty scalar where there is a property, else an error. No token is skipped.
abbrev pub without_content : OriginalParser → (block : Bool) → (anchor tag : Option (List ℕ))
    → (start_mark end_mark : Mark) → Token → ParserResult
without_content p block None None start_mark end_mark token = yaml_parser_set_parser_error_context
    (if block then codes "while parsing a block node" else codes "while parsing a flow node") start_mark
    (codes "did not find expected node content") token.start_mark
without_content p block anchor tag start_mark end_mark token
    = OK (event (scalar_event_with anchor tag [] (is_missing tag) false YAML_PLAIN_SCALAR_STYLE) start_mark
    end_mark)
    (POP_state p)

-- The branches by the content's first token. A collection's opening token is not skipped here.
abbrev pub content_of_node : OriginalParser → (block indentless_sequence : Bool) → (anchor tag : Option (List ℕ))
    → (start_mark end_mark : Mark) → Token → ParserResult
content_of_node p block indentless_sequence anchor tag start_mark end_mark token =
    let implicit : Bool = is_missing tag in
    let begins : unnamed_yaml_event_t_data → yaml_parser_state_t → ParserResult
    = λ content state. OK (event content start_mark token.end_mark) (set_state state p) in
    let none : ParserResult = without_content p block anchor tag start_mark end_mark token in
    elim token.content [
      | tok.BlockEntry ↦
          if indentless_sequence
          then begins (sequence_start_data anchor tag implicit YAML_BLOCK_SEQUENCE_STYLE)
          st.YAML_PARSE_INDENTLESS_SEQUENCE_ENTRY_STATE
          else none
      | tok.Scalar s ↦
          OK (event
          (scalar_event_with anchor tag s.value (is_plain_implicit tag s.style) (is_quoted_implicit tag s.style)
          s.style) start_mark token.end_mark)
          (SKIP_TOKEN (POP_state p))
      | tok.FlowSequenceStart ↦
          begins (sequence_start_data anchor tag implicit YAML_FLOW_SEQUENCE_STYLE)
          st.YAML_PARSE_FLOW_SEQUENCE_FIRST_ENTRY_STATE
      | tok.FlowMappingStart ↦
          begins (mapping_start_data anchor tag implicit YAML_FLOW_MAPPING_STYLE)
          st.YAML_PARSE_FLOW_MAPPING_FIRST_KEY_STATE
      | tok.BlockSequenceStart ↦
          if block
          then begins (sequence_start_data anchor tag implicit YAML_BLOCK_SEQUENCE_STYLE)
          st.YAML_PARSE_BLOCK_SEQUENCE_FIRST_ENTRY_STATE
          else none
      | tok.BlockMappingStart ↦
          if block
          then begins (mapping_start_data anchor tag implicit YAML_BLOCK_MAPPING_STYLE)
          st.YAML_PARSE_BLOCK_MAPPING_FIRST_KEY_STATE
          else none
      | _ ↦ none
    ]

-- From the token after the properties on: it is looked at before the tag is.
abbrev pub after_properties : OriginalParser → (block indentless_sequence : Bool) → (anchor : Option (List ℕ))
    → Option WrittenTag → (start_mark end_mark : Mark) → ParserResult
after_properties p block indentless_sequence anchor tag start_mark end_mark = PEEK_TOKEN p λ token.
    node_tag p start_mark tag λ tag.
    content_of_node p block indentless_sequence anchor tag start_mark end_mark token

-- An alias; or at most one anchor and one tag, in any order, and the content.
abbrev pub yaml_parser_parse_node : OriginalParser → (block indentless_sequence : Bool) → ParserResult
yaml_parser_parse_node p block indentless_sequence = PEEK_TOKEN p λ token. elim token.content [
  | tok.Alias a ↦
      OK (event (ev.Alias (record { anchor = a.value })) token.start_mark token.end_mark)
      (SKIP_TOKEN (POP_state p))
  | tok.Anchor a ↦
      let q : OriginalParser = SKIP_TOKEN p in
      PEEK_TOKEN q λ second. elim second.content [
        | tok.Tag g ↦
            after_properties (SKIP_TOKEN q) block indentless_sequence (Some a.value)
            (Some (record { handle = g.handle; suffix = g.suffix; mark = second.start_mark }))
            token.start_mark
            second.end_mark
        | _ ↦ after_properties q block indentless_sequence (Some a.value) None token.start_mark
            token.end_mark
      ]
  | tok.Tag g ↦
      let q : OriginalParser = SKIP_TOKEN p in
      let tag : Option WrittenTag
      = Some (record { handle = g.handle; suffix = g.suffix; mark = token.start_mark }) in
      PEEK_TOKEN q λ second. elim second.content [
        | tok.Anchor a ↦
            after_properties (SKIP_TOKEN q) block indentless_sequence (Some a.value) tag token.start_mark
            second.end_mark
        | _ ↦ after_properties q block indentless_sequence None tag token.start_mark token.end_mark
      ]
  | _ ↦ after_properties p block indentless_sequence None None token.start_mark token.start_mark
]

-- the rest of documents; the Rust has these two functions before yaml_parser_parse_node

-- After DOCUMENT-START: an empty root where a directive or a document's or the stream's end comes, else a
-- node.
abbrev pub yaml_parser_parse_document_content : OriginalParser → ParserResult
yaml_parser_parse_document_content p = PEEK_TOKEN p λ token.
    if is_one_of token (
    kinds.YAML_VERSION_DIRECTIVE_TOKEN ∷ kinds.YAML_TAG_DIRECTIVE_TOKEN ∷ kinds.YAML_DOCUMENT_START_TOKEN
    ∷ kinds.YAML_DOCUMENT_END_TOKEN ∷ kinds.YAML_STREAM_END_TOKEN ∷ []
    )
    then yaml_parser_process_empty_scalar token.start_mark (POP_state p)
    else yaml_parser_parse_node p true false

-- A document's end: at DOCUMENT-END, or implicit at the start of any other token. No tag directive is left.
abbrev pub yaml_parser_parse_document_end : OriginalParser → ParserResult
yaml_parser_parse_document_end p = PEEK_TOKEN p λ token.
    let ended : (explicit : Bool) → OriginalParser → OriginalParser = λ explicit q. record q {
      tag_directives = [];
      state = st.YAML_PARSE_DOCUMENT_START_STATE;
      after_explicit_end = explicit;
    } in
    elim token.content [
      | tok.DocumentEnd ↦
          OK (event (ev.DocumentEnd (record { implicit = false })) token.start_mark token.end_mark)
          (ended true (SKIP_TOKEN p))
      | _ ↦
          OK (event (ev.DocumentEnd (record { implicit = true })) token.start_mark token.start_mark)
          (ended false p)
    ]

-- block collections

-- A collection's closing token is skipped, and the state and the mark are popped.
abbrev pub with_end_event : unnamed_yaml_event_t_data → Token → OriginalParser → ParserResult
with_end_event content token p
    = OK (event content token.start_mark token.end_mark) (SKIP_TOKEN (POP_mark (POP_state p)))

-- BLOCK-ENTRY and its node, which is empty at the indicator's end where none comes; or BLOCK-END.
abbrev pub yaml_parser_parse_block_sequence_entry : OriginalParser → (first : Bool) → ParserResult
yaml_parser_parse_block_sequence_entry p first
    = past_opening first p λ q. PEEK_TOKEN q λ token. elim token.content [
      | tok.BlockEntry ↦
          let r : OriginalParser = SKIP_TOKEN q in
          PEEK_TOKEN r λ second.
          if not (is_one_of second (kinds.YAML_BLOCK_ENTRY_TOKEN ∷ kinds.YAML_BLOCK_END_TOKEN ∷ []))
          then yaml_parser_parse_node (PUSH_state st.YAML_PARSE_BLOCK_SEQUENCE_ENTRY_STATE r) true false
          else yaml_parser_process_empty_scalar token.end_mark
          (set_state st.YAML_PARSE_BLOCK_SEQUENCE_ENTRY_STATE r)
      | tok.BlockEnd ↦ with_end_event ev.SequenceEnd token q
      | _ ↦
          yaml_parser_set_parser_error_context (codes "while parsing a block collection") (top_mark q.marks)
          (codes "did not find expected '-' indicator") token.start_mark
    ]

-- The same in a sequence without indentation, which ends before any other token.
abbrev pub yaml_parser_parse_indentless_sequence_entry : OriginalParser → ParserResult
yaml_parser_parse_indentless_sequence_entry p = PEEK_TOKEN p λ token. elim token.content [
  | tok.BlockEntry ↦
      let q : OriginalParser = SKIP_TOKEN p in
      PEEK_TOKEN q λ second.
      if not (is_one_of second
      (kinds.YAML_BLOCK_ENTRY_TOKEN ∷ kinds.YAML_KEY_TOKEN ∷ kinds.YAML_VALUE_TOKEN ∷ kinds.YAML_BLOCK_END_TOKEN ∷ []))
      then yaml_parser_parse_node (PUSH_state st.YAML_PARSE_INDENTLESS_SEQUENCE_ENTRY_STATE q) true false
      else yaml_parser_process_empty_scalar token.end_mark
      (set_state st.YAML_PARSE_INDENTLESS_SEQUENCE_ENTRY_STATE q)
  | _ ↦ OK (event ev.SequenceEnd token.start_mark token.start_mark) (POP_state p)
]

-- KEY and its node, which is empty at the indicator's end where none comes; or BLOCK-END. The fix lets an
-- entry begin with VALUE.
abbrev pub yaml_parser_parse_block_mapping_key : Fixes → OriginalParser → (first : Bool) → ParserResult
yaml_parser_parse_block_mapping_key fixes p first = past_opening first p λ q. PEEK_TOKEN q λ token.
    let missing : ParserResult
    = yaml_parser_set_parser_error_context (codes "while parsing a block mapping") (top_mark q.marks)
    (codes "did not find expected key") token.start_mark in
    elim token.content [
      | tok.Key ↦
          let r : OriginalParser = SKIP_TOKEN q in
          PEEK_TOKEN r λ second.
          if not (is_one_of second (kinds.YAML_KEY_TOKEN ∷ kinds.YAML_VALUE_TOKEN ∷ kinds.YAML_BLOCK_END_TOKEN ∷ []))
          then yaml_parser_parse_node (PUSH_state st.YAML_PARSE_BLOCK_MAPPING_VALUE_STATE r) true true
          else yaml_parser_process_empty_scalar token.end_mark
          (set_state st.YAML_PARSE_BLOCK_MAPPING_VALUE_STATE r)
      | tok.BlockEnd ↦ with_end_event ev.MappingEnd token q
      | tok.Value ↦
          if fixes.value_begins_entry
          then yaml_parser_process_empty_scalar token.start_mark
          (set_state st.YAML_PARSE_BLOCK_MAPPING_VALUE_STATE q)
          else missing
      | _ ↦ missing
    ]

-- VALUE and its node, which is empty at the indicator's end where none comes; without VALUE it is empty
-- before the token.
abbrev pub yaml_parser_parse_block_mapping_value : OriginalParser → ParserResult
yaml_parser_parse_block_mapping_value p = PEEK_TOKEN p λ token. elim token.content [
  | tok.Value ↦
      let q : OriginalParser = SKIP_TOKEN p in
      PEEK_TOKEN q λ second.
      if not (is_one_of second (kinds.YAML_KEY_TOKEN ∷ kinds.YAML_VALUE_TOKEN ∷ kinds.YAML_BLOCK_END_TOKEN ∷ []))
      then yaml_parser_parse_node (PUSH_state st.YAML_PARSE_BLOCK_MAPPING_KEY_STATE q) true true
      else yaml_parser_process_empty_scalar token.end_mark (set_state st.YAML_PARSE_BLOCK_MAPPING_KEY_STATE q)
  | _ ↦ yaml_parser_process_empty_scalar token.start_mark (set_state st.YAML_PARSE_BLOCK_MAPPING_KEY_STATE p)
]

-- flow collections

-- `if !first { .. }`: the token after FLOW-ENTRY, without which there is an error.
abbrev pub separated : (first : Bool) → (context problem : List ℕ) → Token → OriginalParser
    → (Token → OriginalParser → ParserResult) → ParserResult
separated true context problem token p next = next token p
separated false context problem token p next = elim token.content [
  | tok.FlowEntry ↦ let q : OriginalParser = SKIP_TOKEN p in PEEK_TOKEN q λ second. next second q
  | _ ↦ yaml_parser_set_parser_error_context context (top_mark p.marks) problem token.start_mark
]

-- A flow sequence's entry, after its opening token.
abbrev pub sequence_entry_after_start : (first : Bool) → OriginalParser → ParserResult
sequence_entry_after_start first q = PEEK_TOKEN q λ token. elim token.content [
  | tok.FlowSequenceEnd ↦ with_end_event ev.SequenceEnd token q
  | _ ↦ separated first (codes "while parsing a flow sequence") (codes "did not find expected ',' or ']'")
      token q
      λ entry r. elim entry.content [
        | tok.Key ↦
            OK (event (mapping_start_data None None true YAML_FLOW_MAPPING_STYLE) entry.start_mark entry.end_mark)
            (SKIP_TOKEN (set_state st.YAML_PARSE_FLOW_SEQUENCE_ENTRY_MAPPING_KEY_STATE r))
        | tok.FlowSequenceEnd ↦ with_end_event ev.SequenceEnd entry r
        | _ ↦ yaml_parser_parse_node (PUSH_state st.YAML_PARSE_FLOW_SEQUENCE_ENTRY_STATE r) false false
      ]
]

-- An entry, with its separator before it but at the first; a pair begins with KEY. Or FLOW-SEQUENCE-END.
abbrev pub yaml_parser_parse_flow_sequence_entry : OriginalParser → (first : Bool) → ParserResult
yaml_parser_parse_flow_sequence_entry p first = past_opening first p (sequence_entry_after_start first)

-- A pair's key. Where none comes, the token is skipped, and the key is empty at its end; with the fix the
-- token stays, and the key stands at its start.
abbrev pub yaml_parser_parse_flow_sequence_entry_mapping_key : Fixes → OriginalParser → ParserResult
yaml_parser_parse_flow_sequence_entry_mapping_key fixes p = PEEK_TOKEN p λ token.
    if not (is_one_of token
    (kinds.YAML_VALUE_TOKEN ∷ kinds.YAML_FLOW_ENTRY_TOKEN ∷ kinds.YAML_FLOW_SEQUENCE_END_TOKEN ∷ []))
    then yaml_parser_parse_node (PUSH_state st.YAML_PARSE_FLOW_SEQUENCE_ENTRY_MAPPING_VALUE_STATE p) false
    false
    else if fixes.pair_key_stays
    then yaml_parser_process_empty_scalar token.start_mark
    (set_state st.YAML_PARSE_FLOW_SEQUENCE_ENTRY_MAPPING_VALUE_STATE p)
    else yaml_parser_process_empty_scalar token.end_mark
    (set_state st.YAML_PARSE_FLOW_SEQUENCE_ENTRY_MAPPING_VALUE_STATE (SKIP_TOKEN p))

-- A pair's VALUE and its node, which is empty before the next token where none comes.
abbrev pub yaml_parser_parse_flow_sequence_entry_mapping_value : OriginalParser → ParserResult
yaml_parser_parse_flow_sequence_entry_mapping_value p = PEEK_TOKEN p λ token.
    let empty : Mark → OriginalParser → ParserResult = λ mark q. yaml_parser_process_empty_scalar mark
    (set_state st.YAML_PARSE_FLOW_SEQUENCE_ENTRY_MAPPING_END_STATE q) in
    elim token.content [
      | tok.Value ↦
          let q : OriginalParser = SKIP_TOKEN p in
          PEEK_TOKEN q λ second.
          if not (is_one_of second (kinds.YAML_FLOW_ENTRY_TOKEN ∷ kinds.YAML_FLOW_SEQUENCE_END_TOKEN ∷ []))
          then yaml_parser_parse_node (PUSH_state st.YAML_PARSE_FLOW_SEQUENCE_ENTRY_MAPPING_END_STATE q) false
          false
          else empty second.start_mark q
      | _ ↦ empty token.start_mark p
    ]

-- A pair's end, before the next token.
abbrev pub yaml_parser_parse_flow_sequence_entry_mapping_end : OriginalParser → ParserResult
yaml_parser_parse_flow_sequence_entry_mapping_end p = PEEK_TOKEN p λ token.
    OK (event ev.MappingEnd token.start_mark token.start_mark)
    (set_state st.YAML_PARSE_FLOW_SEQUENCE_ENTRY_STATE p)

-- A flow mapping's key, after its opening token.
abbrev pub mapping_key_after_start : (first : Bool) → OriginalParser → ParserResult
mapping_key_after_start first q = PEEK_TOKEN q λ token. elim token.content [
  | tok.FlowMappingEnd ↦ with_end_event ev.MappingEnd token q
  | _ ↦ separated first (codes "while parsing a flow mapping") (codes "did not find expected ',' or '}'")
      token q
      λ entry r. elim entry.content [
        | tok.Key ↦
            let s : OriginalParser = SKIP_TOKEN r in
            PEEK_TOKEN s λ second.
            if not (is_one_of second
            (kinds.YAML_VALUE_TOKEN ∷ kinds.YAML_FLOW_ENTRY_TOKEN ∷ kinds.YAML_FLOW_MAPPING_END_TOKEN ∷ []))
            then yaml_parser_parse_node (PUSH_state st.YAML_PARSE_FLOW_MAPPING_VALUE_STATE s) false false
            else yaml_parser_process_empty_scalar second.start_mark
            (set_state st.YAML_PARSE_FLOW_MAPPING_VALUE_STATE s)
        | tok.FlowMappingEnd ↦ with_end_event ev.MappingEnd entry r
        | _ ↦ yaml_parser_parse_node (PUSH_state st.YAML_PARSE_FLOW_MAPPING_EMPTY_VALUE_STATE r) false false
      ]
]

-- KEY and its node, which is empty before the next token where none comes, with the separator before it but
-- at the first entry; or a node without KEY, which has no value; or FLOW-MAPPING-END.
abbrev pub yaml_parser_parse_flow_mapping_key : OriginalParser → (first : Bool) → ParserResult
yaml_parser_parse_flow_mapping_key p first = past_opening first p (mapping_key_after_start first)

-- VALUE and its node, which is empty before the next token where none comes.
abbrev pub yaml_parser_parse_flow_mapping_value : OriginalParser → (empty : Bool) → ParserResult
yaml_parser_parse_flow_mapping_value p empty = PEEK_TOKEN p λ token.
    let nothing : Mark → OriginalParser → ParserResult
    = λ mark q. yaml_parser_process_empty_scalar mark (set_state st.YAML_PARSE_FLOW_MAPPING_KEY_STATE q) in
    if empty then nothing token.start_mark p else
    elim token.content [
      | tok.Value ↦
          let q : OriginalParser = SKIP_TOKEN p in
          PEEK_TOKEN q λ second.
          if not (is_one_of second (kinds.YAML_FLOW_ENTRY_TOKEN ∷ kinds.YAML_FLOW_MAPPING_END_TOKEN ∷ []))
          then yaml_parser_parse_node (PUSH_state st.YAML_PARSE_FLOW_MAPPING_KEY_STATE q) false false
          else nothing second.start_mark q
      | _ ↦ nothing token.start_mark p
    ]

-- calls; the Rust has these two functions first

-- The state's function.
abbrev pub yaml_parser_state_machine : Fixes → yaml_parser_state_t → OriginalParser → ParserResult
yaml_parser_state_machine m st.YAML_PARSE_STREAM_START_STATE p = yaml_parser_parse_stream_start p
yaml_parser_state_machine m st.YAML_PARSE_IMPLICIT_DOCUMENT_START_STATE p
    = yaml_parser_parse_document_start m p true
yaml_parser_state_machine m st.YAML_PARSE_DOCUMENT_START_STATE p = yaml_parser_parse_document_start m p false
yaml_parser_state_machine m st.YAML_PARSE_DOCUMENT_CONTENT_STATE p = yaml_parser_parse_document_content p
yaml_parser_state_machine m st.YAML_PARSE_DOCUMENT_END_STATE p = yaml_parser_parse_document_end p
yaml_parser_state_machine m st.YAML_PARSE_BLOCK_NODE_STATE p = yaml_parser_parse_node p true false
yaml_parser_state_machine m st.YAML_PARSE_BLOCK_NODE_OR_INDENTLESS_SEQUENCE_STATE p
    = yaml_parser_parse_node p true true
yaml_parser_state_machine m st.YAML_PARSE_FLOW_NODE_STATE p = yaml_parser_parse_node p false false
yaml_parser_state_machine m st.YAML_PARSE_BLOCK_SEQUENCE_FIRST_ENTRY_STATE p
    = yaml_parser_parse_block_sequence_entry p true
yaml_parser_state_machine m st.YAML_PARSE_BLOCK_SEQUENCE_ENTRY_STATE p
    = yaml_parser_parse_block_sequence_entry p false
yaml_parser_state_machine m st.YAML_PARSE_INDENTLESS_SEQUENCE_ENTRY_STATE p
    = yaml_parser_parse_indentless_sequence_entry p
yaml_parser_state_machine m st.YAML_PARSE_BLOCK_MAPPING_FIRST_KEY_STATE p
    = yaml_parser_parse_block_mapping_key m p true
yaml_parser_state_machine m st.YAML_PARSE_BLOCK_MAPPING_KEY_STATE p
    = yaml_parser_parse_block_mapping_key m p false
yaml_parser_state_machine m st.YAML_PARSE_BLOCK_MAPPING_VALUE_STATE p
    = yaml_parser_parse_block_mapping_value p
yaml_parser_state_machine m st.YAML_PARSE_FLOW_SEQUENCE_FIRST_ENTRY_STATE p
    = yaml_parser_parse_flow_sequence_entry p true
yaml_parser_state_machine m st.YAML_PARSE_FLOW_SEQUENCE_ENTRY_STATE p
    = yaml_parser_parse_flow_sequence_entry p false
yaml_parser_state_machine m st.YAML_PARSE_FLOW_SEQUENCE_ENTRY_MAPPING_KEY_STATE p
    = yaml_parser_parse_flow_sequence_entry_mapping_key m p
yaml_parser_state_machine m st.YAML_PARSE_FLOW_SEQUENCE_ENTRY_MAPPING_VALUE_STATE p
    = yaml_parser_parse_flow_sequence_entry_mapping_value p
yaml_parser_state_machine m st.YAML_PARSE_FLOW_SEQUENCE_ENTRY_MAPPING_END_STATE p
    = yaml_parser_parse_flow_sequence_entry_mapping_end p
yaml_parser_state_machine m st.YAML_PARSE_FLOW_MAPPING_FIRST_KEY_STATE p
    = yaml_parser_parse_flow_mapping_key p true
yaml_parser_state_machine m st.YAML_PARSE_FLOW_MAPPING_KEY_STATE p
    = yaml_parser_parse_flow_mapping_key p false
yaml_parser_state_machine m st.YAML_PARSE_FLOW_MAPPING_VALUE_STATE p
    = yaml_parser_parse_flow_mapping_value p false
yaml_parser_state_machine m st.YAML_PARSE_FLOW_MAPPING_EMPTY_VALUE_STATE p
    = yaml_parser_parse_flow_mapping_value p true
yaml_parser_state_machine m st.YAML_PARSE_END_STATE p = FAIL p.scanner_fault

-- The next event, where `kept` is the error that an earlier call set, or none. After the stream's end or an
-- error it is the empty event, and the parser stays as it is.
abbrev pub yaml_parser_parse : Fixes → (kept : Fault) → OriginalParser → ParserResult
yaml_parser_parse fixes kept p =
    if p.stream_end_produced || (is_fault kept.error || is_end_state p.state)
    then OK empty_event p
    else yaml_parser_state_machine fixes p.state p

-- Where the two parsers part: the three places at which a call does something else here than there, and what
-- each does.
use Rattle.std.specs.Prelude.{◌≡◌, ◌∷◌, ◌++◌, List, [], true, false, codes}
use Rattle.libyaml_types.specs.declared.enums.yaml_parser_state_t.TheVariants as st
use Rattle.libyaml_types.specs.declared.token.unnamed_yaml_token_t_data.TheVariants.{Value}
use Rattle.libyaml_types.specs.declared.enums.yaml_token_type_t.TheVariants as kinds
use Rattle.libyaml_grammar.specs.partial.FaultTexts.{parser_fault, parser_fault_in}
use Rattle.libyaml_grammar.specs.runs.Runs.{Ending}
use Rattle.libyaml_grammar.specs.grammar.Events.{Event}
use Rattle.libyaml_grammar.specs.grammar.Tokens.{Token}
use Rattle.libyaml_automaton.specs.Config.{top_mark}
use Rattle.rust_original.specs.parser.Parser.{FAIL, OK, ParserResult, PUSH_mark, OriginalParser, SKIP_TOKEN, implicit_document_start, is_one_of, set_state, skip_document_ends, yaml_parser_process_empty_scalar}
use Rattle.rust_original.specs.parser.Runs.{Runs, as_here, as_there, call}

abbrev pub call_there : OriginalParser → ParserResult
call_there p = call as_there p

abbrev pub call_here : OriginalParser → ParserResult
call_here p = call as_here p

-- Where a block mapping's KEY is due: after the token that opens it, or after an entry.
pub data KeyDue (p : OriginalParser) : OriginalParser → Type 0 where
  after_start : (t : Token) (l : List Token) → p.state ≡ st.YAML_PARSE_BLOCK_MAPPING_FIRST_KEY_STATE
      → p.tokens ≡ t ∷ l → KeyDue p (SKIP_TOKEN (PUSH_mark t.start_mark p))
  after_entry : p.state ≡ st.YAML_PARSE_BLOCK_MAPPING_KEY_STATE → KeyDue p p

-- What each does, first there and then here.
pub data Differs (p : OriginalParser) : ParserResult → ParserResult → Type 0 where
  -- After the KEY of a flow sequence's pair the token is skipped there, and the empty key stands at its end;
  -- here it stays, and the key stands at its start.
  pair_key : (t : Token) (l : List Token) → p.state ≡ st.YAML_PARSE_FLOW_SEQUENCE_ENTRY_MAPPING_KEY_STATE
      → p.tokens ≡ t ∷ l
      → is_one_of t (kinds.YAML_VALUE_TOKEN ∷ kinds.YAML_FLOW_ENTRY_TOKEN ∷ kinds.YAML_FLOW_SEQUENCE_END_TOKEN ∷ [])
      ≡ true
      → Differs p
      (yaml_parser_process_empty_scalar t.end_mark
      (set_state st.YAML_PARSE_FLOW_SEQUENCE_ENTRY_MAPPING_VALUE_STATE (SKIP_TOKEN p)))
      (yaml_parser_process_empty_scalar t.start_mark
      (set_state st.YAML_PARSE_FLOW_SEQUENCE_ENTRY_MAPPING_VALUE_STATE p))
  -- A VALUE where a block mapping's KEY is due is an error there, and after an empty key here.
  value_first : (q : OriginalParser) (t : Token) (l : List Token) → KeyDue p q → q.tokens ≡ t ∷ l → t.content ≡ Value
      → Differs p
      (FAIL (parser_fault_in (codes "while parsing a block mapping") (top_mark q.marks)
      (codes "did not find expected key") t.start_mark))
      (yaml_parser_process_empty_scalar t.start_mark (set_state st.YAML_PARSE_BLOCK_MAPPING_VALUE_STATE q))
  -- After a document with an explicit end, a token that begins no explicit document is an error there, and
  -- begins an implicit one here.
  bare_document : (q : OriginalParser) (t : Token) (l : List Token) → p.state ≡ st.YAML_PARSE_DOCUMENT_START_STATE
      → p.after_explicit_end ≡ true → skip_document_ends p.tokens p ≡ q → q.tokens ≡ t ∷ l → is_one_of t (
      kinds.YAML_VERSION_DIRECTIVE_TOKEN ∷ kinds.YAML_TAG_DIRECTIVE_TOKEN ∷ kinds.YAML_DOCUMENT_START_TOKEN
      ∷ kinds.YAML_STREAM_END_TOKEN ∷ []
      ) ≡ false
      → Differs p
      (FAIL (parser_fault (codes "did not find expected <document start>") t.start_mark))
      (implicit_document_start t.start_mark q)

-- Calls that do the same there and here lead from a parser to another, with these events.
pub data Reaches : OriginalParser → List Event → OriginalParser → Type 0 where
  here : {p : OriginalParser} → Reaches p [] p
  by_call : {p q r : OriginalParser} {e : Event} {later : List Event} → call_there p ≡ OK e q → call_here p ≡ OK e q
      → q.stream_end_produced ≡ false → Reaches q later r → Reaches p (e ∷ later) r

-- Two runs, there and here: they are the same; or they are up to a call of the three kinds, and each goes on
-- from it as told.
pub data Compares (p : OriginalParser) (e : List Event) (x : Ending) (d : List Event) (y : Ending) : Type 0 where
  same : e ≡ d → x ≡ y → Compares p e x d y
  parts : (before e' d' : List Event) (q : OriginalParser) → Reaches p before q
      → Differs q (call_there q) (call_here q)
      → e ≡ before ++ e' → d ≡ before ++ d' → Runs as_there q e' x → Runs as_here q d' y → Compares p e x d y

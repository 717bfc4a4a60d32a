-- How the two parsers stand to one another between two calls, and what it is for a call of each to do the same.
use Rattle.std.proofs.Common.{◌≡◌, ◌∷◌, ℕ, List, [], Option, Some, None, Bool, true, false, Ok, Err, arith}
use Rattle.std.specs.FinMap.{get}
use Rattle.libyaml_types.specs.declared.directive.yaml_tag_directive_t.{yaml_tag_directive_t}
use Rattle.libyaml_types.specs.declared.enums.yaml_parser_state_t.{yaml_parser_state_t}
use Rattle.libyaml_types.specs.declared.enums.yaml_parser_state_t.TheVariants as st
use Rattle.libyaml_types.specs.Fault.{Fault}
use Rattle.libyaml_grammar.specs.grammar.Events.{Event}
use Rattle.libyaml_grammar.specs.grammar.ValidLists.{is_end}
use Rattle.libyaml_grammar.specs.grammar.Tokens.{Content, DocumentEnd, Mark, Token}
use Rattle.libyaml_events.specs.machine.Config.{Config, Machine, Handles, no_handles}
use Rattle.libyaml_automaton.specs.Config.{below, top}
use Rattle.libyaml_events.specs.machine.Machine.{Progressed, or_default, step}
use Rattle.libyaml_events.specs.machine.Want.{Want, Given, Wants}
use Rattle.rust_original.specs.parser.Parser.{FAIL, OK, ParserResult, OriginalParser, directive_named}

abbrev pub tk : Content → Mark → Mark → Token
tk k m n = record { content = k; start_mark = m; end_mark = n }

-- a call of this repository's machine, fed with a list of tokens after which the source fails
pub data HereCall : Type 0 where
  given : Event → Config → List Token → HereCall
  stopped : Fault → HereCall

abbrev pub led : Progressed → List Token → (Want → Machine → HereCall) → HereCall
led (Err g) l more = stopped g
led (Ok (Given e d)) l more = given e d l
led (Ok (Wants v d)) l more = more v d

abbrev pub feed : Fault → Want → Machine → List Token → HereCall
feed f w c [] = stopped f
feed f w c (t ∷ l) = led (step w c t) l (λ v d. feed f v d l)

abbrev pub fed : Fault → Progressed → List Token → HereCall
fed f o l = led o l (λ v d. feed f v d l)

abbrev pub tokens_of : Option Token → List Token → List Token
tokens_of None l = l
tokens_of (Some t) l = t ∷ l

-- the original's parser with the stacks of a configuration; its marks may be others
abbrev pub there : Fault → List yaml_tag_directive_t → Bool → yaml_parser_state_t → Bool → Machine → List Token → OriginalParser
there f tags flag state ended c l = record {
  tokens = l;
  scanner_fault = f;
  stream_end_produced = ended;
  state = state;
  states = c.states;
  marks = c.marks;
  tag_directives = tags;
  after_explicit_end = flag;
}

abbrev pub there_with : Fault → List yaml_tag_directive_t → Bool → yaml_parser_state_t → Bool → Machine → List Mark
    → List Token → OriginalParser
there_with f tags flag state ended c marks l = record (there f tags flag state ended c l) { marks = marks }

-- within a document, each handle has the same prefix
abbrev pub Agree : List yaml_tag_directive_t → Handles → Type 0
Agree tags hs = (h : List ℕ) → directive_named tags h ≡ or_default (get hs h) h

-- where a stack is one of states that a node goes back to, the last of them a document's end
abbrev pub Below : List yaml_parser_state_t → Type 0
Below [] = ⊥
Below (st.YAML_PARSE_DOCUMENT_END_STATE ∷ ss) = Unit {0}
Below (st.YAML_PARSE_BLOCK_SEQUENCE_ENTRY_STATE ∷ ss) = Below ss
Below (st.YAML_PARSE_INDENTLESS_SEQUENCE_ENTRY_STATE ∷ ss) = Below ss
Below (st.YAML_PARSE_BLOCK_MAPPING_KEY_STATE ∷ ss) = Below ss
Below (st.YAML_PARSE_BLOCK_MAPPING_VALUE_STATE ∷ ss) = Below ss
Below (st.YAML_PARSE_FLOW_SEQUENCE_ENTRY_STATE ∷ ss) = Below ss
Below (st.YAML_PARSE_FLOW_SEQUENCE_ENTRY_MAPPING_VALUE_STATE ∷ ss) = Below ss
Below (st.YAML_PARSE_FLOW_SEQUENCE_ENTRY_MAPPING_END_STATE ∷ ss) = Below ss
Below (st.YAML_PARSE_FLOW_MAPPING_KEY_STATE ∷ ss) = Below ss
Below (st.YAML_PARSE_FLOW_MAPPING_VALUE_STATE ∷ ss) = Below ss
Below (st.YAML_PARSE_FLOW_MAPPING_EMPTY_VALUE_STATE ∷ ss) = Below ss
Below (_ ∷ ss) = ⊥

-- a collection's first state there, where its opening token is still to be skipped, and the state here, where it was taken
abbrev pub Opens : (there here : yaml_parser_state_t) → Type 0
Opens st.YAML_PARSE_BLOCK_SEQUENCE_FIRST_ENTRY_STATE st.YAML_PARSE_BLOCK_SEQUENCE_ENTRY_STATE = Unit {0}
Opens st.YAML_PARSE_BLOCK_MAPPING_FIRST_KEY_STATE st.YAML_PARSE_BLOCK_MAPPING_KEY_STATE = Unit {0}
Opens st.YAML_PARSE_FLOW_SEQUENCE_FIRST_ENTRY_STATE st.YAML_PARSE_FLOW_SEQUENCE_FIRST_ENTRY_STATE = Unit {0}
Opens st.YAML_PARSE_FLOW_MAPPING_FIRST_KEY_STATE st.YAML_PARSE_FLOW_MAPPING_FIRST_KEY_STATE = Unit {0}
Opens _ _ = ⊥

-- the other states within a document
abbrev pub IsInside : yaml_parser_state_t → Type 0
IsInside st.YAML_PARSE_STREAM_START_STATE = ⊥
IsInside st.YAML_PARSE_IMPLICIT_DOCUMENT_START_STATE = ⊥
IsInside st.YAML_PARSE_DOCUMENT_START_STATE = ⊥
IsInside st.YAML_PARSE_DOCUMENT_END_STATE = ⊥
IsInside st.YAML_PARSE_BLOCK_SEQUENCE_FIRST_ENTRY_STATE = ⊥
IsInside st.YAML_PARSE_BLOCK_MAPPING_FIRST_KEY_STATE = ⊥
IsInside st.YAML_PARSE_FLOW_SEQUENCE_FIRST_ENTRY_STATE = ⊥
IsInside st.YAML_PARSE_FLOW_MAPPING_FIRST_KEY_STATE = ⊥
IsInside st.YAML_PARSE_END_STATE = ⊥
IsInside _ = Unit {0}

abbrev pub is_document_end : Content → Bool
is_document_end DocumentEnd = true
is_document_end _ = false

-- Both states, the stack, the marks here and there, the tag directives and handles, the two flags for an explicit end, the
-- flag for the stream's end, and the tokens to come, here and there.
pub data Fits (ss : List yaml_parser_state_t) : (here there : yaml_parser_state_t) → (marks marks_there : List Mark)
    → List yaml_tag_directive_t → Handles → Bool → Bool → Bool → (tokens tokens_there : List Token) → Type 0 where
  before : {ms : List Mark} {l : List Token}
      → Fits ss st.YAML_PARSE_STREAM_START_STATE st.YAML_PARSE_STREAM_START_STATE ms ms [] no_handles false false false l l
  first : {ms : List Mark} {l : List Token}
      → Fits ss st.YAML_PARSE_IMPLICIT_DOCUMENT_START_STATE st.YAML_PARSE_IMPLICIT_DOCUMENT_START_STATE ms ms []
      no_handles false false false l l
  after_end : {ms : List Mark} {l : List Token}
      → Fits ss st.YAML_PARSE_IMPLICIT_DOCUMENT_START_STATE st.YAML_PARSE_DOCUMENT_START_STATE ms ms [] no_handles true
      true false l l
  following : {ms : List Mark} {be : Bool} {t : Token} {l : List Token} → is_document_end t.content ≡ false
      → Fits ss st.YAML_PARSE_DOCUMENT_START_STATE st.YAML_PARSE_DOCUMENT_START_STATE ms ms [] no_handles be false false
      (t ∷ l) (t ∷ l)
  root_end : {ms : List Mark} {tags : List yaml_tag_directive_t} {hs : Handles} {be flag : Bool} {l : List Token}
      → Fits ss st.YAML_PARSE_DOCUMENT_END_STATE st.YAML_PARSE_DOCUMENT_END_STATE ms ms tags hs be flag false l l
  entering : {s s' : yaml_parser_state_t} {ms : List Mark} {tags : List yaml_tag_directive_t} {hs : Handles} {be flag :
      Bool} {t : Token} {l : List Token} → Opens s' s → Below ss → Agree tags hs → is_end t.content ≡ false
      → Fits ss s s' (t.start_mark ∷ ms) ms tags hs be flag false l (t ∷ l)
  inside : {s : yaml_parser_state_t} {ms : List Mark} {tags : List yaml_tag_directive_t} {hs : Handles} {be flag : Bool}
      {l : List Token} → IsInside s → Below ss → Agree tags hs → Fits ss s s ms ms tags hs be flag false l l
  over : {ms : List Mark} {tags : List yaml_tag_directive_t} {hs : Handles} {be flag : Bool} {l : List Token}
      → Fits ss st.YAML_PARSE_END_STATE st.YAML_PARSE_END_STATE ms ms tags hs be flag true l l

-- where the key of a flow sequence's pair is due, no token is held
abbrev pub IsFresh : yaml_parser_state_t → Option Token → Type 0
IsFresh st.YAML_PARSE_FLOW_SEQUENCE_ENTRY_MAPPING_KEY_STATE (Some t) = ⊥
IsFresh _ o = Unit {0}

pub record SamePlace (f : Fault) (q : OriginalParser) (d : Config) (l : List Token) : Type 0 where
  pub tags : List yaml_tag_directive_t
  pub flag : Bool
  pub state : yaml_parser_state_t
  pub ended : Bool
  pub marks : List Mark
  pub tokens : List Token
  pub is : q ≡ there_with f tags flag state ended d.machine marks tokens
  pub fits : Fits d.machine.states d.machine.state state d.machine.marks marks tags d.machine.handles
      d.machine.behind_document_end flag ended (tokens_of d.lookahead l) tokens
  pub fresh : IsFresh d.machine.state d.lookahead

-- the parsers stand so, with what the original's fields say
pub standing : {f : Fault} {q : OriginalParser} {d : Config} {l : List Token} {tags : List yaml_tag_directive_t} {flag ended :
    Bool} {state : yaml_parser_state_t} {marks : List Mark} {tokens : List Token}
    → q ≡ there_with f tags flag state ended d.machine marks tokens
    → Fits d.machine.states d.machine.state state d.machine.marks marks tags d.machine.handles d.machine.behind_document_end
    flag ended (tokens_of d.lookahead l) tokens → IsFresh d.machine.state d.lookahead → SamePlace f q d l
standing {tags} {flag} {ended} {state} {marks} {tokens} i fits fresh = record {
  tags = tags;
  flag = flag;
  state = state;
  ended = ended;
  marks = marks;
  tokens = tokens;
  is = i;
  fits = fits;
  fresh = fresh;
}

-- the same event, and parsers that stand so again; or the same error
abbrev pub Matches : Fault → ParserResult → HereCall → Type 0
Matches f (OK e q) (given x d l) = (e ≡ x) × SamePlace f q d l
Matches f (OK e q) (stopped h) = ⊥
Matches f (FAIL g) (given x d l) = ⊥
Matches f (FAIL g) (stopped h) = g ≡ h

-- the parser goes back to a state from the stack
pub popped_fits :
    (ss : List yaml_parser_state_t) {ms : List Mark} {tags : List yaml_tag_directive_t} {hs : Handles} {be flag : Bool}
    {l : List Token} → Below ss → Agree tags hs → Fits (below ss) (top ss) (top ss) ms ms tags hs be flag false l l
popped_fits ss b a = grind (arith, root_end, inside)

-- no such state is on the stack
pub popped_fresh : (ss : List yaml_parser_state_t) (o : Option Token) → Below ss → IsFresh (top ss) o
popped_fresh ss o b = grind arith

-- A call of each parser, where they stand to one another, does the same, and they stand so again.
use Rattle.std.proofs.Common.{◌≡◌, ◌∷◌, List, Bool, false, arith}
use Rattle.libyaml_types.specs.declared.directive.yaml_tag_directive_t.{yaml_tag_directive_t}
use Rattle.libyaml_types.specs.declared.enums.yaml_parser_state_t.{yaml_parser_state_t}
use Rattle.libyaml_types.specs.declared.enums.yaml_parser_state_t.TheVariants as st
use Rattle.libyaml_types.specs.Fault.{Fault}
use Rattle.libyaml_grammar.specs.grammar.ValidLists.{is_end}
use Rattle.libyaml_grammar.specs.grammar.Tokens.{Mark, Token}
use Rattle.libyaml_events.specs.machine.Config.{Config, Machine, Handles, is_end_state}
use Rattle.libyaml_events.specs.machine.Want.{AtState}
use Rattle.rust_original.specs.parser.Parser.{Fixes, OriginalParser, yaml_parser_state_machine}
use Rattle.rust_original.specs.parser.Runs.{as_here, call}
use Rattle.rust_original.proofs.parser.Documents as documents
use Rattle.rust_original.proofs.parser.States as states
use Rattle.rust_original.proofs.parser.Relation.{Agree, Below, Fits, IsInside, Matches, Opens, SamePlace, before, following, after_end, entering, feed, first, inside, over, root_end, there_with, tokens_of}

module _ (f : Fault) (x : Fault) (ss : List yaml_parser_state_t) where
  abbrev conf : yaml_parser_state_t → List Mark → Handles → Bool → Machine
  conf s ms hs be
      = record { state = s; states = ss; marks = ms; handles = hs; behind_document_end = be; fault = x }

  abbrev Same : (here there_state : yaml_parser_state_t) → (marks marks_there : List Mark) → List yaml_tag_directive_t
      → Handles → Bool → Bool → Bool → (tokens tokens_there : List Token) → Type 0
  Same s s' ms ms' tags hs be flag ended l l'
      = Matches f (yaml_parser_state_machine as_here s' (there_with f tags flag s' ended (conf s ms hs be) ms' l'))
      (feed f AtState (conf s ms hs be) l)

  entered : (s' s : yaml_parser_state_t) (ms : List Mark) (tags : List yaml_tag_directive_t) (hs : Handles)
      (be flag : Bool) (t : Token) (l : List Token) → Opens s' s → Below ss
      → Agree tags hs → is_end t.content ≡ false → Same s s' (t.start_mark ∷ ms) ms tags hs be flag false l (t ∷ l)
  entered s' s ms tags hs be flag t l i b a e = grind (
    arith,
    states.block_sequence_first_entry f tags hs be flag x ss a b ms t l e,
    states.block_mapping_first_key f tags hs be flag x ss a b ms t l e,
    states.flow_sequence_first_entry f tags hs be flag x ss a b ms t l e,
    states.flow_mapping_first_key f tags hs be flag x ss a b ms t l e,
  )

  within : (s : yaml_parser_state_t) (ms : List Mark) (tags : List yaml_tag_directive_t) (hs : Handles) (be flag : Bool)
      (l : List Token) → IsInside s → Below ss → Agree tags hs → Same s s ms ms tags hs be flag false l l
  within st.YAML_PARSE_DOCUMENT_CONTENT_STATE ms tags hs be flag l i b a
      = states.document_content f tags hs be flag x ss a b _ ms l
  within st.YAML_PARSE_BLOCK_NODE_STATE ms tags hs be flag l i b a = states.block_node f tags hs be flag x ss a b _ ms l
  within st.YAML_PARSE_BLOCK_NODE_OR_INDENTLESS_SEQUENCE_STATE ms tags hs be flag l i b a
      = states.block_node_or_indentless_sequence f tags hs be flag x ss a b _ ms l
  within st.YAML_PARSE_FLOW_NODE_STATE ms tags hs be flag l i b a = states.flow_node f tags hs be flag x ss a b _ ms l
  within st.YAML_PARSE_BLOCK_SEQUENCE_ENTRY_STATE ms tags hs be flag l i b a
      = states.block_sequence_entry f tags hs be flag x ss a b _ ms l
  within st.YAML_PARSE_INDENTLESS_SEQUENCE_ENTRY_STATE ms tags hs be flag l i b a
      = states.indentless_sequence_entry f tags hs be flag x ss a b _ ms l
  within st.YAML_PARSE_BLOCK_MAPPING_KEY_STATE ms tags hs be flag l i b a
      = states.block_mapping_key f tags hs be flag x ss a b _ ms l
  within st.YAML_PARSE_BLOCK_MAPPING_VALUE_STATE ms tags hs be flag l i b a
      = states.block_mapping_value f tags hs be flag x ss a b _ ms l
  within st.YAML_PARSE_FLOW_SEQUENCE_ENTRY_STATE ms tags hs be flag l i b a
      = states.flow_sequence_entry f tags hs be flag x ss a b _ ms l
  within st.YAML_PARSE_FLOW_SEQUENCE_ENTRY_MAPPING_KEY_STATE ms tags hs be flag l i b a
      = states.pair_key f tags hs be flag x ss a b _ ms l
  within st.YAML_PARSE_FLOW_SEQUENCE_ENTRY_MAPPING_VALUE_STATE ms tags hs be flag l i b a
      = states.pair_value f tags hs be flag x ss a b _ ms l
  within st.YAML_PARSE_FLOW_SEQUENCE_ENTRY_MAPPING_END_STATE ms tags hs be flag l i b a
      = states.pair_end f tags hs be flag x ss a b st.YAML_PARSE_FLOW_SEQUENCE_ENTRY_MAPPING_END_STATE ms l
  within st.YAML_PARSE_FLOW_MAPPING_KEY_STATE ms tags hs be flag l i b a
      = states.flow_mapping_key f tags hs be flag x ss a b _ ms l
  within st.YAML_PARSE_FLOW_MAPPING_VALUE_STATE ms tags hs be flag l i b a
      = states.flow_mapping_value f tags hs be flag x ss a b _ ms l
  within st.YAML_PARSE_FLOW_MAPPING_EMPTY_VALUE_STATE ms tags hs be flag l i b a
      = states.flow_mapping_empty_value f tags hs be flag x ss a b st.YAML_PARSE_FLOW_MAPPING_EMPTY_VALUE_STATE ms l
  within _ ms tags hs be flag l i b a = absurd i

  called : {s s' : yaml_parser_state_t} {ms ms' : List Mark} {tags : List yaml_tag_directive_t} {hs : Handles} {be flag
      ended : Bool} {l l' : List Token}
      → Fits ss s s' ms ms' tags hs be flag ended l l' → is_end_state s ≡ false → Same s s' ms ms' tags hs be flag ended l l'
  called (before {ms} {l}) e = documents.stream_start f x ss ms l
  called (first {ms} {l}) e = documents.first_document f x ss ms l
  called (after_end {ms} {l}) e = documents.bare_document f x ss ms l
  called (following {ms} {be} {t} {l} i) e = documents.next_document f x ss ms be t.content t.start_mark t.end_mark l i
  called (root_end {ms} {tags} {hs} {be} {flag} {l}) e = states.document_end f tags hs be flag x ss ms l
  called (entering {s} {s'} {ms} {tags} {hs} {be} {flag} {t} {l} i b a n) e
      = entered s' s ms tags hs be flag t l i b a n
  called (inside {s} {ms} {tags} {hs} {be} {flag} {l} i b a) e = within s ms tags hs be flag l i b a
  called over e = absurd cc

-- the flag for the stream's end is set with the last state
pub flagged : {ss : List yaml_parser_state_t} {s s' : yaml_parser_state_t} {ms ms' : List Mark} {tags : List
    yaml_tag_directive_t} {hs : Handles} {be flag ended : Bool} {l l' : List Token}
    → Fits ss s s' ms ms' tags hs be flag ended l l' → ended ≡ is_end_state s
flagged fits = grind arith

-- and both states are the last one
both_end : {ss : List yaml_parser_state_t} {s s' : yaml_parser_state_t} {ms ms' : List Mark} {tags : List
    yaml_tag_directive_t} {hs : Handles} {be flag ended : Bool} {l l' : List Token}
    → Fits ss s s' ms ms' tags hs be flag ended l l' → is_end_state s' ≡ is_end_state s
both_end fits = grind arith

-- a parser that has not ended calls its state's function
begun_call : (m : Fixes) (q : OriginalParser) → q.stream_end_produced ≡ false → is_end_state q.state ≡ false
    → call m q ≡ yaml_parser_state_machine m q.state q
begun_call m q h k = grind arith

-- a call of both
pub call_same : (f : Fault) (q : OriginalParser) (d : Config) (l : List Token) → SamePlace f q d l
    → is_end_state d.machine.state ≡ false
    → Matches f (call as_here q) (feed f AtState d.machine (tokens_of d.lookahead l))
call_same f q d l s e =
    let same = called f d.machine.fault d.machine.states s.fits e in
    let ended = flagged s.fits in
    let both = both_end s.fits in
    let is = s.is in
    grind (arith, begun_call)

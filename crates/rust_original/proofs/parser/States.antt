-- Within a document, both parsers do the same in each state.
use Rattle.std.proofs.Common.{◌≡◌, ◌∷◌, List, [], None, Bool, true, false, refl, sym, subst, arith}
use Rattle.libyaml_types.specs.declared.directive.yaml_tag_directive_t.{yaml_tag_directive_t}
use Rattle.libyaml_types.specs.declared.enums.yaml_parser_state_t.{yaml_parser_state_t}
use Rattle.libyaml_types.specs.declared.enums.yaml_parser_state_t.TheVariants as st
use Rattle.libyaml_types.specs.declared.enums.yaml_token_type_t.TheVariants as kinds
use Rattle.libyaml_types.specs.Types.{token_type}
use Rattle.libyaml_types.specs.Fault.{Fault}
use Rattle.libyaml_grammar.specs.grammar.ValidLists.{is_end}
use Rattle.libyaml_grammar.specs.grammar.Tokens.{BlockEntry, Content, DocumentEnd, FlowEntry, Key, Mark, Token, Value}
use Rattle.libyaml_automaton.specs.declared.node_place.NodePlace.{NodePlace}
use Rattle.libyaml_automaton.specs.declared.node_place.NodePlace.TheVariants.{Block, BlockOrIndentlessSequence, Flow}
use Rattle.libyaml_automaton.specs.Automaton as automaton
use Rattle.libyaml_automaton.specs.Automaton.{is_block_place, may_be_indentless}
use Rattle.libyaml_automaton.specs.Config.{below, top}
use Rattle.libyaml_events.specs.machine.Config.{Machine, Handles, config_of, holding}
use Rattle.libyaml_events.specs.machine.Machine.{seen, with_texts}
use Rattle.libyaml_events.specs.machine.Want.{AtState, Want, no_texts}
use Rattle.rust_original.specs.parser.Parser as orig
use Rattle.rust_original.specs.parser.Parser.{OriginalParser, ParserResult, is_one_of}
use Rattle.rust_original.specs.parser.Runs.{as_here}
use Rattle.rust_original.proofs.parser.Nodes.{parsed}
use Rattle.rust_original.proofs.parser.Relation.{Agree, Below, Matches, SamePlace, standing, following as after_document, after_end, fed, feed, inside, popped_fits, popped_fresh, there, tk}

-- a token is wanted for this, and no text is held
abbrev following : automaton.Purpose → Want
following n = record { next = n; texts = no_texts }

-- a token that is no STREAM-END is skipped
end_same : (k : Content) (m n : Mark)
    → is_one_of (record { content = k; start_mark = m; end_mark = n }) (kinds.YAML_STREAM_END_TOKEN ∷ []) ≡ is_end k
end_same k m n = grind arith

pub skipped : (t : Token) → is_end t.content ≡ false → (P : Bool → Type 0) → P false
    → P (is_one_of t (kinds.YAML_STREAM_END_TOKEN ∷ []))
skipped t e P h = subst P (sym (end_same t.content t.start_mark t.end_mark)) (subst P (sym e) h)

module _ (f : Fault) (tags : List yaml_tag_directive_t) (hs : Handles) (be flag : Bool) (x : Fault)
    (ss : List yaml_parser_state_t) where
  abbrev pub here : yaml_parser_state_t → List Mark → Machine
  here s ms
      = record { state = s; states = ss; marks = ms; handles = hs; behind_document_end = be; fault = x }

  abbrev pub par : yaml_parser_state_t → Bool → List Mark → List Token → OriginalParser
  par s' ended ms l = there f tags flag s' ended (here s' ms) l

  document_end_token : (s' : yaml_parser_state_t) (ms : List Mark) (k : Content) (m n : Mark) (l : List Token)
      → Matches f (orig.yaml_parser_parse_document_end (par s' false ms (tk k m n ∷ l)))
      (feed f AtState (here st.YAML_PARSE_DOCUMENT_END_STATE ms) (tk k m n ∷ l))
  document_end_token s' ms DocumentEnd m n l = (refl, standing refl after_end tt)
  document_end_token s' ms k m n l = (refl, standing refl (after_document refl) tt)

  pub document_end : (ms : List Mark) (l : List Token)
      → Matches f (orig.yaml_parser_parse_document_end (par st.YAML_PARSE_DOCUMENT_END_STATE false ms l))
      (feed f AtState (here st.YAML_PARSE_DOCUMENT_END_STATE ms) l)
  document_end ms [] = refl
  document_end ms (t ∷ l) = document_end_token st.YAML_PARSE_DOCUMENT_END_STATE ms t.content t.start_mark t.end_mark l

  module _ (agree : Agree tags hs) (inner : Below ss) where
    module _ (s' : yaml_parser_state_t) (ms : List Mark) where
      -- the original's function and the machine in this state do the same, at these tokens there and here
      abbrev pub Alike : (OriginalParser → ParserResult) → Want → yaml_parser_state_t → (there here : List Token) → Type 0
      Alike call w s l l' = Matches f (call (par s' false ms l)) (feed f w (here s ms) l')

      -- whatever comes
      abbrev pub OfTokens : (OriginalParser → ParserResult) → yaml_parser_state_t → Type 0
      OfTokens call s = (l : List Token) → Alike call AtState s l l

      -- a node, after which the parser goes on from the states of this stack
      node : (s : yaml_parser_state_t) (p : NodePlace) (rest : List yaml_parser_state_t) → Below rest → (u : Token)
          (l : List Token) → let c : Machine = record (here s ms) { states = rest } in Matches f
          (orig.yaml_parser_parse_node (there f tags flag s' false c (u ∷ l)) (is_block_place p) (may_be_indentless p))
          (fed f (with_texts no_texts c u u.content (automaton.parse_node p (config_of c) (seen u u.content)
          (token_type u.content))) l)
      node s p rest b u l = parsed f tags hs agree be flag x s s' ms p rest b u.content u.start_mark u.end_mark l

      -- the parser goes back to a state from the stack
      popped : (marks : List Mark) (l : List Token) → let c : Machine = record (here (top ss) marks) { states = below ss } in
          SamePlace f (there f tags flag (top ss) false c l) (holding None c) l
      popped marks l = standing refl (popped_fits ss inner agree) (popped_fresh ss _ inner)

      -- block sequences
      after_item : (t u : Token) (l : List Token) → t.content ≡ BlockEntry
          → Alike (λ p. orig.yaml_parser_parse_block_sequence_entry p false) (following (automaton.AfterBlockEntry t.end_mark)) st.YAML_PARSE_BLOCK_SEQUENCE_ENTRY_STATE
          (t ∷ u ∷ l) (u ∷ l)
      after_item t u l e =
          let at_node = node st.YAML_PARSE_BLOCK_SEQUENCE_ENTRY_STATE Block
          (st.YAML_PARSE_BLOCK_SEQUENCE_ENTRY_STATE ∷ ss) inner u l in
          grind (arith, standing, inside)

      pub block_sequence_entry : OfTokens (λ p. orig.yaml_parser_parse_block_sequence_entry p false)
          st.YAML_PARSE_BLOCK_SEQUENCE_ENTRY_STATE
      block_sequence_entry l = grind (arith, after_item, popped)

      -- indentless sequences
      after_indentless_item : (t u : Token) (l : List Token) → t.content ≡ BlockEntry
          → Alike orig.yaml_parser_parse_indentless_sequence_entry (following (automaton.AfterIndentlessEntry t.end_mark)) st.YAML_PARSE_INDENTLESS_SEQUENCE_ENTRY_STATE
          (t ∷ u ∷ l) (u ∷ l)
      after_indentless_item t u l e =
          let at_node = node st.YAML_PARSE_INDENTLESS_SEQUENCE_ENTRY_STATE Block
          (st.YAML_PARSE_INDENTLESS_SEQUENCE_ENTRY_STATE ∷ ss) inner u l in
          grind (arith, standing, inside)

      pub indentless_sequence_entry : OfTokens orig.yaml_parser_parse_indentless_sequence_entry
          st.YAML_PARSE_INDENTLESS_SEQUENCE_ENTRY_STATE
      indentless_sequence_entry l = grind (arith, after_indentless_item, standing, popped_fits, popped_fresh)

      -- block mappings
      after_key : (t u : Token) (l : List Token) → t.content ≡ Key
          → Alike (λ p. orig.yaml_parser_parse_block_mapping_key as_here p false) (following (automaton.AfterKey t.end_mark)) st.YAML_PARSE_BLOCK_MAPPING_KEY_STATE
          (t ∷ u ∷ l) (u ∷ l)
      after_key t u l e =
          let at_node = node st.YAML_PARSE_BLOCK_MAPPING_KEY_STATE BlockOrIndentlessSequence
          (st.YAML_PARSE_BLOCK_MAPPING_VALUE_STATE ∷ ss) inner u l in
          grind (arith, standing, inside)

      pub block_mapping_key : OfTokens (λ p. orig.yaml_parser_parse_block_mapping_key as_here p false)
          st.YAML_PARSE_BLOCK_MAPPING_KEY_STATE
      block_mapping_key l = grind (arith, after_key, inside, standing, popped)

      after_value : (t u : Token) (l : List Token) → t.content ≡ Value
          → Alike orig.yaml_parser_parse_block_mapping_value (following (automaton.AfterValue t.end_mark)) st.YAML_PARSE_BLOCK_MAPPING_VALUE_STATE
          (t ∷ u ∷ l) (u ∷ l)
      after_value t u l e =
          let at_node = node st.YAML_PARSE_BLOCK_MAPPING_VALUE_STATE BlockOrIndentlessSequence
          (st.YAML_PARSE_BLOCK_MAPPING_KEY_STATE ∷ ss) inner u l in
          grind (arith, standing, inside)

      pub block_mapping_value : OfTokens orig.yaml_parser_parse_block_mapping_value
          st.YAML_PARSE_BLOCK_MAPPING_VALUE_STATE
      block_mapping_value l = grind (arith, after_value, inside, standing)

      -- flow sequences
      -- an entry, after a separator, or at once after the collection's start
      sequence_entry : (t u : Token) (l : List Token) → t.content ≡ FlowEntry
          → Alike (λ p. orig.yaml_parser_parse_flow_sequence_entry p false) AtState st.YAML_PARSE_FLOW_SEQUENCE_FIRST_ENTRY_STATE
          (t ∷ u ∷ l) (u ∷ l)
      sequence_entry t u l e =
          let at_node = node st.YAML_PARSE_FLOW_SEQUENCE_FIRST_ENTRY_STATE Flow
          (st.YAML_PARSE_FLOW_SEQUENCE_ENTRY_STATE ∷ ss) inner u l in
          grind (arith, inside, standing, popped)

      pub flow_sequence_entry : OfTokens (λ p. orig.yaml_parser_parse_flow_sequence_entry p false)
          st.YAML_PARSE_FLOW_SEQUENCE_ENTRY_STATE
      flow_sequence_entry l = grind (arith, sequence_entry, popped)

      pub pair_key : OfTokens (orig.yaml_parser_parse_flow_sequence_entry_mapping_key as_here)
          st.YAML_PARSE_FLOW_SEQUENCE_ENTRY_MAPPING_KEY_STATE
      pair_key [] = refl
      pair_key (t ∷ l) =
          let at_node = node st.YAML_PARSE_FLOW_SEQUENCE_ENTRY_MAPPING_KEY_STATE Flow
          (st.YAML_PARSE_FLOW_SEQUENCE_ENTRY_MAPPING_VALUE_STATE ∷ ss) inner t l in
          grind (arith, inside, standing)

      after_pair_value : (t u : Token) (l : List Token) → t.content ≡ Value
          → Alike orig.yaml_parser_parse_flow_sequence_entry_mapping_value (following automaton.AfterFlowSequenceValue) st.YAML_PARSE_FLOW_SEQUENCE_ENTRY_MAPPING_VALUE_STATE
          (t ∷ u ∷ l) (u ∷ l)
      after_pair_value t u l e =
          let at_node = node st.YAML_PARSE_FLOW_SEQUENCE_ENTRY_MAPPING_VALUE_STATE Flow
          (st.YAML_PARSE_FLOW_SEQUENCE_ENTRY_MAPPING_END_STATE ∷ ss) inner u l in
          grind (arith, standing, inside)

      pub pair_value : OfTokens orig.yaml_parser_parse_flow_sequence_entry_mapping_value
          st.YAML_PARSE_FLOW_SEQUENCE_ENTRY_MAPPING_VALUE_STATE
      pair_value l = grind (arith, after_pair_value, inside, standing)

      pub pair_end : OfTokens orig.yaml_parser_parse_flow_sequence_entry_mapping_end
          st.YAML_PARSE_FLOW_SEQUENCE_ENTRY_MAPPING_END_STATE
      pair_end h = grind (arith, standing, inside)

      -- flow mappings
      flow_key : (s t u : Token) (l : List Token) → s.content ≡ FlowEntry → t.content ≡ Key
          → Alike (λ p. orig.yaml_parser_parse_flow_mapping_key p false) (following automaton.AfterFlowMappingKey) st.YAML_PARSE_FLOW_MAPPING_FIRST_KEY_STATE
          (s ∷ t ∷ u ∷ l) (u ∷ l)
      flow_key s t u l e k =
          let at_node = node st.YAML_PARSE_FLOW_MAPPING_FIRST_KEY_STATE Flow
          (st.YAML_PARSE_FLOW_MAPPING_VALUE_STATE ∷ ss) inner u l in
          grind (arith, inside, standing)

      mapping_entry : (t u : Token) (l : List Token) → t.content ≡ FlowEntry
          → Alike (λ p. orig.yaml_parser_parse_flow_mapping_key p false) AtState st.YAML_PARSE_FLOW_MAPPING_FIRST_KEY_STATE
          (t ∷ u ∷ l) (u ∷ l)
      mapping_entry t u l e =
          let at_node = node st.YAML_PARSE_FLOW_MAPPING_FIRST_KEY_STATE Flow
          (st.YAML_PARSE_FLOW_MAPPING_EMPTY_VALUE_STATE ∷ ss) inner u l in
          grind (arith, flow_key, popped)

      pub flow_mapping_key : OfTokens (λ p. orig.yaml_parser_parse_flow_mapping_key p false)
          st.YAML_PARSE_FLOW_MAPPING_KEY_STATE
      flow_mapping_key l = grind (arith, mapping_entry, popped)

      after_flow_value : (t u : Token) (l : List Token) → t.content ≡ Value
          → Alike (λ p. orig.yaml_parser_parse_flow_mapping_value p false) (following automaton.AfterFlowMappingValue) st.YAML_PARSE_FLOW_MAPPING_VALUE_STATE
          (t ∷ u ∷ l) (u ∷ l)
      after_flow_value t u l e =
          let at_node = node st.YAML_PARSE_FLOW_MAPPING_VALUE_STATE Flow
          (st.YAML_PARSE_FLOW_MAPPING_KEY_STATE ∷ ss) inner u l in
          grind (arith, standing, inside)

      pub flow_mapping_value : OfTokens (λ p. orig.yaml_parser_parse_flow_mapping_value p false)
          st.YAML_PARSE_FLOW_MAPPING_VALUE_STATE
      flow_mapping_value l = grind (arith, after_flow_value, inside, standing)

      pub flow_mapping_empty_value : OfTokens (λ p. orig.yaml_parser_parse_flow_mapping_value p true)
          st.YAML_PARSE_FLOW_MAPPING_EMPTY_VALUE_STATE
      flow_mapping_empty_value h = grind (arith, standing, inside)

      first_sequence_entry : OfTokens (orig.sequence_entry_after_start true)
          st.YAML_PARSE_FLOW_SEQUENCE_FIRST_ENTRY_STATE
      first_sequence_entry [] = refl
      first_sequence_entry (t ∷ l) =
          let at_node = node st.YAML_PARSE_FLOW_SEQUENCE_FIRST_ENTRY_STATE Flow
          (st.YAML_PARSE_FLOW_SEQUENCE_ENTRY_STATE ∷ ss) inner t l in
          grind (arith, inside, standing, popped)

      first_flow_key : (t u : Token) (l : List Token) → t.content ≡ Key
          → Alike (orig.mapping_key_after_start true) (following automaton.AfterFlowMappingKey) st.YAML_PARSE_FLOW_MAPPING_FIRST_KEY_STATE
          (t ∷ u ∷ l) (u ∷ l)
      first_flow_key t u l e =
          let at_node = node st.YAML_PARSE_FLOW_MAPPING_FIRST_KEY_STATE Flow
          (st.YAML_PARSE_FLOW_MAPPING_VALUE_STATE ∷ ss) inner u l in
          grind (arith, standing, inside)

      first_mapping_key : OfTokens (orig.mapping_key_after_start true)
          st.YAML_PARSE_FLOW_MAPPING_FIRST_KEY_STATE
      first_mapping_key [] = refl
      first_mapping_key (t ∷ l) =
          let at_node = node st.YAML_PARSE_FLOW_MAPPING_FIRST_KEY_STATE Flow
          (st.YAML_PARSE_FLOW_MAPPING_EMPTY_VALUE_STATE ∷ ss) inner t l in
          grind (arith, first_flow_key, popped)

      -- a document's content, and nodes
      pub document_content : OfTokens orig.yaml_parser_parse_document_content
          st.YAML_PARSE_DOCUMENT_CONTENT_STATE
      document_content [] = refl
      document_content (t ∷ l) =
          let at_node = node st.YAML_PARSE_DOCUMENT_CONTENT_STATE Block ss inner t l in
          grind (arith, standing, popped_fits, popped_fresh)

      pub block_node : OfTokens (λ p. orig.yaml_parser_parse_node p true false) st.YAML_PARSE_BLOCK_NODE_STATE
      block_node [] = refl
      block_node (t ∷ l) = node st.YAML_PARSE_BLOCK_NODE_STATE Block ss inner t l

      pub block_node_or_indentless_sequence : OfTokens (λ p. orig.yaml_parser_parse_node p true true)
          st.YAML_PARSE_BLOCK_NODE_OR_INDENTLESS_SEQUENCE_STATE
      block_node_or_indentless_sequence [] = refl
      block_node_or_indentless_sequence (t ∷ l)
          = node st.YAML_PARSE_BLOCK_NODE_OR_INDENTLESS_SEQUENCE_STATE BlockOrIndentlessSequence ss inner t l

      pub flow_node : OfTokens (λ p. orig.yaml_parser_parse_node p false false) st.YAML_PARSE_FLOW_NODE_STATE
      flow_node [] = refl
      flow_node (t ∷ l) = node st.YAML_PARSE_FLOW_NODE_STATE Flow ss inner t l

    pub block_sequence_first_entry : (ms : List Mark) (t : Token) (l : List Token) → is_end t.content ≡ false
        → Matches f
        (orig.yaml_parser_parse_block_sequence_entry
        (par st.YAML_PARSE_BLOCK_SEQUENCE_FIRST_ENTRY_STATE false ms (t ∷ l)) true)
        (feed f AtState (here st.YAML_PARSE_BLOCK_SEQUENCE_ENTRY_STATE (t.start_mark ∷ ms)) l)
    block_sequence_first_entry ms t l e = grind (arith, skipped, end_same, block_sequence_entry)

    pub block_mapping_first_key : (ms : List Mark) (t : Token) (l : List Token) → is_end t.content ≡ false
        → Matches f
        (orig.yaml_parser_parse_block_mapping_key as_here
        (par st.YAML_PARSE_BLOCK_MAPPING_FIRST_KEY_STATE false ms (t ∷ l)) true)
        (feed f AtState (here st.YAML_PARSE_BLOCK_MAPPING_KEY_STATE (t.start_mark ∷ ms)) l)
    block_mapping_first_key ms t l e = grind (arith, skipped, end_same, block_mapping_key)

    pub flow_sequence_first_entry : (ms : List Mark) (t : Token) (l : List Token) → is_end t.content ≡ false
        → Matches f
        (orig.yaml_parser_parse_flow_sequence_entry
        (par st.YAML_PARSE_FLOW_SEQUENCE_FIRST_ENTRY_STATE false ms (t ∷ l)) true)
        (feed f AtState (here st.YAML_PARSE_FLOW_SEQUENCE_FIRST_ENTRY_STATE (t.start_mark ∷ ms)) l)
    flow_sequence_first_entry ms t l e = grind (arith, skipped, end_same, first_sequence_entry)

    pub flow_mapping_first_key : (ms : List Mark) (t : Token) (l : List Token) → is_end t.content ≡ false
        → Matches f
        (orig.yaml_parser_parse_flow_mapping_key (par st.YAML_PARSE_FLOW_MAPPING_FIRST_KEY_STATE false ms (t ∷ l))
        true) (feed f AtState (here st.YAML_PARSE_FLOW_MAPPING_FIRST_KEY_STATE (t.start_mark ∷ ms)) l)
    flow_mapping_first_key ms t l e = grind (arith, skipped, end_same, first_mapping_key)

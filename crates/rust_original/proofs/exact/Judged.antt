-- A call of the original does the same as one here where no token of the call was told apart, and what it does where one was.
use Rattle.std.proofs.Common.{◌≡◌, ◌∷◌, List, [], None, Bool, true, false, Ok, Err, codes, refl, sym, subst, arith}
use Rattle.libyaml_types.specs.Types.{token_type}
use Rattle.libyaml_types.specs.declared.directive.yaml_tag_directive_t.{yaml_tag_directive_t}
use Rattle.libyaml_types.specs.declared.enums.yaml_parser_state_t.{yaml_parser_state_t}
use Rattle.libyaml_types.specs.declared.enums.yaml_parser_state_t.TheVariants as st
use Rattle.libyaml_types.specs.Fault.{Fault}
use Rattle.libyaml_grammar.specs.partial.FaultTexts.{parser_fault, parser_fault_in}
use Rattle.libyaml_grammar.specs.grammar.Events.{Event}
use Rattle.libyaml_grammar.specs.grammar.Tokens.{Content, DocumentEnd, DocumentStart, FlowEntry, FlowSequenceEnd, Mark, StreamEnd, TagDirective, Token, Value, VersionDirective}
use Rattle.libyaml_automaton.specs.Automaton as automaton
use Rattle.libyaml_automaton.specs.Config.{top_mark}
use Rattle.libyaml_automaton.specs.declared.difference.Difference.{Difference}
use Rattle.libyaml_automaton.specs.declared.difference.Difference.TheVariants.{Nowhere, PairKey, ValueFirst, BareDocument}
use Rattle.libyaml_automaton.specs.Differing.{differs}
use Rattle.libyaml_events.specs.machine.Config.{Config, Machine, Handles, config_of, is_end_state, no_handles}
use Rattle.libyaml_events.specs.machine.Machine.{Progressed, seen, step}
use Rattle.libyaml_events.specs.machine.Want.{AtState, Given, Want, Wants}
use Rattle.rust_original.specs.parser.Differences.{Differs, KeyDue, bare_document, after_entry, after_start, call_here, call_there, pair_key, value_first}
use Rattle.rust_original.specs.parser.Parser.{FAIL, OK, OriginalParser, PUSH_mark, ParserResult, SKIP_TOKEN, after_directives}
use Rattle.rust_original.proofs.parser.Handles.{defaults_appended}
use Rattle.rust_original.proofs.parser.Relation.{Fits, IsInside, Opens, SamePlace, following, after_end, entering, inside, there_with, tk, tokens_of}
use Rattle.rust_original.proofs.exact.Quiet as quiet
use Rattle.rust_original.proofs.exact.Quiet.{Quiet, QuietProgress, QuietState, QuietStep, quiet_after, quiet_by}

-- what libyaml does with the token where this is wanted: the same, or something else
abbrev pub differs_by : Want → Machine → Token → Difference
differs_by w c t = differs w.next c.state c.behind_document_end (token_type t.content)

-- its errors there, where it has one
abbrev pub key_fault : (context_mark mark : Mark) → Fault
key_fault m n = parser_fault_in (codes "while parsing a block mapping") m (codes "did not find expected key") n

abbrev pub document_fault : (mark : Mark) → Fault
document_fault n = parser_fault (codes "did not find expected <document start>") n

abbrev pub GivesEvent : ParserResult → Type 0
GivesEvent o = (e : Event) × (q : OriginalParser) × (o ≡ OK e q)

abbrev DoesThere : Difference → (context_mark mark : Mark) → ParserResult → Type 0
DoesThere Nowhere m n o = ⊥
DoesThere PairKey m n o = GivesEvent o
DoesThere ValueFirst m n o = o ≡ FAIL (key_fault m n)
DoesThere BareDocument m n o = o ≡ FAIL (document_fault n)

-- what the questions of one call say: none is met, or one is, with the marks of the innermost collection and the token
pub data Judged : Type 0 where
  none : Judged
  met : Difference → (context_mark mark : Mark) → Judged

abbrev pub judged_at : Difference → Machine → Token → Judged → Judged
judged_at Nowhere c t j = j
judged_at k c t j = met k (top_mark c.marks) t.start_mark

abbrev pub judged_by : Progressed → (Want → Machine → Judged) → Judged
judged_by (Err g) more = none
judged_by (Ok (Given e d)) more = none
judged_by (Ok (Wants v d)) more = more v d

abbrev pub judged : Want → Machine → List Token → Judged
judged w c [] = none
judged w c (t ∷ l) = judged_at (differs_by w c t) c t (judged_by (step w c t) (λ v d. judged v d l))

-- no further question is met
after : (more : Want → Machine → Judged) → ((v : Want) (d : Machine) → Quiet v.next → more v d ≡ none)
    → (o : Progressed) → QuietProgress o → judged_by o more ≡ none
after more h o q = grind arith

still : (l : List Token) (w : Want) (c : Machine) → Quiet w.next → judged w c l ≡ none
still [] w c q = refl
still (t ∷ l) w c q = grind (arith, quiet.nowhere, after (λ v d. judged v d l) (λ v d h. still l v d h), quiet_after)

after_token : (l : List Token) (o : Progressed) → QuietProgress o → judged_by o (λ v d. judged v d l) ≡ none
after_token l o q = after (λ v d. judged v d l) (still l) o q

-- what a call of the original does then
abbrev pub Found : Judged → OriginalParser → Type 0
Found none p = call_there p ≡ call_here p
Found (met k m n) p = Differs p (call_there p) (call_here p) × DoesThere k m n (call_there p)

found_none : (j : Judged) (p : OriginalParser) → j ≡ none → call_there p ≡ call_here p → Found j p
found_none j p i e = subst (λ (x : Judged). Found x p) (sym i) e

module _ (f : Fault) (x : Fault) (ss : List yaml_parser_state_t) where
  abbrev conf : yaml_parser_state_t → List Mark → Handles → Bool → Machine
  conf s ms hs be
      = record { state = s; states = ss; marks = ms; handles = hs; behind_document_end = be; fault = x }

  -- the states where no question is met, and none after them
  abbrev Silent : yaml_parser_state_t → Type 0
  Silent st.YAML_PARSE_IMPLICIT_DOCUMENT_START_STATE = ⊥
  Silent st.YAML_PARSE_BLOCK_MAPPING_KEY_STATE = ⊥
  Silent st.YAML_PARSE_FLOW_SEQUENCE_ENTRY_STATE = ⊥
  Silent st.YAML_PARSE_FLOW_SEQUENCE_ENTRY_MAPPING_KEY_STATE = ⊥
  Silent st.YAML_PARSE_FLOW_MAPPING_KEY_STATE = ⊥
  Silent _ = Unit {0}

  silent : (s : yaml_parser_state_t) → Silent s → (ms : List Mark) (hs : Handles) (be : Bool) (l : List Token)
      → judged AtState (conf s ms hs be) l ≡ none
  silent s q ms hs be [] = refl
  silent s q ms hs be (t ∷ l) = grind (
    arith,
    after_token l,
    quiet_by AtState (conf s ms hs be) t,
    quiet.at_state s (config_of (conf s ms hs be)) (seen t t.content) (token_type t.content),
  )

  -- the same of a state's function alone: its steps want no token for a state's
  unmet : (s : yaml_parser_state_t) → QuietState s → (ms : List Mark) (hs : Handles) (be : Bool) (t : Token)
      (l : List Token) → judged_by (step AtState (conf s ms hs be) t) (λ v d. judged v d l) ≡ none
  unmet s q ms hs be t l = grind (arith, after_token, quiet_by)

  abbrev Finds : (here there_state : yaml_parser_state_t) → (marks marks_there : List Mark) → List yaml_tag_directive_t
      → Handles → Bool → Bool → Bool → (tokens tokens_there : List Token) → Type 0
  Finds s s' ms ms' tags hs be flag ended l l'
      = Found (judged AtState (conf s ms hs be) l) (there_with f tags flag s' ended (conf s ms hs be) ms' l')

  unasked : (s s' : yaml_parser_state_t) (ms ms' : List Mark) (tags : List yaml_tag_directive_t) (hs : Handles)
      (be flag ended : Bool) (l l' : List Token) → judged AtState (conf s ms hs be) l ≡ none
      → call_there (there_with f tags flag s' ended (conf s ms hs be) ms' l')
      ≡ call_here (there_with f tags flag s' ended (conf s ms hs be) ms' l')
      → Finds s s' ms ms' tags hs be flag ended l l'
  unasked s s' ms ms' tags hs be flag ended l l' i e
      = found_none (judged AtState (conf s ms hs be) l) (there_with f tags flag s' ended (conf s ms hs be) ms' l') i e

  -- where a block mapping's KEY is due
  block_key : (ms : List Mark) (tags : List yaml_tag_directive_t) (hs : Handles) (be flag : Bool) (l : List Token)
      → Finds st.YAML_PARSE_BLOCK_MAPPING_KEY_STATE st.YAML_PARSE_BLOCK_MAPPING_KEY_STATE ms ms tags hs be flag false l l
  block_key ms tags hs be flag [] = refl
  block_key ms tags hs be flag (t ∷ l) =
      let p = there_with f tags flag st.YAML_PARSE_BLOCK_MAPPING_KEY_STATE false
      (conf st.YAML_PARSE_BLOCK_MAPPING_KEY_STATE ms hs be) ms (t ∷ l) in
      let quietly = unmet st.YAML_PARSE_BLOCK_MAPPING_KEY_STATE tt ms hs be t l in
      grind (arith, value_first p t l (after_entry refl) refl)

  first_key : (ms : List Mark) (tags : List yaml_tag_directive_t) (hs : Handles) (be flag : Bool) (t : Token)
      (l : List Token)
      → Finds st.YAML_PARSE_BLOCK_MAPPING_KEY_STATE st.YAML_PARSE_BLOCK_MAPPING_FIRST_KEY_STATE (t.start_mark ∷ ms) ms tags
      hs be flag false l (t ∷ l)
  first_key ms tags hs be flag t [] = refl
  first_key ms tags hs be flag t (u ∷ l) =
      let p = there_with f tags flag st.YAML_PARSE_BLOCK_MAPPING_FIRST_KEY_STATE false
      (conf st.YAML_PARSE_BLOCK_MAPPING_KEY_STATE (t.start_mark ∷ ms) hs be) ms (t ∷ u ∷ l) in
      let due : KeyDue p (SKIP_TOKEN (PUSH_mark t.start_mark p)) = after_start t (u ∷ l) refl refl in
      let quietly = unmet st.YAML_PARSE_BLOCK_MAPPING_KEY_STATE tt (t.start_mark ∷ ms) hs be u l in
      grind (arith, value_first (SKIP_TOKEN (PUSH_mark t.start_mark p)) u l due refl)

  -- after the KEY of a pair
  after_pair_key : (ms : List Mark) (tags : List yaml_tag_directive_t) (hs : Handles) (be flag : Bool) (l : List Token)
      → Finds st.YAML_PARSE_FLOW_SEQUENCE_ENTRY_MAPPING_KEY_STATE st.YAML_PARSE_FLOW_SEQUENCE_ENTRY_MAPPING_KEY_STATE ms ms
      tags hs be flag false l l
  after_pair_key ms tags hs be flag [] = refl
  after_pair_key ms tags hs be flag (t ∷ l) = go t.content t.start_mark t.end_mark
    where
      go : (k : Content) (m n : Mark)
          → Finds st.YAML_PARSE_FLOW_SEQUENCE_ENTRY_MAPPING_KEY_STATE
          st.YAML_PARSE_FLOW_SEQUENCE_ENTRY_MAPPING_KEY_STATE ms ms tags hs be flag false (tk k m n ∷ l) (tk k m n ∷ l)
      go Value m n = (pair_key (tk Value m n) l refl refl refl, (_, _, refl))
      go FlowEntry m n = (pair_key (tk FlowEntry m n) l refl refl refl, (_, _, refl))
      go FlowSequenceEnd m n = (pair_key (tk FlowSequenceEnd m n) l refl refl refl, (_, _, refl))
      go k m n = unasked st.YAML_PARSE_FLOW_SEQUENCE_ENTRY_MAPPING_KEY_STATE st.YAML_PARSE_FLOW_SEQUENCE_ENTRY_MAPPING_KEY_STATE ms ms tags hs be flag
          false (tk k m n ∷ l) (tk k m n ∷ l) (unmet st.YAML_PARSE_FLOW_SEQUENCE_ENTRY_MAPPING_KEY_STATE tt ms hs be (tk k m n) l) refl

  -- after FLOW-ENTRY an entry's first token comes, which is taken as there
  sequence_entry : (ms : List Mark) (hs : Handles) (be : Bool) (l : List Token)
      → judged AtState (conf st.YAML_PARSE_FLOW_SEQUENCE_ENTRY_STATE ms hs be) l ≡ none
  sequence_entry ms hs be [] = refl
  sequence_entry ms hs be (t ∷ l) = grind (arith, silent)

  mapping_key : (ms : List Mark) (hs : Handles) (be : Bool) (l : List Token)
      → judged AtState (conf st.YAML_PARSE_FLOW_MAPPING_KEY_STATE ms hs be) l ≡ none
  mapping_key ms hs be [] = refl
  mapping_key ms hs be (t ∷ l) = grind (arith, silent)

  -- the first document, and one after an explicit end
  first_document : (ms : List Mark) (hs : Handles) (l : List Token)
      → judged AtState (conf st.YAML_PARSE_IMPLICIT_DOCUMENT_START_STATE ms hs false) l ≡ none
  first_document ms hs [] = refl
  first_document ms hs (t ∷ l) = let c = conf st.YAML_PARSE_IMPLICIT_DOCUMENT_START_STATE ms hs false in
      after_token l (step AtState c t)
      (quiet_by AtState c t (quiet.first_document (config_of c) (seen t t.content) (token_type t.content) refl))

  -- a DOCUMENT-END more, which is skipped
  abbrev between : List Mark → List Token → OriginalParser
  between ms l = there_with f [] true st.YAML_PARSE_DOCUMENT_START_STATE false
      (conf st.YAML_PARSE_IMPLICIT_DOCUMENT_START_STATE ms no_handles true) ms l

  carried : {o u : ParserResult} (ms : List Mark) (m n : Mark) (l : List Token) → Differs (between ms l) o u
      → Differs (between ms (tk DocumentEnd m n ∷ l)) o u
  carried ms m n l (bare_document r t rest s e i h j) = bare_document r t rest s e i h j
  carried ms m n l (value_first r t rest (after_start u v s i) j e) = absurd cc
  carried ms m n l (value_first r t rest (after_entry s) j e) = absurd cc
  carried ms m n l (pair_key t rest s i e) = absurd cc

  further : (ms : List Mark) (m n : Mark) (l : List Token) (j : Judged) → Found j (between ms l)
      → Found j (between ms (tk DocumentEnd m n ∷ l))
  further ms m n l j e = grind (arith, carried)

  bare : (ms : List Mark) (l : List Token)
      → Finds st.YAML_PARSE_IMPLICIT_DOCUMENT_START_STATE st.YAML_PARSE_DOCUMENT_START_STATE ms ms [] no_handles true true
      false l l
  bare ms [] = refl
  bare ms (t ∷ l) = go t.content t.start_mark t.end_mark (bare ms l)
    where
      Goal : (tokens tokens_there : List Token) → Type 0
      Goal = Finds st.YAML_PARSE_IMPLICIT_DOCUMENT_START_STATE st.YAML_PARSE_DOCUMENT_START_STATE ms ms [] no_handles true
          true false

      directive : (u : Token) → QuietStep (automaton.step automaton.AtState
          (config_of (conf st.YAML_PARSE_IMPLICIT_DOCUMENT_START_STATE ms no_handles true)) (seen u u.content)
          (token_type u.content))
          → judged_by (step AtState (conf st.YAML_PARSE_IMPLICIT_DOCUMENT_START_STATE ms no_handles true) u)
          (λ v d. judged v d l) ≡ none
      directive u q = grind (arith, after_token, quiet_by)

      go : (k : Content) (m n : Mark) → Goal l l → Goal (tk k m n ∷ l) (tk k m n ∷ l)
      go DocumentEnd m n ih
          = further ms m n l (judged AtState (conf st.YAML_PARSE_IMPLICIT_DOCUMENT_START_STATE ms no_handles true) l) ih
      go (VersionDirective v) m n ih = found_none _ _ (directive (tk (VersionDirective v) m n) tt) refl
      go (TagDirective g) m n ih = found_none _ _ (directive (tk (TagDirective g) m n) tt) refl
      go DocumentStart m n ih = refl
      go StreamEnd m n ih = refl
      go k m n ih = (
        bare_document _ _ l refl refl refl refl refl,
        defaults_appended (between ms (tk k m n ∷ l)) m (after_directives m None []),
      )

  quiet_state : (s : yaml_parser_state_t) → Silent s → (ms ms' : List Mark) (tags : List yaml_tag_directive_t)
      (hs : Handles) (be flag ended : Bool) (s' : yaml_parser_state_t) (l l' : List Token)
      → call_there (there_with f tags flag s' ended (conf s ms hs be) ms' l')
      ≡ call_here (there_with f tags flag s' ended (conf s ms hs be) ms' l')
      → Finds s s' ms ms' tags hs be flag ended l l'
  quiet_state s q ms ms' tags hs be flag ended s' l l' e = found_none _ _ (silent s q ms hs be l) e

  next_document : (ms : List Mark) (be : Bool) (k : Content) (m n : Mark) (l : List Token)
      → (elim k [ DocumentEnd ↦ true | _ ↦ false ]) ≡ false
      → Finds st.YAML_PARSE_DOCUMENT_START_STATE st.YAML_PARSE_DOCUMENT_START_STATE ms ms [] no_handles be false false
      (tk k m n ∷ l) (tk k m n ∷ l)
  next_document ms be k m n l e = grind (arith, quiet_state)

  entered : (s' s : yaml_parser_state_t) (ms : List Mark) (tags : List yaml_tag_directive_t) (hs : Handles)
      (be flag : Bool) (t : Token) (l : List Token) → Opens s' s
      → Finds s s' (t.start_mark ∷ ms) ms tags hs be flag false l (t ∷ l)
  entered s' s ms tags hs be flag t l i = grind (arith, quiet_state, first_key)

  within : (s : yaml_parser_state_t) (ms : List Mark) (tags : List yaml_tag_directive_t) (hs : Handles) (be flag : Bool)
      (l : List Token) → IsInside s → Finds s s ms ms tags hs be flag false l l
  within s ms tags hs be flag l i
      = grind (arith, block_key, after_pair_key, found_none, sequence_entry, mapping_key, quiet_state)

  found : {s s' : yaml_parser_state_t} {ms ms' : List Mark} {tags : List yaml_tag_directive_t} {hs : Handles} {be flag
      ended : Bool} {l l' : List Token} → Fits ss s s' ms ms' tags hs be flag ended l l' → is_end_state s ≡ false
      → Finds s s' ms ms' tags hs be flag ended l l'
  found (after_end {ms} {l}) e = bare ms l
  found (following {ms} {be} {t} {l} i) e = next_document ms be t.content t.start_mark t.end_mark l i
  found (entering {s} {s'} {ms} {tags} {hs} {be} {flag} {t} {l} i b a n) e = entered s' s ms tags hs be flag t l i
  found (inside {s} {ms} {tags} {hs} {be} {flag} {l} i b a) e = within s ms tags hs be flag l i
  found fits e = grind (arith, quiet_state, first_document)

-- a call, where the parsers stand to one another
pub call_found : (f : Fault) (q : OriginalParser) (d : Config) (l : List Token) → SamePlace f q d l
    → is_end_state d.machine.state ≡ false → Found (judged AtState d.machine (tokens_of d.lookahead l)) q
call_found f q d l s e = rw s.is (found f d.machine.fault d.machine.states s.fits e)

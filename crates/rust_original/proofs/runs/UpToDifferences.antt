-- A call does the same there and here but at the three places.
use Rattle.std.proofs.Common.{◌≡◌, ◌∷◌, ◌⊎◌, inl, inr, List, [], None, Bool, true, false, refl, sym, ap, ◌∙◌, subst, codes, arith}
use Rattle.libyaml_types.specs.declared.enums.yaml_parser_state_t.{yaml_parser_state_t}
use Rattle.libyaml_types.specs.declared.enums.yaml_parser_state_t.TheVariants as st
use Rattle.libyaml_types.specs.declared.enums.yaml_token_type_t.TheVariants as kinds
use Rattle.libyaml_types.specs.Events.{empty_event}
use Rattle.libyaml_types.specs.Fault.{Fault}
use Rattle.libyaml_grammar.specs.partial.FaultTexts.{parser_fault}
use Rattle.libyaml_grammar.specs.runs.Runs.{Ending, Ends, Fails}
use Rattle.libyaml_grammar.specs.grammar.Events.{Event}
use Rattle.libyaml_grammar.specs.grammar.Tokens.{Content, DocumentEnd, DocumentStart, FlowEntry, FlowSequenceEnd, Mark, StreamEnd, TagDirective, Token, Value, VersionDirective}
use Rattle.rust_original.specs.parser.Parser as orig
use Rattle.rust_original.specs.parser.Parser.{FAIL, Fixes, OK, ParserResult, OriginalParser, SKIP_TOKEN, after_directives, implicit_document_start, is_one_of, skip_document_ends, yaml_parser_parse, yaml_parser_state_machine}
use Rattle.rust_original.specs.parser.Runs.{Runs, as_here, as_there, ends, fails, goes_on}
use Rattle.rust_original.specs.parser.Differences.{Compares, Differs, bare_document, after_entry, after_start, by_call, call_here, call_there, here, pair_key, parts, same, value_first}
use Rattle.rust_original.proofs.parser.Handles.{defaults_appended}
use Rattle.libyaml_events.specs.machine.Config.{is_fault}
use Rattle.rust_original.proofs.parser.Relation.{tk}

abbrev pub Apart : OriginalParser → ParserResult → ParserResult → Type 0
Apart p o u = (o ≡ u) ⊎ Differs p o u

-- a parser with these tokens to come
abbrev with : OriginalParser → List Token → OriginalParser
with p l = record p { tokens = l }

pair_keys : (p : OriginalParser) (k : Content) (m n : Mark) (l : List Token)
    → p.state ≡ st.YAML_PARSE_FLOW_SEQUENCE_ENTRY_MAPPING_KEY_STATE → Apart (with p (tk k m n ∷ l))
    (orig.yaml_parser_parse_flow_sequence_entry_mapping_key as_there (with p (tk k m n ∷ l)))
    (orig.yaml_parser_parse_flow_sequence_entry_mapping_key as_here (with p (tk k m n ∷ l)))
pair_keys p Value m n l s = inr (pair_key _ l s refl refl)
pair_keys p FlowEntry m n l s = inr (pair_key _ l s refl refl)
pair_keys p FlowSequenceEnd m n l s = inr (pair_key _ l s refl refl)
pair_keys p k m n l s = inl refl

keys : (p : OriginalParser) (k : Content) (m n : Mark) (l : List Token) → p.state ≡ st.YAML_PARSE_BLOCK_MAPPING_KEY_STATE
    → Apart (with p (tk k m n ∷ l)) (orig.yaml_parser_parse_block_mapping_key as_there (with p (tk k m n ∷ l)) false)
    (orig.yaml_parser_parse_block_mapping_key as_here (with p (tk k m n ∷ l)) false)
keys p Value m n l s = inr (value_first _ _ l (after_entry s) refl refl)
keys p k m n l s = inl refl

first_keys : (p : OriginalParser) (t : Token) (k : Content) (m n : Mark) (l : List Token)
    → p.state ≡ st.YAML_PARSE_BLOCK_MAPPING_FIRST_KEY_STATE → Apart (with p (t ∷ tk k m n ∷ l))
    (orig.yaml_parser_parse_block_mapping_key as_there (with p (t ∷ tk k m n ∷ l)) true)
    (orig.yaml_parser_parse_block_mapping_key as_here (with p (t ∷ tk k m n ∷ l)) true)
first_keys p t Value m n l s = inr (value_first _ _ l (after_start t _ s refl) refl refl)
first_keys p t k m n l s = inl refl

-- after DOCUMENT-ENDs, a token that begins no explicit document
record Bare (p : OriginalParser) (o u : ParserResult) : Type 0 where
  q : OriginalParser
  t : Token
  l : List Token
  ended : p.after_explicit_end ≡ true
  skipped : skip_document_ends p.tokens p ≡ q
  tokens : q.tokens ≡ t ∷ l
  kind : is_one_of t
      (kinds.YAML_VERSION_DIRECTIVE_TOKEN ∷ kinds.YAML_TAG_DIRECTIVE_TOKEN ∷ kinds.YAML_DOCUMENT_START_TOKEN ∷
      kinds.YAML_STREAM_END_TOKEN ∷ []) ≡ false
  fault_there : o ≡ FAIL (parser_fault (codes "did not find expected <document start>") t.start_mark)
  begun_here : u ≡ implicit_document_start t.start_mark q

abbrev start_there : OriginalParser → ParserResult
start_there p = orig.yaml_parser_parse_document_start as_there p false

abbrev start_here : OriginalParser → ParserResult
start_here p = orig.yaml_parser_parse_document_start as_here p false

abbrev Starts : OriginalParser → Type 0
Starts p = (start_there p ≡ start_here p) ⊎ Bare p (start_there p) (start_here p)

abbrev ended : OriginalParser → Bool → List Token → OriginalParser
ended p b l = record p { tokens = l; after_explicit_end = b }

-- one DOCUMENT-END more
further : (p : OriginalParser) (b : Bool) (m n : Mark) (l : List Token)
    → Starts (SKIP_TOKEN (ended p b (tk DocumentEnd m n ∷ l))) → Starts (ended p b (tk DocumentEnd m n ∷ l))
further p b m n l h = grind arith

start_token : (b : Bool) (p : OriginalParser) (k : Content) (m n : Mark) (l : List Token)
    → Starts (SKIP_TOKEN (ended p b (tk k m n ∷ l))) → Starts (ended p b (tk k m n ∷ l))
start_token true p DocumentEnd m n l ih = further p true m n l ih
start_token true p (VersionDirective v) m n l ih = inl refl
start_token true p (TagDirective g) m n l ih = inl refl
start_token true p DocumentStart m n l ih = inl refl
start_token true p StreamEnd m n l ih = inl refl
start_token true p k m n l ih = inr (record {
  q = ended p true (tk k m n ∷ l);
  t = tk k m n;
  l = l;
  ended = refl;
  skipped = refl;
  tokens = refl;
  kind = refl;
  fault_there = defaults_appended (ended p true (tk k m n ∷ l)) m (after_directives m None []);
  begun_here = refl;
})
start_token false p DocumentEnd m n l ih = further p false m n l ih
start_token false p k m n l ih = inl refl

starts : (l : List Token) (p : OriginalParser) → Starts (with p l)
starts [] p = inl refl
starts (t ∷ l) p
    = start_token p.after_explicit_end p t.content t.start_mark t.end_mark l (starts l (SKIP_TOKEN (with p (t ∷ l))))

-- a call
apart_at : (p : OriginalParser) (s : yaml_parser_state_t) → p.state ≡ s
    → Apart p (yaml_parser_state_machine as_there s p) (yaml_parser_state_machine as_here s p)
apart_at p st.YAML_PARSE_FLOW_SEQUENCE_ENTRY_MAPPING_KEY_STATE e = go p.tokens
  where
    go : (l : List Token)
        → Apart (with p l) (orig.yaml_parser_parse_flow_sequence_entry_mapping_key as_there (with p l))
        (orig.yaml_parser_parse_flow_sequence_entry_mapping_key as_here (with p l))
    go [] = inl refl
    go (t ∷ l) = pair_keys p t.content t.start_mark t.end_mark l e
apart_at p st.YAML_PARSE_BLOCK_MAPPING_KEY_STATE e = go p.tokens
  where
    go : (l : List Token) → Apart (with p l) (orig.yaml_parser_parse_block_mapping_key as_there (with p l) false)
        (orig.yaml_parser_parse_block_mapping_key as_here (with p l) false)
    go [] = inl refl
    go (t ∷ l) = keys p t.content t.start_mark t.end_mark l e
apart_at p st.YAML_PARSE_BLOCK_MAPPING_FIRST_KEY_STATE e = go p.tokens
  where
    go : (l : List Token) → Apart (with p l) (orig.yaml_parser_parse_block_mapping_key as_there (with p l) true)
        (orig.yaml_parser_parse_block_mapping_key as_here (with p l) true)
    go [] = inl refl
    go (t ∷ []) = inl refl
    go (t ∷ u ∷ l) = first_keys p t u.content u.start_mark u.end_mark l e
apart_at p st.YAML_PARSE_DOCUMENT_START_STATE e = go (starts p.tokens p)
  where
    go : Starts p → Apart p (start_there p) (start_here p)
    go (inl i) = inl i
    go (inr h) = inr (rw (h.fault_there, h.begun_here)
        (bare_document h.q h.t h.l e h.ended h.skipped h.tokens h.kind))
apart_at p _ e = inl refl

pub apart : (p : OriginalParser) → Apart p (call_there p) (call_here p)
apart p = grind (arith, apart_at)

pub may_differ : (p : OriginalParser) → (call_there p ≡ call_here p) ⊎ ((true ≡ true) × Differs p (call_there p) (call_here p))
may_differ p = grind (arith, apart)

-- runs
ok_same : {e d : Event} {p q : OriginalParser} → OK e p ≡ OK d q → (e ≡ d) × (p ≡ q)
ok_same {p} h = grind arith

fail_same : {f g : Fault} → FAIL f ≡ FAIL g → f ≡ g
fail_same h = grind arith

apart_outcomes : {e : Event} {p : OriginalParser} {f : Fault} → OK e p ≡ FAIL f → ⊥
apart_outcomes h = cc

both_flags : {p q : OriginalParser} → p ≡ q → p.stream_end_produced ≡ true → q.stream_end_produced ≡ false → ⊥
both_flags e h k = grind arith

longer : {p q : OriginalParser} {e d : Event} {l m : List Event} {x y : Ending} → call_there p ≡ OK e q → call_here p ≡ OK e q
    → q.stream_end_produced ≡ false → e ≡ d → Compares q l x m y → Compares p (e ∷ l) x (d ∷ m) y
longer {d} {l} i j f h (same a b) = grind (arith, same)
longer {e} {m} i j f h (parts before e' d' r reached differs a b s t)
    = parts (e ∷ before) e' d' r (by_call i j f reached) differs (cc) (cc) s t

pub compared : {p : OriginalParser} {e : List Event} {x : Ending} → Runs as_there p e x → (d : List Event) (y : Ending)
    → Runs as_here p d y → Compares p e x d y
compared {p} {e} {x} (ends {e = a} {q = q} i f) d y s = go (apart p) d y s
  where
    go : Apart p (call_there p) (call_here p) → (d : List Event) (y : Ending) → Runs as_here p d y
        → Compares p (a ∷ []) Ends d y
    go (inr h) d y s = parts [] (a ∷ []) d p here h refl refl (ends i f) s
    go (inl h) d y (ends j g) = let k = ok_same (sym i ∙ (h ∙ j)) in same (ap (λ (z : Event). z ∷ []) k.0) refl
    go (inl h) d y (goes_on j g later) = absurd (both_flags (ok_same (sym i ∙ (h ∙ j))).1 f g)
    go (inl h) d y (fails j) = absurd (apart_outcomes (sym i ∙ (h ∙ j)))
compared {p} {e} {x} (goes_on {e = a} {q = q} {later = l} i f rest) d y s
    = go (λ m z t. compared rest m z t) (apart p) d y s
  where
    go : ((m : List Event) (z : Ending) → Runs as_here q m z → Compares q l x m z)
        → Apart p (call_there p) (call_here p) → (d : List Event) (y : Ending) → Runs as_here p d y
        → Compares p (a ∷ l) x d y
    go ih (inr h) d y s = parts [] (a ∷ l) d p here h refl refl (goes_on i f rest) s
    go ih (inl h) d y (ends j g) = absurd (both_flags (sym (ok_same (sym i ∙ (h ∙ j))).1) g f)
    go ih (inl h) d y (goes_on {e = b} {q = r} {later = m} j g later) = let k = ok_same (sym i ∙ (h ∙ j)) in
        longer i (sym h ∙ i) f k.0 (ih m y (subst (λ (z : OriginalParser). Runs as_here z m y) (sym k.1) later))
    go ih (inl h) d y (fails j) = absurd (apart_outcomes (sym i ∙ (h ∙ j)))
compared {p} {e} {x} (fails {f = f} i) d y s = go (apart p) d y s
  where
    go : Apart p (call_there p) (call_here p) → (d : List Event) (y : Ending) → Runs as_here p d y
        → Compares p [] (Fails f) d y
    go (inr h) d y s = parts [] [] d p here h refl refl (fails i) s
    go (inl h) d y (ends j g) = absurd (apart_outcomes (sym j ∙ (sym h ∙ i)))
    go (inl h) d y (goes_on j g later) = absurd (apart_outcomes (sym j ∙ (sym h ∙ i)))
    go (inl h) d y (fails j) = same refl (ap Fails (fail_same (sym i ∙ (h ∙ j))))

-- one run
pub one_run : {m : Fixes} {p : OriginalParser} {e : List Event} {x : Ending} → Runs m p e x → (d : List Event) (y : Ending)
    → Runs m p d y → (e ≡ d) × (x ≡ y)
one_run (ends i f) d y (ends j g) = grind arith
one_run (ends i f) d y (goes_on j g later) = grind arith
one_run (ends i f) d y (fails j) = grind arith
one_run (goes_on i f rest) d y (ends j g) = grind arith
one_run {m} (goes_on {e = a} {later = l} i f rest) d y (goes_on {e = b} {later = n} j g later)
    = grind (arith, one_run rest n y)
one_run (goes_on i f rest) d y (fails j) = grind arith
one_run (fails i) d y (ends j g) = grind arith
one_run (fails i) d y (goes_on j g later) = grind arith
one_run (fails i) d y (fails j) = grind arith

-- after the stream's end, and after an error
pub after_the_end : (m : Fixes) (kept : Fault) (p : OriginalParser) → p.stream_end_produced ≡ true
    → yaml_parser_parse m kept p ≡ OK empty_event p
after_the_end m kept p h = grind arith

pub after_a_fault : (m : Fixes) (kept : Fault) (p : OriginalParser) → is_fault kept.error ≡ true
    → yaml_parser_parse m kept p ≡ OK empty_event p
after_a_fault m kept p h = grind arith

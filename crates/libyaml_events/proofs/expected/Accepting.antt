-- The types of token in the automaton's set are those with which some valid list goes on.
use Rattle.std.specs.Prelude.{◌&&◌, ◌||◌, not, bytes_eq, replicate, pos}
use Rattle.std.proofs.Common.{◌≡◌, ◌∷◌, ◌++◌, ◌+◌, ◌≤◌, ℕ, List, [], length, refl, sym, ap, ◌∙◌, subst, Bool, true, false, arith, ◌↔◌}
use Rattle.std.proofs.lemmas.List.{length-replicate}
use Rattle.std.proofs.lemmas.Slice.Eq.{bytes_eq-Decides}
use Rattle.libyaml_types.specs.Types.{token_type}
use Rattle.libyaml_types.specs.declared.enums.yaml_token_type_t.{yaml_token_type_t}
use Rattle.libyaml_types.specs.declared.enums.yaml_token_type_t.TheVariants as kinds
use Rattle.libyaml_grammar.specs.grammar.Tokens.{Alias, Anchor, BlockEnd, BlockEntry, BlockMappingStart, BlockSequenceStart, Content, DocumentEnd, DocumentStart, FlowEntry, FlowMappingEnd, FlowMappingStart, FlowSequenceEnd, FlowSequenceStart, Key, NoToken, Scalar, StreamEnd, StreamStart, Tag}
use Rattle.libyaml_grammar.specs.grammar.Tokens.{TagDirective, Token, Value, VersionDirective, empty_plain, marks_of, tok, zero_marks}
use Rattle.libyaml_grammar.specs.grammar.Trees.{Directives, directive, no_directives, tag_directive, version}
use Rattle.libyaml_grammar.specs.grammar.Order.{declares}
use Rattle.libyaml_grammar.specs.partial.Rest.{any_encoding}
use Rattle.libyaml_grammar.proofs.exported.Positions.{Position, unopened}
use Rattle.libyaml_grammar.proofs.exported.Reading.{Step, bad, checked, feed, goes, is_legal, over, pending, reads, reads_all, step, then_all}
use Rattle.libyaml_grammar.proofs.exported.Completion.{begin_reads, goes_before, reached_begins, reads_append}
use Rattle.libyaml_grammar.proofs.exported.StepsMeet.{IsMet}
use Rattle.libyaml_automaton.specs.Acceptable.{acceptable}
use Rattle.libyaml_events.specs.machine.Config.{config_of as without_texts}
use Rattle.libyaml_events.specs.sources.Acceptable.{IsAcceptable}
use Rattle.libyaml_events.proofs.machine.Link.{config_of, want_of}
use Rattle.libyaml_events.proofs.machine.Giving.{reads_snoc}
use Rattle.libyaml_events.proofs.expected.AtPosition.{is_first, position_is, takes}

-- a handle longer than all that are declared is declared by none
abbrev size : Directives → ℕ
size no_directives = 0
size (directive ds (version v m)) = size ds
size (directive ds (tag_directive h m)) = size ds + length h.handle + 1

undeclared : (ds : Directives) (h : List ℕ) → size ds ≤ length h → declares ds h ≡ false
undeclared no_directives h l = refl
undeclared (directive ds (version v m)) h l = undeclared ds h l
undeclared (directive ds (tag_directive d m)) h l = by (bytes_eq d.handle h) refl (undeclared ds h (omega arith))
  where
    by : (b : Bool) → bytes_eq d.handle h ≡ b → declares ds h ≡ false → (bytes_eq d.handle h || declares ds h) ≡ false
    by true e u = let f : length d.handle ≡ length h = ap length ((bytes_eq-Decides d.handle h).0 e) in absurd (omega arith)
    by false e u = rw e u

abbrev fresh : Directives → List ℕ
fresh ds = replicate (size ds) 0

-- a token of each type that is legal after these directives, unless it is a second version
abbrev sample : Directives → yaml_token_type_t → Content
sample ds kinds.YAML_NO_TOKEN = NoToken
sample ds kinds.YAML_STREAM_START_TOKEN = StreamStart any_encoding
sample ds kinds.YAML_STREAM_END_TOKEN = StreamEnd
sample ds kinds.YAML_VERSION_DIRECTIVE_TOKEN = VersionDirective (record { major = pos 1; minor = pos 1 })
sample ds kinds.YAML_TAG_DIRECTIVE_TOKEN = TagDirective (record { handle = fresh ds; prefix = [] })
sample ds kinds.YAML_DOCUMENT_START_TOKEN = DocumentStart
sample ds kinds.YAML_DOCUMENT_END_TOKEN = DocumentEnd
sample ds kinds.YAML_BLOCK_SEQUENCE_START_TOKEN = BlockSequenceStart
sample ds kinds.YAML_BLOCK_MAPPING_START_TOKEN = BlockMappingStart
sample ds kinds.YAML_BLOCK_END_TOKEN = BlockEnd
sample ds kinds.YAML_FLOW_SEQUENCE_START_TOKEN = FlowSequenceStart
sample ds kinds.YAML_FLOW_SEQUENCE_END_TOKEN = FlowSequenceEnd
sample ds kinds.YAML_FLOW_MAPPING_START_TOKEN = FlowMappingStart
sample ds kinds.YAML_FLOW_MAPPING_END_TOKEN = FlowMappingEnd
sample ds kinds.YAML_BLOCK_ENTRY_TOKEN = BlockEntry
sample ds kinds.YAML_FLOW_ENTRY_TOKEN = FlowEntry
sample ds kinds.YAML_KEY_TOKEN = Key
sample ds kinds.YAML_VALUE_TOKEN = Value
sample ds kinds.YAML_ALIAS_TOKEN = Alias (record { value = [] })
sample ds kinds.YAML_ANCHOR_TOKEN = Anchor (record { value = [] })
sample ds kinds.YAML_TAG_TOKEN = Tag (record { handle = []; suffix = [] })
sample ds kinds.YAML_SCALAR_TOKEN = Scalar empty_plain

sample_type : (ds : Directives) (k : yaml_token_type_t) → token_type (sample ds k) ≡ k
sample_type ds kinds.YAML_NO_TOKEN = refl
sample_type ds _ = refl

sample_legal : (q : Position) (k : yaml_token_type_t) → is_first (pending q) (sample (pending q) k) ≡ true
    → is_legal q (sample (pending q) k) ≡ true
sample_legal q kinds.YAML_VERSION_DIRECTIVE_TOKEN h = rw h refl
sample_legal q kinds.YAML_TAG_DIRECTIVE_TOKEN h
    = ap not (undeclared (pending q) (fresh (pending q)) (rw (length-replicate {A = ℕ} (size (pending q)) 0) (omega arith)))
sample_legal q kinds.YAML_TAG_TOKEN h = refl
sample_legal q _ h = refl

legal_first : (q : Position) (k : Content) → is_legal q k ≡ true → is_first (pending q) k ≡ true
legal_first q (VersionDirective a) h = grind arith
legal_first q k h = refl

both : (a b : Bool) → (a && b) ≡ true → (a ≡ true) × (b ≡ true)
both a b h = grind arith

taken : (s : Step) → takes s ≡ true → (p : Position) × (s ≡ goes p)
taken (goes p) h = (p, refl)
taken (bad c) h = absurd cc
taken over h = absurd cc

legal_step : (s : Step) (b : Bool) (p : Position) → checked s b ≡ goes p → (s ≡ goes p) × (b ≡ true)
legal_step (goes x) true p e = (e, refl)
legal_step (goes x) false p e = absurd cc
legal_step (bad c) b p e = absurd cc
legal_step over b p e = absurd cc

module _ (l : List Token) (q : Position) (e : reads_all l unopened ≡ goes q) (w : IsMet q) (k : yaml_token_type_t) where
  abbrev Holds : Type 0
  Holds = acceptable (want_of q).next (without_texts (config_of q)) k ≡ true

  goes_on : Holds → IsAcceptable l k
  goes_on h =
      let t = tok (sample (pending q) k) zero_marks in
      let i : (is_first (pending q) t.content && takes (step q t.content zero_marks)) ≡ true
      = sym (position_is q t.content zero_marks w) ∙ (ap (λ (x : yaml_token_type_t). acceptable (want_of q).next (without_texts (config_of q)) x) (sample_type (pending q) k) ∙ h) in
      let (first, takes_it) = both (is_first (pending q) t.content) (takes (step q t.content zero_marks)) i in
      let (p, f) = taken (step q t.content zero_marks) takes_it in
      record {
        token = t;
        of_type = sample_type (pending q) k;
        goes_on = reached_begins (l ++ t ∷ []) p (reads_snoc l q p t e f (sample_legal q k first));
      }

  is_taken : IsAcceptable l k → Holds
  is_taken h =
      let t = h.token in
      let (x, f) = begin_reads (l ++ t ∷ []) h.goes_on in
      let g : then_all (goes q) (reads_all (t ∷ [])) ≡ goes x
      = ap (λ (s : Step). then_all s (reads_all (t ∷ []))) (sym e) ∙ (sym (reads_append l (t ∷ []) unopened) ∙ f) in
      let (y, i, j) = goes_before (reads q t) (reads_all []) x g in
      let (s, b) = legal_step (feed q t) (is_legal q t.content) y i in
      subst (λ (z : yaml_token_type_t). acceptable (want_of q).next (without_texts (config_of q)) z ≡ true) h.of_type
      (position_is q t.content (marks_of t) w ∙ holds (is_first (pending q) t.content) (takes (feed q t)) (legal_first q t.content b) (ap takes s))
    where
      holds : (a b : Bool) → a ≡ true → b ≡ true → (a && b) ≡ true
      holds a b c d = grind arith

  pub accepts : Holds ↔ IsAcceptable l k
  accepts = (goes_on, is_taken)

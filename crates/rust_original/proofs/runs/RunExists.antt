-- Over every list there is a run: with each call a number falls.
use Rattle.std.proofs.Common.{◌≡◌, ◌≤◌, ◌<◌, ◌+◌, ◌*◌, ◌∷◌, ◌++◌, ◌⊎◌, ℕ, zero, suc, arith, inl, inr, List, [], length, Option, Some, None, Bool, true, false, Ok, refl, sym, ap, ◌∙◌, subst, append-nil, append_assoc}
use Rattle.std.proofs.lemmas.List.{length-append}
use Rattle.libyaml_types.specs.declared.directive.yaml_tag_directive_t.{yaml_tag_directive_t}
use Rattle.libyaml_types.specs.declared.enums.yaml_parser_state_t.{yaml_parser_state_t}
use Rattle.libyaml_types.specs.declared.enums.yaml_parser_state_t.TheVariants as st
use Rattle.libyaml_types.specs.declared.enums.yaml_scalar_style_t.TheVariants.{YAML_PLAIN_SCALAR_STYLE}
use Rattle.libyaml_types.specs.declared.enums.yaml_token_type_t.TheVariants as kinds
use Rattle.libyaml_types.specs.Fault.{Fault}
use Rattle.libyaml_grammar.specs.runs.Runs.{Ending, Ends, Fails, IsRun}
use Rattle.libyaml_grammar.specs.grammar.Events.{Event, event}
use Rattle.libyaml_grammar.specs.grammar.Nesting.{NestsSoFar}
use Rattle.libyaml_grammar.specs.grammar.Tokens.{Content, Mark, Scalar, Token}
use Rattle.libyaml_events.specs.machine.Config.{Config, Machine, holding, Handles, ended_or_failed, is_end_state, start}
use Rattle.libyaml_events.specs.machine.Machine.{step}
use Rattle.libyaml_events.specs.machine.Want.{AtState, Given}
use Rattle.libyaml_events.specs.sources.History.{is_stream_end}
use Rattle.libyaml_events.specs.sources.Pushed.{Fed}
use Rattle.libyaml_events.proofs.exported.Pushes as push_lemmas
use Rattle.libyaml_events.proofs.exported.Pushes.{fed_count, fed_ended, fed_nests, fed_whole, gives_end, hand_runs, none_kept}
use Rattle.libyaml_events.proofs.exported.RunStops.{whole_run}
use Rattle.rust_original.specs.parser.Differences.{Differs, call_here, pair_key}
use Rattle.rust_original.specs.parser.Parser.{FAIL, Fixes, OK, ParserResult, OriginalParser, SKIP_TOKEN, is_one_of, scalar_event_with, set_state}
use Rattle.rust_original.specs.parser.Runs.{Runs, call, ends, fails, goes_on, new_original_parser}
use Rattle.rust_original.proofs.parser.Calls.{call_same, flagged}
use Rattle.rust_original.proofs.parser.Relation.{standing, Agree, Below, Fits, HereCall, IsFresh, Matches, Opens, SamePlace, before, entering, inside, tk}
use Rattle.rust_original.proofs.runs.MachineCalls as does
use Rattle.rust_original.proofs.runs.MachineCalls.{Does}
use Rattle.rust_original.proofs.runs.Ended.{NoEnd}

-- where the key of a flow sequence's pair is due: an empty scalar that stands at the end of the token that the
-- original skips
abbrev pub after_pair_key : Machine → Config
after_pair_key c = holding None (record c { state = st.YAML_PARSE_FLOW_SEQUENCE_ENTRY_MAPPING_VALUE_STATE })

abbrev empty_token : Mark → Token
empty_token n = tk (Scalar (record { value = []; style = YAML_PLAIN_SCALAR_STYLE })) n n

abbrev pub empty_at : Mark → Event
empty_at n = event (scalar_event_with None None [] true false YAML_PLAIN_SCALAR_STYLE) n n

empty_step : (n : Mark) (c : Machine) → c.state ≡ st.YAML_PARSE_FLOW_SEQUENCE_ENTRY_MAPPING_KEY_STATE
    → step AtState c (empty_token n) ≡ Ok (Given (empty_at n) (after_pair_key c))
empty_step n c i = grind arith

not_both : {b : Bool} → b ≡ false → b ≡ true → ⊥
not_both e h = grind arith

not_over : (c : Machine) → ended_or_failed c ≡ false → is_end_state c.state ≡ false
not_over c e = grind arith

opens_pair_key : (s : yaml_parser_state_t) → Opens st.YAML_PARSE_FLOW_SEQUENCE_ENTRY_MAPPING_KEY_STATE s → ⊥
opens_pair_key _ i = i

-- where they part: after the KEY of a pair the original goes on, elsewhere it fails
pub pair_stands : {ss : List yaml_parser_state_t} {s s' : yaml_parser_state_t} {ms ms' : List Mark} {tags : List
    yaml_tag_directive_t} {hs : Handles} {be flag ended : Bool} {l l' : List Token}
    → Fits ss s s' ms ms' tags hs be flag ended l l' → s' ≡ st.YAML_PARSE_FLOW_SEQUENCE_ENTRY_MAPPING_KEY_STATE
    → Below ss × Agree tags hs × (s ≡ st.YAML_PARSE_FLOW_SEQUENCE_ENTRY_MAPPING_KEY_STATE) × (ms' ≡ ms) × (l' ≡ l)
pair_stands (entering {s} {s'} i b a n) e = absurd (opens_pair_key s (rw e at i))
pair_stands (inside i b a) e = (b, a, e, refl, refl)
pair_stands _ e = absurd cc

pub fresh_none : (s : yaml_parser_state_t) (o : Option Token) → s ≡ st.YAML_PARSE_FLOW_SEQUENCE_ENTRY_MAPPING_KEY_STATE
    → IsFresh s o → o ≡ None
fresh_none s o e h = grind arith

no_end : (k : Content) (m n : Mark)
    → is_one_of (tk k m n) (kinds.YAML_VALUE_TOKEN ∷ kinds.YAML_FLOW_ENTRY_TOKEN ∷ kinds.YAML_FLOW_SEQUENCE_END_TOKEN ∷ []) ≡
    true
    → is_one_of (tk k m n) (kinds.YAML_STREAM_END_TOKEN ∷ []) ≡ false
no_end k m n e = grind arith

-- The parser with the fixes m; it may differ from the one with all three where b is true.
module _ (f : Fault) (m : Fixes) (b : Bool)
    (places : (p : OriginalParser) → (call m p ≡ call_here p) ⊎ ((b ≡ true) × Differs p (call m p) (call_here p))) (most : ℕ) where
  -- it stands beside our machine, which was handed l and gave g, with no more tokens than there are
  record Along (q : OriginalParser) (d : Config) (rest l : List Token) (g : List Event) : Type 0 where
    stands : SamePlace f q d rest
    fed : Fed AtState d.machine d.lookahead l g
    few : length l + length rest ≤ most

  pub record HasRun (q : OriginalParser) (all : List Token) (g : List Event) : Type 0 where
    pub events : List Event
    pub ending : Ending
    pub runs : Runs m q events ending
    pub nests : NestsSoFar (g ++ events)
    pub unended : (x : Fault) → ending ≡ Fails x → NoEnd events
    pub run : b ≡ false → IsRun all f (g ++ events) ending

  abbrev Next : ℕ → Type 0
  Next n = (q : OriginalParser) (d : Config) (rest l : List Token) (g : List Event) → Along q d rest l g
      → 4 * most < n + length g → q.stream_end_produced ≡ false → HasRun q (l ++ rest) g

  over_flag : (q : OriginalParser) (d : Config) (rest l : List Token) (g : List Event) → Along q d rest l g
      → ended_or_failed d.machine ≡ q.stream_end_produced
  over_flag q d rest l g a = grind (arith, none_kept a.fed, flagged a.stands.fits, a.stands.is)

  failed_here : (q : OriginalParser) (d : Config) (rest l : List Token) (g : List Event) → Along q d rest l g → (x : Fault)
      → call m q ≡ FAIL x → (b ≡ false → IsRun (l ++ rest) f g (Fails x)) → HasRun q (l ++ rest) g
  failed_here q d rest l g a x i run = record {
    events = [];
    ending = Fails x;
    runs = fails i;
    nests = subst NestsSoFar (sym (append-nil g)) (fed_nests a.fed);
    unended = λ y j. tt;
    run = λ j. subst (λ (y : List Event). IsRun (l ++ rest) f y (Fails x)) (sym (append-nil g)) (run j);
  }

  -- after an event
  after_event : (n : ℕ) (q p : OriginalParser) (e : Event) (d : Config) (rest l all : List Token) (g : List Event)
      → call m q ≡ OK e p → Along p d rest l (g ++ e ∷ []) → ended_or_failed d.machine ≡ is_stream_end e
      → (b ≡ false → all ≡ l ++ rest) → 4 * most < suc n + length g → Next n → HasRun q all g
  after_event n q p e d rest l all g i a ends_so same less next = go p.stream_end_produced refl
    where
      none : (o : Option Token) → Fed AtState d.machine o l (g ++ e ∷ []) → ended_or_failed d.machine ≡ true
          → Fed AtState d.machine None l (g ++ e ∷ [])
      none o h j = grind (arith, not_both, hand_runs)

      whole : p.stream_end_produced ≡ true → IsRun (l ++ rest) f (g ++ e ∷ []) Ends
      whole k =
          let j = over_flag p d rest l (g ++ e ∷ []) a ∙ k in
          let h = none d.lookahead a.fed j in
          whole_run l (g ++ e ∷ []) rest f (fed_whole h (sym (fed_ended h) ∙ j))

      go : (u : Bool) → p.stream_end_produced ≡ u → HasRun q all g
      go true k = record {
        events = e ∷ [];
        ending = Ends;
        runs = ends i k;
        nests = fed_nests a.fed;
        unended = λ x j. absurd (never x j);
        run = λ j. rw (← (same j)) at (whole k);
      }
        where
          never : (x : Fault) → Ends ≡ Fails x → ⊥
          never x j = cc
      go false k =
          let longer : length (g ++ e ∷ []) ≡ length g + 1 = length-append g (e ∷ []) in
          let h = next p d rest l (g ++ e ∷ []) a (omega arith) k in
          record {
            events = e ∷ h.events;
            ending = h.ending;
            runs = goes_on i k h.runs;
            nests = subst NestsSoFar (append_assoc g (e ∷ []) h.events) h.nests;
            unended = λ x j. (sym ends_so ∙ (over_flag p d rest l (g ++ e ∷ []) a ∙ k), h.unended x j);
            run = λ j. rw (← (same j)) at (rw (append_assoc g (e ∷ []) h.events) at (h.run j));
          }

  -- where both do the same
  alike : (n : ℕ) (q : OriginalParser) (d : Config) (rest l : List Token) (g : List Event) → Along q d rest l g
      → 4 * most < suc n + length g → ended_or_failed d.machine ≡ false → Next n → call m q ≡ call_here q
      → HasRun q (l ++ rest) g
  alike n q d rest l g a less begun next same
      = go (call_here q) refl (does.does f d rest l g a.fed begun) (call_same f q d rest a.stands (not_over d.machine begun))
    where
      go : (o : ParserResult) → call_here q ≡ o → {z : HereCall} → Does f l g rest z → Matches f o z
          → HasRun q (l ++ rest) g
      go (OK e p) i (does.gives {e = y} {d = x} {r} more j fed ends_so) w =
          let parts : l ++ rest ≡ (l ++ more) ++ r
          = ap (λ (z : List Token). l ++ z) j ∙ sym (append_assoc l more r) in
          let few : length (l ++ more) + length r ≤ most = fewer (l ++ more) r parts in
          after_event n q p y x r (l ++ more) (l ++ rest) g (same ∙ (i ∙ ap (λ (z : Event). OK z p) w.0))
          (record { stands = w.1; fed = fed; few = few }) ends_so (λ k. parts) less next
        where
          fewer : (a' r' : List Token) → l ++ rest ≡ a' ++ r' → length a' + length r' ≤ most
          fewer a' r' k =
              let s : length (l ++ rest) ≡ length (a' ++ r') = ap length k in
              let t : length (l ++ rest) ≡ length l + length rest = length-append l rest in
              let v : length (a' ++ r') ≡ length a' + length r' = length-append a' r' in
              let few = a.few in omega arith
      go (OK e p) i (does.fails run) w = absurd w
      go (FAIL x) i (does.gives more j fed ends_so) w = absurd w
      go (FAIL x) i (does.fails {x = y} run) w
          = failed_here q d rest l g a x (same ∙ i)
          (λ k. subst (λ (z : Fault). IsRun (l ++ rest) f g (Fails z)) (sym w) run)

  -- where they part
  parted : (n : ℕ) (q : OriginalParser) (d : Config) (rest l : List Token) (g : List Event) → Along q d rest l g
      → 4 * most < suc n + length g → ended_or_failed d.machine ≡ false → Next n → b ≡ true
      → {o u : ParserResult} → Differs q o u → call m q ≡ o → HasRun q (l ++ rest) g
  parted n q d rest l g a less begun next may (pair_key t k s e i) c =
      let fits = pair_stands a.stands.fits (sym (ap (λ (p : OriginalParser). p.state) a.stands.is) ∙ s) in
      let none = fresh_none d.machine.state d.lookahead fits.2 a.stands.fresh in
      let left : rest ≡ t ∷ k = cc in
      let hand : Fed AtState d.machine (Some (empty_token t.end_mark)) (l ++ empty_token t.end_mark ∷ []) g
      = push_lemmas.takes AtState d.machine l g (empty_token t.end_mark) (rw none at a.fed) begun in
      let led = empty_step t.end_mark d.machine fits.2 in
      let one : length (l ++ empty_token t.end_mark ∷ []) ≡ length l + 1 = length-append l (empty_token t.end_mark ∷ []) in
      let gone : length rest ≡ suc (length k) = ap length left in
      let few = a.few in
      let past = no_end t.content t.start_mark t.end_mark i in
      after_event n q (set_state st.YAML_PARSE_FLOW_SEQUENCE_ENTRY_MAPPING_VALUE_STATE (SKIP_TOKEN q))
      (empty_at t.end_mark) (after_pair_key d.machine) k (l ++ empty_token t.end_mark ∷ []) (l ++ rest) g c (record {
        stands = record {
          tags = a.stands.tags;
          flag = a.stands.flag;
          state = st.YAML_PARSE_FLOW_SEQUENCE_ENTRY_MAPPING_VALUE_STATE;
          ended = false;
          marks = d.machine.marks;
          tokens = k;
          is = grind arith;
          fits = inside tt fits.0 fits.1;
          fresh = tt;
        };
        fed = push_lemmas.gives_on AtState d.machine (empty_token t.end_mark) hand (empty_at t.end_mark) (after_pair_key d.machine) led;
        few = omega arith;
      })
      (gives_end hand (empty_at t.end_mark) (after_pair_key d.machine) led) (λ j. absurd (not_both j may)) less next
  parted n q d rest l g a less begun next may i c = failed_here q d rest l g a _ c (λ j. absurd (not_both j may))

  total : (n : ℕ) → Next n
  total zero q d rest l g a less k =
      let i = fed_count a.fed in let few = a.few in absurd (omega arith)
  total (suc n) q d rest l g a less k = go (places q) (λ p x r v h. total n p x r v h)
    where
      begun : ended_or_failed d.machine ≡ false
      begun = over_flag q d rest l g a ∙ k

      go : (call m q ≡ call_here q) ⊎ ((b ≡ true) × Differs q (call m q) (call_here q)) → Next n → HasRun q (l ++ rest) g
      go (inl i) next = alike n q d rest l g a less begun next i
      go (inr (may, i)) next = parted n q d rest l g a less begun next may i refl

pub has_run : (f : Fault) (m : Fixes) (b : Bool)
    → (places : (p : OriginalParser) → (call m p ≡ call_here p) ⊎ ((b ≡ true) × Differs p (call m p) (call_here p)))
    → (l : List Token) → HasRun f m b places (length l) (new_original_parser l f) l []
has_run f m b places l = total f m b places (length l) (suc (4 * length l)) (new_original_parser l f) (holding None start) l [] []
    (record { stands = standing refl before tt; fed = push_lemmas.begins; few = omega arith }) (omega arith) refl

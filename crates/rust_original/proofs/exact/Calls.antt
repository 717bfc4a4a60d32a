-- A caller of exact steps has the original's run.
use Rattle.std.proofs.Common.{◌≡◌, ◌∷◌, ◌++◌, ◌∙◌, List, [], ℕ, Option, None, Some, Bool, true, false, Ok, Err, append-nil, append_assoc, map, refl, sym, ap, subst, arith}
use Rattle.std.proofs.lemmas.List.{map-append}
use Rattle.libyaml_types.specs.Fault.{Fault, no_fault}
use Rattle.libyaml_types.specs.Types.{token_type}
use Rattle.libyaml_types.specs.declared.mark.yaml_mark_t.{yaml_mark_t}
use Rattle.libyaml_grammar.specs.runs.Runs.{Ending, Ends, Fails}
use Rattle.libyaml_grammar.specs.grammar.Events.{Event}
use Rattle.libyaml_grammar.specs.grammar.ValidLists.{has_end, is_end}
use Rattle.libyaml_grammar.specs.grammar.Tokens.{Content, Token}
use Rattle.libyaml_automaton.specs.Automaton as automaton
use Rattle.libyaml_automaton.specs.Config.{Stacks, stacks_of}
use Rattle.libyaml_automaton.specs.Differing.{differs}
use Rattle.libyaml_automaton.specs.Numbers.{state_of}
use Rattle.libyaml_automaton.specs.Purposes.{purpose_of}
use Rattle.libyaml_automaton.specs.declared.difference.Difference.{Difference}
use Rattle.libyaml_automaton.specs.declared.difference.Difference.TheVariants.{Nowhere, PairKey, ValueFirst, BareDocument}
use Rattle.libyaml_events.specs.machine.Config.{Config, Machine, Handles, config_with, holding, is_end_state, no_handles, start}
use Rattle.libyaml_events.specs.machine.Machine.{Progressed, declared_by, fault_with}
use Rattle.libyaml_events.specs.machine.Want.{AtState, Given, Texts, Want, Wants, no_texts}
use Rattle.libyaml_events.proofs.exported.Pushes.{fed_ended, hand_runs, wants_runs}
use Rattle.token_steps.specs.Exact.{exact_step_by_fact, step_there}
use Rattle.token_steps.specs.Facts.{StepResult}
use Rattle.token_steps.specs.Records.{event_of, shape_of, step_fault}
use Rattle.token_steps.specs.RunLaws.{want_with}
use Rattle.token_steps.specs.Runs.{ExactRun, begins, gave, moves, stays, takes, wants}
use Rattle.token_steps.specs.SeenRuns.{seen_in_hand, token_seen}
use Rattle.token_steps.specs.Tells.{want_in}
use Rattle.token_steps.specs.Texts.{event_with, handles_past, texts_kept_after, token_of}
use Rattle.token_steps.specs.declared.steps.steps_t.{steps_t}
use Rattle.token_steps.proofs.exported.Runs.{StoodAt, call_seen, fed, seen_run, step_wants, steps_told, stood, tells_fails, tells_gives, tells_stays, tells_wants, told_with}
use Rattle.rust_original.specs.parser.Differences.{call_there}
use Rattle.rust_original.specs.parser.ExactCalls.{BetweenExact, ForExactFailed, RunThere}
use Rattle.rust_original.specs.parser.Parser.{FAIL, OK, OriginalParser, ParserResult}
use Rattle.rust_original.specs.parser.Runs.{Runs, RunsThere, as_there, ends, fails, goes_on, new_original_parser}
use Rattle.rust_original.specs.parser.Texts.{as_held, held_content}
use Rattle.rust_original.proofs.exact.Feed.{exact, exact_feed, exact_same, there}
use Rattle.rust_original.proofs.parser.Calls.{flagged}
use Rattle.rust_original.proofs.parser.Relation.{HereCall, Matches, SamePlace, before, given, led, standing, stopped, tokens_of}

-- a token that stayed comes first
abbrev to_come : Option Token → List Token → List Token
to_come None l = l
to_come (Some t) l = t ∷ l

-- what an exact call tells is what the machine does exactly
exact_told : (d : steps_t) (c : Stacks) (hs : Handles) (h : Texts) (o : Option Token) (l : List Token) (g : List Event) (t : Token)
    → StoodAt d c hs h o l g
    → exact (want_with d h) (config_with c hs no_fault) t
    ≡ told_with h hs t t.content (exact_step_by_fact (want_in d) c (token_of hs t))
exact_told d c hs h o l g t s
    = go (differs (purpose_of d.read) c.state c.behind_document_end (token_type t.content)) refl
  where
    go : (x : Difference) → differs (purpose_of d.read) c.state c.behind_document_end (token_type t.content) ≡ x
        → there x (want_with d h) (config_with c hs no_fault) t
        ≡ told_with h hs t t.content (step_there x (want_in d) c (token_of hs t))
    go Nowhere i = steps_told (want_in d) hs h t c s.holds s.tag
    go PairKey i = grind arith
    go ValueFirst i = refl
    go BareDocument i = refl

module _ (f : Fault) where
  -- where the machine stands so within a call, the original goes on with these events, and ends so
  abbrev Follows : Want → Machine → List Token → List Event → Ending → Type 0
  Follows w c l e x = (q : OriginalParser) (d : Config) (r : List Token) → SamePlace f q d r → is_end_state d.machine.state ≡ false
      → exact_feed f AtState d.machine (tokens_of d.lookahead r) ≡ exact_feed f w c l → Runs as_there q e x

  matches : (q : OriginalParser) (d : Config) (r : List Token) → SamePlace f q d r → is_end_state d.machine.state ≡ false
      → (h : HereCall) → exact_feed f AtState d.machine (tokens_of d.lookahead r) ≡ h → Matches f (call_there q) h
  matches q d r s n h i = subst (λ (x : HereCall). Matches f (call_there q) x) i (exact_same f q d r s n)

  same_flag : (q : OriginalParser) (d : Config) (l : List Token) → SamePlace f q d l → q.stream_end_produced ≡ is_end_state d.machine.state
  same_flag q d l s = ap (λ (p : OriginalParser). p.stream_end_produced) s.is ∙ flagged s.fits

  failing : (q : OriginalParser) (g : Fault) (o : ParserResult) → call_there q ≡ o → Matches f o (stopped g)
      → Runs as_there q [] (Fails g)
  failing q g (FAIL h) i m = rw (sym m) (fails i)
  failing q g (OK e p) i m = absurd m

  fed_on : (w : Want) (c : Machine) (t : Token) (l : List Token) (h : HereCall)
      → (o : Progressed) → exact w c t ≡ o → led o l (λ v d. exact_feed f v d l) ≡ h → exact_feed f w c (t ∷ l) ≡ h
  fed_on w c t l h o i j = ap (λ (p : Progressed). led p l (λ v d. exact_feed f v d l)) i ∙ j

  source_fails : (w : Want) (c : Machine) → Follows w c [] [] (Fails f)
  source_fails w c q d r s n i = failing q f (call_there q) refl (matches q d r s n (stopped f) i)

  on_wants : (w v : Want) (c d : Machine) (t : Token) (l : List Token) (e : List Event) (x : Ending)
      → exact w c t ≡ Ok (Wants v d) → Follows v d l e x → Follows w c (t ∷ l) e x
  on_wants w v c d t l e x i next q a r s n j
      = next q a r s n (j ∙ fed_on w c t l (exact_feed f v d l) (Ok (Wants v d)) i refl)

  on_fails : (w : Want) (c : Machine) (t : Token) (l : List Token) (g : Fault) → exact w c t ≡ Err g
      → Follows w c (t ∷ l) [] (Fails g)
  on_fails w c t l g i q a r s n j
      = failing q g (call_there q) refl (matches q a r s n (stopped g) (j ∙ fed_on w c t l (stopped g) (Err g) i refl))

  on_gives : (w : Want) (c : Machine) (d : Config) (t : Token) (l : List Token) (e : Event) (later : List Event) (x : Ending)
      → exact w c t ≡ Ok (Given e d) → is_end_state d.machine.state ≡ false
      → Follows AtState d.machine (to_come d.lookahead l) later x → Follows w c (t ∷ l) (e ∷ later) x
  on_gives w c d t l e later x i k next q a r s n j
      = go (call_there q) refl (matches q a r s n (given e d l) (j ∙ fed_on w c t l (given e d l) (Ok (Given e d)) i refl))
    where
      go : (o : ParserResult) → call_there q ≡ o → Matches f o (given e d l) → Runs as_there q (e ∷ later) x
      go (OK y p) u m = rw (sym m.0) (goes_on u (same_flag p d l m.1 ∙ k) (next p d l m.1 k refl))
      go (FAIL y) u m = absurd m

  on_ends : (w : Want) (c : Machine) (d : Config) (t : Token) (l : List Token) (e : Event) → exact w c t ≡ Ok (Given e d)
      → is_end_state d.machine.state ≡ true → Follows w c (t ∷ l) (e ∷ []) Ends
  on_ends w c d t l e i k q a r s n j
      = go (call_there q) refl (matches q a r s n (given e d l) (j ∙ fed_on w c t l (given e d l) (Ok (Given e d)) i refl))
    where
      go : (o : ParserResult) → call_there q ≡ o → Matches f o (given e d l) → Runs as_there q (e ∷ []) Ends
      go (OK y p) u m = rw (sym m.0) (ends u (same_flag p d l m.1 ∙ k))
      go (FAIL y) u m = absurd m

  from_start : (l : List Token) (e : List Event) (x : Ending) → Follows AtState start l e x
      → Runs as_there (new_original_parser l f) e x
  from_start l e x h = h (new_original_parser l f) (holding None start) l (standing refl before tt) refl refl

abbrev config_at : steps_t → List ℕ → List yaml_mark_t → Handles → Machine
config_at d ss ms hs = config_with (stacks_of d.machine ss ms) hs no_fault

abbrev is_over : steps_t → Bool
is_over d = is_end_state (state_of d.machine.state)

-- between two events the state says what is wanted
at_state : (d : steps_t) → purpose_of d.read ≡ automaton.AtState → want_with d no_texts ≡ AtState
at_state d e = ap (λ (p : automaton.Purpose). record { next = p; texts = no_texts }) e

stood_so : (d : steps_t) (ss : List ℕ) (ms : List yaml_mark_t) (hs : Handles) (h : Texts) (o : Option Token) (l : List Token)
    (g : List Event) → ExactRun d ss ms hs h o l g
    → (a : List Token) × StoodAt d (stacks_of d.machine ss ms) hs h (seen_in_hand d o) a g × (has_end a ≡ has_end l)
stood_so d ss ms hs h o l g r =
    let s = seen_run d ss ms hs h o l g r in
    (s.tokens, stood d ss ms hs h (seen_in_hand d o) s.tokens g s.run, s.same_end)

-- with a token in hand the stream is not over
in_hand : (d : steps_t) (ss : List ℕ) (ms : List yaml_mark_t) (hs : Handles) (h : Texts) (t : Token) (l : List Token)
    (g : List Event) → ExactRun d ss ms hs h (Some t) l g → is_over d ≡ false
in_hand d ss ms hs h t l g r = let s = stood_so d ss ms hs h (Some t) l g r in hand_runs s.1.fed

over_so : (d : steps_t) (ss : List ℕ) (ms : List yaml_mark_t) (hs : Handles) (h : Texts) (l : List Token) (g : List Event)
    → ExactRun d ss ms hs h None l g → is_over d ≡ has_end l
over_so d ss ms hs h l g r = let s = stood_so d ss ms hs h None l g r in fed_ended s.1.fed ∙ s.2

-- what a call says of the machine's exact step at the token in hand
step_of : (d : steps_t) (ss : List ℕ) (ms : List yaml_mark_t) (hs : Handles) (h : Texts) (l : List Token) (g : List Event)
    (t : Token) → ExactRun d ss ms hs h (Some t) l g → (p : StepResult)
    → exact_step_by_fact (want_in d) (stacks_of d.machine ss ms) (token_of hs t) ≡ p
    → exact (want_with d h) (config_at d ss ms hs) t ≡ told_with h hs t t.content p
step_of d ss ms hs h l g t r p e =
    let s = stood_so d ss ms hs h (Some t) l g r in
    exact_told d (stacks_of d.machine ss ms) hs h (seen_in_hand d (Some t)) s.0 g t s.1 ∙ ap (told_with h hs t t.content) e

abbrev Leads : Fault → List Token → List Event → List Event → Ending → Type 0
Leads f l g later x = Runs as_there (new_original_parser l f) (g ++ later) x

-- what follows where the caller stands follows what it was given
leads : {d : steps_t} {ss : List ℕ} {ms : List yaml_mark_t} {hs : Handles} {h : Texts} {o : Option Token} {l : List Token}
    {g : List Event} → ExactRun d ss ms hs h o l g → is_over d ≡ false → (f : Fault) (more : List Token)
    (later : List Event) (x : Ending) → Follows f (want_with d h) (config_at d ss ms hs) (to_come o more) later x
    → Leads f (l ++ more) g later x
leads (begins d ss ms e i) n f more later x s = from_start f more later x
    (subst (λ (w : Want). Follows f w start more later x) (at_state d e)
    (subst (λ (c : Stacks). Follows f (want_with d no_texts) (config_with c no_handles no_fault) more later x) i s))
leads (moves d d' ss ss' ms ms' hs h o l g r v w e) n f more later x s
    = leads r (ap (λ (c : Stacks). is_end_state c.state) (sym e) ∙ n) f more later x
    (subst (λ (p : automaton.Purpose). Follows f (record { next = p; texts = h }) (config_at d ss ms hs) (to_come o more) later x) v
    (subst (λ (c : Stacks). Follows f (want_with d' h) (config_with c hs no_fault) (to_come o more) later x) e s))
leads (takes d ss ms hs h l g t r e) n f more later x s
    = rw (append_assoc l (t ∷ []) more) (leads r n f (t ∷ more) later x s)
leads (wants d d' ss ss' ms ms' hs h l g t e i r c) n f more later x s
    = leads r (in_hand d ss ms hs h t l g r) f more later x
    (on_wants f (want_with d h) (want_with d' (texts_kept_after h t.content)) (config_at d ss ms hs)
    (config_at d' ss' ms' (declared_by hs t.content)) t more later x
    (step_of d ss ms hs h l g t r _ (tells_wants c.0 _ d' e i _ c.1 c.2)) s)
leads (gave d d' ss ss' ms ms' hs h l g t e i r c) n f more later x s =
    let y = tells_gives c.0 _ d' e i _ c.1 c.2 in
    let a = event_with hs h t.content (event_of e false) in
    rw (append_assoc g (a ∷ []) later)
    (leads r (in_hand d ss ms hs h t l g r) f more (a ∷ later) x
    (on_gives f (want_with d h) (config_at d ss ms hs) (holding None (config_at d' ss' ms' (handles_past hs (shape_of e)))) t more a later x
    (step_of d ss ms hs h l g t r _ y.0) n
    (subst (λ (w : Want). Follows f w (config_at d' ss' ms' (handles_past hs (shape_of e))) more later x) (at_state d' y.1) s)))
leads (stays d d' ss ss' ms ms' hs h l g t e i r c) n f more later x s =
    let y = tells_stays c.0 _ d' e i _ c.1 c.2 in
    let a = event_with hs h t.content (event_of e true) in
    rw (append_assoc g (a ∷ []) later)
    (leads r (in_hand d ss ms hs h t l g r) f more (a ∷ later) x
    (on_gives f (want_with d h) (config_at d ss ms hs)
    (holding (Some t) (config_at d' ss' ms' (handles_past hs (shape_of e)))) t more a later x
    (step_of d ss ms hs h l g t r _ y.0) n
    (subst (λ (w : Want). Follows f w (config_at d' ss' ms' (handles_past hs (shape_of e))) (t ∷ more) later x) (at_state d' y.1) s)))

ended : {d : steps_t} {ss : List ℕ} {ms : List yaml_mark_t} {hs : Handles} {h : Texts} {o : Option Token} {l : List Token}
    {g : List Event} → ExactRun d ss ms hs h o l g → is_over d ≡ true → (f : Fault) (more : List Token)
    → Runs as_there (new_original_parser (l ++ more) f) g Ends
ended (begins d ss ms e i) n f more =
    let h : true ≡ false = sym n ∙ ap (λ (c : Stacks). is_end_state c.state) i in absurd cc
ended (moves d d' ss ss' ms ms' hs h o l g r v w e) n f more
    = ended r (ap (λ (c : Stacks). is_end_state c.state) (sym e) ∙ n) f more
ended (takes d ss ms hs h l g t r e) n f more
    = rw (append_assoc l (t ∷ []) more) (ended r n f (t ∷ more))
ended (wants d d' ss ss' ms ms' hs h l g t e i r c) n f more =
    let s = seen_run d ss ms hs h (Some t) l g r in
    let w : true ≡ false = sym n ∙ wants_runs (fed d ss ms hs h (Some (token_seen d t)) s.tokens g s.run).0
    (want_with d' (texts_kept_after h (token_seen d t).content)) (config_at d' ss' ms' (declared_by hs (token_seen d t).content))
    (step_wants d d' ss ss' ms ms' hs h s.tokens g (token_seen d t) e i s.run
    (call_seen 0 d d' ss ss' ms ms' hs t e i (omega arith) c)) in
    absurd cc
ended (gave d d' ss ss' ms ms' hs h l g t e i r c) n f more =
    let y = tells_gives c.0 _ d' e i _ c.1 c.2 in
    leads r (in_hand d ss ms hs h t l g r) f more (event_with hs h t.content (event_of e false) ∷ []) Ends
    (on_ends f (want_with d h) (config_at d ss ms hs) (holding None (config_at d' ss' ms' (handles_past hs (shape_of e)))) t more
    (event_with hs h t.content (event_of e false)) (step_of d ss ms hs h l g t r _ y.0) n)
ended (stays d d' ss ss' ms ms' hs h l g t e i r c) n f more =
    let y = tells_stays c.0 _ d' e i _ c.1 c.2 in
    leads r (in_hand d ss ms hs h t l g r) f more (event_with hs h t.content (event_of e true) ∷ []) Ends
    (on_ends f (want_with d h) (config_at d ss ms hs)
    (holding (Some t) (config_at d' ss' ms' (handles_past hs (shape_of e)))) t more
    (event_with hs h t.content (event_of e true)) (step_of d ss ms hs h l g t r _ y.0) n)

-- short of the stream's end, to it, and to an error

so_far_of : (d : steps_t) (ss : List ℕ) (ms : List yaml_mark_t) (hs : Handles) (h : Texts) (l : List Token) (g : List Event)
    → ExactRun d ss ms hs h None l g → has_end l ≡ false → (f : Fault) → Leads f l g [] (Fails f)
so_far_of d ss ms hs h l g r k f = rw (append-nil l) at
    (leads r (over_so d ss ms hs h l g r ∙ k) f [] [] (Fails f) (source_fails f (want_with d h) (config_at d ss ms hs)))

-- of tokens as the original holds them
end_held : (k : Content) → is_end (held_content k) ≡ is_end k
end_held k = grind arith

ends_held : (l : List Token) → has_end (map as_held l) ≡ has_end l
ends_held [] = refl
ends_held (t ∷ l) = grind (arith, end_held t.content, ends_held l)

held_more : (l more : List Token) (f : Fault) (g : List Event) (x : Ending)
    → Runs as_there (new_original_parser (map as_held l ++ map as_held more) f) g x → RunsThere (l ++ more) f g x
held_more l more f g x r
    = subst (λ (z : List Token). Runs as_there (new_original_parser z f) g x) (sym (map-append as_held l more)) r

pub so_far : BetweenExact (λ l g. has_end l ≡ false → (f : Fault) → RunsThere l f g (Fails f))
so_far d ss ms hs h l g r k f = rw (append-nil g) at (so_far_of d ss ms hs h (map as_held l) g r (ends_held l ∙ k) f)

pub whole : BetweenExact (λ l g. has_end l ≡ true → RunThere l g Ends)
whole d ss ms hs h l g r k more f = held_more l more f g Ends
    (ended r (over_so d ss ms hs h (map as_held l) g r ∙ (ends_held l ∙ k)) f (map as_held more))

pub failed : ForExactFailed (λ l g f. RunThere l g (Fails f))
failed d d' ss ss' ms ms' hs h l g t e i r c more f
    = held_more l more f g (Fails (fault_with (step_fault i))) (rw (append-nil g) at
    (leads r (in_hand d ss ms hs h t (map as_held l) g r) f (map as_held more) [] (Fails (fault_with (step_fault i)))
    (on_fails f (want_with d h) (config_at d ss ms hs) t (map as_held more) (fault_with (step_fault i))
    (step_of d ss ms hs h (map as_held l) g t r _ (tells_fails c.0 _ d' e i _ c.1 c.2)))))

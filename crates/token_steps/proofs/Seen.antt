-- A run of exact calls is one of the other calls, over tokens of which each that is lost is an empty scalar.
use Rattle.std.proofs.Common.{◌≡◌, ◌≤◌, ◌∙◌, ◌∷◌, ◌++◌, ◌+◌, List, [], ℕ, Option, None, Some, Bool, true, false, Ok, Err, length, refl, sym, ap, subst, arith}
use Rattle.std.proofs.lemmas.List.{length-append}
use Rattle.libyaml_types.specs.Types.{token_type}
use Rattle.libyaml_types.specs.declared.mark.yaml_mark_t.{yaml_mark_t}
use Rattle.libyaml_types.specs.declared.enums.yaml_parser_state_t.{yaml_parser_state_t}
use Rattle.libyaml_types.specs.declared.enums.yaml_parser_state_t.TheVariants as st
use Rattle.libyaml_types.specs.declared.enums.yaml_token_type_t.{yaml_token_type_t}
use Rattle.libyaml_grammar.specs.grammar.Tokens.{Token}
use Rattle.libyaml_grammar.specs.grammar.Events.{Event}
use Rattle.libyaml_grammar.specs.grammar.ValidLists.{has_end, is_end}
use Rattle.libyaml_automaton.specs.declared.difference.Difference.{Difference}
use Rattle.libyaml_automaton.specs.declared.difference.Difference.TheVariants.{Nowhere, PairKey, ValueFirst, BareDocument}
use Rattle.libyaml_automaton.specs.declared.node_place.NodePlace.{NodePlace}
use Rattle.libyaml_automaton.specs.declared.slot.Slot.{Slot}
use Rattle.libyaml_automaton.specs.Automaton as automaton
use Rattle.libyaml_automaton.specs.Automaton.{KindAndMarks, PropertiesRead, Purpose, Step}
use Rattle.libyaml_automaton.specs.Config.{Stacks, below, stacks_of, top}
use Rattle.libyaml_automaton.specs.Differing.{differs}
use Rattle.libyaml_automaton.specs.Numbers.{flag, state_of}
use Rattle.libyaml_automaton.specs.Purposes.{purpose_of}
use Rattle.libyaml_automaton.specs.Slots.{entered, slot_place, state_after}
use Rattle.libyaml_events.specs.machine.Config.{Handles}
use Rattle.libyaml_events.specs.machine.Machine.{declared_by}
use Rattle.libyaml_events.specs.machine.Want.{Texts, no_texts}
use Rattle.token_steps.specs.declared.did.Did.{Did}
use Rattle.token_steps.specs.declared.steps.steps_t.{steps_t}
use Rattle.token_steps.specs.declared.records.step_event_t.{step_event_t}
use Rattle.token_steps.specs.declared.records.step_fault_t.{step_fault_t}
use Rattle.token_steps.specs.Differing.{differs_in}
use Rattle.token_steps.specs.Exact.{exact_step_by_fact, step_there}
use Rattle.token_steps.specs.Facts.{Given, StepResult, StepToken, StepWant, TagRead, Wants, content_by_fact, put_by_fact, step_by_fact, with_facts, without_fact}
use Rattle.token_steps.specs.Numbers.{number}
use Rattle.token_steps.specs.Records.{event_of, shape_of}
use Rattle.token_steps.specs.Runs.{ExactCalls, ExactRun, Run, StepCalls, begins, gave, moves, stays, takes, wants}
use Rattle.token_steps.specs.SeenRuns.{SeenRun, seen_as, seen_in_hand, token_seen}
use Rattle.token_steps.specs.Tells.{Tells, want_in}
use Rattle.token_steps.specs.Texts.{event_with, handles_past, texts_kept_after, token_of}

-- no state on the stack is the one where a pair's key is due

abbrev IsOther : yaml_parser_state_t → Type 0
IsOther st.YAML_PARSE_FLOW_SEQUENCE_ENTRY_MAPPING_KEY_STATE = ⊥
IsOther _ = Unit {0}

abbrev AreOther : List yaml_parser_state_t → Type 0
AreOther [] = Unit {0}
AreOther (s ∷ ss) = IsOther s × AreOther ss

popped : (ss : List yaml_parser_state_t) → AreOther ss → IsOther (top ss) × AreOther (below ss)
popped ss h = grind arith

-- nor where a token stays
abbrev Left : (stays : Bool) → Stacks → Type 0
Left true c = IsOther c.state × AreOther c.states
Left false c = AreOther c.states

abbrev Leaves : Step → Type 0
Leaves (automaton.Gives e c) = Left e.stays c
Leaves (automaton.Wants p c) = AreOther c.states
Leaves (automaton.Fails f) = Unit {0}
Leaves (automaton.AsksVersion m c) = AreOther c.states
Leaves (automaton.AsksHandle m b c) = AreOther c.states
Leaves (automaton.AsksContent p r c) = AreOther c.states

node_content : (p : NodePlace) (r : PropertiesRead) (c : Stacks) (t : KindAndMarks) (k : yaml_token_type_t) → AreOther c.states
    → Leaves (automaton.node_content p r c t k)
node_content p r c t k h = grind (arith, popped)

parse_node : (p : NodePlace) (c : Stacks) (t : KindAndMarks) (k : yaml_token_type_t) → AreOther c.states
    → Leaves (automaton.parse_node p c t k)
parse_node p c t k h = grind (arith, node_content p (automaton.no_properties t) c t k h, popped)

at_slot : (s : Slot) (m : yaml_mark_t) (c : Stacks) (t : KindAndMarks) (k : yaml_token_type_t) → AreOther c.states
    → Leaves (automaton.at_slot s m c t k)
at_slot s m c t k h = grind (arith, parse_node (slot_place s) (entered (state_after s) c) t k, popped)

at_state : (s : yaml_parser_state_t) (c : Stacks) (t : KindAndMarks) (k : yaml_token_type_t) → AreOther c.states
    → Leaves (automaton.at_state s c t k)
at_state s c t k h = grind (arith, parse_node, at_slot, popped)

step : (p : Purpose) (c : Stacks) (t : KindAndMarks) (k : yaml_token_type_t) → AreOther c.states → Leaves (automaton.step p c t k)
step p c t k h = grind (arith, at_state, at_slot)

abbrev LeavesBy : StepResult → Type 0
LeavesBy (Ok (Given e, c)) = Left e.stays c
LeavesBy (Ok (Wants v, c)) = AreOther c.states
LeavesBy (Err f) = Unit {0}

put : (g : TagRead) (tag : ℕ) (t : StepToken) (s : Step) → Leaves s → LeavesBy (put_by_fact g tag t s)
put g tag t s h = grind arith

asked : (g : TagRead) (tag : ℕ) (p : NodePlace) (r : PropertiesRead) (c : Stacks) (t : StepToken) → AreOther c.states
    → LeavesBy (content_by_fact g tag p r c t)
asked g tag p r c t h = grind (
  arith,
  put g tag t (automaton.node_content p r c (without_fact t) t.kind)
      (node_content p r c (without_fact t) t.kind h),
)

told : (tag : ℕ) (t : StepToken) (s : Step) → Leaves s → LeavesBy (with_facts tag t s)
told tag t s h = grind (arith, put, asked)

exactly : (v : StepWant) (c : Stacks) (t : StepToken) → AreOther c.states → LeavesBy (exact_step_by_fact v c t)
exactly v c t h = go (differs v.next c.state c.behind_document_end t.kind)
  where
    go : (x : Difference) → LeavesBy (step_there x v c t)
    go Nowhere = told v.tag t _ (step v.next c (without_fact t) t.kind h)
    go PairKey = h
    go ValueFirst = tt
    go BareDocument = tt

-- one call

abbrev GoesOn : StepResult → Type 0
GoesOn (Ok p) = Unit {0}
GoesOn (Err f) = ⊥

place_of_loss : (p : Purpose) (s : yaml_parser_state_t) (b : Bool) (k : yaml_token_type_t) → differs p s b k ≡ PairKey
    → (p ≡ automaton.AtState) × (s ≡ st.YAML_PARSE_FLOW_SEQUENCE_ENTRY_MAPPING_KEY_STATE)
place_of_loss p s b k e = grind arith

lost : (v : StepWant) (c : Stacks) (hs : Handles) (t : Token) → v.next ≡ automaton.AtState
    → c.state ≡ st.YAML_PARSE_FLOW_SEQUENCE_ENTRY_MAPPING_KEY_STATE
    → step_there PairKey v c (token_of hs t) ≡ step_by_fact v c (token_of hs (seen_as PairKey t))
lost v c hs t e f = grind arith

as_seen : (v : StepWant) (c : Stacks) (hs : Handles) (t : Token) (x : Difference)
    → differs v.next c.state c.behind_document_end (token_type t.content) ≡ x → GoesOn (step_there x v c (token_of hs t))
    → step_there x v c (token_of hs t) ≡ step_by_fact v c (token_of hs (seen_as x t))
as_seen v c hs t Nowhere i h = refl
as_seen v c hs t PairKey i h =
    let at = place_of_loss v.next c.state c.behind_document_end (token_type t.content) i in lost v c hs t at.0 at.1
as_seen v c hs t ValueFirst i h = absurd h
as_seen v c hs t BareDocument i h = absurd h

goes_on : (n : ℕ) (a : Did) (p : StepResult) (d : steps_t) (e : step_event_t) (f : step_fault_t) (c : Stacks) → n ≤ 2
    → n ≡ number a → Tells a p d e f c → GoesOn p
goes_on n a p d e f c m q h = grind arith

pub call_seen : (n : ℕ) (d d' : steps_t) (ss ss' : List ℕ) (ms ms' : List yaml_mark_t) (hs : Handles) (t : Token)
    (e : step_event_t) (f : step_fault_t) → n ≤ 2 → ExactCalls n d ss ms hs t d' ss' ms' e f
    → StepCalls n d ss ms hs (token_seen d t) d' ss' ms' e f
call_seen n d d' ss ss' ms ms' hs t e f m c = (
  c.0,
  c.1,
  subst (λ (p : StepResult). Tells c.0 p d' e f (stacks_of d'.machine ss' ms'))
      (as_seen (want_in d) (stacks_of d.machine ss ms) hs t (differs_in d (token_type t.content)) refl
      (goes_on n c.0 _ d' e f (stacks_of d'.machine ss' ms') m c.1 c.2)) c.2,
)

-- a token that is taken without an event, or stays, isn't lost

kept_if_wanted : (x : Difference) (v : StepWant) (c : Stacks) (hs : Handles) (t : Token) (a : Did) (d : steps_t)
    (e : step_event_t) (f : step_fault_t) (c' : Stacks) → 0 ≡ number a → Tells a (step_there x v c (token_of hs t)) d e f c'
    → seen_as x t ≡ t
kept_if_wanted x v c hs t a d e f c' q h = grind arith

kept_if_stays : (x : Difference) (v : StepWant) (c : Stacks) (hs : Handles) (t : Token) (a : Did) (d : steps_t)
    (e : step_event_t) (f : step_fault_t) (c' : Stacks) → 2 ≡ number a → Tells a (step_there x v c (token_of hs t)) d e f c'
    → seen_as x t ≡ t
kept_if_stays x v c hs t a d e f c' q h = grind arith

left_by : (n : ℕ) (a : Did) (p : StepResult) (d : steps_t) (e : step_event_t) (f : step_fault_t) (c : Stacks) → n ≤ 2
    → n ≡ number a → Tells a p d e f c → LeavesBy p → AreOther c.states
left_by n a p d e f c m q h l = grind arith

left_staying : (a : Did) (p : StepResult) (d : steps_t) (e : step_event_t) (f : step_fault_t) (c : Stacks)
    → 2 ≡ number a → Tells a p d e f c → LeavesBy p → IsOther c.state
left_staying a p d e f c q h l = grind arith

seen_elsewhere : (p : Purpose) (s : yaml_parser_state_t) (b : Bool) (t : Token) → IsOther s
    → seen_as (differs p s b (token_type t.content)) t ≡ t
seen_elsewhere p s b t h = grind arith

-- the event of a lost token has no text
same_event : (x : Difference) (v : StepWant) (c : Stacks) (hs : Handles) (h : Texts) (t : Token) (a : Did) (d : steps_t)
    (e : step_event_t) (f : step_fault_t) (c' : Stacks)
    → differs v.next c.state c.behind_document_end (token_type t.content) ≡ x → 1 ≡ number a
    → Tells a (step_there x v c (token_of hs t)) d e f c'
    → event_with hs h (seen_as x t).content (event_of e false) ≡ event_with hs h t.content (event_of e false)
same_event x v c hs h t a d e f c' i q y = grind arith

-- ends

end_seen : (p : Purpose) (s : yaml_parser_state_t) (b : Bool) (t : Token)
    → is_end (seen_as (differs p s b (token_type t.content)) t).content ≡ is_end t.content
end_seen p s b t = grind arith

end_appended : (l : List Token) (t : Token) → has_end l ≡ false → has_end (l ++ t ∷ []) ≡ is_end t.content
end_appended [] t h = grind arith
end_appended (u ∷ l) t h = grind (arith, end_appended l t)

-- runs

same_seen : (d d' : steps_t) (o : Option Token) → purpose_of d'.read ≡ purpose_of d.read
    → state_of d'.machine.state ≡ state_of d.machine.state → flag d'.machine.behind_document_end ≡ flag d.machine.behind_document_end
    → seen_in_hand d' o ≡ seen_in_hand d o
same_seen d d' o i j k = grind arith

abbrev SeesAt : steps_t → (ss : List ℕ) → (ms : List yaml_mark_t) → Handles → Texts → (seen : Option Token) → List Token
    → List Event → Type 0
SeesAt d ss ms hs h o l g = (tokens : List Token) × Run d ss ms hs h o tokens g × (length tokens ≡ length l)
    × (has_end tokens ≡ has_end l) × AreOther (stacks_of d.machine ss ms).states

pub sees : {d : steps_t} {ss : List ℕ} {ms : List yaml_mark_t} {hs : Handles} {h : Texts} {o : Option Token} {l : List Token}
    {g : List Event} → ExactRun d ss ms hs h o l g → SeesAt d ss ms hs h (seen_in_hand d o) l g
sees (begins d ss ms i j)
    = ([], begins d ss ms i j, refl, refl, subst (λ (c : Stacks). AreOther c.states) (sym j) tt)
sees (moves d d' ss ss' ms ms' hs h o l g r v w j) =
    let s = sees r in
    let same = same_seen d d' o v (ap (λ (c : Stacks). c.state) j) (ap (λ (c : Stacks). c.behind_document_end) j) in (
      s.0,
      subst (λ (x : Option Token). Run d' ss' ms' hs h x s.0 g) (sym same)
          (moves d d' ss ss' ms ms' hs h (seen_in_hand d o) s.0 g s.1 v w j),
      s.2,
      s.3,
      subst (λ (c : Stacks). AreOther c.states) (sym j) s.4,
    )
sees (takes d ss ms hs h l g t r i) =
    let s = sees r in (
      s.0 ++ token_seen d t ∷ [],
      takes d ss ms hs h s.0 g (token_seen d t) s.1 (s.3 ∙ i),
      length-append s.0 (token_seen d t ∷ []) ∙ (ap (λ (n : ℕ). n + 1) s.2 ∙ sym (length-append l (t ∷ []))),
      end_appended s.0 (token_seen d t) (s.3 ∙ i)
          ∙ (end_seen (purpose_of d.read) (state_of d.machine.state) (flag d.machine.behind_document_end) t
          ∙ sym (end_appended l t i)),
      s.4,
    )
sees (wants d d' ss ss' ms ms' hs h l g t e f r c) =
    let s = sees r in
    let kept = kept_if_wanted (differs_in d (token_type t.content)) (want_in d) (stacks_of d.machine ss ms) hs t c.0 d' e f
    (stacks_of d'.machine ss' ms') c.1 c.2 in (
      s.0,
      subst (λ (u : Token). Run d' ss' ms' (declared_by hs u.content) (texts_kept_after h u.content) None s.0 g) kept
          (wants d d' ss ss' ms ms' hs h s.0 g (token_seen d t) e f s.1
          (call_seen 0 d d' ss ss' ms ms' hs t e f (omega arith) c)),
      s.2,
      s.3,
      left_by 0 c.0 _ d' e f (stacks_of d'.machine ss' ms') (omega arith) c.1 c.2
          (exactly (want_in d) (stacks_of d.machine ss ms) (token_of hs t) s.4),
    )
sees (gave d d' ss ss' ms ms' hs h l g t e f r c) =
    let s = sees r in
    let same = same_event (differs_in d (token_type t.content)) (want_in d) (stacks_of d.machine ss ms) hs h t c.0 d' e f
    (stacks_of d'.machine ss' ms') refl c.1 c.2 in (
      s.0,
      subst (λ (x : Event). Run d' ss' ms' (handles_past hs (shape_of e)) no_texts None s.0 (g ++ x ∷ [])) same
          (gave d d' ss ss' ms ms' hs h s.0 g (token_seen d t) e f s.1
          (call_seen 1 d d' ss ss' ms ms' hs t e f (omega arith) c)),
      s.2,
      s.3,
      left_by 1 c.0 _ d' e f (stacks_of d'.machine ss' ms') (omega arith) c.1 c.2
          (exactly (want_in d) (stacks_of d.machine ss ms) (token_of hs t) s.4),
    )
sees (stays d d' ss ss' ms ms' hs h l g t e f r c) =
    let s = sees r in
    let kept = kept_if_stays (differs_in d (token_type t.content)) (want_in d) (stacks_of d.machine ss ms) hs t c.0 d' e f
    (stacks_of d'.machine ss' ms') c.1 c.2 in
    let left = exactly (want_in d) (stacks_of d.machine ss ms) (token_of hs t) s.4 in
    let on : token_seen d' t ≡ t = seen_elsewhere (purpose_of d'.read) (state_of d'.machine.state) (flag d'.machine.behind_document_end) t
    (left_staying c.0 _ d' e f (stacks_of d'.machine ss' ms') c.1 c.2 left) in (
      s.0,
      subst (λ (x : Token). Run d' ss' ms' (handles_past hs (shape_of e)) no_texts (Some x) s.0
          (g ++ event_with hs h t.content (event_of e true) ∷ [])) (sym on)
          (subst (λ (u : Token). Run d' ss' ms' (handles_past hs (shape_of e)) no_texts (Some u) s.0
          (g ++ event_with hs h u.content (event_of e true) ∷ [])) kept
          (stays d d' ss ss' ms ms' hs h s.0 g (token_seen d t) e f s.1
          (call_seen 2 d d' ss ss' ms ms' hs t e f (omega arith) c))),
      s.2,
      s.3,
      left_by 2 c.0 _ d' e f (stacks_of d'.machine ss' ms') (omega arith) c.1 c.2 left,
    )

pub seen_run : (d : steps_t) (ss : List ℕ) (ms : List yaml_mark_t) (hs : Handles) (h : Texts) (o : Option Token) (l : List Token)
    (g : List Event) → ExactRun d ss ms hs h o l g → SeenRun d ss ms hs h o l g
seen_run d ss ms hs h o l g r =
    let s = sees r in record { tokens = s.0; run = s.1; same_length = s.2; same_end = s.3 }

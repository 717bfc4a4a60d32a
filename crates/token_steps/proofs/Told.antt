-- Which results ask nothing further, what the next token is wanted for then, and which stack was full.
use Rattle.std.proofs.Common.{◌≡◌, ◌∙◌, ℕ, List, Bool, true, false, refl, subst, arith}
use Rattle.libyaml_types.specs.declared.mark.yaml_mark_t.{yaml_mark_t}
use Rattle.libyaml_types.specs.declared.enums.yaml_token_type_t.{yaml_token_type_t}
use Rattle.libyaml_types.specs.declared.enums.yaml_parser_state_t.{yaml_parser_state_t}
use Rattle.libyaml_automaton.specs.declared.action.Action.{Action}
use Rattle.libyaml_automaton.specs.declared.action.Action.TheVariants as action
use Rattle.libyaml_automaton.specs.declared.next.Next.{Next}
use Rattle.libyaml_automaton.specs.declared.next.Next.TheVariants as next
use Rattle.libyaml_automaton.specs.declared.automaton.Automaton.{Automaton}
use Rattle.libyaml_automaton.specs.declared.difference.Difference.{Difference}
use Rattle.libyaml_automaton.specs.declared.node_place.NodePlace.{NodePlace}
use Rattle.libyaml_automaton.specs.declared.reading.Reading.{Reading}
use Rattle.libyaml_automaton.specs.Outcomes.{IsOutcome, outcome}
use Rattle.libyaml_automaton.specs.Automaton as automaton
use Rattle.libyaml_automaton.specs.Automaton.{AsksContent, PropertiesRead, Step}
use Rattle.libyaml_automaton.specs.Config.{Stacks, stacks_of}
use Rattle.libyaml_automaton.specs.Differing.{differs}
use Rattle.libyaml_automaton.specs.Fits.{FitsStepBy, FitsDocument, FitsContent, Documents, opens_at}
use Rattle.libyaml_automaton.specs.Growth.{HasNoRoom, opens, stack_part_of, pushes, pushes_in_documents}
use Rattle.libyaml_automaton.specs.Numbers.{flag, next_of, state_of}
use Rattle.libyaml_automaton.specs.Purposes.{purpose_of, purpose_by}
use Rattle.token_steps.specs.Facts.{StepResult, StepWant, TagRead, NoTag, StepToken, content_by_fact, put_by_fact, tag_if, without_fact, with_facts}
use Rattle.token_steps.specs.Exact.{step_by_fact_if, where_same_if}
use Rattle.token_steps.specs.Growth.{content_opens, pushes_mark, pushes_state}
use Rattle.token_steps.specs.Records.{is_undefined}
use Rattle.token_steps.specs.declared.did.Did.{Did}
use Rattle.token_steps.specs.declared.did.Did.TheVariants as did
use Rattle.token_steps.specs.declared.steps.steps_t.{steps_t}
use Rattle.token_steps.specs.declared.records.step_event_t.{step_event_t}
use Rattle.token_steps.specs.declared.records.step_fault_t.{step_fault_t}
use Rattle.token_steps.specs.Tells.{FitsTold, IsTold, IsDone, IsUntold, IsGiven, Tells}
use Rattle.token_steps.proofs.Exactly.{after_properties_if, asks_if, by_fact, step_if}

pub told_in_step : (b : Bool) (a : Action) (k : yaml_token_type_t) (r : Reading) (s : yaml_parser_state_t) → FitsStepBy b a k r s
    → (a ≡ action.FullStates → ⊥) → (a ≡ action.FullMarks → ⊥) → (a ≡ action.Document → ⊥)
    → (a ≡ action.AsksContent → ⊥) → IsTold a
told_in_step b a k r s f n m d c = grind arith

pub told_in_document : (a : Action) (k : yaml_token_type_t) (r : Reading) (s : yaml_parser_state_t) → FitsDocument a k r s
    → (a ≡ action.FullStates → ⊥) → (a ≡ action.AsksVersion → ⊥) → (a ≡ action.AsksHandle → ⊥) → IsTold a
told_in_document a k r s f n d c = grind arith

pub told_content : (a : Action) (k : yaml_token_type_t) (r : Reading) → FitsContent a k r → (a ≡ action.FullMarks → ⊥)
    → IsTold a
told_content a k r f n = grind arith

-- what is wanted

pub fits_in_step : (b : Bool) (a : Action) (k : yaml_token_type_t) (r : Reading) (s : yaml_parser_state_t) → FitsStepBy b a k r s
    → FitsTold a k r NoTag
fits_in_step b a k r s f = grind arith

pub fits_in_document : (a : Action) (k : yaml_token_type_t) (r : Reading) (s : yaml_parser_state_t) → FitsDocument a k r s
    → FitsTold a k r NoTag
fits_in_document a k r s f = grind arith

-- a handle

pub defined : (g : TagRead) (tag : ℕ) (p : NodePlace) (r : PropertiesRead) (c : Stacks) (t : StepToken) → is_undefined g ≡ false
    → content_by_fact g tag p r c t ≡ put_by_fact g tag t (automaton.node_content p r c (without_fact t) t.kind)
defined g tag p r c t e = grind arith

pub opens_defined : (g : TagRead) (p : NodePlace) (k : yaml_token_type_t) → is_undefined g ≡ false
    → content_opens g p k ≡ opens_at p k
opens_defined g p k e = grind arith

-- stacks

pub mark_elsewhere : (n : Next) (g : TagRead) (p : NodePlace) (k : yaml_token_type_t) → (n ≡ next.AfterProperties → ⊥)
    → pushes_mark n g p k ≡ opens n k
mark_elsewhere n g p k x = grind arith

pub mark_after : (n : Next) (g : TagRead) (p : NodePlace) (k : yaml_token_type_t) → n ≡ next.AfterProperties
    → pushes_mark n g p k ≡ content_opens g p k
mark_after n g p k e = rw e refl

-- the same stack is full for a call as for the automaton's step
pub full_in_states : (n n' : Next) (b : Bool) (g : TagRead) (q : NodePlace) (k : yaml_token_type_t) (ss : List ℕ)
    (ms : List yaml_mark_t) (i j : ℕ) → n' ≡ n
    → HasNoRoom (pushes n' k) ss i × (HasNoRoom (opens n' k) ms j → ⊥)
    → HasNoRoom (pushes_state n b k) ss i × (HasNoRoom (pushes_mark n g q k) ms j → ⊥)
full_in_states n n' b g q k ss ms i j e h = grind arith

pub full_in_marks : (n n' : Next) (g : TagRead) (q : NodePlace) (k : yaml_token_type_t) (ms : List yaml_mark_t) (j : ℕ)
    → n' ≡ n → HasNoRoom (opens n' k) ms j → HasNoRoom (pushes_mark n g q k) ms j
full_in_marks n n' g q k ms j e h = grind arith

-- an exact call pushes only what the other does
pub where_pushed : (e : Bool) (y : Difference) (b : Bool) → where_same_if e y b ≡ true → b ≡ true
where_pushed e y b x = grind arith

pub no_marks : (n : Next) (g : TagRead) (q : NodePlace) (k : yaml_token_type_t) → stack_part_of n ≡ Documents
    → pushes_mark n g q k ≡ true → ⊥
no_marks n g q k d e = grind arith

pub document_out : (e : Bool) (y y' : Difference) (n n' : Next) (m m' : Automaton) (g : TagRead) (q : NodePlace) (k : yaml_token_type_t) (ss ss' : List ℕ)
    (ms : List yaml_mark_t) (j : ℕ) → y' ≡ y → n' ≡ n → m' ≡ m → ss' ≡ ss → stack_part_of n ≡ Documents
    → HasNoRoom (where_same_if e y' (pushes_in_documents n' (flag m'.behind_document_end) k)) ss' m'.states_count
    → HasNoRoom (where_same_if e y (pushes_state n (flag m.behind_document_end) k)) ss m.states_count
    × (HasNoRoom (where_same_if e y (pushes_mark n g q k)) ms j → ⊥)
document_out e y y' n n' m m' g q k ss ss' ms j z i f x d h =
    let same : pushes_state n (flag m.behind_document_end) k ≡ pushes_in_documents n (flag m.behind_document_end) k = rw d refl in
    let left : HasNoRoom (where_same_if e y (pushes_state n (flag m.behind_document_end) k)) ss m.states_count
    = rw same (rw (z, i, f, x) at h) in
    (left, λ o. no_marks n g q k d (where_pushed e y (pushes_mark n g q k) o.0))

pub document_in : (e : Bool) (y y' : Difference) (n n' : Next) (m m' : Automaton) (k : yaml_token_type_t) (ss ss' : List ℕ)
    → y' ≡ y → n' ≡ n → m' ≡ m → ss' ≡ ss → stack_part_of n ≡ Documents
    → HasNoRoom (where_same_if e y (pushes_state n (flag m.behind_document_end) k)) ss m.states_count
    → HasNoRoom (where_same_if e y' (pushes_in_documents n' (flag m'.behind_document_end) k)) ss' m'.states_count
document_in e y y' n n' m m' k ss ss' z i f x d h =
    let same : pushes_state n (flag m.behind_document_end) k ≡ pushes_in_documents n (flag m.behind_document_end) k = rw d refl in
    rw (z, i, f, x) (rw same at h)

-- none is full for a step that did something
pub room_for_states : (n n' : Next) (b : Bool) (g : TagRead) (q : NodePlace) (k : yaml_token_type_t) (ss : List ℕ)
    (ms : List yaml_mark_t) (i j : ℕ) → n' ≡ n → (stack_part_of n' ≡ Documents → ⊥)
    → (HasNoRoom (pushes n' k) ss i × (HasNoRoom (opens n' k) ms j → ⊥) → ⊥)
    → HasNoRoom (pushes_state n b k) ss i × (HasNoRoom (pushes_mark n g q k) ms j → ⊥) → ⊥
room_for_states n n' b g q k ss ms i j e d f h = grind arith

pub same_step : (b : Bool) (w w' : automaton.Purpose) (tag : ℕ) (m m' : Automaton) (ss ss' : List ℕ) (ms ms' : List yaml_mark_t) (t : StepToken)
    → w' ≡ w → m' ≡ m → ss' ≡ ss → ms' ≡ ms
    → step_by_fact_if b (record { next = w'; tag = tag }) (stacks_of m' ss' ms') t
    ≡ step_by_fact_if b (record { next = w; tag = tag }) (stacks_of m ss ms) t
same_step b w w' tag m m' ss ss' ms ms' t a f d e = rw (a, f, d, e) refl

-- results

pub not_states : (d : Did) → IsDone d → d ≡ did.FullStates → ⊥
not_states d h e = subst IsDone e h

pub not_marks : (d : Did) → IsDone d → d ≡ did.FullMarks → ⊥
not_marks d h e = subst IsDone e h

pub not_bad : (d : Did) → IsDone d → d ≡ did.Bad → ⊥
not_bad d h e = subst IsDone e h

pub not_undone : (d : Did) → IsDone d → IsUntold d → ⊥
not_undone d h u = grind arith

pub states_not_marks : did.FullStates ≡ did.FullMarks → ⊥
states_not_marks e = cc

pub never_marks : (d : Did) → ((d ≡ did.FullStates → ⊥) → IsDone d) → d ≡ did.FullMarks → ⊥
never_marks d h e = grind arith

pub asks_no_document : action.AsksContent ≡ action.Document → ⊥
asks_no_document e = cc

-- after an event no text is kept
pub told_want : (a : Did) (p : StepResult) (d : steps_t) (e : step_event_t) (f : step_fault_t) (c : Stacks)
    → Tells a p d e f c → IsGiven a → purpose_of d.read ≡ automaton.AtState
told_want a p d e f c h g = grind arith

-- after properties a token that opens a collection is asked about

abbrev is_asking : Step → Bool
is_asking (automaton.Gives e c) = false
is_asking (automaton.Wants w c) = false
is_asking (automaton.Fails f) = false
is_asking _ = true

content_asks : (g : TagRead) (q p : NodePlace) (r : PropertiesRead) (c : Stacks) (t : automaton.KindAndMarks) (k : yaml_token_type_t)
    → content_opens g q k ≡ true → is_asking (automaton.parse_after_properties p r c t k) ≡ true
content_asks g q p r c t k e = grind arith

asks_nothing : (s : Step) (a : Action) (h : PropertiesRead) (t : automaton.KindAndMarks) (r : Reading) (c : Stacks)
    → IsOutcome s (outcome a h t r c) → IsTold a → is_asking s ≡ false
asks_nothing s a h t r c e x = grind arith

plainly : (tag : ℕ) (t : StepToken) (s : Step) → is_asking s ≡ false → with_facts tag t s ≡ put_by_fact NoTag tag t s
plainly tag t s n = grind arith

-- such a result is what the automaton does
pub put_plainly : (tag : ℕ) (t : StepToken) (s : Step) (a : Action) (h : PropertiesRead) (u : automaton.KindAndMarks) (r : Reading)
    (c : Stacks) → IsOutcome s (outcome a h u r c) → IsTold a → with_facts tag t s ≡ put_by_fact NoTag tag t s
put_plainly tag t s a h u r c e x = plainly tag t s (asks_nothing s a h u r c e x)

pub told_step : (b : Bool) (w w' : automaton.Purpose) (tag : ℕ) (c : Stacks) (t : StepToken) (a : Action) (h : PropertiesRead)
    (u : automaton.KindAndMarks) (r : Reading) (d : Stacks) → w' ≡ w
    → IsOutcome (step_if b w' c (without_fact t) t.kind) (outcome a h u r d) → IsTold a
    → step_by_fact_if b (record { next = w; tag = tag }) c t ≡ put_by_fact NoTag tag t (step_if b w' c (without_fact t) t.kind)
told_step b w w' tag c t a h u r d e s x = rw (← e) (by_fact b (record { next = w'; tag = tag }) c t
    ∙ put_plainly tag t (step_if b w' c (without_fact t) t.kind) a h u r d s x)

-- and leaves no mark unput after properties
pub told_opens_none : (b : Bool) (n : Next) (g : TagRead) (q : NodePlace) (m : Reading) (c : Stacks) (t : automaton.KindAndMarks)
    (k : yaml_token_type_t) (a : Action) (h : PropertiesRead) (r : Reading) (d : Stacks)
    → IsOutcome (step_if b (purpose_by n m) c t k) (outcome a h t r d) → IsTold a → n ≡ next.AfterProperties
    → pushes_mark n g q k ≡ true → ⊥
told_opens_none b n g q m c t k a h r d e x y o = grind (arith, content_asks, asks_nothing, mark_after, after_properties_if)

pub room_for_marks : (b : Bool) (n n' : Next) (g : TagRead) (q : NodePlace) (m : Reading) (c : Stacks) (t : automaton.KindAndMarks)
    (k : yaml_token_type_t) (a : Action) (h : PropertiesRead) (r : Reading) (d : Stacks) (ms : List yaml_mark_t) (j : ℕ)
    → n' ≡ n → n' ≡ next_of m.next → IsOutcome (step_if b (purpose_of m) c t k) (outcome a h t r d) → IsTold a
    → (HasNoRoom (opens n' k) ms j → ⊥) → HasNoRoom (pushes_mark n g q k) ms j → ⊥
room_for_marks b n n' g q m c t k a h r d ms j e v s x f y = grind (arith, told_opens_none, mark_elsewhere)

-- where it asks for the content after properties
pub told_asks : (b : Bool) (w' : automaton.Purpose) (v : StepWant) (c c' : Stacks) (t : StepToken) (p : NodePlace) (r : PropertiesRead)
    → w' ≡ v.next → step_if b w' c (without_fact t) t.kind ≡ AsksContent p r c'
    → step_by_fact_if b v c t ≡ content_by_fact (tag_if r.tag v.tag) v.tag p r c' t
told_asks b w' v c c' t p r e s = asks_if b v c c' t p r (rw (← e) s)

-- the same place, where nothing was done
pub same_difference : (r r' : Reading) (m m' : Automaton) (k : yaml_token_type_t) → purpose_of r' ≡ purpose_of r → m' ≡ m
    → differs (purpose_of r') (state_of m'.state) (flag m'.behind_document_end) k
    ≡ differs (purpose_of r) (state_of m.state) (flag m.behind_document_end) k
same_difference r r' m m' k e f = rw (e, f) refl

pub tells_by : (a : Did) (p q : StepResult) (d : steps_t) (e : step_event_t) (f : step_fault_t) (c : Stacks) → p ≡ q → Tells a q d e f c
    → Tells a p d e f c
tells_by a p q d e f c s h = rw s h

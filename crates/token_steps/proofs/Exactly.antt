-- A step that may be exact.
use Rattle.std.proofs.Common.{◌≡◌, ◌↔◌, ◌∙◌, ℕ, List, Bool, true, false, refl, sym, ap, arith}
use Rattle.libyaml_types.specs.declared.mark.yaml_mark_t.{yaml_mark_t}
use Rattle.libyaml_types.specs.declared.enums.yaml_token_type_t.{yaml_token_type_t}
use Rattle.libyaml_types.specs.declared.enums.yaml_token_type_t.TheVariants as kinds
use Rattle.libyaml_types.specs.declared.enums.yaml_parser_state_t.{yaml_parser_state_t}
use Rattle.libyaml_types.specs.declared.enums.yaml_parser_state_t.TheVariants as st
use Rattle.libyaml_automaton.specs.Automaton as automaton
use Rattle.libyaml_automaton.specs.Automaton.{KindAndMarks, PropertiesRead, Purpose, Step}
use Rattle.libyaml_automaton.specs.Config.{Stacks}
use Rattle.libyaml_automaton.specs.Differing.{differs, differs_after_pair_key, differs_at}
use Rattle.libyaml_automaton.specs.Exact as exact
use Rattle.libyaml_automaton.specs.Exact.{where_same}
use Rattle.libyaml_automaton.specs.Fits.{Documents}
use Rattle.libyaml_automaton.specs.Growth.{HasNoRoom, opens, pushes, stack_part_of}
use Rattle.libyaml_automaton.specs.Numbers.{flag, next_of, place_of, state_of}
use Rattle.libyaml_automaton.specs.Outcomes.{IsStep}
use Rattle.libyaml_automaton.specs.Purposes.{next_at, next_at_or, purpose_by}
use Rattle.libyaml_automaton.specs.declared.action.Action.{Action}
use Rattle.libyaml_automaton.specs.declared.automaton.Automaton.{Automaton}
use Rattle.libyaml_automaton.specs.declared.difference.Difference.{Difference}
use Rattle.libyaml_automaton.specs.declared.difference.Difference.TheVariants.{Nowhere}
use Rattle.libyaml_automaton.specs.declared.next.Next.{Next}
use Rattle.libyaml_automaton.specs.declared.next.Next.TheVariants as next
use Rattle.libyaml_automaton.specs.declared.node_place.NodePlace.{NodePlace}
use Rattle.libyaml_automaton.specs.declared.reading.Reading.{Reading}
use Rattle.token_steps.specs.Differing.{differs_in}
use Rattle.token_steps.specs.Exact.{step_by_fact_if, step_there, where_same_if}
use Rattle.token_steps.specs.Facts.{StepToken, StepWant, TagRead, content_by_fact, tag_if, with_facts, without_fact}
use Rattle.token_steps.specs.Growth.{grows_marks, grows_states, next_in, pushes_mark, pushes_state}
use Rattle.token_steps.specs.declared.steps.steps_t.{steps_t}

abbrev pub step_if : (is_exact : Bool) → Purpose → Stacks → KindAndMarks → yaml_token_type_t → Step
step_if false v c t k = automaton.step v c t k
step_if true v c t k = exact.exact_step v c t k

-- what a result says, whether the step is exact or not
pub says_if : (b : Bool) (v : Purpose) (c : Stacks) (t : KindAndMarks) (k : yaml_token_type_t) (a : Action) (m : Automaton)
    (r : Reading) (states : List ℕ) (marks : List yaml_mark_t)
    → (b ≡ false → IsStep (automaton.step v c t k) t a m r states marks)
    → (b ≡ true → IsStep (exact.exact_step v c t k) t a m r states marks)
    → IsStep (step_if b v c t k) t a m r states marks
says_if false v c t k a m r states marks h e = h refl
says_if true v c t k a m r states marks h e = e refl

-- its facts are asked for where the automaton asks
there_by_fact : (x : Difference) (v : StepWant) (c : Stacks) (t : StepToken)
    → step_there x v c t ≡ with_facts v.tag t (exact.step_at_difference x v.next c (without_fact t) t.kind)
there_by_fact Nowhere v c t = refl
there_by_fact _ v c t = refl

pub by_fact : (b : Bool) (v : StepWant) (c : Stacks) (t : StepToken)
    → step_by_fact_if b v c t ≡ with_facts v.tag t (step_if b v.next c (without_fact t) t.kind)
by_fact false v c t = refl
by_fact true v c t = there_by_fact (differs v.next c.state c.behind_document_end t.kind) v c t

pub asked_by_fact : (b : Bool) (v : StepWant) (c : Stacks) (t : StepToken) (s : Step) → step_if b v.next c (without_fact t) t.kind ≡ s
    → step_by_fact_if b v c t ≡ with_facts v.tag t s
asked_by_fact b v c t s e = by_fact b v c t ∙ ap (with_facts v.tag t) e

pub asks_if : (b : Bool) (v : StepWant) (c c' : Stacks) (t : StepToken) (p : NodePlace) (r : PropertiesRead)
    → step_if b v.next c (without_fact t) t.kind ≡ automaton.AsksContent p r c'
    → step_by_fact_if b v c t ≡ content_by_fact (tag_if r.tag v.tag) v.tag p r c' t
asks_if b v c c' t p r e = asked_by_fact b v c t (automaton.AsksContent p r c') e

-- after properties it is the same
pub after_properties_if : (b : Bool) (p : NodePlace) (r : PropertiesRead) (c : Stacks) (t : KindAndMarks) (k : yaml_token_type_t)
    → step_if b (automaton.AfterProperties p r) c t k ≡ automaton.parse_after_properties p r c t k
after_properties_if false p r c t k = refl
after_properties_if true p r c t k = refl

-- Where libyaml does something else in a node, nothing is pushed.

pair_key : (g : TagRead) (p : NodePlace) (b : Bool) (k : yaml_token_type_t) → (differs_after_pair_key k ≡ Nowhere → ⊥)
    → (pushes_state next.AtPairKey b k ≡ false) × (pushes_mark next.AtPairKey g p k ≡ false)
pair_key g p b kinds.YAML_VALUE_TOKEN x = (refl, refl)
pair_key g p b kinds.YAML_FLOW_ENTRY_TOKEN x = (refl, refl)
pair_key g p b kinds.YAML_FLOW_SEQUENCE_END_TOKEN x = (refl, refl)
pair_key g p b _ x = absurd (x refl)

at_state : (s : yaml_parser_state_t) (g : TagRead) (p : NodePlace) (b : Bool) (k : yaml_token_type_t)
    → (stack_part_of (next_at s) ≡ Documents → ⊥) → (differs_at s b k ≡ Nowhere → ⊥)
    → (pushes_state (next_at s) b k ≡ false) × (pushes_mark (next_at s) g p k ≡ false)
at_state st.YAML_PARSE_IMPLICIT_DOCUMENT_START_STATE g p b k n x = absurd (n refl)
at_state st.YAML_PARSE_BLOCK_MAPPING_KEY_STATE g p b k n x = (refl, refl)
at_state st.YAML_PARSE_FLOW_SEQUENCE_ENTRY_MAPPING_KEY_STATE g p b k n x = pair_key g p b k x
at_state _ g p b k n x = absurd (x refl)

nothing_pushed : (m : Next) (r : Reading) (s : yaml_parser_state_t) (g : TagRead) (p : NodePlace) (b : Bool) (k : yaml_token_type_t)
    → (stack_part_of (next_at_or m s) ≡ Documents → ⊥) → (differs (purpose_by m r) s b k ≡ Nowhere → ⊥)
    → (pushes_state (next_at_or m s) b k ≡ false) × (pushes_mark (next_at_or m s) g p k ≡ false)
nothing_pushed next.AfterDirective r s g p b k n x = absurd (x refl)
nothing_pushed next.AfterProperties r s g p b k n x = absurd (x refl)
nothing_pushed next.AfterBlockEntry r s g p b k n x = absurd (x refl)
nothing_pushed next.AfterIndentlessEntry r s g p b k n x = absurd (x refl)
nothing_pushed next.AfterKey r s g p b k n x = absurd (x refl)
nothing_pushed next.AfterValue r s g p b k n x = absurd (x refl)
nothing_pushed next.AfterFlowSequenceValue r s g p b k n x = absurd (x refl)
nothing_pushed next.AfterFlowMappingKey r s g p b k n x = absurd (x refl)
nothing_pushed next.AfterFlowMappingValue r s g p b k n x = absurd (x refl)
nothing_pushed _ r s g p b k n x = at_state s g p b k n x

same_pushed : (x : Difference) (b m : Bool) → ((x ≡ Nowhere → ⊥) → (b ≡ false) × (m ≡ false))
    → (where_same x b ≡ b) × (where_same x m ≡ m)
same_pushed Nowhere b m h = (refl, refl)
same_pushed _ b m h =
    let f = h (λ e. cc) in
    (sym f.0, sym f.1)

nodes_same : (e : Bool) (d : steps_t) (k : yaml_token_type_t) → (stack_part_of (next_in d) ≡ Documents → ⊥)
    → (where_same_if e (differs_in d k) (grows_states d k) ≡ grows_states d k)
    × (where_same_if e (differs_in d k) (grows_marks d k) ≡ grows_marks d k)
nodes_same false d k n = (refl, refl)
nodes_same true d k n = same_pushed (differs_in d k) (grows_states d k) (grows_marks d k)
    (nothing_pushed (next_of d.read.next) d.read (state_of d.machine.state) (tag_if (flag d.read.has_tag) d.tag)
    (place_of d.read.place) (flag d.machine.behind_document_end) k n)

-- so the same stack is full
pub full_states_if : {R : Type 0} (e : Bool) (d : steps_t) (k : yaml_token_type_t) (ss : List ℕ) (ms : List yaml_mark_t) (i j : ℕ)
    → (stack_part_of (next_in d) ≡ Documents → ⊥)
    → (R ↔ (HasNoRoom (grows_states d k) ss i × (HasNoRoom (grows_marks d k) ms j → ⊥)))
    → (R ↔ (HasNoRoom (where_same_if e (differs_in d k) (grows_states d k)) ss i
    × (HasNoRoom (where_same_if e (differs_in d k) (grows_marks d k)) ms j → ⊥)))
full_states_if e d k ss ms i j n h =
    let same = nodes_same e d k n in
    rw (same.0, same.1) h

pub full_marks_if : {R : Type 0} (e : Bool) (d : steps_t) (k : yaml_token_type_t) (ms : List yaml_mark_t) (j : ℕ)
    → (stack_part_of (next_in d) ≡ Documents → ⊥) → (R ↔ HasNoRoom (grows_marks d k) ms j)
    → (R ↔ HasNoRoom (where_same_if e (differs_in d k) (grows_marks d k)) ms j)
full_marks_if e d k ms j n h =
    let same = nodes_same e d k n in
    rw same.1 h

-- a full stack is a node's
pub pushes_nodes : (m m' : Next) (k : yaml_token_type_t) → m' ≡ m → pushes m' k ≡ true → stack_part_of m ≡ Documents → ⊥
pushes_nodes m m' k e x d = grind arith

pub opens_nodes : (m m' : Next) (k : yaml_token_type_t) → m' ≡ m → opens m' k ≡ true → stack_part_of m ≡ Documents → ⊥
opens_nodes m m' k e x d = grind arith

-- a document's
pub full_if : {R : Type 0} (e : Bool) (x : Difference) (b : Bool) (ss : List ℕ) (i : ℕ) → (e ≡ false → (R ↔ HasNoRoom b ss i))
    → (e ≡ true → (R ↔ HasNoRoom (where_same x b) ss i)) → (R ↔ HasNoRoom (where_same_if e x b) ss i)
full_if false x b ss i f t = f refl
full_if true x b ss i f t = t refl

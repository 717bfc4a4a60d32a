-- Where a step of the automaton leads: which properties an event has, which token is taken without one, and which numbers
-- errors have.
use mathlib.Core.Bool.{true≢false}
use Rattle.std.proofs.Common.{◌≡◌, Bool, true, false, sym, arith}
use Rattle.libyaml_types.specs.declared.mark.yaml_mark_t.{yaml_mark_t}
use Rattle.libyaml_types.specs.declared.enums.yaml_token_type_t.{yaml_token_type_t}
use Rattle.libyaml_types.specs.declared.enums.yaml_token_type_t.TheVariants as kinds
use Rattle.libyaml_types.specs.declared.enums.yaml_parser_state_t.{yaml_parser_state_t}
use Rattle.libyaml_automaton.specs.declared.node_place.NodePlace.{NodePlace}
use Rattle.libyaml_automaton.specs.declared.node_place.NodePlace.TheVariants.{Flow}
use Rattle.libyaml_automaton.specs.declared.slot.Slot.{Slot}
use Rattle.libyaml_automaton.specs.declared.slot.Slot.TheVariants as slot
use Rattle.libyaml_automaton.specs.Automaton as automaton
use Rattle.libyaml_automaton.specs.Automaton.{PropertiesRead, Shape, Step, KindAndMarks, Purpose}
use Rattle.libyaml_automaton.specs.Config.{Stacks}
use Rattle.libyaml_automaton.specs.Slots.{state_after, entered, slot_place}
use Rattle.token_steps.specs.Numbers.{IsFaultNumber}

pub no : {A : Type 0} → false ≡ true → A
no e = absurd (true≢false (sym e))

abbrev pub is_directive : yaml_token_type_t → Bool
is_directive kinds.YAML_VERSION_DIRECTIVE_TOKEN = true
is_directive kinds.YAML_TAG_DIRECTIVE_TOKEN = true
is_directive _ = false

abbrev pub is_property : yaml_token_type_t → Bool
is_property kinds.YAML_ANCHOR_TOKEN = true
is_property kinds.YAML_TAG_TOKEN = true
is_property _ = false

-- whose texts are kept, and which of them
pub data Keeping : Type 0 where
  nothing directives : Keeping
  properties : (anchor tag : Bool) → Keeping

abbrev pub keeping : Purpose → Keeping
keeping (automaton.AfterDirective m v) = directives
keeping (automaton.AfterProperties p r) = properties r.anchor r.tag
keeping _ = nothing

-- which token is taken without an event
abbrev pub AddsProperty : (anchor tag : Bool) → yaml_token_type_t → (anchor' tag' : Bool) → Type 0
AddsProperty x y kinds.YAML_ANCHOR_TOKEN b h = (b ≡ true) × (h ≡ y)
AddsProperty x y kinds.YAML_TAG_TOKEN b h = (b ≡ x) × (h ≡ true)
AddsProperty x y _ b h = ⊥

abbrev pub Adds : Keeping → yaml_token_type_t → Keeping → Type 0
Adds nothing k nothing = (is_directive k ≡ false) × (is_property k ≡ false)
Adds nothing k directives = is_directive k ≡ true
Adds nothing k (properties b h) = AddsProperty false false k b h
Adds directives k directives = is_directive k ≡ true
Adds (properties x y) k (properties b h) = AddsProperty x y k b h
Adds _ k _ = ⊥

-- the node has an anchor and a tag where these flags say so, and a scalar that is not empty takes its token
abbrev pub GivesWith : (anchor tag : Bool) → yaml_token_type_t → (stays : Bool) → Shape → Type 0
GivesWith b h k y (automaton.Scalar x z) = (x ≡ b) × ((z ≡ h) × ((y ≡ false) × (k ≡ kinds.YAML_SCALAR_TOKEN)))
GivesWith b h k y (automaton.EmptyScalar x z) = (x ≡ b) × ((z ≡ h) × (y ≡ true))
GivesWith b h k y (automaton.SequenceStart x z f) = (x ≡ b) × (z ≡ h)
GivesWith b h k y (automaton.MappingStart x z f) = (x ≡ b) × (z ≡ h)
GivesWith b h k y _ = Unit {0}

-- the content of a node
abbrev pub Content : (anchor tag : Bool) → yaml_token_type_t → Step → Type 0
Content b h k (automaton.Gives e c) = GivesWith b h k e.stays e.shape
Content b h k (automaton.Fails f) = IsFaultNumber f.problem
Content b h k _ = ⊥

abbrev pub Follows : Keeping → yaml_token_type_t → Step → Type 0
Follows v k (automaton.Gives e c) = GivesWith false false k e.stays e.shape
Follows v k (automaton.Wants u c) = Adds v k (keeping u)
Follows v k (automaton.Fails f) = IsFaultNumber f.problem
Follows v k (automaton.AsksVersion m c) = (k ≡ kinds.YAML_VERSION_DIRECTIVE_TOKEN) × Adds v k directives
Follows v k (automaton.AsksHandle m h c) = (k ≡ kinds.YAML_TAG_DIRECTIVE_TOKEN) × Adds v k directives
Follows v k (automaton.AsksContent p r c) = v ≡ properties r.anchor r.tag

-- documents

-- nothing or directives are kept
abbrev Before : Keeping → Type 0
Before (properties b h) = ⊥
Before _ = Unit {0}

explicit_document : (v : Keeping) (m : yaml_mark_t) (h : Bool) (c : Stacks) (t : KindAndMarks) (k : yaml_token_type_t) → Before v
    → Follows v k (automaton.explicit_document m h c t k)
explicit_document v m h c t k x = grind arith

-- nodes

pub node_content : (p : NodePlace) (r : PropertiesRead) (c : Stacks) (t : KindAndMarks) (k : yaml_token_type_t)
    → Content r.anchor r.tag k (automaton.node_content p r c t k)
node_content p r c t k = grind arith

parse_node : (p : NodePlace) (c : Stacks) (t : KindAndMarks) (k : yaml_token_type_t) → Follows nothing k (automaton.parse_node p c t k)
parse_node p c t k = grind (arith, node_content p (automaton.no_properties t) c t k)

at_slot : (s : Slot) (m : yaml_mark_t) (c : Stacks) (t : KindAndMarks) (k : yaml_token_type_t) → Follows nothing k (automaton.at_slot s m c t k)
at_slot s m c t k = grind (arith, parse_node (slot_place s) (entered (state_after s) c) t k)

-- states

at_state : (s : yaml_parser_state_t) (c : Stacks) (t : KindAndMarks) (k : yaml_token_type_t) → Follows nothing k (automaton.at_state s c t k)
at_state s c t k =
    let document = at_slot slot.Document t.start_mark c t k in
    let pair = at_slot slot.PairKey t.start_mark c t k in
    grind (arith, parse_node Flow c t k)

pub follows : (v : Purpose) (c : Stacks) (t : KindAndMarks) (k : yaml_token_type_t) → Follows (keeping v) k (automaton.step v c t k)
follows v c t k = grind (arith, at_state, explicit_document, at_slot)

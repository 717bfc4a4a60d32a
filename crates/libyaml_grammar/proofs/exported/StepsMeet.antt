-- What holds of each position that is reached from before the stream.
use Rattle.std.proofs.Common.{◌≡◌, Some, None, refl, Bool, true, List}
use Rattle.std.proofs.lemmas.Bool.{and_from}
use Rattle.libyaml_grammar.specs.grammar.Tokens.{Content, Marks}
use Rattle.libyaml_grammar.specs.grammar.Trees.{BlockNode, FlowMember, FlowNode, alone, flow, no_value, pair, single, with_value}
use Rattle.libyaml_grammar.specs.grammar.Order.{is_known, properties_in_order}
use Rattle.libyaml_grammar.specs.grammar.Events.{Event}
use Rattle.libyaml_grammar.specs.partial.PartialTrees.{BlockPlace, Place, block, declared, flow_entry, flow_key, flow_value, implicit_root, part_place, root, slot}
use Rattle.libyaml_grammar.proofs.exported.Positions.{Position, due, flow_after}
use Rattle.libyaml_grammar.proofs.exported.Reading.{Step, bad, fill, fill_flow, goes, is_legal, leave, over, step}
use Rattle.libyaml_grammar.proofs.exported.ReadSteps.{Moves, ReadStep, a_scalar, a_tag, an_alias, an_anchor, anchor_after_tag, closes_at_mapping, closes_at_sequence, closes_mapping, closes_sequence, ends_mapping, ends_sequence, fails, is_alone, is_past, leaves, moves, read_step, tag_after_anchor}

-- where a node that is nothing is left there, an entry lacks no value
abbrev pub IsDue : Place → Type 0
IsDue (flow_entry c) = ⊥
IsDue (block c) = Unit {0}
IsDue (flow_key c k) = Unit {0}
IsDue (flow_value c k x v) = Unit {0}

abbrev pub IsEntry : FlowMember → Type 0
IsEntry (single x) = Unit {0}
IsEntry (pair k x no_value) = ⊥
IsEntry (pair k x (with_value v y)) = Unit {0}

-- a position that some tokens reach in this form, with the tag in hand known
abbrev pub IsMet : Position → Type 0
IsMet (due p None) = IsDue p
IsMet (due p (Some ps)) = properties_in_order (declared p) ps true ≡ true
IsMet (flow_after c e) = IsEntry e
IsMet _ = Unit {0}

-- a legal step keeps what is met
abbrev pub Meets : Step → Bool → Type 0
Meets (goes q) b = b ≡ true → IsMet q
Meets (bad c) b = Unit {0}
Meets over b = Unit {0}

fill_met : (c : BlockPlace) (x : BlockNode) → IsMet (fill c x)
fill_met (root (implicit_root f)) x = tt
fill_met (slot (part_place c o m ps k v)) x = tt
fill_met _ x = tt

fill_flow_met : (p : Place) (x : FlowNode) → IsMet (fill_flow p x)
fill_flow_met (block c) x = fill_met c (flow x)
fill_flow_met _ x = tt

-- the tag in hand is known
abbrev IsHeld : Position → Type 0
IsHeld (due p (Some ps)) = properties_in_order (declared p) ps true ≡ true
IsHeld _ = Unit {0}

met_held : (q : Position) → IsMet q → IsHeld q
met_held (due p None) w = tt
met_held (due p (Some ps)) w = w
met_held _ w = tt

moved_held : {m : Marks} {q p : Position} {h : List Event → List Event} → Moves m q p h → IsHeld p
moved_held (is_alone p ps) = met_held (fill_flow p (alone ps)) (fill_flow_met p (alone ps))
moved_held _ = tt

left_held : (p : Place) → IsHeld (leave p)
left_held (block (root (implicit_root f))) = tt
left_held (block (slot (part_place c o s ps k v))) = tt
left_held _ = tt

meets : {m : Marks} {q : Position} {k : Content} {s : Step} {g : List Event → List Event} {l : Bool}
    → ReadStep m q k s g l → IsHeld q → Meets s l
meets is_past w = tt
meets (moves x h) w = meets h (moved_held x)
meets (leaves p e h) w = meets h (left_held p)
meets (fails x) w = tt
meets (an_alias p a) w = λ e. fill_flow_met p _
meets an_anchor w = λ e. refl
meets (anchor_after_tag p h n) w = λ e. w
meets (a_tag p h) w = λ e. and_from (is_known (declared p) h.handle) true e refl
meets (tag_after_anchor p a n h) w = λ e. and_from (is_known (declared p) h.handle) true e refl
meets (a_scalar p o v) w = λ e. fill_flow_met p _
meets (ends_sequence c) w = λ e. fill_met c _
meets (ends_mapping c) w = λ e. fill_met c _
meets (closes_sequence p) w = λ e. fill_flow_met p _
meets (closes_mapping p) w = λ e. fill_flow_met p _
meets (closes_at_sequence p) w = λ e. fill_flow_met p _
meets (closes_at_mapping p) w = λ e. fill_flow_met p _
meets _ w = λ e. tt

pub step_met : (q : Position) (k : Content) (m : Marks) → IsMet q → Meets (step q k m) (is_legal q k)
step_met q k m w = meets (read_step m q k) (met_held q w)

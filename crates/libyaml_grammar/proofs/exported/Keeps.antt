-- A step keeps the tokens and their order: up to the next position there are those before it and the token, in order where
-- what stands before is and the token is legal there; and a bad token's place has what stands before it.
use Rattle.std.specs.Prelude.{◌&&◌}
use Rattle.std.proofs.Common.{◌≡◌, List, ◌∷◌, ◌++◌, refl, ◌∙◌, Bool, None, subst}
use Rattle.libyaml_grammar.specs.grammar.Tokens.{Content, Marks, Token, marks_of, tok}
use Rattle.libyaml_grammar.specs.grammar.Trees.{BlockNode, BlockSlot, FlowNode, FlowSlot, alone, block_node_tokens, block_slot_tokens, flow, flow_node, flow_node_tokens, flow_nothing, flow_slot_tokens, node, nothing}
use Rattle.libyaml_grammar.specs.grammar.Events.{Event}
use Rattle.libyaml_grammar.specs.partial.PartialTrees.{BlockPlace, Place, block, block_place_in_order, block_place_tokens, partial_in_order, partial_tokens, declared, declared_block, flow_entry, implicit_root, part_place, place_in_order, place_tokens, root, slot}
use Rattle.libyaml_grammar.proofs.exported.Positions.{Position, due, position_in_order, position_tokens}
use Rattle.libyaml_grammar.proofs.exported.Reading.{Step, along, bad, feed, feeds, fill, fill_block_slot, fill_flow, fill_flow_slot, goes, is_legal, leave, over}
use Rattle.libyaml_grammar.proofs.exported.ReadSteps.{Moves, ReadStep, a_scalar, an_alias, closes_at_mapping, closes_at_sequence, closes_mapping, closes_sequence, ends_mapping, ends_sequence, fails, is_alone, is_past, leaves, moves, no_stream, read_step}
use Rattle.libyaml_grammar.specs.grammar.Order.{block_node_in_order, block_slot_in_order, flow_node_in_order, flow_slot_in_order}

-- what a step says of the tokens consumed, and of the order
abbrev pub Keeps : Step → Position → Token → Bool → Type 0
Keeps (goes p) q t b = ((r : List Token) → position_tokens p r ≡ position_tokens q (t ∷ r))
    × ((r : Bool) → position_in_order p r ≡ position_in_order q (b && r))
Keeps (bad c) q t b = ((r : List Token) → partial_tokens c r ≡ position_tokens q r) × ((r : Bool)
    → partial_in_order c r ≡ position_in_order q r)
Keeps over q t b = Unit {0}

-- a position's tokens and their order
abbrev pub Told : Position → (List Token → List Token) → (Bool → Bool) → Type 0
Told q f g = ((r : List Token) → position_tokens q r ≡ f r) × ((r : Bool) → position_in_order q r ≡ g r)

abbrev pub ToldAlike : Position → Position → Type 0
ToldAlike p q = Told p (position_tokens q) (position_in_order q)

-- a place filled
block_slot_keeps : (c : BlockPlace) (x : BlockSlot)
    → Told (fill_block_slot c x) (λ (r : List Token). block_place_tokens c (block_slot_tokens x r))
    (λ (r : Bool). block_place_in_order c (block_slot_in_order (declared_block c) x r))
block_slot_keeps (root (implicit_root f)) nothing = (λ r. refl, λ r. refl)
block_slot_keeps (slot (part_place c o m ps k v)) x = (λ r. refl, λ r. refl)
block_slot_keeps _ x = (λ r. refl, λ r. refl)

flow_slot_keeps : (p : Place) (x : FlowSlot)
    → Told (fill_flow_slot p x) (λ (r : List Token). place_tokens p (flow_slot_tokens x r))
    (λ (r : Bool). place_in_order p (flow_slot_in_order (declared p) x r))
flow_slot_keeps (block c) flow_nothing = block_slot_keeps c nothing
flow_slot_keeps (block c) (flow_node n) = block_slot_keeps c (node (flow n))
flow_slot_keeps (flow_entry c) flow_nothing = (λ r. refl, λ r. refl)
flow_slot_keeps _ x = (λ r. refl, λ r. refl)

pub fill_keeps : (c : BlockPlace) (n : BlockNode)
    → Told (fill c n) (λ (r : List Token). block_place_tokens c (block_node_tokens n r))
    (λ (r : Bool). block_place_in_order c (block_node_in_order (declared_block c) n r))
fill_keeps c n = block_slot_keeps c (node n)

pub fill_flow_keeps : (p : Place) (n : FlowNode)
    → Told (fill_flow p n) (λ (r : List Token). place_tokens p (flow_node_tokens n r))
    (λ (r : Bool). place_in_order p (flow_node_in_order (declared p) n r))
fill_flow_keeps p n = flow_slot_keeps p (flow_node n)

pub leave_keeps : (p : Place) → ToldAlike (leave p) (due p None)
leave_keeps p = flow_slot_keeps p flow_nothing

pub moved_keeps : {m : Marks} {q p : Position} {h : List Event → List Event} → Moves m q p h → ToldAlike p q
moved_keeps (is_alone p ps) = fill_flow_keeps p (alone ps)
moved_keeps _ = (λ r. refl, λ r. refl)

retold : (s : Step) (p q : Position) (t : Token) (b : Bool) → ToldAlike p q → Keeps s p t b → Keeps s q t b
retold (goes x) p q t b e h = (λ r. h.0 r ∙ e.0 (t ∷ r), λ r. h.1 r ∙ e.1 (b && r))
retold (bad x) p q t b e h = (λ r. h.0 r ∙ e.0 r, λ r. h.1 r ∙ e.1 r)
retold over p q t b e h = tt

keeps : {m : Marks} {q : Position} {k : Content} {s : Step} {g : List Event → List Event} {l : Bool}
    → ReadStep m q k s g l → Keeps s q (tok k m) l
keeps is_past = tt
keeps (moves x h) = retold _ _ _ _ _ (moved_keeps x) (keeps h)
keeps {m = m} {k = k} {l = l} (leaves p {x = x} e h)
    = retold (goes x) (leave p) (due p None) (tok k m) l (leave_keeps p) (keeps h)
keeps (fails no_stream) = (λ r. refl, λ r. refl)
keeps (an_alias p a) = fill_flow_keeps p _
keeps (a_scalar p o v) = fill_flow_keeps p _
keeps (ends_sequence c) = fill_keeps c _
keeps (ends_mapping c) = fill_keeps c _
keeps (closes_sequence p) = fill_flow_keeps p _
keeps (closes_mapping p) = fill_flow_keeps p _
keeps (closes_at_sequence p) = fill_flow_keeps p _
keeps (closes_at_mapping p) = fill_flow_keeps p _
keeps _ = (λ r. refl, λ r. refl)

pub step_keeps : (q p : Position) (t : Token) → feed q t ≡ goes p → Keeps (goes p) q t (is_legal q t.content)
step_keeps q p t e
    = subst (λ (s : Step). Keeps s q t (is_legal q t.content)) e (keeps (read_step (marks_of t) q t.content))

-- the whole of a list
pub feeds_keep : (l : List Token) (q p : Position) → feeds l q ≡ goes p → (r : List Token)
    → position_tokens p r ≡ position_tokens q (l ++ r)
feeds_keep l q p e r = along (λ (a : List Token) (x : Position). position_tokens p r ≡ position_tokens x (a ++ r)) p refl
    (λ t a y x f h. h ∙ (step_keeps y x t f).0 (a ++ r)) l q e

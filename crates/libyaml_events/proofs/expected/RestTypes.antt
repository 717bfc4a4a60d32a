-- At each position that is met the automaton says which types of token the rest has.
use Rattle.std.specs.Prelude.{map}
use Rattle.std.proofs.Common.{◌≡◌, ◌∷◌, List, Some, None, refl, ap}
use Rattle.libyaml_grammar.specs.grammar.Tokens.{BlockEnd, Content, FlowMappingEnd, FlowSequenceEnd, Marks, Scalar, Token, empty_plain, tok}
use Rattle.libyaml_grammar.specs.grammar.Trees.{following, free, key, mapping, no_parts, no_value, pair, part, sequence, single, value, whole, with_value}
use Rattle.libyaml_grammar.specs.partial.PartialTrees.{BlockPlace, Place, block, entry, explicit_root, flow_entry, flow_key, flow_value, implicit_root, indentless_entry, open_collection, part_place, root, slot}
use Rattle.libyaml_grammar.specs.partial.Rest.{rest_block_place, rest_place}
use Rattle.libyaml_grammar.proofs.exported.Positions.{Position, between, done, due, flow_after, flow_due, flow_keyed, headed, in_indentless, in_mapping, in_sequence, position_rest, unopened}
use Rattle.libyaml_grammar.proofs.exported.StepsMeet.{IsDue, IsMet}
use Rattle.libyaml_automaton.specs.Completing.{closings, completing}
use Rattle.libyaml_events.specs.machine.Config.{config_of as without_texts}
use Rattle.libyaml_events.specs.sources.Acceptable.{bare}
use Rattle.libyaml_events.proofs.machine.Link.{config_of, states_block, states_place, want_of}

-- one token more, and a scalar before it
more : (k : Content) (m : Marks) {l r : List Token} → l ≡ r → tok k m ∷ l ≡ tok k m ∷ r
more k m e = ap (λ (x : List Token). tok k m ∷ x) e

scalar_and : (k : Content) (m : Marks) {l r : List Token} → l ≡ r
    → tok (Scalar empty_plain) m ∷ tok k m ∷ l ≡ tok (Scalar empty_plain) m ∷ tok k m ∷ r
scalar_and k m e = more (Scalar empty_plain) m (more k m e)

block_types : (m : Marks) (c : BlockPlace) → rest_block_place m c ≡ map (bare m) (closings (states_block c))
block_types m (root t) = refl
block_types m (entry c o s is e) = more BlockEnd m (block_types m c)
block_types m (slot (part_place c o s ps key v)) = more BlockEnd m (block_types m c)
block_types m (slot (part_place c o s ps value v)) = more BlockEnd m (block_types m c)
block_types m (indentless_entry (part_place c o s ps key v) y is e) = more BlockEnd m (block_types m c)
block_types m (indentless_entry (part_place c o s ps value v) y is e) = more BlockEnd m (block_types m c)

node_types : (m : Marks) (p : Place) → rest_place m p ≡ map (bare m) (closings (states_place p))
node_types m (block c) = block_types m c
node_types m (flow_entry (open_collection p o sequence s is)) = more FlowSequenceEnd m (node_types m p)
node_types m (flow_entry (open_collection p o mapping s is)) = more FlowMappingEnd m (node_types m p)
node_types m (flow_key (open_collection p o sequence s is) e) = more FlowSequenceEnd m (node_types m p)
node_types m (flow_key (open_collection p o mapping s is) e) = more FlowMappingEnd m (node_types m p)
node_types m (flow_value (open_collection p o sequence s is) e x v) = more FlowSequenceEnd m (node_types m p)
node_types m (flow_value (open_collection p o mapping s is) e x v) = more FlowMappingEnd m (node_types m p)

abbrev Is : Marks → Position → Type 0
Is m q = position_rest m q ≡ map (bare m) (completing (want_of q).next (without_texts (config_of q)))

-- where a node is due
block_due : (m : Marks) (c : BlockPlace) → Is m (due (block c) None)
block_due m (root (implicit_root f)) = refl
block_due m (root (explicit_root b ds s)) = refl
block_due m (entry c o s is e) = scalar_and BlockEnd m (block_types m c)
block_due m (slot (part_place c o s ps key v)) = scalar_and BlockEnd m (block_types m c)
block_due m (slot (part_place c o s ps value v)) = scalar_and BlockEnd m (block_types m c)
block_due m (indentless_entry (part_place c o s ps key v) y is e) = scalar_and BlockEnd m (block_types m c)
block_due m (indentless_entry (part_place c o s ps value v) y is e) = scalar_and BlockEnd m (block_types m c)

node_due : (m : Marks) (p : Place) → IsDue p → Is m (due p None)
node_due m (block c) w = block_due m c
node_due m (flow_entry c) w = absurd w
node_due m (flow_key (open_collection p o sequence s is) e) w = scalar_and FlowSequenceEnd m (node_types m p)
node_due m (flow_key (open_collection p o mapping s is) e) w = scalar_and FlowMappingEnd m (node_types m p)
node_due m (flow_value (open_collection p o sequence s is) e x v) w
    = scalar_and FlowSequenceEnd m (node_types m p)
node_due m (flow_value (open_collection p o mapping s is) e x v) w
    = scalar_and FlowMappingEnd m (node_types m p)

pub rest_types : (m : Marks) (q : Position) → IsMet q → Is m q
rest_types m unopened w = refl
rest_types m (between (free f)) w = refl
rest_types m (between (following d)) w = refl
rest_types m (headed (free f) ds d) w = refl
rest_types m (headed (following b) ds d) w = refl
rest_types m (due p None) w = node_due m p w
rest_types m (due p (Some ps)) w = more (Scalar empty_plain) m (node_types m p)
rest_types m (in_sequence c o s is) w = more BlockEnd m (block_types m c)
rest_types m (in_mapping c o s no_parts) w = more BlockEnd m (block_types m c)
rest_types m (in_mapping c o s (part ps key v x)) w = more BlockEnd m (block_types m c)
rest_types m (in_mapping c o s (part ps value v x)) w = more BlockEnd m (block_types m c)
rest_types m (in_indentless (part_place c o s ps key v) y is e x) w = more BlockEnd m (block_types m c)
rest_types m (in_indentless (part_place c o s ps value v) y is e x) w = more BlockEnd m (block_types m c)
rest_types m (flow_due (open_collection p o sequence s is)) w = more FlowSequenceEnd m (node_types m p)
rest_types m (flow_due (open_collection p o mapping s is)) w = more FlowMappingEnd m (node_types m p)
rest_types m (flow_keyed (open_collection p o sequence s is) e x) w = more FlowSequenceEnd m (node_types m p)
rest_types m (flow_keyed (open_collection p o mapping s is) e x) w = more FlowMappingEnd m (node_types m p)
rest_types m (flow_after (open_collection p o sequence s is) (single x)) w
    = more FlowSequenceEnd m (node_types m p)
rest_types m (flow_after (open_collection p o mapping s is) (single x)) w
    = more FlowMappingEnd m (node_types m p)
rest_types m (flow_after c (pair e x no_value)) w = absurd w
rest_types m (flow_after (open_collection p o sequence s is) (pair e x (with_value v y))) w
    = more FlowSequenceEnd m (node_types m p)
rest_types m (flow_after (open_collection p o mapping s is) (pair e x (with_value v y))) w
    = more FlowMappingEnd m (node_types m p)
rest_types m (done (whole (free f) n)) w = refl
rest_types m (done (whole (following d) n)) w = refl

-- A partial tree's tokens, and their order, are those of its right edge; so its tokens with a list after them are its
-- tokens followed by the list.
use Rattle.std.proofs.Common.{◌≡◌, List, [], ◌++◌, refl, sym, ◌∙◌, Bool, arith}
use Rattle.std.proofs.lemmas.List.{append_cancel_right}
use Rattle.libyaml_grammar.specs.grammar.Trees.{BlockNode, BlockSlot, Documents, FlowNode, FlowSlot, alone, following, block_node_tokens, block_slot_tokens, documents_tokens, explicit, flow, flow_node, flow_node_tokens, flow_nothing, flow_slot_tokens, free, implicit, indentless, item, no_directives}
use Rattle.libyaml_grammar.specs.grammar.Trees.{no_value, node, nothing, pair, part, single, slot_of, with_value}
use Rattle.libyaml_grammar.specs.partial.PartialTrees.{BlockPlace, PartialTree, Place, at_directive, at_tag, block, block_place_in_order, block_place_tokens, content_due, partial_in_order, partial_tokens, declared, declared_block, document_due, entry, entry_due, explicit_root, flow_entry, flow_key}
use Rattle.libyaml_grammar.specs.partial.PartialTrees.{flow_value, implicit_root, indentless_entry, part_due, part_place, place_in_order, place_tokens, root, separator_due, slot}
use Rattle.libyaml_grammar.specs.grammar.Tokens.{Token}
use Rattle.libyaml_grammar.proofs.exported.Keeps.{Told, feeds_keep, fill_flow_keeps, fill_keeps}
use Rattle.libyaml_grammar.specs.grammar.Order.{block_node_in_order, block_slot_in_order, documents_in_order, flow_node_in_order, flow_slot_in_order}
use Rattle.libyaml_grammar.proofs.trees.Edge.{partial_reads, edge_documents, edge_flow_slot, edge_slot, reached}
use Rattle.libyaml_grammar.proofs.trees.Complete.{edge_block, edge_flow, home}
use Rattle.libyaml_grammar.proofs.exported.Positions.{unopened}

-- a place filled up to its right edge
flow_told : (p : Place) (x : FlowNode) → Told (edge_flow p x) (λ (r : List Token). place_tokens p (flow_node_tokens x r))
    (λ (r : Bool). place_in_order p (flow_node_in_order (declared p) x r))
flow_told p (alone ps) = (λ r. refl, λ r. refl)
flow_told p x = fill_flow_keeps p x

block_told : (c : BlockPlace) (x : BlockNode)
    → Told (edge_block c x) (λ (r : List Token). block_place_tokens c (block_node_tokens x r))
    (λ (r : Bool). block_place_in_order c (block_node_in_order (declared_block c) x r))
block_told c (flow x) = flow_told (block c) x
block_told c x = fill_keeps c x

slot_told : (c : BlockPlace) (x : BlockSlot)
    → Told (edge_slot c x) (λ (r : List Token). block_place_tokens c (block_slot_tokens x r))
    (λ (r : Bool). block_place_in_order c (block_slot_in_order (declared_block c) x r))
slot_told c nothing = (λ r. refl, λ r. refl)
slot_told c (node x) = block_told c x

flow_slot_told : (p : Place) (x : FlowSlot)
    → Told (edge_flow_slot p x) (λ (r : List Token). place_tokens p (flow_slot_tokens x r))
    (λ (r : Bool). place_in_order p (flow_slot_in_order (declared p) x r))
flow_slot_told p flow_nothing = (λ r. refl, λ r. refl)
flow_slot_told p (flow_node x) = flow_told p x

home_told : (p : Place) → Told (home p) (place_tokens p) (place_in_order p)
home_told (block (root (implicit_root f))) = (λ r. refl, λ r. refl)
home_told _ = (λ r. refl, λ r. refl)

documents_told : (d : Documents) → Told (edge_documents d) (documents_tokens d) (documents_in_order d)
documents_told (implicit f x) = block_told (root (implicit_root f)) x
documents_told (explicit b ds m x) = slot_told (root (explicit_root b ds m)) x

pub edge_told : (c : PartialTree) → Told (reached c) (partial_tokens c) (partial_in_order c)
edge_told (document_due d) = documents_told d
edge_told (at_directive (free f) no_directives) = (λ r. refl, λ r. refl)
edge_told (at_directive (following d) no_directives) = documents_told d
edge_told (content_due p) = home_told p
edge_told (at_tag p) = home_told p
edge_told (entry_due c o m (item is e x)) = slot_told (entry c o m is e) x
edge_told (part_due c o m (part ps t v (slot_of x))) = slot_told (slot (part_place c o m ps t v)) x
edge_told (part_due c o m (part ps t v (indentless y is e x)))
    = slot_told (indentless_entry (part_place c o m ps t v) y is e) x
edge_told (separator_due c (single x)) = flow_told (flow_entry c) x
edge_told (separator_due c (pair e x no_value)) = flow_slot_told (flow_key c e) x
edge_told (separator_due c (pair e x (with_value v y))) = flow_slot_told (flow_value c e x v) y
edge_told _ = (λ r. refl, λ r. refl)

pub partial_append : (c : PartialTree) (r : List Token) → partial_tokens c r ≡ partial_tokens c [] ++ r
partial_append c r = sym ((edge_told c).0 r) ∙ feeds_keep (partial_tokens c []) unopened (reached c) (partial_reads c []) r

-- two partial trees with equal tokens before one list have equal tokens before each
pub partial_swap : (c d : PartialTree) (r a : List Token) → partial_tokens c r ≡ partial_tokens d r → partial_tokens c a ≡ partial_tokens d a
partial_swap c d r a e = grind (arith, partial_append, append_cancel_right)

-- The events of a document depend on its own directives alone, and but for its start on the prefixes that these give.
use Rattle.std.proofs.Common.{◌≡◌, ℕ, List, [], ◌∷◌, ◌++◌, Option, true, false, refl, ap, ◌∙◌, arith}
use Rattle.libyaml_grammar.specs.grammar.Events.{Event, Layout, alone_of, before_events, before_part, block_layout, block_node_events, block_slot_events, document_start_at, documents_events, end_at, end_of, first_block, first_directive, first_block_entry, flow_items_events, flow_last_events}
use Rattle.libyaml_grammar.specs.grammar.Events.{flow_layout, flow_member_events, flow_node_events, flow_slot_events, free_events, items_events, member_end, opens_pair, parts_events, prefix_of, scalar_of, slot_events, start_of}
use Rattle.libyaml_grammar.specs.grammar.Tokens.{Mark, Marks, ScalarText}
use Rattle.libyaml_grammar.specs.grammar.Trees.{Before, BlockItems, BlockNode, BlockSlot, Directives, FlowItems, FlowLast, FlowMember, FlowNode, FlowSlot, Free, Parts, Properties, Slot, Sort, alias, alone, block_mapping, block_sequence, collection, empty, explicit, flow, flow_node, flow_nothing}
use Rattle.libyaml_grammar.specs.grammar.Trees.{implicit, indentless, item, last, mapping, more_items, no_directives, no_items, no_last, no_parts, no_value, node, nothing, pair, part, scalar, sequence, single, slot_of, with_value}
use Rattle.libyaml_grammar.proofs.exported.Splits.{block_slot_splits}

pub explicit_own : (ds : Directives) (s : Marks) (x : BlockSlot) (m : Mark) → (e : List Event)
    × ((b : Before) (r : List Event)
    → documents_events (explicit b ds s x) m r
    ≡ before_events b (first_directive ds s.start)
    (document_start_at ds false (first_directive ds s.start) s.end ∷ (e ++ r)))
explicit_own ds s x m = (
  block_slot_events ds x m [],
  λ b r. ap (λ (l : List Event). before_events b (first_directive ds s.start)
      (document_start_at ds false (first_directive ds s.start) s.end ∷ l))
      ((block_slot_splits ds x m).splits r),
)

pub implicit_own : (n : BlockNode) → (e : List Event)
    × ((f : Free) (m : Mark) (r : List Event)
    → documents_events (implicit f n) m r ≡ free_events f
    (document_start_at no_directives true (first_block n) (first_block n) ∷ (e ++ r)))
implicit_own n = (
  block_node_events no_directives n [],
  λ f m r. ap (λ (l : List Event). free_events f (document_start_at no_directives true (first_block n) (first_block n) ∷ l))
      ((block_slot_splits no_directives (node n) m).splits r),
)

module _ (ds es : Directives) (same : (h : List ℕ) → prefix_of ds h ≡ prefix_of es h) where
  starts_alike : (k : Sort) (s : Layout) (o : Option Properties) (m : Marks) → start_of ds k s o m ≡ start_of es k s o m
  starts_alike k s o m = grind arith

  scalars_alike : (o : Option Properties) (v : ScalarText) (m : Marks) → scalar_of ds o v m ≡ scalar_of es o v m
  scalars_alike o v m = grind arith

  alone_alike : (p : Properties) → alone_of ds p ≡ alone_of es p
  alone_alike p = grind arith

  -- an event and what follows it
  after_alike : (x y : Event) (l r : List Event) → x ≡ y → l ≡ r → x ∷ l ≡ y ∷ r
  after_alike x y l r e f = ap (λ (z : Event). z ∷ l) e ∙ ap (λ (z : List Event). y ∷ z) f

  mutual
    flow_node_alike : (n : FlowNode) (r : List Event) → flow_node_events ds n r ≡ flow_node_events es n r
    flow_node_alike (alias a m) r = refl
    flow_node_alike (alone p) r = ap (λ (x : Event). x ∷ r) (alone_alike p)
    flow_node_alike (scalar o v m) r = ap (λ (x : Event). x ∷ r) (scalars_alike o v m)
    flow_node_alike (collection o k m is l n) r
        = after_alike _ _ _ _ (starts_alike k flow_layout o m) (flow_items_alike k is _
        ∙ ap (flow_items_events es k is) (flow_last_alike k l n.start (end_of k n ∷ r)))

    flow_items_alike : (k : Sort) (is : FlowItems) (r : List Event)
        → flow_items_events ds k is r ≡ flow_items_events es k is r
    flow_items_alike k no_items r = refl
    flow_items_alike k (more_items is e m) r = flow_items_alike k is _
        ∙ ap (flow_items_events es k is) (flow_member_alike k e m.start (member_end k e m.start r))

    flow_last_alike : (k : Sort) (l : FlowLast) (m : Mark) (r : List Event)
        → flow_last_events ds k l m r ≡ flow_last_events es k l m r
    flow_last_alike k no_last m r = refl
    flow_last_alike k (last e) m r = flow_member_alike k e m (member_end k e m r)

    flow_member_alike : (k : Sort) (e : FlowMember) (m : Mark) (r : List Event)
        → flow_member_events ds k e m r ≡ flow_member_events es k e m r
    flow_member_alike k (single n) m r = flow_node_alike n r
    flow_member_alike k (pair s x no_value) m r = ap (opens_pair k s) (flow_slot_alike x m r)
    flow_member_alike k (pair s x (with_value v y)) m r
        = ap (opens_pair k s) (flow_slot_alike x v.start _ ∙ ap (flow_slot_events es x v.start) (flow_slot_alike y m r))

    flow_slot_alike : (x : FlowSlot) (m : Mark) (r : List Event) → flow_slot_events ds x m r ≡ flow_slot_events es x m r
    flow_slot_alike flow_nothing m r = refl
    flow_slot_alike (flow_node n) m r = flow_node_alike n r

  mutual
    block_node_alike : (n : BlockNode) (r : List Event) → block_node_events ds n r ≡ block_node_events es n r
    block_node_alike (flow n) r = flow_node_alike n r
    block_node_alike (block_sequence o m is n) r = after_alike _ _ _ _ (starts_alike sequence block_layout o m)
        (items_alike is _)
    block_node_alike (block_mapping o m ps n) r = after_alike _ _ _ _ (starts_alike mapping block_layout o m)
        (parts_alike ps n.start _)

    pub block_slot_alike : (x : BlockSlot) (m : Mark) (r : List Event)
        → block_slot_events ds x m r ≡ block_slot_events es x m r
    block_slot_alike nothing m r = refl
    block_slot_alike (node n) m r = block_node_alike n r

    items_alike : (is : BlockItems) (r : List Event) → items_events ds is r ≡ items_events es is r
    items_alike empty r = refl
    items_alike (item is e n) r = items_alike is _ ∙ ap (items_events es is) (block_slot_alike n e.end r)

    slot_alike : (x : Slot) (e m : Mark) (r : List Event) → slot_events ds x e m r ≡ slot_events es x e m r
    slot_alike (slot_of n) e m r = block_slot_alike n e r
    slot_alike (indentless o is s n) e m r
        = after_alike _ _ _ _ (starts_alike sequence block_layout o (first_block_entry is s)) (items_alike is _
        ∙ ap (items_events es is) (block_slot_alike n s.end (end_at sequence m m ∷ r)))

    parts_alike : (ps : Parts) (m : Mark) (r : List Event) → parts_events ds ps m r ≡ parts_events es ps m r
    parts_alike no_parts m r = refl
    parts_alike (part ps k v x) m r = parts_alike ps v.start _
        ∙ ap (λ (l : List Event). parts_events es ps v.start (before_part ps k v.start l)) (slot_alike x v.end m r)

-- what explicit and implicit documents give by their own directives alone
pub ruleset own_directives = (explicit_own, implicit_own, block_slot_alike)

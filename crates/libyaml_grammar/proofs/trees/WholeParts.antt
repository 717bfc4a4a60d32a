-- No collection's tokens begin those of another, and no valid list another.
use Rattle.std.proofs.Common.{◌≡◌, ℕ, zero, suc, List, [], ◌∷◌, ◌++◌, Option, refl, sym, ap, ◌∙◌, subst, arith}
use Rattle.std.proofs.lemmas.List.{append_cancel_left}
use Rattle.libyaml_grammar.specs.grammar.Tokens.{BlockEnd, BlockEntry, BlockMappingStart, BlockSequenceStart, Content, FlowEntry, FlowMappingEnd, FlowMappingStart, FlowSequenceEnd, FlowSequenceStart, Marks, Scalar, Token, tok}
use Rattle.libyaml_grammar.specs.grammar.Trees.{BlockItems, BlockNode, BlockSlot, FlowItems, FlowLast, FlowMember, FlowNode, FlowSlot, FlowValue, IsCollection, Parts, Properties, Role, Slot, Sort, alias, alone, block_mapping, block_node_tokens, block_sequence, block_slot_tokens, closing, collection}
use Rattle.libyaml_grammar.specs.grammar.Trees.{empty, flow, flow_items_tokens, flow_last_tokens, flow_member_tokens, flow_node, flow_node_tokens, flow_nothing, flow_slot_tokens, flow_value_tokens, indentless, item, items_tokens, last, more_items, no_items, no_last, no_parts, no_value, node}
use Rattle.libyaml_grammar.specs.grammar.Trees.{nothing, opening, option_tokens, pair, part, parts_tokens, properties_tokens, role_token, scalar, single, slot_of, slot_tokens, with_value}
use Rattle.libyaml_grammar.specs.grammar.ValidLists.{IsValidList}
use Rattle.libyaml_grammar.specs.runs.StreamEnds.{up_to_end}
use Rattle.libyaml_grammar.proofs.exported.Positions.{done, unopened}
use Rattle.libyaml_grammar.proofs.exported.Completion.{valid_list_reads}
use Rattle.libyaml_grammar.proofs.trees.Productions.{block_node_law}
use Rattle.libyaml_grammar.proofs.exported.Running.{up_to_read}
use Rattle.libyaml_grammar.proofs.exported.StreamEnds.{valid_list_has_end}

-- what follows the closing token of the collection around, where n collections more are open within it
abbrev closed : ℕ → List Token → (ℕ → List Token) → List Token
closed zero l f = l
closed (suc n) l f = f n

abbrev turned : Content → ℕ → List Token → (ℕ → List Token) → List Token
turned BlockSequenceStart n l f = f (suc n)
turned BlockMappingStart n l f = f (suc n)
turned FlowSequenceStart n l f = f (suc n)
turned FlowMappingStart n l f = f (suc n)
turned BlockEnd n l f = closed n l f
turned FlowSequenceEnd n l f = closed n l f
turned FlowMappingEnd n l f = closed n l f
turned _ n l f = f n

abbrev after_inner : List Token → ℕ → List Token
after_inner [] n = []
after_inner (t ∷ l) n = turned t.content n l (after_inner l)

-- a part leaves no collection open
properties_inner : (p : Properties) (r : List Token) (n : ℕ) → after_inner (properties_tokens p r) n ≡ after_inner r n
properties_inner p r n = grind arith

option_inner : (o : Option Properties) (r : List Token) (n : ℕ) → after_inner (option_tokens o r) n ≡ after_inner r n
option_inner o r n = grind arith

opening_inner : (k : Sort) (m : Marks) (r : List Token) (n : ℕ)
    → after_inner (tok (opening k) m ∷ r) n ≡ after_inner r (suc n)
opening_inner k m r n = grind arith

closing_inner : (k : Sort) (m : Marks) (r : List Token) (n : ℕ)
    → after_inner (tok (closing k) m ∷ r) n ≡ closed n r (after_inner r)
closing_inner k m r n = grind arith

role_inner : (k : Role) (m : Marks) (r : List Token) (n : ℕ) → after_inner (tok (role_token k) m ∷ r) n ≡ after_inner r n
role_inner k m r n = grind arith

mutual
  flow_node_inner : (x : FlowNode) (r : List Token) (n : ℕ) → after_inner (flow_node_tokens x r) n ≡ after_inner r n
  flow_node_inner (alias a m) r n = refl
  flow_node_inner (alone p) r n = properties_inner p r n
  flow_node_inner (scalar o v m) r n = option_inner o (tok (Scalar v) m ∷ r) n
  flow_node_inner (collection o k m is l e) r n =
      option_inner o (tok (opening k) m ∷ flow_items_tokens is (flow_last_tokens l (tok (closing k) e ∷ r))) n
      ∙ (opening_inner k m (flow_items_tokens is (flow_last_tokens l (tok (closing k) e ∷ r))) n
      ∙ (flow_items_inner is (flow_last_tokens l (tok (closing k) e ∷ r)) (suc n)
      ∙ (flow_last_inner l (tok (closing k) e ∷ r) (suc n) ∙ closing_inner k e r (suc n))))

  flow_items_inner : (is : FlowItems) (r : List Token) (n : ℕ) → after_inner (flow_items_tokens is r) n ≡ after_inner r n
  flow_items_inner no_items r n = refl
  flow_items_inner (more_items is e m) r n = flow_items_inner is (flow_member_tokens e (tok FlowEntry m ∷ r)) n
      ∙ flow_member_inner e (tok FlowEntry m ∷ r) n

  flow_last_inner : (l : FlowLast) (r : List Token) (n : ℕ) → after_inner (flow_last_tokens l r) n ≡ after_inner r n
  flow_last_inner no_last r n = refl
  flow_last_inner (last e) r n = flow_member_inner e r n

  flow_member_inner : (e : FlowMember) (r : List Token) (n : ℕ) → after_inner (flow_member_tokens e r) n ≡ after_inner r n
  flow_member_inner (single x) r n = flow_node_inner x r n
  flow_member_inner (pair m k v) r n = flow_slot_inner k (flow_value_tokens v r) n ∙ flow_value_inner v r n

  flow_slot_inner : (x : FlowSlot) (r : List Token) (n : ℕ) → after_inner (flow_slot_tokens x r) n ≡ after_inner r n
  flow_slot_inner flow_nothing r n = refl
  flow_slot_inner (flow_node x) r n = flow_node_inner x r n

  flow_value_inner : (v : FlowValue) (r : List Token) (n : ℕ) → after_inner (flow_value_tokens v r) n ≡ after_inner r n
  flow_value_inner no_value r n = refl
  flow_value_inner (with_value m v) r n = flow_slot_inner v r n

mutual
  block_node_inner : (x : BlockNode) (r : List Token) (n : ℕ) → after_inner (block_node_tokens x r) n ≡ after_inner r n
  block_node_inner (flow x) r n = flow_node_inner x r n
  block_node_inner (block_sequence o m is e) r n =
      option_inner o (tok BlockSequenceStart m ∷ items_tokens is (tok BlockEnd e ∷ r)) n
      ∙ items_inner is (tok BlockEnd e ∷ r) (suc n)
  block_node_inner (block_mapping o m ps e) r n =
      option_inner o (tok BlockMappingStart m ∷ parts_tokens ps (tok BlockEnd e ∷ r)) n
      ∙ parts_inner ps (tok BlockEnd e ∷ r) (suc n)

  block_slot_inner : (x : BlockSlot) (r : List Token) (n : ℕ) → after_inner (block_slot_tokens x r) n ≡ after_inner r n
  block_slot_inner nothing r n = refl
  block_slot_inner (node x) r n = block_node_inner x r n

  items_inner : (is : BlockItems) (r : List Token) (n : ℕ) → after_inner (items_tokens is r) n ≡ after_inner r n
  items_inner empty r n = refl
  items_inner (item is m x) r n = items_inner is (tok BlockEntry m ∷ block_slot_tokens x r) n ∙ block_slot_inner x r n

  slot_inner : (x : Slot) (r : List Token) (n : ℕ) → after_inner (slot_tokens x r) n ≡ after_inner r n
  slot_inner (slot_of x) r n = block_slot_inner x r n
  slot_inner (indentless o is m x) r n = option_inner o (items_tokens is (tok BlockEntry m ∷ block_slot_tokens x r)) n
      ∙ (items_inner is (tok BlockEntry m ∷ block_slot_tokens x r) n ∙ block_slot_inner x r n)

  parts_inner : (ps : Parts) (r : List Token) (n : ℕ) → after_inner (parts_tokens ps r) n ≡ after_inner r n
  parts_inner no_parts r n = refl
  parts_inner (part ps k m x) r n = parts_inner ps (tok (role_token k) m ∷ slot_tokens x r) n
      ∙ (role_inner k m (slot_tokens x r) n ∙ slot_inner x r n)

-- what follows the first collection of a list
abbrev opened_by : Content → List Token → List Token → List Token
opened_by BlockSequenceStart l r = after_inner l 0
opened_by BlockMappingStart l r = after_inner l 0
opened_by FlowSequenceStart l r = after_inner l 0
opened_by FlowMappingStart l r = after_inner l 0
opened_by _ l r = r

abbrev after_first : List Token → List Token
after_first [] = []
after_first (t ∷ l) = opened_by t.content l (after_first l)

option_first : (o : Option Properties) (r : List Token) → after_first (option_tokens o r) ≡ after_first r
option_first o r = grind arith

opening_first : (k : Sort) (m : Marks) (r : List Token) → after_first (tok (opening k) m ∷ r) ≡ after_inner r 0
opening_first k m r = grind arith

collection_first : (x : BlockNode) (r : List Token) → IsCollection x → after_first (block_node_tokens x r) ≡ r
collection_first x r h =
    grind (arith, option_first, opening_first, flow_items_inner, flow_last_inner, closing_inner, items_inner, parts_inner)

pub collection_law : (s t : BlockNode) (a b : List Token) → IsCollection s → IsCollection t
    → block_node_tokens s a ≡ block_node_tokens t b → (s ≡ t) × (a ≡ b)
collection_law s t a b g h e =
    let f : a ≡ b = sym (collection_first s a g) ∙ (ap after_first e ∙ collection_first t b h) in
    (block_node_law s t b (subst (λ (x : List Token). block_node_tokens s x ≡ block_node_tokens t b) f e), f)

up_to_valid_list : (l r : List Token) → IsValidList l → up_to_end (l ++ r) ≡ l
up_to_valid_list l r h = up_to_read l unopened (done h.tree) r (valid_list_reads l h) (valid_list_has_end l h)

pub valid_list_law : (l m a b : List Token) → IsValidList l → IsValidList m → l ++ a ≡ m ++ b → (l ≡ m) × (a ≡ b)
valid_list_law l m a b g h e =
    let f : l ≡ m = sym (up_to_valid_list l a g) ∙ (ap up_to_end e ∙ up_to_valid_list m b h) in
    (f, append_cancel_left m a b (subst (λ (x : List Token). x ++ a ≡ m ++ b) f e))

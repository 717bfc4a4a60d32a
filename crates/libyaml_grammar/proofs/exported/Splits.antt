-- What a part gives stands before the events after it.
use Rattle.std.proofs.Common.{◌≡◌, List, [], ◌∷◌, ◌++◌, refl, sym, ap, ◌∙◌, append_assoc}
use Rattle.libyaml_grammar.specs.partial.PartialEvents.{shown_block, shown_open, shown_part, shown_place, shown_root, sort_of}
use Rattle.libyaml_grammar.specs.partial.PartialTrees.{BlockPlace, Open, PartPlace, Place, Root, block, declared, declared_block, declared_open, declared_part, entry, explicit_root, flow_entry, flow_key, flow_value, implicit_root, indentless_entry, open_collection, part_place, root, slot}
use Rattle.libyaml_grammar.specs.grammar.Events.{Event, before_events, before_part, block_slot_events, documents_events, first_directive, first_of, flow_member_events, flow_slot_events, items_events, member_end, missing_value, opens_pair, parts_events}
use Rattle.libyaml_grammar.proofs.exported.Positions.{Position, between, done, due, flow_after, flow_due, flow_keyed, headed, in_indentless, in_mapping, in_sequence, shown, unopened}
use Rattle.libyaml_grammar.specs.grammar.Tokens.{Mark, Marks}
use Rattle.libyaml_grammar.specs.grammar.Trees.{Before, BlockItems, BlockSlot, Directives, Documents, FlowMember, FlowSlot, Parts, Role, Sort, following, directive, flow_node, free, key, mapping, no_parts, no_value, pair, part, sequence, single, value, whole, with_value}
use Rattle.libyaml_grammar.proofs.exported.Nesting.{AllTexts, Gives, GivesAll, LastText, before_gives, block_slot_gives, documents_give, flow_items_give, flow_slot_gives, free_gives, items_give, parts_give}
use Rattle.libyaml_grammar.specs.grammar.Nesting.{DocumentTexts, Value, Values, alias_value, collection_value, first_value, no_texts, no_values, scalar_value, text_after, texts_events, value_events, values_events}

pub record Splits (g : List Event → List Event) : Type 0 where
  pub splits : (r : List Event) → g r ≡ g [] ++ r

nothing_splits : Splits (λ (r : List Event). r)
nothing_splits = record { splits = λ r. refl }

pub event_splits : (e : Event) → Splits (λ (r : List Event). e ∷ r)
event_splits e = record { splits = λ r. refl }

pub both_split : {g h : List Event → List Event} → Splits g → Splits h → Splits (λ (r : List Event). g (h r))
both_split {g} {h} s t = record {
  splits = λ r. s.splits (h r)
      ∙ (ap (λ (l : List Event). g [] ++ l) (t.splits r)
      ∙ (sym (append_assoc (g []) (h []) r) ∙ ap (λ (l : List Event). l ++ r) (sym (s.splits (h [])))));
}

after_event : (e : Event) {g : List Event → List Event} → Splits g → Splits (λ (r : List Event). e ∷ g r)
after_event e s = both_split (event_splits e) s

alike_split : {f g : List Event → List Event} → ((r : List Event) → g r ≡ f r) → Splits f → Splits g
alike_split e s = record { splits = λ r. e r ∙ (s.splits r ∙ ap (λ (l : List Event). l ++ r) (sym (e []))) }

-- the events of values
mutual
  pub value_splits : (v : Value) → Splits (value_events v)
  value_splits (alias_value a m n) = event_splits _
  value_splits (scalar_value s m n) = event_splits _
  value_splits (collection_value k a t i s m n vs p q) = after_event _ (both_split (values_split vs) (event_splits _))

  values_split : (vs : Values) → Splits (values_events vs)
  values_split no_values = nothing_splits
  values_split (first_value v vs) = both_split (value_splits v) (values_split vs)

texts_split : (ts : DocumentTexts) → Splits (texts_events ts)
texts_split no_texts = nothing_splits
texts_split (text_after ts d m n v i p q)
    = both_split (texts_split ts) (after_event _ (both_split (value_splits v) (event_splits _)))

-- the parts of a tree, which give values
given_splits : {g : List Event → List Event} → Gives g → Splits g
given_splits x = alike_split x.same (value_splits x.val)

all_split : {k : Sort} {g : List Event → List Event} → GivesAll k g → Splits g
all_split x = alike_split x.same (values_split x.vals)

texts_splits : {g : List Event → List Event} → AllTexts g → Splits g
texts_splits x = alike_split x.same (after_event _ (texts_split x.texts))

flow_slot_splits : (ds : Directives) (x : FlowSlot) (m : Mark) → Splits (flow_slot_events ds x m)
flow_slot_splits ds x m = given_splits (flow_slot_gives ds x m)

pub block_slot_splits : (ds : Directives) (x : BlockSlot) (m : Mark) → Splits (block_slot_events ds x m)
block_slot_splits ds x m = given_splits (block_slot_gives ds x m)

items_split : (ds : Directives) (is : BlockItems) → Splits (items_events ds is)
items_split ds is = all_split (items_give ds is)

parts_split : (ds : Directives) (ps : Parts) (m : Mark) → Splits (parts_events ds ps m)
parts_split ds ps m = alike_split (parts_give ds ps m).same (values_split (parts_give ds ps m).vals)

documents_split : (d : Documents) (m : Mark) → Splits (documents_events d m)
documents_split d m =
    let x : LastText (documents_events d m) = documents_give d m in
    alike_split x.same (both_split (texts_splits x.all_before) (after_event _ (value_splits x.val)))

before_splits : (b : Before) (m : Mark) → Splits (before_events b m)
before_splits b m = texts_splits (before_gives b m)

-- what is left out of a part, and the parts of a flow collection
opens_split : (k : Sort) (m : Marks) → Splits (opens_pair k m)
opens_split sequence m = event_splits _
opens_split mapping m = nothing_splits

pub member_end_splits : (k : Sort) (e : FlowMember) (m : Mark) → Splits (member_end k e m)
member_end_splits sequence (single n) m = nothing_splits
member_end_splits mapping (single n) m = event_splits _
member_end_splits sequence (pair s x no_value) m = after_event _ (event_splits _)
member_end_splits mapping (pair s x no_value) m = event_splits _
member_end_splits sequence (pair s x (with_value v y)) m = event_splits _
member_end_splits mapping (pair s x (with_value v y)) m = nothing_splits

pub missing_value_splits : (ps : Parts) (m : Mark) → Splits (missing_value ps m)
missing_value_splits no_parts m = nothing_splits
missing_value_splits (part ps key v x) m = event_splits _
missing_value_splits (part ps value v x) m = nothing_splits

before_part_splits : (ps : Parts) (k : Role) (m : Mark) → Splits (before_part ps k m)
before_part_splits ps key m = missing_value_splits ps m
before_part_splits no_parts value m = event_splits _
before_part_splits (part ps key v x) value m = nothing_splits
before_part_splits (part ps value v x) value m = event_splits _

flow_member_splits : (ds : Directives) (k : Sort) (e : FlowMember) (m : Mark) → Splits (flow_member_events ds k e m)
flow_member_splits ds k (single n) m = flow_slot_splits ds (flow_node n) m
flow_member_splits ds k (pair s x no_value) m = both_split (opens_split k s) (flow_slot_splits ds x m)
flow_member_splits ds k (pair s x (with_value v y)) m
    = both_split (opens_split k s) (both_split (flow_slot_splits ds x v.start) (flow_slot_splits ds y m))

-- what is shown at a place
root_splits : (t : Root) (m : Mark) → Splits (shown_root t m)
root_splits (implicit_root f) m = both_split (texts_splits (free_gives f)) (event_splits _)
root_splits (explicit_root b ds s) m = both_split (before_splits b (first_directive ds s.start)) (event_splits _)

mutual
  block_place_splits : (c : BlockPlace) (m : Mark) → Splits (shown_block c m)
  block_place_splits (root t) m = root_splits t m
  block_place_splits (entry c o s is e) m
      = both_split (block_place_splits c (first_of o s.start)) (after_event _ (items_split (declared_block c) is))
  block_place_splits (slot c) m = part_place_splits c
  block_place_splits (indentless_entry c o is e) m
      = both_split (part_place_splits c) (after_event _ (items_split (declared_part c) is))

  part_place_splits : (c : PartPlace) → Splits (shown_part c)
  part_place_splits (part_place c o s ps k v) = both_split (block_place_splits c (first_of o s.start))
      (after_event _ (both_split (parts_split (declared_block c) ps v.start) (before_part_splits ps k v.start)))

mutual
  place_splits : (p : Place) (m : Mark) → Splits (shown_place p m)
  place_splits (block c) m = block_place_splits c m
  place_splits (flow_entry c) m = open_splits c
  place_splits (flow_key c k) m = both_split (open_splits c) (opens_split (sort_of c) k)
  place_splits (flow_value c k x v) m = both_split (open_splits c)
      (both_split (opens_split (sort_of c) k) (flow_slot_splits (declared_open c) x v.start))

  open_splits : (c : Open) → Splits (shown_open c)
  open_splits (open_collection p o k s is) = both_split (place_splits p (first_of o s.start))
      (after_event _ (all_split (flow_items_give (declared p) k is)))

pub position_splits : (q : Position) (m : Mark) → Splits (shown q m)
position_splits unopened m = nothing_splits
position_splits (between (free f)) m = texts_splits (free_gives f)
position_splits (between (following d)) m = documents_split d m
position_splits (headed b ds d) m = before_splits b (first_directive (directive ds d) m)
position_splits (due p o) m = place_splits p (first_of o m)
position_splits (in_sequence c o s is) m
    = both_split (block_place_splits c (first_of o s.start)) (after_event _ (items_split (declared_block c) is))
position_splits (in_mapping c o s ps) m
    = both_split (block_place_splits c (first_of o s.start)) (after_event _ (parts_split (declared_block c) ps m))
position_splits (in_indentless c o is e n) m = both_split (part_place_splits c)
    (after_event _ (both_split (items_split (declared_part c) is) (block_slot_splits (declared_part c) n e.end)))
position_splits (flow_due c) m = open_splits c
position_splits (flow_keyed c k x) m
    = both_split (open_splits c) (both_split (opens_split (sort_of c) k) (flow_slot_splits (declared_open c) x m))
position_splits (flow_after c e) m = both_split (open_splits c) (flow_member_splits (declared_open c) (sort_of c) e m)
position_splits (done (whole b n)) m = both_split (before_splits b n.start) (event_splits _)

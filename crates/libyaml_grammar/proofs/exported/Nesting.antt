-- The events of a tree are those of its values.
use Rattle.std.specs.Prelude.{not}
use Rattle.std.proofs.Common.{◌≡◌, ℕ, List, [], ◌∷◌, Option, Bool, true, false, refl, sym, ap, ◌∙◌}
use Rattle.std.proofs.Math.Bool.{not-not}
use Rattle.libyaml_types.specs.declared.event.unnamed_yaml_event_t_data.TheVariants as ev
use Rattle.libyaml_types.specs.declared.event.unnamed_yaml_event_t_data_document_start.{unnamed_yaml_event_t_data_document_start}
use Rattle.libyaml_grammar.specs.grammar.Events.{Event, Layout, before_events, block_layout, block_node_events, block_slot_events, document_end_at, documents_events, empty_at, end_at, ended_events, event, events, first_block, first_directive, flow_items_events, flow_last_events, flow_layout}
use Rattle.libyaml_grammar.specs.grammar.Events.{flow_member_events, flow_node_events, flow_slot_events, free_events, items_events, member_end, missing_key, missing_value, parts_events, slot_events, start_at, stream_end_at, stream_start_at, tag_directives_of, version_of}
use Rattle.libyaml_grammar.specs.grammar.Nesting.{AllHavePairs, HasPairs, IsEven, IsNested, DocumentTexts, TextsHavePairs, Value, Values, alias_value, collection_value, first_value, is_even, no_texts, no_values, scalar_value, text_after, texts_events, value_events, values_events}
use Rattle.libyaml_grammar.specs.grammar.Tokens.{Mark, StreamHead}
use Rattle.libyaml_grammar.specs.grammar.Trees.{Before, BlockItems, BlockNode, BlockSlot, Directives, Documents, Ended, FlowItems, FlowLast, FlowMember, FlowNode, FlowSlot, Free, Parts, Slot, Sort, Stream, again, alias, alone, following, block_mapping, block_sequence, collection, empty, ended}
use Rattle.libyaml_grammar.specs.grammar.Trees.{explicit, flow, flow_node, flow_nothing, free, implicit, indentless, item, key, last, mapping, more_items, no_directives, no_items, no_last, no_parts, no_value, node, nothing, once, opened, pair, part, scalar, sequence, single, slot_of, value, whole}
use Rattle.libyaml_grammar.specs.grammar.Trees.{with_value}

pub record Gives (g : List Event → List Event) : Type 0 where
  pub val : Value
  pub same : (r : List Event) → g r ≡ value_events val r
  pub pairs : HasPairs val

pub record GivesAll (k : Sort) (g : List Event → List Event) : Type 0 where
  pub vals : Values
  pub same : (r : List Event) → g r ≡ values_events vals r
  pub pairs : AllHavePairs vals
  pub even : IsEven k vals

abbrev join : Values → Values → Values
join no_values b = b
join (first_value v a) b = first_value v (join a b)

of_join : (a b : Values) (r : List Event) → values_events (join a b) r ≡ values_events a (values_events b r)
of_join no_values b r = refl
of_join (first_value v a) b r = ap (value_events v) (of_join a b r)

join_pairs : (a b : Values) → AllHavePairs a → AllHavePairs b → AllHavePairs (join a b)
join_pairs no_values b h k = k
join_pairs (first_value v a) b h k = (h.0, join_pairs a b h.1 k)

-- evenness of what follows values, where b is that of the rest
abbrev pub turns : Values → Bool → Bool
turns no_values b = b
turns (first_value v a) b = not (turns a b)

even_turns : (a : Values) → is_even a ≡ turns a true
even_turns no_values = refl
even_turns (first_value v a) = ap not (even_turns a)

join_turns : (a b : Values) (c : Bool) → turns (join a b) c ≡ turns a (turns b c)
join_turns no_values b c = refl
join_turns (first_value v a) b c = ap not (join_turns a b c)

join_even : (k : Sort) (a b : Values) → IsEven k a → IsEven k b → IsEven k (join a b)
join_even sequence a b h k = tt
join_even mapping a b h k = even_turns (join a b)
    ∙ (join_turns a b true ∙ (ap (turns a) (sym (even_turns b) ∙ k) ∙ (sym (even_turns a) ∙ h)))

none_all : (k : Sort) → GivesAll k (λ (r : List Event). r)
none_all k = record { vals = no_values; same = λ r. refl; pairs = tt; even = go k }
  where
    go : (k : Sort) → IsEven k no_values
    go sequence = tt
    go mapping = refl

both_all : {k : Sort} {g h : List Event → List Event} → GivesAll k g → GivesAll k h
    → GivesAll k (λ (r : List Event). g (h r))
both_all {k} {h = h} a b = record {
  vals = join a.vals b.vals;
  same = λ r. a.same (h r)
      ∙ (ap (values_events a.vals) (b.same r) ∙ sym (of_join a.vals b.vals r));
  pairs = join_pairs a.vals b.vals a.pairs b.pairs;
  even
      = join_even k a.vals b.vals a.even b.even;
}

one_all : {g : List Event → List Event} → Gives g → GivesAll sequence g
one_all a = record { vals = first_value a.val no_values; same = a.same; pairs = (a.pairs, tt); even = tt }

two_all : (k : Sort) {g h : List Event → List Event} → Gives g → Gives h → GivesAll k (λ (r : List Event). g (h r))
two_all k {h = h} a b = record {
  vals = first_value a.val (first_value b.val no_values);
  same = λ r. a.same (h r) ∙ ap (value_events a.val) (b.same r);
  pairs
      = (a.pairs, (b.pairs, tt));
  even = go k;
}
  where
    go : (k : Sort) → IsEven k (first_value a.val (first_value b.val no_values))
    go sequence = tt
    go mapping = refl

collection_gives : (k : Sort) (s : Layout) (a t : Option (List ℕ)) (i : Bool) (m n p q : Mark)
    {g : List Event → List Event} → GivesAll k g → Gives (λ (r : List Event). start_at k a t i s m n ∷ g (end_at k p q ∷ r))
collection_gives k s a t i m n p q x
    = record {
      val = collection_value k a t i s m n x.vals p q;
      same
          = λ r. ap (λ (l : List Event). start_at k a t i s m n ∷ l) (x.same (end_at k p q ∷ r));
      pairs = (x.even, x.pairs);
    }

empty_gives : (m : Mark) → Gives (λ (r : List Event). empty_at m ∷ r)
empty_gives m = record { val = scalar_value _ _ _; same = λ r. refl; pairs = tt }

mutual
  flow_node_gives : (ds : Directives) (n : FlowNode) → Gives (flow_node_events ds n)
  flow_node_gives ds (alias a m) = record { val = alias_value _ m.start m.end; same = λ r. refl; pairs = tt }
  flow_node_gives ds (alone p) = record { val = scalar_value _ _ _; same = λ r. refl; pairs = tt }
  flow_node_gives ds (scalar o v m) = record { val = scalar_value _ _ _; same = λ r. refl; pairs = tt }
  flow_node_gives ds (collection o k m is l n)
      = collection_gives k flow_layout _ _ _ _ _ _ _ (both_all (flow_items_give ds k is) (flow_last_gives ds k l n.start))

  pub flow_items_give : (ds : Directives) (k : Sort) (is : FlowItems) → GivesAll k (flow_items_events ds k is)
  flow_items_give ds k no_items = none_all k
  flow_items_give ds k (more_items is e m) = both_all (flow_items_give ds k is) (flow_member_gives ds k e m.start)

  flow_last_gives : (ds : Directives) (k : Sort) (l : FlowLast) (m : Mark) → GivesAll k (flow_last_events ds k l m)
  flow_last_gives ds k no_last m = none_all k
  flow_last_gives ds k (last e) m = flow_member_gives ds k e m

  flow_member_gives : (ds : Directives) (k : Sort) (e : FlowMember) (m : Mark)
      → GivesAll k (λ (r : List Event). flow_member_events ds k e m (member_end k e m r))
  flow_member_gives ds sequence (single n) m = one_all (flow_node_gives ds n)
  flow_member_gives ds mapping (single n) m = two_all mapping (flow_node_gives ds n) (empty_gives m)
  flow_member_gives ds sequence (pair s x no_value) m
      = one_all (collection_gives mapping flow_layout _ _ _ _ _ _ _
      (two_all mapping (flow_slot_gives ds x m) (empty_gives m)))
  flow_member_gives ds mapping (pair s x no_value) m = two_all mapping (flow_slot_gives ds x m) (empty_gives m)
  flow_member_gives ds sequence (pair s x (with_value v y)) m
      = one_all (collection_gives mapping flow_layout _ _ _ _ _ _ _
      (two_all mapping (flow_slot_gives ds x v.start) (flow_slot_gives ds y m)))
  flow_member_gives ds mapping (pair s x (with_value v y)) m
      = two_all mapping (flow_slot_gives ds x v.start) (flow_slot_gives ds y m)

  pub flow_slot_gives : (ds : Directives) (x : FlowSlot) (m : Mark) → Gives (flow_slot_events ds x m)
  flow_slot_gives ds flow_nothing m = empty_gives m
  flow_slot_gives ds (flow_node n) m = flow_node_gives ds n

-- parts of a block mapping: after a key, an odd number of values
abbrev pub waits : Parts → Bool → Bool
waits no_parts b = b
waits (part ps key m x) b = not b
waits (part ps value m x) b = b

pub record Turned (f : Bool → Bool) (g : List Event → List Event) : Type 0 where
  pub vals : Values
  pub same : (r : List Event) → g r ≡ values_events vals r
  pub pairs : AllHavePairs vals
  pub turned : (b : Bool) → turns vals b ≡ f b

turned_as : {f h : Bool → Bool} {g : List Event → List Event} → ((b : Bool) → f b ≡ h b) → Turned f g → Turned h g
turned_as e a = record { vals = a.vals; same = a.same; pairs = a.pairs; turned = λ b. a.turned b ∙ e b }

turned_then : {f : Bool → Bool} {g h : List Event → List Event} → Turned f g → Gives h
    → Turned (λ (b : Bool). f (not b)) (λ (r : List Event). g (h r))
turned_then {h = h} a x =
    let y : Values = first_value x.val no_values in
    record {
      vals = join a.vals y;
      same = λ r. a.same (h r) ∙ (ap (values_events a.vals) (x.same r) ∙ sym (of_join a.vals y r));
      pairs = join_pairs a.vals y a.pairs (x.pairs, tt);
      turned = λ b. join_turns a.vals y b ∙ a.turned (not b);
    }

turned_all : {g : List Event → List Event} → Turned (λ (b : Bool). b) g → GivesAll mapping g
turned_all a = record { vals = a.vals; same = a.same; pairs = a.pairs; even = even_turns a.vals ∙ a.turned true }

whole_pairs : (ds : Directives) (ps : Parts) (m : Mark) → Turned (waits ps) (parts_events ds ps m)
    → Turned (λ (b : Bool). b) (λ (r : List Event). parts_events ds ps m (missing_value ps m r))
whole_pairs ds no_parts m a = a
whole_pairs ds (part ps key v x) m a = turned_as not-not (turned_then a (empty_gives m))
whole_pairs ds (part ps value v x) m a = a

with_key : (ds : Directives) (ps : Parts) (m : Mark) → Turned (waits ps) (parts_events ds ps m)
    → Turned not (λ (r : List Event). parts_events ds ps m (missing_key ps m r))
with_key ds no_parts m a = turned_then a (empty_gives m)
with_key ds (part ps key v x) m a = a
with_key ds (part ps value v x) m a = turned_then a (empty_gives m)

mutual
  block_node_gives : (ds : Directives) (n : BlockNode) → Gives (block_node_events ds n)
  block_node_gives ds (flow n) = flow_node_gives ds n
  block_node_gives ds (block_sequence o m is n) = collection_gives sequence block_layout _ _ _ _ _ _ _ (items_give ds is)
  block_node_gives ds (block_mapping o m ps n)
      = collection_gives mapping block_layout _ _ _ _ _ _ _
      (turned_all (whole_pairs ds ps n.start (parts_give ds ps n.start)))

  pub block_slot_gives : (ds : Directives) (n : BlockSlot) (m : Mark) → Gives (block_slot_events ds n m)
  block_slot_gives ds nothing m = empty_gives m
  block_slot_gives ds (node n) m = block_node_gives ds n

  pub items_give : (ds : Directives) (is : BlockItems) → GivesAll sequence (items_events ds is)
  items_give ds empty = none_all sequence
  items_give ds (item is e n) = both_all (items_give ds is) (one_all (block_slot_gives ds n e.end))

  slot_gives : (ds : Directives) (x : Slot) (e m : Mark) → Gives (slot_events ds x e m)
  slot_gives ds (slot_of n) e m = block_slot_gives ds n e
  slot_gives ds (indentless o is s n) e m
      = collection_gives sequence block_layout _ _ _ _ _ _ _
      (both_all (items_give ds is) (one_all (block_slot_gives ds n s.end)))

  pub parts_give : (ds : Directives) (ps : Parts) (m : Mark) → Turned (waits ps) (parts_events ds ps m)
  parts_give ds no_parts m = record { vals = no_values; same = λ r. refl; pairs = tt; turned = λ b. refl }
  parts_give ds (part ps key v x) m
      = turned_then (whole_pairs ds ps v.start (parts_give ds ps v.start)) (slot_gives ds x v.end m)
  parts_give ds (part ps value v x) m
      = turned_as not-not (turned_then (with_key ds ps v.start (parts_give ds ps v.start)) (slot_gives ds x v.end m))

-- documents
pub record AllTexts (g : List Event → List Event) : Type 0 where
  pub head : StreamHead
  pub start : Mark
  pub start_end : Mark
  pub texts : DocumentTexts
  pub same : (r : List Event) → g r ≡ stream_start_at head start start_end ∷ texts_events texts r
  pub pairs : TextsHavePairs texts

pub record LastText (g : List Event → List Event) : Type 0 where
  pub before : List Event → List Event
  pub all_before : AllTexts before
  pub content : unnamed_yaml_event_t_data_document_start
  pub start : Mark
  pub start_end : Mark
  pub val : Value
  pub same : (r : List Event) → g r ≡ before (event (ev.DocumentStart content) start start_end ∷ value_events val r)
  pub pairs : HasPairs val

pub ended_text : (g : List Event → List Event) (i : Bool) (m n : Mark) → LastText g
    → AllTexts (λ (r : List Event). g (document_end_at i m n ∷ r))
ended_text g i m n x = record {
  head = x.all_before.head;
  start = x.all_before.start;
  start_end = x.all_before.start_end;
  texts = text_after x.all_before.texts x.content x.start x.start_end x.val i m n;
  same = λ r. x.same (document_end_at i m n ∷ r)
      ∙ x.all_before.same (event (ev.DocumentStart x.content) x.start x.start_end ∷ value_events x.val
      (document_end_at i m n ∷ r));
  pairs = (x.all_before.pairs, x.pairs);
}

-- what the start of a document says
abbrev head_of : Directives → Bool → unnamed_yaml_event_t_data_document_start
head_of ds i = record { version_directive = version_of ds; tag_directives = tag_directives_of ds; implicit = i }

last_text : {f h : List Event → List Event} (d : unnamed_yaml_event_t_data_document_start) (m n : Mark) → AllTexts f
    → Gives h
    → LastText (λ (r : List Event). f (event (ev.DocumentStart d) m n ∷ h r))
last_text {f} d m n a x = record {
  before = f;
  all_before = a;
  content = d;
  start = m;
  start_end = n;
  val = x.val;
  same = λ r. ap (λ (l : List Event). f (event (ev.DocumentStart d) m n ∷ l)) (x.same r);
  pairs = x.pairs;
}

mutual
  pub documents_give : (d : Documents) (m : Mark) → LastText (documents_events d m)
  documents_give (implicit f n) m
      = last_text (head_of no_directives true) (first_block n) (first_block n) (free_gives f)
      (block_node_gives no_directives n)
  documents_give (explicit b ds s n) m
      = last_text (head_of ds false) (first_directive ds s.start) s.end (before_gives b (first_directive ds s.start))
      (block_slot_gives ds n m)

  pub free_gives : (f : Free) → AllTexts (free_events f)
  free_gives (opened e m) =
      record { head = e; start = m.start; start_end = m.start; texts = no_texts; same = λ r. refl; pairs = tt }
  free_gives (ended e) = ended_gives e

  ended_gives : (e : Ended) → AllTexts (ended_events e)
  ended_gives (once d m) = ended_text (documents_events d m.start) false m.start m.end (documents_give d m.start)
  ended_gives (again e m) = ended_gives e

  pub before_gives : (b : Before) (m : Mark) → AllTexts (before_events b m)
  before_gives (free f) m = free_gives f
  before_gives (following d) m = ended_text (documents_events d m) true m m (documents_give d m)

pub events_nest_proof : (t : Stream) → IsNested (events t)
events_nest_proof (whole b m) =
    let x : AllTexts (before_events b m.start) = before_gives b m.start in
    record {
      head = x.head;
      start = x.start;
      start_end = x.start_end;
      texts = x.texts;
      end = m.start;
      end_end = m.end;
      all
          = x.same (stream_end_at m.start m.end ∷ []);
      pairs = x.pairs;
    }

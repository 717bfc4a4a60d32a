-- What is left of a document's value, where a composer stands in it, and that an event of it loses nothing.
use Rattle.std.proofs.Common.{◌≡◌, ◌∷◌, ℕ, ℤ, pos, List, [], Bool, true, false, refl, sym, subst, arith}
use Rattle.libyaml_types.specs.Types.{event_type}
use Rattle.libyaml_types.specs.declared.event.unnamed_yaml_event_t_data.TheVariants as ev
use Rattle.libyaml_grammar.specs.grammar.Events.{Event, end_at, event, start_at}
use Rattle.libyaml_grammar.specs.grammar.Nesting.{AllHavePairs, HasPairs, IsEven, Value, Values, alias_value, collection_value, first_value, is_even, no_values, scalar_value, value_events, values_events}
use Rattle.libyaml_grammar.specs.grammar.Tokens.{Mark}
use Rattle.libyaml_grammar.specs.grammar.Trees.{Sort, mapping, sequence}
use Rattle.libyaml_grammar.proofs.exported.Injectivity.{head_same, tail_same}
use Rattle.libyaml_composer.specs.declared.records.open_t.{open_t}
use Rattle.libyaml_composer.specs.declared.records.place_t.{place_t}
use Rattle.libyaml_composer.specs.Composing.{Composer, Told, adding, at_anchored_node, at_start, deed_for, handing, open_with_child, holding_top, if_placed, new_id, with_open_node, within_step}
use Rattle.libyaml_composer.specs.Numbers.{is_id, is_set}
use Rattle.libyaml_composer.specs.Represents.{IsPart}
use Rattle.document_sizes.specs.ParserRuns.{TakesEvent}
use Rattle.document_sizes.specs.Runs.{LosesNothing}

-- a collection of this sort is open
abbrev pub IsOf : Sort → ℕ → Type 0
IsOf sequence m = is_set m ≡ false
IsOf mapping m = is_set m ≡ true

-- a key waits if a value comes before it
abbrev pub WaitsBy : (even : Bool) → ℤ → Type 0
WaitsBy true key = key ≡ pos 0
WaitsBy false key = is_id key ≡ true

abbrev pub Waits : Sort → ℤ → Values → Type 0
Waits sequence key vs = key ≡ pos 0
Waits mapping key vs = WaitsBy (is_even vs) key

-- the values that are left of an open collection, its end, and then r
pub record Frame (o : open_t) (rest r : List Event) : Type 0 where
  pub sort : Sort
  pub vals : Values
  pub start : Mark
  pub end : Mark
  pub all : rest ≡ values_events vals (end_at sort start end ∷ r)
  pub is_of : IsOf sort o.is_mapping
  pub waits : Waits sort o.key vals
  pub pairs : AllHavePairs vals

-- of these open collections, and then tail
abbrev pub Left : (tail : List Event) → List open_t → List Event → Type 0
Left tail [] rest = rest ≡ tail
Left tail (o ∷ s) rest = (r : List Event) × (Frame o rest r × Left tail s r)

-- in a document: its value is due, or left in part
pub data Inside (tail : List Event) (nodes : ℕ) (s : List open_t) (rest : List Event) : Type 0 where
  due : nodes ≡ 0 → s ≡ [] → (v : Value) → HasPairs v → rest ≡ value_events v tail → Inside tail nodes s rest
  left : Left tail s rest → Inside tail nodes s rest

-- a child that is handed to an open collection

child_frame : (i : ℤ) (o : open_t) (k : Sort) (v : Value) (vs : Values) (p q : Mark) (rest r : List Event) → is_id i ≡ true
    → IsOf k o.is_mapping → Waits k o.key (first_value v vs) → AllHavePairs vs
    → rest ≡ values_events vs (end_at k p q ∷ r) → Frame (open_with_child i o) rest r
child_frame i o k v vs p q rest r is m h pairs e = grind arith

-- what the composer tells where it takes an event

placed_is : (f : ℤ) (p : place_t) (c : Composer) (t : Told) → TakesEvent (if_placed f p c t).deed → if_placed f p c t ≡ t
placed_is f p c t k = grind arith

start_is : (m : ℕ) (f : ℤ) (p : place_t) (c : Composer) → TakesEvent (at_start m f p c).deed
    → at_start m f p c ≡ with_open_node m (new_id c) (adding c)
start_is m f p c k = grind arith

pub record AliasIs (f : ℤ) (p : place_t) (c : Composer) : Type 0 where
  id : is_id f ≡ true
  is : at_anchored_node (is_id f) f p c ≡ handing (pos 0) f c

alias_is : (f : ℤ) (p : place_t) (c : Composer) → TakesEvent (at_anchored_node (is_id f) f p c).deed → AliasIs f p c
alias_is f p c k = grind arith

part_of_child : (s : List open_t) → IsPart (deed_for s)
part_of_child s = grind arith

-- a part of the document was taken, and the rest is left
pub record Going (tail : List Event) (c : Composer) (rest : List Event) (t : Told) : Type 0 where
  pub part : IsPart t.deed
  pub all : LosesNothing t.deed c
  pub within : t.composer.is_within ≡ c.is_within
  pub inside : Inside tail t.composer.nodes t.composer.stack rest

module _ (tail : List Event) (c : Composer) (f : ℤ) (p : place_t) where
  abbrev at : List open_t → Composer
  at s = record c { stack = s }

  abbrev step : Event → List open_t → Told
  step e s = within_step (event_type e.content) f p (at s)

  -- with what the value of a collection goes on after a child of it, at the end of which the rest is r
  pub data AfterValue (s : List open_t) (r : List Event) : Type 0 where
    root : c.nodes ≡ 0 → s ≡ [] → r ≡ tail → AfterValue s r
    child : (o : open_t) (s' : List open_t) → s ≡ o ∷ s'
        → ((i : ℤ) → is_id i ≡ true → Left tail (open_with_child i o ∷ s') r) → AfterValue s r

  loses : (s : List open_t) (r : List Event) → AfterValue s r → LosesNothing (deed_for s) (at s)
  loses s r h = grind arith

  handed : (s : List open_t) (r : List Event) → AfterValue s r → (i : ℤ) → is_id i ≡ true → Left tail (holding_top i s) r
  handed s r h i id = grind arith

  -- at a value, after which the rest is r
  abbrev Taken : List open_t → List Event → Event → Type 0
  Taken s rest e = TakesEvent (step e s).deed → Going tail (at s) rest (step e s)

  at_value : (s : List open_t) (r : List Event) → AfterValue s r → (v : Value) → HasPairs v → (e : Event) (rest : List Event)
      → e ∷ rest ≡ value_events v r → Taken s rest e
  at_value s r next (alias_value a m n) pairs e rest is
      = subst (Taken s rest) (sym (head_same e (event (ev.Alias a) m n) rest r is)) (λ k.
      let h = alias_is f p (at s) k in
      subst (Going tail (at s) rest) (sym h.is) (record {
        part = part_of_child s;
        all = loses s r next;
        within = refl;
        inside = left (subst (Left tail (holding_top f s)) (sym (tail_same e (event (ev.Alias a) m n) rest r is))
            (handed s r next f h.id));
      }))
  at_value s r next (scalar_value x m n) pairs e rest is
      = subst (Taken s rest) (sym (head_same e (event (ev.Scalar x) m n) rest r is)) (λ k.
      subst (Going tail (at s) rest) (sym (placed_is f p (at s) (adding (at s)) k)) (record {
        part = part_of_child s;
        all = loses s r next;
        within = refl;
        inside = left (subst (Left tail (holding_top (new_id c) s)) (sym (tail_same e (event (ev.Scalar x) m n) rest r is))
            (handed s r next (new_id c) refl));
      }))
  at_value s r next (collection_value k a t i l m n vs b d) pairs e rest is
      = subst (Taken s rest) (sym (head_same e (start_at k a t i l m n) rest (values_events vs (end_at k b d ∷ r)) is))
      (begins k pairs (tail_same e (start_at k a t i l m n) rest (values_events vs (end_at k b d ∷ r)) is))
    where
      opened : (y : ℕ) (k : Sort) → IsOf k y → IsEven k vs → AllHavePairs vs → rest ≡ values_events vs (end_at k b d ∷ r)
          → Going tail (at s) rest (with_open_node y (new_id (at s)) (adding (at s)))
      opened y k sort even all is = record {
        part = part_of_child s;
        all = loses s r next;
        within = refl;
        inside = left (
          r,
          (
            record {
              sort = k;
              vals = vs;
              start = b;
              end = d;
              all = is;
              is_of = sort;
              waits = waits k even;
              pairs = all;
            },
            handed s r next (new_id c) refl,
          ),
        );
      }
        where
          waits : (k : Sort) → IsEven k vs → Waits k (pos 0) vs
          waits sequence even = refl
          waits mapping even = subst (λ (x : Bool). WaitsBy x (pos 0)) (sym even) refl

      begins : (k : Sort) → HasPairs (collection_value k a t i l m n vs b d) → rest ≡ values_events vs (end_at k b d ∷ r)
          → Taken s rest (start_at k a t i l m n)
      begins sequence pairs is k = subst (Going tail (at s) rest) (sym (start_is 0 f p (at s) k))
          (opened 0 sequence refl pairs.0 pairs.1 is)
      begins mapping pairs is k = subst (Going tail (at s) rest) (sym (start_is 1 f p (at s) k))
          (opened 1 mapping refl pairs.0 pairs.1 is)

  -- at the end of a collection
  at_end : (o : open_t) (s : List open_t) (k : Sort) (m n : Mark) (r : List Event) → Waits k o.key no_values → Left tail s r
      → (e : Event) (rest : List Event) → e ∷ rest ≡ end_at k m n ∷ r → Taken (o ∷ s) rest e
  at_end o s k m n r waits beyond e rest is = grind arith

  -- an event of a document's value, or the tail's first
  pub data Stepped (s : List open_t) (e : Event) (rest : List Event) : Type 0 where
    goes : Going tail (at s) rest (step e s) → Stepped s e rest
    ends : s ≡ [] → e ∷ rest ≡ tail → Stepped s e rest

  pub stepped : (s : List open_t) (e : Event) (rest : List Event) → Inside tail c.nodes s (e ∷ rest) → TakesEvent (step e s).deed
      → Stepped s e rest
  stepped s e rest (due none is v pairs all) k = goes (at_value s tail (root none is refl) v pairs e rest all k)
  stepped [] e rest (left l) k = ends refl l
  stepped (o ∷ s) e rest (left l) k = goes (by l.1.0.vals l.1.0.all l.1.0.waits l.1.0.pairs)
    where
      frame : Frame o (e ∷ rest) l.0
      frame = l.1.0

      by : (vs : Values) → e ∷ rest ≡ values_events vs (end_at frame.sort frame.start frame.end ∷ l.0)
          → Waits frame.sort o.key vs → AllHavePairs vs → Going tail (at (o ∷ s)) rest (step e (o ∷ s))
      by no_values is waits pairs = at_end o s frame.sort frame.start frame.end l.0 waits l.1.1 e rest is k
      by (first_value v vs) is waits pairs
          = at_value (o ∷ s) (values_events vs (end_at frame.sort frame.start frame.end ∷ l.0))
          (child o s refl (λ i id. (l.0, (child_frame i o frame.sort v vs frame.start frame.end _ l.0 id frame.is_of waits pairs.1 refl, l.1.1))))
          v pairs.0 e rest is k

-- In events that nest no collection ends in which a key waits, and no document in which a collection is open.
use Rattle.std.proofs.Common.{◌≡◌, ◌++◌, ◌∷◌, ◌∙◌, List, [], Bool, true, false, not, if◌then◌else◌, refl, sym, ap, subst}
use Rattle.libyaml_types.specs.Fault.{Fault}
use Rattle.libyaml_types.specs.declared.event.unnamed_yaml_event_t_data.{unnamed_yaml_event_t_data}
use Rattle.libyaml_types.specs.declared.event.unnamed_yaml_event_t_data.TheVariants as ev
use Rattle.libyaml_grammar.specs.grammar.Events.{Event, document_end_at, end_at, event, stream_end_at}
use Rattle.libyaml_grammar.specs.grammar.Nesting.{AllHavePairs, DocumentTexts, HasPairs, IsOpenDocument, NestsSoFar, TextsHavePairs, Value, Values, alias_value, collection_value, first_value, has_begun, is_even, no_texts, no_values, none_open, not_begun, one_open, scalar_value, text_after}
use Rattle.libyaml_grammar.specs.grammar.Nesting.{texts_events, value_events, values_events, whole}
use Rattle.libyaml_grammar.specs.grammar.Tokens.{Token}
use Rattle.libyaml_grammar.specs.grammar.Trees.{mapping, sequence}
use Rattle.libyaml_grammar.specs.runs.Runs.{Ending, IsRun}
use Rattle.libyaml_grammar.proofs.exported.NestingSoFar.{run_nests_so_far}

-- an open collection, by whether it is a mapping, and whether a key waits in it
abbrev pub Slot : Type 0
Slot = Bool × Bool

-- a child of a mapping is a key or its value
abbrev pub turned : (is_mapping waits : Bool) → Bool
turned false waits = waits
turned true waits = not waits

-- the collections that are open, the innermost first, with a child more
abbrev pub after_child : List Slot → List Slot
after_child [] = []
after_child (i ∷ s) = (i.0, turned i.0 i.1) ∷ s

-- where the innermost ends
abbrev pub AtEnd : List Slot → (List Slot → Type 0) → Type 0
AtEnd [] Then = Then []
AtEnd (i ∷ s) Then = (i.1 ≡ false) × Then s

-- What is so of an event, within a document or between documents: a collection ends without a key that waits, and a
-- document without an open collection.
abbrev pub AtEvent : (is_within : Bool) → unnamed_yaml_event_t_data → List Slot → (Bool → List Slot → Type 0) → Type 0
AtEvent false (ev.DocumentStart d) s Then = Then true []
AtEvent false _ s Then = Then false s
AtEvent true (ev.DocumentStart d) s Then = ⊥
AtEvent true (ev.DocumentEnd d) s Then = (s ≡ []) × Then false s
AtEvent true (ev.Alias a) s Then = Then true (after_child s)
AtEvent true (ev.Scalar a) s Then = Then true (after_child s)
AtEvent true (ev.SequenceStart a) s Then = Then true ((false, false) ∷ after_child s)
AtEvent true (ev.MappingStart a) s Then = Then true ((true, false) ∷ after_child s)
AtEvent true ev.SequenceEnd s Then = AtEnd s (Then true)
AtEvent true ev.MappingEnd s Then = AtEnd s (Then true)
AtEvent true _ s Then = Then true s

-- and so of each of these events
abbrev pub KeysPaired : (is_within : Bool) → List Slot → List Event → Type 0
KeysPaired b s [] = Unit {0}
KeysPaired b s (e ∷ r) = AtEvent b e.content s (λ c t. KeysPaired c t r)

-- what begins such events
at_end_more : (s : List Slot) (P Q : List Slot → Type 0) → ((t : List Slot) → P t → Q t) → AtEnd s P → AtEnd s Q
at_end_more [] P Q f h = f [] h
at_end_more (i ∷ s) P Q f h = (h.0, f s h.1)

at_more : (b : Bool) (k : unnamed_yaml_event_t_data) (s : List Slot) (P Q : Bool → List Slot → Type 0)
    → ((c : Bool) (t : List Slot) → P c t → Q c t) → AtEvent b k s P → AtEvent b k s Q
at_more false (ev.DocumentStart d) s P Q f h = f true [] h
at_more false _ s P Q f h = f false s h
at_more true (ev.DocumentStart d) s P Q f h = absurd h
at_more true (ev.DocumentEnd d) s P Q f h = (h.0, f false s h.1)
at_more true (ev.Alias a) s P Q f h = f true _ h
at_more true (ev.Scalar a) s P Q f h = f true _ h
at_more true (ev.SequenceStart a) s P Q f h = f true _ h
at_more true (ev.MappingStart a) s P Q f h = f true _ h
at_more true ev.SequenceEnd s P Q f h = at_end_more s (P true) (Q true) (f true) h
at_more true ev.MappingEnd s P Q f h = at_end_more s (P true) (Q true) (f true) h
at_more true _ s P Q f h = f true s h

prefix_paired : (f r : List Event) (b : Bool) (s : List Slot) → KeysPaired b s (f ++ r) → KeysPaired b s f
prefix_paired [] r b s h = tt
prefix_paired (e ∷ f) r b s h = at_more b e.content s (λ c t. KeysPaired c t (f ++ r)) (λ c t. KeysPaired c t f)
    (λ c t. prefix_paired f r c t) h

-- and what ends them, wherever it is taken to be between documents
somewhere_end : (s : List Slot) (P : List Slot → Type 0) → AtEnd s P → (t : List Slot) × P t
somewhere_end [] P h = ([], h)
somewhere_end (i ∷ s) P h = (s, h.1)

somewhere : (b : Bool) (k : unnamed_yaml_event_t_data) (s : List Slot) (P : Bool → List Slot → Type 0) → AtEvent b k s P
    → (c : Bool) × (t : List Slot) × P c t
somewhere false (ev.DocumentStart d) s P h = (true, [], h)
somewhere false _ s P h = (false, s, h)
somewhere true (ev.DocumentStart d) s P h = absurd h
somewhere true (ev.DocumentEnd d) s P h = (false, s, h.1)
somewhere true (ev.Alias a) s P h = (true, _, h)
somewhere true (ev.Scalar a) s P h = (true, _, h)
somewhere true (ev.SequenceStart a) s P h = (true, _, h)
somewhere true (ev.MappingStart a) s P h = (true, _, h)
somewhere true ev.SequenceEnd s P h = let (t, g) = somewhere_end s (P true) h in (true, t, g)
somewhere true ev.MappingEnd s P h = let (t, g) = somewhere_end s (P true) h in (true, t, g)
somewhere true _ s P h = (true, s, h)

apart_at : (b : Bool) (k : unnamed_yaml_event_t_data) (s t : List Slot) (P : Bool → List Slot → Type 0)
    → ((c : Bool) (u : List Slot) → P c u → P false t) → AtEvent b k s P → AtEvent false k t P
apart_at false (ev.DocumentStart d) s t P f h = h
apart_at true (ev.DocumentStart d) s t P f h = absurd h
apart_at b k s t P f h = let (c, u, g) = somewhere b k s P h in f c u g

apart : (l : List Event) (b : Bool) (s t : List Slot) → KeysPaired b s l → KeysPaired false t l
apart [] b s t h = tt
apart (e ∷ l) b s t h = apart_at b e.content s t (λ c u. KeysPaired c u l) (λ c u. apart l c u t) h

suffix_paired : (f r : List Event) (b : Bool) (s t : List Slot) → KeysPaired b s (f ++ r) → KeysPaired false t r
suffix_paired [] r b s t h = apart r b s t h
suffix_paired (e ∷ f) r b s t h =
    let (c, u, g) = somewhere b e.content s (λ c u. KeysPaired c u (f ++ r)) h in
    suffix_paired f r c u t g

-- whether a key waits after these values
abbrev waits_after : (is_mapping : Bool) → Values → (waits : Bool) → Bool
waits_after m no_values w = w
waits_after m (first_value v vs) w = waits_after m vs (turned m w)

none_waits : (vs : Values) (w : Bool) → waits_after false vs w ≡ w
none_waits no_values w = refl
none_waits (first_value v vs) w = none_waits vs w

in_turn : (vs : Values) (w : Bool) → waits_after true vs w ≡ (if is_even vs then w else not w)
in_turn no_values w = refl
in_turn (first_value v vs) w = in_turn vs (not w) ∙ go (is_even vs) w
  where
    go : (b w : Bool) → (if b then not w else not (not w)) ≡ (if not b then w else not w)
    go true w = refl
    go false true = refl
    go false false = refl

even_waits : (vs : Values) → is_even vs ≡ true → waits_after true vs false ≡ false
even_waits vs is = in_turn vs false ∙ ap (λ (b : Bool). if b then false else true) is

mutual
  value_paired : (v : Value) → HasPairs v → (s : List Slot) (r : List Event) → KeysPaired true (after_child s) r
      → KeysPaired true s (value_events v r)
  value_paired (alias_value a m n) p s r h = h
  value_paired (scalar_value c m n) p s r h = h
  value_paired (collection_value sequence a t i l m n vs p q) pairs s r h =
      values_paired vs pairs.1 false false (after_child s) (end_at sequence p q ∷ r) (none_waits vs false, h)
  value_paired (collection_value mapping a t i l m n vs p q) pairs s r h =
      values_paired vs pairs.1 true false (after_child s) (end_at mapping p q ∷ r) (even_waits vs pairs.0, h)

  values_paired : (vs : Values) → AllHavePairs vs → (m w : Bool) (s : List Slot) (r : List Event)
      → KeysPaired true ((m, waits_after m vs w) ∷ s) r → KeysPaired true ((m, w) ∷ s) (values_events vs r)
  values_paired no_values p m w s r h = h
  values_paired (first_value v vs) p m w s r h =
      value_paired v p.0 ((m, w) ∷ s) (values_events vs r) (values_paired vs p.1 m (turned m w) s r h)

texts_paired : (ts : DocumentTexts) → TextsHavePairs ts → (r : List Event) → KeysPaired false [] r
    → KeysPaired false [] (texts_events ts r)
texts_paired no_texts p r h = h
texts_paired (text_after ts d m n v i p q) pairs r h =
    texts_paired ts pairs.0 (event (ev.DocumentStart d) m n ∷ value_events v (document_end_at i p q ∷ r))
    (value_paired v pairs.1 [] (document_end_at i p q ∷ r) (refl, h))

open_paired : (l : List Event) → IsOpenDocument l → KeysPaired false [] l
open_paired l (none_open e) = subst (KeysPaired false []) (sym e) tt
open_paired l (one_open d m n front e b) = subst (KeysPaired false []) (sym e)
    (prefix_paired front b.rest true [] (subst (KeysPaired true []) b.all (value_paired b.val b.pairs [] [] tt)))

nested_paired : (l : List Event) → NestsSoFar l → KeysPaired false [] l
nested_paired l (not_begun e) = subst (KeysPaired false []) (sym e) tt
nested_paired l (has_begun n) = subst (KeysPaired false []) (sym n.all)
    (texts_paired n.texts n.pairs n.open_document (open_paired n.open_document n.is_open))
nested_paired l (whole n) = subst (KeysPaired false []) (sym n.all)
    (texts_paired n.texts n.pairs (stream_end_at n.end n.end_end ∷ []) tt)

-- the events of a run that are still to come, where no document is open, or is taken to be
pub paired_to_come : (l : List Token) (f : Fault) (given to_come : List Event) (x : Ending) → IsRun l f (given ++ to_come) x
    → KeysPaired false [] to_come
paired_to_come l f given to_come x run =
    suffix_paired given to_come false [] [] (nested_paired (given ++ to_come) (run_nests_so_far l f (given ++ to_come) x run))

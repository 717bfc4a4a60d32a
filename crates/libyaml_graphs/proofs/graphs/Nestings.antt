-- Events nest in one way.
use Rattle.std.proofs.Common.{◌≡◌, ◌∷◌, ℕ, List, [], Bool, refl, sym, ap, ◌∙◌, arith}
use Rattle.libyaml_types.specs.declared.event.unnamed_yaml_event_t_data.{unnamed_yaml_event_t_data}
use Rattle.libyaml_types.specs.declared.event.unnamed_yaml_event_t_data.TheVariants as ev
use Rattle.libyaml_types.specs.declared.event.unnamed_yaml_event_t_data_document_start.{unnamed_yaml_event_t_data_document_start}
use Rattle.libyaml_grammar.specs.grammar.Events.{Event, document_end_at, end_at, event, stream_end_at}
use Rattle.libyaml_grammar.specs.grammar.Nesting.{IsNested, DocumentTexts, Value, Values, alias_value, collection_value, first_value, no_texts, no_values, scalar_value, text_after, texts_events, value_events, values_events}
use Rattle.libyaml_grammar.specs.grammar.Tokens.{Mark}
use Rattle.libyaml_grammar.specs.grammar.Trees.{mapping, sequence}
use Rattle.libyaml_grammar.proofs.exported.Injectivity.{tail_same}

-- with what a value begins
abbrev kind : unnamed_yaml_event_t_data → ℕ
kind (ev.Alias a) = 0
kind (ev.Scalar s) = 1
kind (ev.SequenceStart s) = 2
kind (ev.MappingStart s) = 3
kind (ev.DocumentStart d) = 4
kind _ = 5

abbrev first_kind : List Event → ℕ
first_kind [] = 5
first_kind (e ∷ l) = kind e.content

-- no value begins with the end of a collection or of a document
no_value : (v : Value) (r : List Event) → first_kind (value_events v r) ≡ 5 → ⊥
no_value (alias_value a m n) r e = cc
no_value (scalar_value s m n) r e = cc
no_value (collection_value sequence a t i s m n vs p q) r e = cc
no_value (collection_value mapping a t i s m n vs p q) r e = cc

record One (v : Value) (r : List Event) (w : Value) (s : List Event) : Type 0 where
  pub value_is : v ≡ w
  pub rest_is : r ≡ s

record All (vs : Values) (r : List Event) (ws : Values) (s : List Event) : Type 0 where
  values_are : vs ≡ ws
  rest_is : r ≡ s

mutual
  value_at : (v w : Value) (r s : List Event) → value_events v r ≡ value_events w s → One v r w s
  value_at (alias_value a m n) (alias_value b p q) r s e = record { value_is = grind arith; rest_is = cc }
  value_at (scalar_value a m n) (scalar_value b p q) r s e = record { value_is = grind arith; rest_is = cc }
  value_at (collection_value sequence a t x y m n vs p q) (collection_value sequence b u z w m' n' ws p' q') r s e =
      grind (arith, values_at vs ws (end_at sequence p q) (end_at sequence p' q') r s refl refl (cc))
  value_at (collection_value mapping a t x y m n vs p q) (collection_value mapping b u z w m' n' ws p' q') r s e =
      grind (arith, values_at vs ws (end_at mapping p q) (end_at mapping p' q') r s refl refl (cc))
  value_at _ _ r s e = absurd (grind arith)

  values_at : (vs ws : Values) (a b : Event) (r s : List Event) → kind a.content ≡ 5 → kind b.content ≡ 5
      → values_events vs (a ∷ r) ≡ values_events ws (b ∷ s) → All vs (a ∷ r) ws (b ∷ s)
  values_at no_values no_values a b r s i j e = record { values_are = refl; rest_is = e }
  values_at no_values (first_value w ws) a b r s i j e = absurd (no_value w (values_events ws (b ∷ s)) (sym (ap first_kind e) ∙ i))
  values_at (first_value v vs) no_values a b r s i j e = absurd (no_value v (values_events vs (a ∷ r)) (ap first_kind e ∙ j))
  values_at (first_value v vs) (first_value w ws) a b r s i j e =
      let h = value_at v w (values_events vs (a ∷ r)) (values_events ws (b ∷ s)) e in
      let l = values_at vs ws a b r s i j h.rest_is in
      record { values_are = cc; rest_is = l.rest_is }

pub one_value : (v w : Value) (r s : List Event) → value_events v r ≡ value_events w s → (v ≡ w) × (r ≡ s)
one_value v w r s e = let h = value_at v w r s e in (h.value_is, h.rest_is)

-- documents, the first one first
data Docs : Type 0 where
  none : Docs
  one : unnamed_yaml_event_t_data_document_start → Mark → Mark → Value → Bool → Mark → Mark → Docs → Docs

abbrev docs_events : Docs → List Event → List Event
docs_events none r = r
docs_events (one d m n v i p q ds) r = event (ev.DocumentStart d) m n ∷ value_events v
    (document_end_at i p q ∷ docs_events ds r)

abbrev before : DocumentTexts → Docs → Docs
before no_texts ds = ds
before (text_after ts d m n v i p q) ds = before ts (one d m n v i p q ds)

abbrev following : DocumentTexts → Docs → DocumentTexts
following ts none = ts
following ts (one d m n v i p q ds) = following (text_after ts d m n v i p q) ds

before_events : (ts : DocumentTexts) (ds : Docs) (r : List Event)
    → texts_events ts (docs_events ds r) ≡ docs_events (before ts ds) r
before_events no_texts ds r = refl
before_events (text_after ts d m n v i p q) ds r = before_events ts (one d m n v i p q ds) r

both_ways : (ts : DocumentTexts) (ds : Docs) → following no_texts (before ts ds) ≡ following ts ds
both_ways no_texts ds = refl
both_ways (text_after ts d m n v i p q) ds = both_ways ts (one d m n v i p q ds)

start_end : (e : Event) (d : unnamed_yaml_event_t_data_document_start) (m n : Mark) (l r : List Event) → kind e.content ≡ 5
    → e ∷ l ≡ event (ev.DocumentStart d) m n ∷ r → ⊥
start_end e d m n l r i h = cc (sym i ∙ ap first_kind h)

one_document : (d c : unnamed_yaml_event_t_data_document_start) (m n p q m' n' p' q' : Mark) (v w : Value) (i j : Bool) (ds es : Docs)
    → event (ev.DocumentStart d) m n ≡ event (ev.DocumentStart c) m' n' → document_end_at i p q ≡ document_end_at j p' q' → v ≡ w → ds ≡ es
    → one d m n v i p q ds ≡ one c m' n' w j p' q' es
one_document d c m n p q m' n' p' q' v w i j ds es e f g h = grind arith

one_docs : (ds es : Docs) (a b : Event) (r s : List Event) → kind a.content ≡ 5 → kind b.content ≡ 5
    → docs_events ds (a ∷ r) ≡ docs_events es (b ∷ s) → ds ≡ es
one_docs none none a b r s x y e = refl
one_docs none (one d m n v i p q es) a b r s x y e = absurd (start_end a d m n r _ x e)
one_docs (one d m n v i p q ds) none a b r s x y e = absurd (start_end b d m n s _ y (sym e))
one_docs (one d m n v i p q ds) (one c m' n' w j p' q' es) a b r s x y e =
    let l = one_value v w (document_end_at i p q ∷ docs_events ds (a ∷ r)) (document_end_at j p' q' ∷ docs_events es (b ∷ s)) (cc) in
    let more = one_docs ds es a b r s x y (cc (l.1)) in
    one_document d c m n p q m' n' p' q' v w i j ds es (cc) (cc (l.1)) l.0 more

one_texts : (ts us : DocumentTexts) (m n p q : Mark) → texts_events ts (stream_end_at m n ∷ []) ≡ texts_events us
    (stream_end_at p q ∷ []) → ts ≡ us
one_texts ts us m n p q e = sym (both_ways ts none) ∙ (ap (λ (x : Docs). following no_texts x) same ∙ both_ways us none)
  where
    same : before ts none ≡ before us none
    same = one_docs (before ts none) (before us none) (stream_end_at m n) (stream_end_at p q) [] [] refl refl
        (sym (before_events ts none (stream_end_at m n ∷ [])) ∙ (e ∙ before_events us none (stream_end_at p q ∷ [])))

pub one_nesting : (l : List Event) (a b : IsNested l) → a.texts ≡ b.texts
one_nesting l a b = grind (arith, one_texts, tail_same)

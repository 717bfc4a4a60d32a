-- Events that nest so far go on to events that nest.
use Rattle.std.proofs.Common.{◌≡◌, ◌∷◌, ◌++◌, ◌∙◌, List, [], true, refl, sym, ap, subst, append-nil, append_assoc}
use Rattle.libyaml_types.specs.declared.enums.yaml_encoding_t.TheVariants.{YAML_UTF8_ENCODING}
use Rattle.libyaml_types.specs.declared.event.unnamed_yaml_event_t_data.TheVariants as ev
use Rattle.libyaml_grammar.specs.grammar.Events.{Event, document_end_at, end_at, event, start_at, stream_end_at, stream_start_at}
use Rattle.libyaml_grammar.specs.grammar.Nesting.{DocumentTexts, HasBegun, IsNested, IsOpenDocument, NestsSoFar, Value, Values, alias_value, collection_value, first_value, has_begun, no_texts, no_values, none_open, not_begun, one_open, scalar_value, text_after, texts_events, value_events}
use Rattle.libyaml_grammar.specs.grammar.Nesting.{values_events, whole}
use Rattle.libyaml_grammar.specs.grammar.Tokens.{Mark}

mutual
  value_more : (v : Value) (a r : List Event) → value_events v (a ++ r) ≡ value_events v a ++ r
  value_more (alias_value x m n) a r = refl
  value_more (scalar_value s m n) a r = refl
  value_more (collection_value k x t i s m n vs p q) a r =
      ap (λ (l : List Event). start_at k x t i s m n ∷ l) (values_more vs (end_at k p q ∷ a) r)

  values_more : (vs : Values) (a r : List Event) → values_events vs (a ++ r) ≡ values_events vs a ++ r
  values_more no_values a r = refl
  values_more (first_value v vs) a r = ap (value_events v) (values_more vs a r) ∙ value_more v (values_events vs a) r

texts_more : (ts : DocumentTexts) (a r : List Event) → texts_events ts (a ++ r) ≡ texts_events ts a ++ r
texts_more no_texts a r = refl
texts_more (text_after ts d m n v i p q) a r =
    ap (λ (l : List Event). texts_events ts (event (ev.DocumentStart d) m n ∷ l)) (value_more v (document_end_at i p q ∷ a) r)
    ∙ texts_more ts (event (ev.DocumentStart d) m n ∷ value_events v (document_end_at i p q ∷ a)) r

abbrev pub GoesOn : List Event → Type 0
GoesOn l = (rest : List Event) × IsNested (l ++ rest)

-- any mark does
module _ (m : Mark) where
  abbrev last : List Event
  last = stream_end_at m m ∷ []

  begun : (l : List Event) → HasBegun l → GoesOn l
  begun l b = go b.open_document b.all b.is_open
    where
      go : (o : List Event) → l ≡ stream_start_at b.head b.start b.start_end ∷ texts_events b.texts o → IsOpenDocument o → GoesOn l
      go o e (none_open none) = (
        last,
        record {
          head = b.head;
          start = b.start;
          start_end = b.start_end;
          texts = b.texts;
          end = m;
          end_end = m;
          all = ap (λ (x : List Event). x ++ last) e
              ∙ ap (λ (x : List Event). stream_start_at b.head b.start b.start_end ∷ x)
              (sym (texts_more b.texts o last) ∙ ap (λ (x : List Event). texts_events b.texts (x ++ last)) none);
          pairs = b.pairs;
        },
      )
      go o e (one_open d p q front is w) =
          let end = document_end_at true m m ∷ last in (
            w.rest ++ end,
            record {
              head = b.head;
              start = b.start;
              start_end = b.start_end;
              texts = text_after b.texts d p q w.val true m m;
              end = m;
              end_end = m;
              all = ap (λ (x : List Event). x ++ (w.rest ++ end)) e
                  ∙ ap (λ (x : List Event). stream_start_at b.head b.start b.start_end ∷ x)
                  (sym (texts_more b.texts o (w.rest ++ end))
                  ∙ ap (λ (x : List Event). texts_events b.texts (x ++ (w.rest ++ end))) is
                  ∙ ap (λ (x : List Event). texts_events b.texts (event (ev.DocumentStart d) p q ∷ x))
                  (sym (append_assoc front w.rest end) ∙ ap (λ (x : List Event). x ++ end) (sym w.all)
                  ∙ sym (value_more w.val [] end)));
              pairs = (b.pairs, w.pairs);
            },
          )

  pub goes_on : (l : List Event) → NestsSoFar l → GoesOn l
  goes_on l (not_begun e) = (
    stream_start_at (record { encoding = YAML_UTF8_ENCODING }) m m ∷ last,
    record {
      head = record { encoding = YAML_UTF8_ENCODING };
      start = m;
      start_end = m;
      texts = no_texts;
      end = m;
      end_end = m;
      all = ap (λ (x : List Event). x ++ (stream_start_at (record { encoding = YAML_UTF8_ENCODING }) m m ∷ last)) e;
      pairs = tt;
    },
  )
  goes_on l (has_begun b) = begun l b
  goes_on l (whole n) = ([], subst IsNested (sym (append-nil l)) n)

-- Events that nest (docs/DEFINITIONS.md, "Nesting"; YAML 1.1, 3.1): a stream of documents, each of one value. A value is
-- an alias, a scalar, or a collection with its values between its start and its end; a mapping holds keys and values in
-- turn.
use Rattle.std.specs.Prelude.{◌≡◌, ◌++◌, ℕ, List, [], ◌∷◌, Option, Bool, true, not}
use Rattle.libyaml_types.specs.declared.event.unnamed_yaml_event_t_data_alias.{unnamed_yaml_event_t_data_alias}
use Rattle.libyaml_types.specs.declared.event.unnamed_yaml_event_t_data_document_start.{unnamed_yaml_event_t_data_document_start}
use Rattle.libyaml_types.specs.declared.event.unnamed_yaml_event_t_data_scalar.{unnamed_yaml_event_t_data_scalar}
use Rattle.libyaml_types.specs.declared.event.unnamed_yaml_event_t_data.TheVariants as ev
use Rattle.libyaml_grammar.specs.grammar.Events.{Event, Layout, document_end_at, end_at, event, start_at, stream_end_at, stream_start_at}
use Rattle.libyaml_grammar.specs.grammar.Tokens.{Mark, StreamHead}
use Rattle.libyaml_grammar.specs.grammar.Trees.{Sort, mapping, sequence}

mutual
  pub data Value : Type 0 where
    alias_value : unnamed_yaml_event_t_data_alias → Mark → Mark → Value
    scalar_value : unnamed_yaml_event_t_data_scalar → Mark → Mark → Value
    collection_value : Sort → (anchor tag : Option (List ℕ)) → (implicit : Bool) → Layout → Mark → Mark → Values
        → Mark → Mark → Value

  pub data Values : Type 0 where
    no_values : Values
    first_value : Value → Values → Values

-- their events, and after them r
abbrev mutual
  pub value_events : Value → List Event → List Event
  value_events (alias_value a m n) r = event (ev.Alias a) m n ∷ r
  value_events (scalar_value s m n) r = event (ev.Scalar s) m n ∷ r
  value_events (collection_value k a t i s m n vs p q) r = start_at k a t i s m n ∷ values_events vs (end_at k p q ∷ r)

  pub values_events : Values → List Event → List Event
  values_events no_values r = r
  values_events (first_value v vs) r = value_events v (values_events vs r)

-- a mapping has an even number of values
abbrev pub is_even : Values → Bool
is_even no_values = true
is_even (first_value v vs) = not (is_even vs)

abbrev pub IsEven : Sort → Values → Type 0
IsEven sequence vs = Unit {0}
IsEven mapping vs = is_even vs ≡ true

-- and so has each mapping in a value
abbrev mutual
  pub HasPairs : Value → Type 0
  HasPairs (alias_value a m n) = Unit {0}
  HasPairs (scalar_value s m n) = Unit {0}
  HasPairs (collection_value k a t i s m n vs p q) = IsEven k vs × AllHavePairs vs

  pub AllHavePairs : Values → Type 0
  AllHavePairs no_values = Unit {0}
  AllHavePairs (first_value v vs) = HasPairs v × AllHavePairs vs

-- whole documents: start, value and end
pub data DocumentTexts : Type 0 where
  no_texts : DocumentTexts
  text_after : DocumentTexts → unnamed_yaml_event_t_data_document_start → Mark → Mark → Value → (is_implicit : Bool) → Mark
      → Mark → DocumentTexts

abbrev pub texts_events : DocumentTexts → List Event → List Event
texts_events no_texts r = r
texts_events (text_after ts d m n v i p q) r =
    texts_events ts (event (ev.DocumentStart d) m n ∷ value_events v (document_end_at i p q ∷ r))

abbrev pub TextsHavePairs : DocumentTexts → Type 0
TextsHavePairs no_texts = Unit {0}
TextsHavePairs (text_after ts d m n v i p q) = TextsHavePairs ts × HasPairs v

-- The starts and ends of the stream, of its documents and of its collections match, and each mapping has pairs.
pub record IsNested (l : List Event) : Type 0 where
  pub head : StreamHead
  pub start : Mark
  pub start_end : Mark
  pub texts : DocumentTexts
  pub end : Mark
  pub end_end : Mark
  pub all : l ≡ (stream_start_at head start start_end ∷ texts_events texts (stream_end_at end end_end ∷ []))
  pub pairs : TextsHavePairs texts

-- the events begin those of one value
pub record BeginsValue (front : List Event) : Type 0 where
  pub val : Value
  pub rest : List Event
  pub all : value_events val [] ≡ front ++ rest
  pub pairs : HasPairs val

-- no document is open; or one is: its start, and events that begin those of its value
pub data IsOpenDocument (l : List Event) : Type 0 where
  none_open : l ≡ [] → IsOpenDocument l
  one_open : (d : unnamed_yaml_event_t_data_document_start) (m n : Mark) (front : List Event)
      → l ≡ event (ev.DocumentStart d) m n ∷ front → BeginsValue front
      → IsOpenDocument l

-- the stream's start, whole documents, and at most one that is open
pub record HasBegun (l : List Event) : Type 0 where
  pub head : StreamHead
  pub start : Mark
  pub start_end : Mark
  pub texts : DocumentTexts
  pub open_document : List Event
  pub all : l ≡ stream_start_at head start start_end ∷ texts_events texts open_document
  pub pairs : TextsHavePairs texts
  pub is_open : IsOpenDocument open_document

-- events that nest as far as they go
pub data NestsSoFar (l : List Event) : Type 0 where
  not_begun : l ≡ [] → NestsSoFar l
  has_begun : HasBegun l → NestsSoFar l
  whole : IsNested l → NestsSoFar l

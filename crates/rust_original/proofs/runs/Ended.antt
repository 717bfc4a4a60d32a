-- Events that nest to the end have the stream end event, and so a run that fails has none that do.
use Rattle.std.proofs.Common.{◌≡◌, ◌∷◌, List, [], false, arith}
use Rattle.libyaml_types.specs.Fault.{Fault}
use Rattle.libyaml_types.specs.declared.event.unnamed_yaml_event_t_data.TheVariants as ev
use Rattle.libyaml_grammar.specs.runs.Runs.{Ending, Ends, Fails}
use Rattle.libyaml_grammar.specs.grammar.Events.{Event, document_end_at, end_at as end_event, event}
use Rattle.libyaml_grammar.specs.grammar.Nesting.{IsNested, DocumentTexts, Value, Values, alias_value, collection_value, first_value, no_texts, no_values, scalar_value, text_after, texts_events, value_events, values_events}
use Rattle.libyaml_grammar.specs.grammar.Trees.{mapping, sequence}
use Rattle.libyaml_events.specs.sources.History.{is_stream_end}

-- none of these is the stream's end
abbrev pub NoEnd : List Event → Type 0
NoEnd [] = Unit {0}
NoEnd (e ∷ l) = (is_stream_end e ≡ false) × NoEnd l

mutual
  after_value : (v : Value) (r : List Event) → NoEnd (value_events v r) → NoEnd r
  after_value (alias_value a m n) r h = h.1
  after_value (scalar_value s m n) r h = h.1
  after_value (collection_value sequence a t i s m n vs p q) r h
      = (after_values vs (end_event sequence p q ∷ r) h.1).1
  after_value (collection_value mapping a t i s m n vs p q) r h = (after_values vs (end_event mapping p q ∷ r) h.1).1

  after_values : (vs : Values) (r : List Event) → NoEnd (values_events vs r) → NoEnd r
  after_values no_values r h = h
  after_values (first_value v vs) r h = after_values vs r (after_value v (values_events vs r) h)

after_texts : (ts : DocumentTexts) (r : List Event) → NoEnd (texts_events ts r) → NoEnd r
after_texts no_texts r h = h
after_texts (text_after ts d m n v i p q) r h
    = (after_value v (document_end_at i p q ∷ r)
    (after_texts ts (event (ev.DocumentStart d) m n ∷ value_events v (document_end_at i p q ∷ r)) h).1).1

unended : (e : List Event) → NoEnd e → IsNested e → ⊥
unended e n h = grind (arith, after_texts)

pub ends_whole : (e : List Event) (x : Ending) → ((g : Fault) → x ≡ Fails g → NoEnd e) → IsNested e → x ≡ Ends
ends_whole e x n h = grind (arith, unended)

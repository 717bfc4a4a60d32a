-- The original's loader loads what this repository's does.
use Rattle.std.proofs.Common.{◌≡◌, ◌∷◌, ℕ, List, [], Option, None, Bool, refl, sym, ap, ◌∙◌, subst, arith}
use Rattle.libyaml_types.specs.declared.event.unnamed_yaml_event_t_data.TheVariants as ev
use Rattle.libyaml_documents.specs.declared.node.yaml_node_t.{yaml_node_t}
use Rattle.libyaml_types.specs.Fault.{Fault}
use Rattle.libyaml_grammar.specs.runs.Runs.{Ending, Ends}
use Rattle.libyaml_grammar.specs.grammar.Events.{Event, document_end_at, end_at as end_event, event, stream_end_at}
use Rattle.libyaml_grammar.specs.grammar.Nesting.{HasBegun, HasPairs, IsNested, IsOpenDocument, DocumentTexts, TextsHavePairs, Value, Values, alias_value, collection_value, first_value, no_texts, no_values, scalar_value, NestsSoFar, text_after, texts_events, value_events, values_events}
use Rattle.libyaml_grammar.specs.grammar.Tokens.{Mark}
use Rattle.libyaml_grammar.specs.grammar.Trees.{mapping, sequence}
use Rattle.libyaml_graphs.specs.graphs.GraphParts.{Opening, graph, parts}
use Rattle.libyaml_graphs.specs.loads.Loads.{Load, after_document, end_of_document, last_load, load_then, loads_by}
use Rattle.libyaml_graphs.specs.loads.Bounds.{bounded_loads, first_stop}
use Rattle.libyaml_graphs.proofs.exported.BoundedLoader.{within_unbuilt}
use Rattle.libyaml_graphs.proofs.exported.Building.{prefix_closes, value_after, unbuilt}
use Rattle.libyaml_graphs.proofs.exported.Building as built
use Rattle.libyaml_types.specs.declared.event.unnamed_yaml_event_t_data_document_start.{unnamed_yaml_event_t_data_document_start}
use Rattle.rust_original.specs.loader.Loader as orig_loader
use Rattle.rust_original.proofs.loads.Halves.{halves}
use Rattle.rust_original.proofs.loads.Documents.{document_same}
use Rattle.rust_original.proofs.loads.Keys.{none_half, value_keys}

-- no document ends within a value
mutual
  value_left : (v : Value) (r : List Event) → after_document (value_events v r) ≡ after_document r
  value_left (alias_value a m n) r = refl
  value_left (scalar_value s m n) r = refl
  value_left (collection_value sequence a t i s m n vs p q) r = values_left vs (end_event sequence p q ∷ r)
  value_left (collection_value mapping a t i s m n vs p q) r = values_left vs (end_event mapping p q ∷ r)

  values_left : (vs : Values) (r : List Event) → after_document (values_events vs r) ≡ after_document r
  values_left no_values r = refl
  values_left (first_value v vs) r = value_left v (values_events vs r) ∙ values_left vs r

-- loads within the bound
module _ (limit : ℕ) where
  abbrev Agree : Ending → List Event → Type 0
  Agree x r = orig_loader.original_loads_from limit orig_loader.between r x ≡ bounded_loads limit r x

  begun_same : (x : Ending) (o : Opening) (r : List Event)
      → orig_loader.original_loads_from limit (orig_loader.within o orig_loader.new_loader) r x
      ≡ load_then (first_stop limit [] [] (parts r)) (end_of_document r) o (halves (built.held_graph [] (parts r)))
      (last_load x) (orig_loader.original_loads_from limit orig_loader.between (after_document r) x)
  begun_same x o r = document_same limit o x r [] [] unbuilt [] (within_unbuilt limit) (λ a. refl) tt

  text_agrees : (x : Ending) (d : unnamed_yaml_event_t_data_document_start) (m n : Mark) (v : Value) (i : Bool)
      (p q : Mark) (r : List Event) → HasPairs v → Agree x r
      → Agree x (event (ev.DocumentStart d) m n ∷ value_events v (document_end_at i p q ∷ r))
  text_agrees x d m n v i p q r h g =
      let o : Opening = record { start = d; mark = m } in
      let V : List Event = value_events v (document_end_at i p q ∷ r) in
      begun_same x o V
      ∙ (ap (λ (ns : List yaml_node_t). load_then (first_stop limit [] [] (parts V)) (end_of_document V) o ns (last_load x)
      (orig_loader.original_loads_from limit orig_loader.between (after_document V) x))
      (none_half (built.held_graph [] (parts V)) (value_keys v [] (document_end_at i p q ∷ r) h tt) ∙ built.graph_nodes
      (parts V) [])
      ∙ ap (λ (l : List Load). load_then (first_stop limit [] [] (parts V)) (end_of_document V) o (graph [] (parts V))
      (last_load x) l)
      (ap (λ (l : List Event). orig_loader.original_loads_from limit orig_loader.between l x) (value_left v (document_end_at i p q ∷ r)) ∙
      (g ∙ sym (ap (loads_by (first_stop limit [] []) x) (value_after v (document_end_at i p q ∷ r))))))

  texts_agree : (x : Ending) (ts : DocumentTexts) (r : List Event) → TextsHavePairs ts → Agree x r → Agree x (texts_events ts r)
  texts_agree x no_texts r h g = g
  texts_agree x (text_after ts d m n v i p q) r h g
      = texts_agree x ts (event (ev.DocumentStart d) m n ∷ value_events v (document_end_at i p q ∷ r)) h.0
      (text_agrees x d m n v i p q r h.1 g)

  cut_off : (f : Option Fault) (o : Opening) (a b : List yaml_node_t) (z : Load) (l k : List Load)
      → load_then f None o a z l ≡ load_then f None o b z k
  cut_off f o a b z l k = grind arith

  open_agrees : (x : Ending) (l : List Event) → IsOpenDocument l → Agree x l
  open_agrees x l h = grind (arith, begun_same, prefix_closes, cut_off)

  pub begun_agree : (l : List Event) → HasBegun l → (x : Ending) → Agree x l
  begun_agree l h x
      = subst (Agree x) (sym h.all)
      (texts_agree x h.texts h.open_document h.pairs (open_agrees x h.open_document h.is_open))

  pub whole_agree : (l : List Event) → IsNested l → Agree Ends l
  whole_agree l h
      = subst (Agree Ends) (sym h.all) (texts_agree Ends h.texts (stream_end_at h.end h.end_end ∷ []) h.pairs refl)

-- events that nest, whole ones with the stream's end alone
pub nested_agree : (n : ℕ) (e : List Event) (x : Ending) → NestsSoFar e → (IsNested e → x ≡ Ends) → Agree n x e
nested_agree n e x h w = grind (arith, begun_agree, whole_agree)

-- What documents load as, by the trees of their values: whole ones, and one whose end is missing.
use Rattle.std.proofs.Common.{◌≡◌, ◌++◌, List, [], ◌∷◌, Option, Some, None, Bool, refl, sym, ap, ◌∙◌, arith}
use Rattle.libyaml_types.specs.declared.event.unnamed_yaml_event_t_data.TheVariants as ev
use Rattle.libyaml_graphs.specs.loads.GraphLaws as law
use Rattle.libyaml_graphs.specs.loads.GraphLaws.{NestedLoads, fault_or, open_load}
use Rattle.libyaml_types.specs.declared.event.unnamed_yaml_event_t_data_document_start.{unnamed_yaml_event_t_data_document_start}
use Rattle.libyaml_grammar.specs.grammar.Events.{Event, document_end_at, event, stream_end_at}
use Rattle.libyaml_types.specs.Fault.{Fault}
use Rattle.libyaml_grammar.specs.grammar.Nesting.{BeginsValue, HasBegun, IsNested, NestsSoFar, DocumentTexts, Value, has_begun, no_texts, not_begun, text_after, texts_events, value_events, whole}
use Rattle.libyaml_grammar.specs.runs.Runs.{Ending, Ends}
use Rattle.libyaml_grammar.specs.grammar.Tokens.{Mark}
use Rattle.libyaml_documents.specs.declared.node.yaml_node_t.{yaml_node_t}
use Rattle.libyaml_graphs.specs.graphs.ComposerFaults.{composer_fault}
use Rattle.libyaml_graphs.specs.graphs.Graphs.{nodes_of}
use Rattle.libyaml_graphs.specs.graphs.GraphParts.{Closing, Opening, Part, closing_of, part_of, parts, with_part}
use Rattle.libyaml_graphs.specs.loads.Loads.{Load, begun, begun_after, end_of_document, last_load, load_then, loads, loads_of}
use Rattle.libyaml_grammar.proofs.exported.Splits.{value_splits}
use Rattle.libyaml_graphs.proofs.graphs.TreeGraphs.{value_graph}
use Rattle.libyaml_graphs.proofs.exported.Roots.{value_keeps}

-- a value ends no document
pub value_closing : (v : Value) (r : List Event) → end_of_document (value_events v r) ≡ end_of_document r
value_closing v r = value_keeps (λ (l : List Event). end_of_document l ≡ end_of_document r)
    (λ e s i k. ap (λ (c : Option Closing). elim c [ Some y ↦ Some y | None ↦ end_of_document s ]) i.1 ∙ k) v r refl

pub value_after : (v : Value) (r : List Event) → begun_after (value_events v r) ≡ begun_after r
value_after v r = value_keeps (λ (l : List Event). begun_after l ≡ begun_after r)
    (λ e s i k. ap (λ (c : Option Closing). elim c [ Some y ↦ begun s | None ↦ begun_after s ]) i.1 ∙ k) v r refl

-- the parts of a value hang on those after it alone
prefix_parts : (l r s : List Event) → parts r ≡ parts s → parts (l ++ r) ≡ parts (l ++ s)
prefix_parts [] r s e = e
prefix_parts (x ∷ l) r s e
    = ap (λ (P : List Part). elim (closing_of x) [ Some c ↦ [] | None ↦ with_part (part_of x) P ]) (prefix_parts l r s e)

value_parts : (v : Value) (r s : List Event) → parts r ≡ parts s → parts (value_events v r) ≡ parts (value_events v s)
value_parts v r s e = grind (arith, value_splits v, prefix_parts (value_events v []) r s e)

-- a load that has an end doesn't look at the run's ending
ends_itself : (f : Option Fault) (c : Closing) (o : Opening) (ns : List yaml_node_t) (y z : Load) (l : List Load)
    → load_then f (Some c) o ns y l ≡ load_then f (Some c) o ns z l
ends_itself f c o ns y z l = grind arith

text_loads : (d : unnamed_yaml_event_t_data_document_start) (m n : Mark) (v : Value) (i : Bool) (p q : Mark)
    (r : List Event) (x : Ending)
    → loads (event (ev.DocumentStart d) m n ∷ value_events v (document_end_at i p q ∷ r)) x
    ≡ load_then (composer_fault [] (parts (value_events v []))) (Some (record { is_implicit = i; mark = q }))
    (record { start = d; mark = m })
    (nodes_of v [] []) (last_load Ends) (loads r x)
text_loads d m n v i p q r x = grind (arith, value_parts, value_closing, value_after, value_graph, ends_itself)

-- the loads of whole documents are their graphs by their values, up to the first composer error
texts_load : (ts : DocumentTexts) (r : List Event) (x : Ending) → loads (texts_events ts r) x ≡ loads_of ts (loads r x)
texts_load no_texts r x = refl
texts_load (text_after ts d m n v i p q) r x =
    cc (texts_load ts (event (ev.DocumentStart d) m n ∷ value_events v (document_end_at i p q ∷ r)) x, text_loads d m n v i p q r x)

pub whole_loads : (l : List Event) (n : IsNested l) (x : Ending) → loads l x ≡ loads_of n.texts (last_load x ∷ [])
whole_loads l n x = ap (λ (k : List Event). loads k x) n.all ∙ texts_load n.texts (stream_end_at n.end n.end_end ∷ []) x

-- the prefix of a list that ends no document ends none
none_closes : (f r : List Event) → end_of_document (f ++ r) ≡ None → end_of_document f ≡ None
none_closes [] r h = refl
none_closes (e ∷ f) r h = go (closing_of e) h (none_closes f r)
  where
    go : (c : Option Closing) → ◌≡◌ {A = Option Closing} (elim c [ Some y ↦ Some y | None ↦ end_of_document (f ++ r) ]) None
        → (end_of_document (f ++ r) ≡ None → end_of_document f ≡ None)
        → ◌≡◌ {A = Option Closing} (elim c [ Some y ↦ Some y | None ↦ end_of_document f ]) None
    go (Some y) h k = cc
    go None h k = k h

pub prefix_closes : (f : List Event) → BeginsValue f → end_of_document f ≡ None
prefix_closes f b = none_closes f b.rest (ap end_of_document (sym b.all) ∙ value_closing b.val [])

-- a document whose end is missing gives its composer error, if it has one, and else the run's ending
open_loads : (d : unnamed_yaml_event_t_data_document_start) (m n : Mark) (f : List Event) (x : Ending)
    → end_of_document f ≡ None
    → loads (event (ev.DocumentStart d) m n ∷ f) x ≡ open_load (event (ev.DocumentStart d) m n ∷ f) x ∷ []
open_loads d m n f x e = grind arith

pub begun_loads : (l : List Event) (n : HasBegun l) (x : Ending)
    → loads l x ≡ loads_of n.texts (open_load n.open_document x ∷ [])
begun_loads l n x = grind (arith, texts_load, open_loads, prefix_closes)

-- the loads of events that nest as far as they go
pub nested_loads : (l : List Event) (x : Ending) → NestsSoFar l → NestedLoads l x (loads l x)
nested_loads l x (not_begun e) = law.not_begun e (ap (λ (k : List Event). loads k x) e)
nested_loads l x (has_begun n) = law.has_begun n (begun_loads l n x)
nested_loads l x (whole n) = law.whole n (whole_loads l n x)

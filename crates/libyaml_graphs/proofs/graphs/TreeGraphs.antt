-- The graph by parts is the graph by the tree of values.
use Rattle.std.proofs.Common.{◌≡◌, ℕ, zero, suc, List, [], ◌∷◌, length, refl, ap, ◌∙◌, append-nil, arith}
use Rattle.libyaml_grammar.specs.grammar.Events.{Event, end_at, sequence_style, mapping_style}
use Rattle.libyaml_grammar.specs.grammar.Nesting.{Value, Values, alias_value, collection_value, first_value, no_values, scalar_value, value_events, values_events}
use Rattle.libyaml_grammar.specs.grammar.Tokens.{Mark}
use Rattle.libyaml_grammar.specs.grammar.Trees.{mapping, sequence}
use Rattle.libyaml_documents.specs.LoadedNodes.{mapping_loaded, sequence_loaded}
use Rattle.libyaml_documents.specs.declared.node.yaml_node_t.{yaml_node_t}
use Rattle.libyaml_graphs.specs.graphs.Graphs.{Start, id_of, ids_of_all, items, nodes_of, nodes_of_all, pairs, starts_after, starts_after_all}
use Rattle.libyaml_graphs.specs.graphs.GraphParts.{children, end_in, graph, if_outer, parts}

outer_twice : (d i : ℕ) (is r : List ℕ) → if_outer d (i ∷ []) (if_outer d is r) ≡ if_outer d (i ∷ is) r
outer_twice d i is r = grind arith

mutual
  value_children : (v : Value) (d : ℕ) (es : List Start) (r : List Event)
      → children d es (parts (value_events v r)) ≡ if_outer d (id_of v es ∷ []) (children d (starts_after v es) (parts r))
  value_children (alias_value a m n) d es r = refl
  value_children (scalar_value s m n) d es r = refl
  value_children (collection_value sequence a t i s m n vs p q) d es r
      = ap (if_outer d (suc (length es) ∷ []))
      (values_children vs (suc d) (record { anchor = a; mark = m } ∷ es) (end_at sequence p q ∷ r))
  value_children (collection_value mapping a t i s m n vs p q) d es r
      = ap (if_outer d (suc (length es) ∷ []))
      (values_children vs (suc d) (record { anchor = a; mark = m } ∷ es) (end_at mapping p q ∷ r))

  pub values_children : (vs : Values) (d : ℕ) (es : List Start) (r : List Event)
      → children d es (parts (values_events vs r)) ≡ if_outer d (ids_of_all vs es)
      (children d (starts_after_all vs es) (parts r))
  values_children no_values zero es r = refl
  values_children no_values (suc d) es r = refl
  values_children (first_value v vs) d es r =
      cc (
        value_children v d es (values_events vs r),
        values_children vs d (starts_after v es) r,
        outer_twice d (id_of v es) (ids_of_all vs (starts_after v es)) (children d (starts_after_all vs (starts_after v es)) (parts r)),
      )

mutual
  value_end : (v : Value) (d : ℕ) (n : Mark) (r : List Event) → end_in d n (parts (value_events v r)) ≡ end_in d n (parts r)
  value_end (alias_value a m n) d x r = refl
  value_end (scalar_value s m n) d x r = refl
  value_end (collection_value sequence a t i s m n vs p q) d x r = values_end vs (suc d) x (end_at sequence p q ∷ r)
  value_end (collection_value mapping a t i s m n vs p q) d x r = values_end vs (suc d) x (end_at mapping p q ∷ r)

  values_end : (vs : Values) (d : ℕ) (n : Mark) (r : List Event)
      → end_in d n (parts (values_events vs r)) ≡ end_in d n (parts r)
  values_end no_values d x r = refl
  values_end (first_value v vs) d x r = value_end v d x (values_events vs r) ∙ values_end vs d x r

mutual
  pub value_graph : (v : Value) (es : List Start) (r : List Event)
      → graph es (parts (value_events v r)) ≡ nodes_of v es (graph (starts_after v es) (parts r))
  value_graph (alias_value a m n) es r = refl
  value_graph (scalar_value s m n) es r = refl
  value_graph (collection_value sequence a t i s m n vs p q) es r =
      let fs : List Start = record { anchor = a; mark = m } ∷ es in
      let is : List ℕ = children 0 fs (parts (values_events vs (end_at sequence p q ∷ r))) in
      ap (λ (l : List yaml_node_t). sequence_loaded t (sequence_style s) (items is) m
      (end_in 0 n (parts (values_events vs (end_at sequence p q ∷ r))))
      ∷ l) (values_graph vs fs (end_at sequence p q ∷ r))
      ∙ (ap (λ (x : Mark). sequence_loaded t (sequence_style s) (items is) m x ∷ nodes_of_all vs fs
      (graph (starts_after_all vs fs) (parts r)))
      (values_end vs 0 n (end_at sequence p q ∷ r))
      ∙ ap (λ (js : List ℕ). sequence_loaded t (sequence_style s) (items js) m q ∷ nodes_of_all vs fs
      (graph (starts_after_all vs fs) (parts r)))
      (values_children vs 0 fs (end_at sequence p q ∷ r) ∙ append-nil (ids_of_all vs fs)))
  value_graph (collection_value mapping a t i s m n vs p q) es r =
      let fs : List Start = record { anchor = a; mark = m } ∷ es in
      let is : List ℕ = children 0 fs (parts (values_events vs (end_at mapping p q ∷ r))) in
      ap (λ (l : List yaml_node_t). mapping_loaded t (mapping_style s) (pairs is) m
      (end_in 0 n (parts (values_events vs (end_at mapping p q ∷ r))))
      ∷ l) (values_graph vs fs (end_at mapping p q ∷ r))
      ∙ (ap (λ (x : Mark). mapping_loaded t (mapping_style s) (pairs is) m x ∷ nodes_of_all vs fs
      (graph (starts_after_all vs fs) (parts r)))
      (values_end vs 0 n (end_at mapping p q ∷ r))
      ∙ ap (λ (js : List ℕ). mapping_loaded t (mapping_style s) (pairs js) m q ∷ nodes_of_all vs fs
      (graph (starts_after_all vs fs) (parts r)))
      (values_children vs 0 fs (end_at mapping p q ∷ r) ∙ append-nil (ids_of_all vs fs)))

  values_graph : (vs : Values) (es : List Start) (r : List Event)
      → graph es (parts (values_events vs r)) ≡ nodes_of_all vs es (graph (starts_after_all vs es) (parts r))
  values_graph no_values es r = refl
  values_graph (first_value v vs) es r = cc (value_graph v es (values_events vs r), values_graph vs (starts_after v es) r)

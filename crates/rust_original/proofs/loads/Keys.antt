-- At a document's end no key waits, so the nodes are the same.
use Rattle.std.proofs.Common.{◌≡◌, ◌∷◌, ◌++◌, ℕ, pos, List, [], None, true, refl, sym, ap, ◌∙◌, append-nil, arith}
use Rattle.std.proofs.Math.Bool.{not-not}
use Rattle.libyaml_documents.specs.declared.node.unnamed_yaml_node_t_data.TheVariants.{Sequence, Mapping}
use Rattle.libyaml_grammar.specs.grammar.Events.{Event, end_at as end_event}
use Rattle.libyaml_grammar.specs.grammar.Nesting.{AllHavePairs, HasPairs, Value, Values, alias_value, collection_value, first_value, no_values, scalar_value, value_events, values_events}
use Rattle.libyaml_grammar.specs.grammar.Trees.{mapping, sequence}
use Rattle.libyaml_graphs.specs.graphs.GraphParts.{children, parts}
use Rattle.libyaml_graphs.specs.graphs.Graphs.{Start, ids_of_all, starts_after, starts_after_all}
use Rattle.libyaml_graphs.proofs.exported.Building.{even_list, ids_even, values_children, Held, nodes_in}
use Rattle.libyaml_documents.specs.declared.node.unnamed_yaml_node_t_data_mapping.{unnamed_yaml_node_t_data_mapping}
use Rattle.libyaml_documents.specs.declared.node.unnamed_yaml_node_t_data_sequence.{unnamed_yaml_node_t_data_sequence}
use Rattle.libyaml_graphs.proofs.exported.Building as built
use Rattle.rust_original.proofs.loads.Halves.{halves}

-- at a document's end no key waits
abbrev NoneWaits : List Held → Type 0
NoneWaits [] = Unit {0}
NoneWaits (h ∷ hs) = (h.key ≡ None) × NoneWaits hs

pub none_half : (hs : List Held) → NoneWaits hs → halves hs ≡ nodes_in hs
none_half [] w = refl
none_half (h ∷ hs) w = grind (arith, none_half hs w.1)

sequence_key : (s : unnamed_yaml_node_t_data_sequence) (is : List ℕ) → built.grown_key None (Sequence s) is ≡ None
sequence_key s [] = refl
sequence_key s (i ∷ is) = sequence_key (record s { items = s.items ++ pos i ∷ [] }) is

mapping_key : (m : unnamed_yaml_node_t_data_mapping) (is : List ℕ) → even_list is ≡ true
    → built.grown_key None (Mapping m) is ≡ None
mapping_key m [] e = refl
mapping_key m (k ∷ []) e = absurd cc
mapping_key m (k ∷ v ∷ is) e
    = mapping_key (record m { pairs = m.pairs ++ record { key = pos k; value = pos v } ∷ [] }) is
    (sym (not-not (even_list is)) ∙ e)

mutual
  pub value_keys : (v : Value) (es : List Start) (r : List Event) → HasPairs v
      → NoneWaits (built.held_graph (starts_after v es) (parts r))
      → NoneWaits (built.held_graph es (parts (value_events v r)))
  value_keys (alias_value a m n) es r h w = w
  value_keys (scalar_value s m n) es r h w = (refl, w)
  value_keys (collection_value sequence a t i s m n vs p q) es r h w =
      let fs : List Start = record { anchor = a; mark = m } ∷ es in (
        sequence_key _ (children 0 fs (parts (values_events vs (end_event sequence p q ∷ r)))),
        values_keys vs fs
            (end_event sequence p q ∷ r) h.1 w,
      )
  value_keys (collection_value mapping a t i s m n vs p q) es r h w =
      let fs : List Start = record { anchor = a; mark = m } ∷ es in
      let is : List ℕ = children 0 fs (parts (values_events vs (end_event mapping p q ∷ r))) in
      let e : is ≡ ids_of_all vs fs
      = values_children vs 0 fs (end_event mapping p q ∷ r) ∙ append-nil (ids_of_all vs fs) in
      (mapping_key _ is (ap even_list e ∙ (ids_even vs fs ∙ h.0)), values_keys vs fs (end_event mapping p q ∷ r) h.1 w)

  values_keys : (vs : Values) (es : List Start) (r : List Event) → AllHavePairs vs
      → NoneWaits (built.held_graph (starts_after_all vs es) (parts r))
      → NoneWaits (built.held_graph es (parts (values_events vs r)))
  values_keys no_values es r h w = w
  values_keys (first_value v vs) es r h w
      = value_keys v es (values_events vs r) h.0 (values_keys vs (starts_after v es) r h.1 w)

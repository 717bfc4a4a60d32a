-- The parts of a document by its events, and its graph by parts (docs/DEFINITIONS.md, "Graphs"). This is the form
-- of the graph that needs no tree, so that it is also that of a document which an error cuts off.
use Rattle.std.specs.Prelude.{ℕ, zero, suc, List, [], ◌∷◌, ◌++◌, length, Option, Some, None, Bool}
use Rattle.libyaml_types.specs.declared.event.unnamed_yaml_event_t_data.TheVariants as ev
use Rattle.libyaml_types.specs.declared.event.unnamed_yaml_event_t_data.{unnamed_yaml_event_t_data}
use Rattle.libyaml_types.specs.declared.event.unnamed_yaml_event_t_data_document_start.{unnamed_yaml_event_t_data_document_start}
use Rattle.libyaml_grammar.specs.grammar.Events.{Event}
use Rattle.libyaml_grammar.specs.grammar.Tokens.{Mark}
use Rattle.libyaml_documents.specs.LoadedNodes.{mapping_loaded, scalar_loaded, sequence_loaded}
use Rattle.libyaml_documents.specs.declared.node.unnamed_yaml_node_t_data.{unnamed_yaml_node_t_data}
use Rattle.libyaml_documents.specs.declared.node.unnamed_yaml_node_t_data.TheVariants.{Scalar, Sequence, Mapping}
use Rattle.libyaml_documents.specs.declared.node.yaml_node_t.{yaml_node_t}
use Rattle.libyaml_graphs.specs.graphs.Graphs.{Start, anchored_node, id_or, items, pairs}

-- An alias and its start; a scalar; the start of a collection, whose node has no children yet and ends where its
-- start event does; the end of one.
pub data Part : Type 0 where
  alias_part : (anchor : List ℕ) → Mark → Part
  leaf_part : (anchor : Option (List ℕ)) → yaml_node_t → Part
  start_part : (anchor : Option (List ℕ)) → yaml_node_t → Part
  end_part : Mark → Part

abbrev pub part_in : unnamed_yaml_event_t_data → Mark → Mark → Option Part
part_in (ev.Alias a) m n = Some (alias_part a.anchor m)
part_in (ev.Scalar s) m n = Some (leaf_part s.anchor (scalar_loaded s m n))
part_in (ev.SequenceStart s) m n = Some (start_part s.anchor (sequence_loaded s.tag s.style [] m n))
part_in (ev.MappingStart s) m n = Some (start_part s.anchor (mapping_loaded s.tag s.style [] m n))
part_in ev.SequenceEnd m n = Some (end_part n)
part_in ev.MappingEnd m n = Some (end_part n)
part_in _ m n = None

abbrev pub part_of : Event → Option Part
part_of e = part_in e.content e.start_mark e.end_mark

-- what the start and the end of a document say of it
pub record Opening : Type 0 where
  pub start : unnamed_yaml_event_t_data_document_start
  pub mark : Mark

pub record Closing : Type 0 where
  pub is_implicit : Bool
  pub mark : Mark

abbrev pub opening_in : unnamed_yaml_event_t_data → Mark → Option Opening
opening_in (ev.DocumentStart d) m = Some (record { start = d; mark = m })
opening_in _ m = None

abbrev pub closing_in : unnamed_yaml_event_t_data → Mark → Option Closing
closing_in (ev.DocumentEnd d) n = Some (record { is_implicit = d.implicit; mark = n })
closing_in _ n = None

abbrev pub opening_of : Event → Option Opening
opening_of e = opening_in e.content e.start_mark

abbrev pub closing_of : Event → Option Closing
closing_of e = closing_in e.content e.end_mark

-- the parts of a document: those of the events up to its end
abbrev pub with_part : Option Part → List Part → List Part
with_part None l = l
with_part (Some p) l = p ∷ l

abbrev pub parts : List Event → List Part
parts [] = []
parts (e ∷ r) = elim (closing_of e) [ Some c ↦ [] | None ↦ with_part (part_of e) (parts r) ]

abbrev pub anchored_node_start : Option (List ℕ) → yaml_node_t → Start
anchored_node_start a x = record { anchor = a; mark = x.start_mark }

-- the starts after a part
abbrev pub following : Part → List Start → List Start
following (alias_part a m) es = es
following (leaf_part a x) es = anchored_node_start a x ∷ es
following (start_part a x) es = anchored_node_start a x ∷ es
following (end_part n) es = es

-- The ids directly in a collection, up to its end, among the parts after its start; d collections are open in it.
abbrev pub if_outer : ℕ → List ℕ → List ℕ → List ℕ
if_outer zero is r = is ++ r
if_outer (suc d) is r = r

abbrev pub children : ℕ → List Start → List Part → List ℕ
children d es [] = []
children d es (alias_part a m ∷ r) = if_outer d (id_or (anchored_node a es) ∷ []) (children d es r)
children d es (leaf_part a x ∷ r) = if_outer d (suc (length es) ∷ []) (children d (anchored_node_start a x ∷ es) r)
children d es (start_part a x ∷ r) = if_outer d (suc (length es) ∷ []) (children (suc d) (anchored_node_start a x ∷ es) r)
children zero es (end_part n ∷ r) = []
children (suc d) es (end_part n ∷ r) = children d es r

-- and where the collection ends: n, if its end is missing
abbrev pub end_in : ℕ → Mark → List Part → Mark
end_in d n [] = n
end_in d n (alias_part a m ∷ r) = end_in d n r
end_in d n (leaf_part a x ∷ r) = end_in d n r
end_in d n (start_part a x ∷ r) = end_in (suc d) n r
end_in zero n (end_part q ∷ r) = q
end_in (suc d) n (end_part q ∷ r) = end_in d n r

-- a node with its children and its end
abbrev pub with_children : List ℕ → unnamed_yaml_node_t_data → unnamed_yaml_node_t_data
with_children is (Scalar s) = Scalar s
with_children is (Sequence s) = Sequence (record { items = items is; style = s.style })
with_children is (Mapping s) = Mapping (record { pairs = pairs is; style = s.style })

abbrev pub ended : List ℕ → Mark → yaml_node_t → yaml_node_t
ended is n x = record { tag = x.tag; content = with_children is x.content; start_mark = x.start_mark; end_mark = n }

-- the graph by parts
abbrev pub graph : List Start → List Part → List yaml_node_t
graph es [] = []
graph es (alias_part a m ∷ r) = graph es r
graph es (leaf_part a x ∷ r) = x ∷ graph (anchored_node_start a x ∷ es) r
graph es (start_part a x ∷ r) = ended (children 0 (anchored_node_start a x ∷ es) r) (end_in 0 x.end_mark r) x ∷ graph
    (anchored_node_start a x ∷ es) r
graph es (end_part n ∷ r) = graph es r

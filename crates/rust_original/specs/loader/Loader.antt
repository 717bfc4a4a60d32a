-- The loader of unsafe-libyaml 0.2.11, src/loader.rs: its functions under their own names and in their order,
-- over the events and the ending of its parser. A function that has no name there is named for what it does.
--
-- Memory is left out, and the bound on lists is a number: STACK_LIMIT there is met where a list has
-- 2147483646 entries. Where the Rust asserts what always holds (the kinds of events and parents, an open
-- collection at its end), or is called after an error, the outcome here is any.
use Rattle.std.specs.Prelude.{◌∷◌, ◌++◌, ◌&&◌, ℕ, zero, suc, ℤ, pos, List, [], nat_lt, length, codes, bytes_eq, Option, Some, None, Bool, true, false, not, Ok, Err, if◌then◌else◌}
use Rattle.libyaml_types.specs.declared.enums.yaml_error_type_t.TheVariants.{YAML_COMPOSER_ERROR}
use Rattle.libyaml_types.specs.declared.event.unnamed_yaml_event_t_data.TheVariants as ev
use Rattle.libyaml_documents.specs.Documents.{empty_document}
use Rattle.libyaml_documents.specs.Nodes.{changed_at}
use Rattle.libyaml_documents.specs.declared.node.unnamed_yaml_node_t_data.{unnamed_yaml_node_t_data}
use Rattle.libyaml_documents.specs.declared.node.unnamed_yaml_node_t_data.TheVariants.{Scalar, Sequence, Mapping}
use Rattle.libyaml_documents.specs.declared.node.yaml_node_t.{yaml_node_t}
use Rattle.libyaml_documents.specs.declared.pairs.yaml_node_pair_t.{yaml_node_pair_t}
use Rattle.libyaml_types.specs.Fault.{Fault, memory_fault, no_fault}
use Rattle.libyaml_grammar.specs.runs.Runs.{Ending, Ends, Fails}
use Rattle.libyaml_grammar.specs.grammar.Events.{Event}
use Rattle.libyaml_grammar.specs.grammar.Tokens.{Mark}
use Rattle.libyaml_graphs.specs.graphs.GraphParts.{Opening}
use Rattle.libyaml_graphs.specs.graphs.Graphs.{AnchoredNode}
use Rattle.libyaml_graphs.specs.loads.Loads.{Load, document}

-- An anchor, with the id and the start of its node.
pub record yaml_alias_data_t : Type 0 where
  pub anchor : List ℕ
  pub anchored_node : AnchoredNode

-- The aliases in their order, the document's nodes, and the ids of the open collections, the innermost first.
pub record OriginalLoader : Type 0 where
  pub aliases : List yaml_alias_data_t
  pub nodes : List yaml_node_t
  pub ctx : List ℕ

-- Before a document.
abbrev pub new_loader : OriginalLoader
new_loader = record { aliases = []; nodes = []; ctx = [] }

-- What a function returns: the loader after it, or the error that is set.
pub data LoaderResult : Type 0 where
  OK : OriginalLoader → LoaderResult
  FAIL : Fault → LoaderResult

abbrev pub if_ok : LoaderResult → (OriginalLoader → LoaderResult) → LoaderResult
if_ok (FAIL f) next = FAIL f
if_ok (OK l) next = next l

-- A list of this length has room for one entry more, or memory is short.
abbrev pub STACK_LIMIT : (limit length : ℕ) → LoaderResult → LoaderResult
STACK_LIMIT limit length next = if nat_lt length limit then next else FAIL memory_fault

-- errors

-- An error of kind YAML_COMPOSER_ERROR with its problem.
abbrev pub yaml_parser_set_composer_error : (problem : List ℕ) → (problem_mark : Mark) → LoaderResult
yaml_parser_set_composer_error problem problem_mark
    = FAIL (record
    no_fault { error = YAML_COMPOSER_ERROR; problem = Some problem; problem_mark = problem_mark })

-- The same with a context.
abbrev pub yaml_parser_set_composer_error_context : (context : List ℕ) → (context_mark : Mark)
    → (problem : List ℕ) → (problem_mark : Mark) → LoaderResult
yaml_parser_set_composer_error_context context context_mark problem problem_mark = FAIL (record no_fault {
  error = YAML_COMPOSER_ERROR;
  problem = Some problem;
  problem_mark = problem_mark;
  context = Some context;
  context_mark = context_mark;
})

-- anchors

-- The first alias whose anchor strcmp finds equal.
abbrev pub alias_of : List yaml_alias_data_t → (anchor : List ℕ) → Option AnchoredNode
alias_of [] anchor = None
alias_of (d ∷ ds) anchor = if bytes_eq d.anchor anchor then Some d.anchored_node else alias_of ds anchor

-- A node's anchor comes after the others; one that is there already is an error. `mark` is the node's start.
abbrev pub yaml_parser_register_anchor : OriginalLoader → (index : ℕ) → (mark : Mark) → (anchor : Option (List ℕ))
    → (OriginalLoader → LoaderResult) → LoaderResult
yaml_parser_register_anchor l index mark None next = next l
yaml_parser_register_anchor l index mark (Some anchor) next = elim (alias_of l.aliases anchor) [
  | Some first ↦
      yaml_parser_set_composer_error_context (codes "found duplicate anchor; first occurrence") first.mark
      (codes "second occurrence") mark
  | None ↦ next (record l {
    aliases = l.aliases ++ record { anchor = anchor; anchored_node = record { id = index; mark = mark } } ∷ [];
  })
]

-- a node handed to its parent

abbrev pub is_zero : ℤ → Bool
is_zero (pos zero) = true
is_zero _ = false

-- `(*p).key != 0 && (*p).value == 0` of the last pair: its value is still to come.
abbrev pub waits : List yaml_node_pair_t → Bool
waits [] = false
waits (p ∷ []) = not (is_zero p.key) && is_zero p.value
waits (p ∷ q ∷ ps) = waits (q ∷ ps)

-- The last pair gets its value.
abbrev pub with_value : (index : ℕ) → List yaml_node_pair_t → List yaml_node_pair_t
with_value index [] = []
with_value index (p ∷ []) = record p { value = pos index } ∷ []
with_value index (p ∷ q ∷ ps) = p ∷ with_value index (q ∷ ps)

-- The parent with one item more, or the last pair's value, or one pair more, without a value.
abbrev pub content_with_child : (index : ℕ) → unnamed_yaml_node_t_data → unnamed_yaml_node_t_data
content_with_child index (Scalar s) = Scalar s
content_with_child index (Sequence s) = Sequence (record s { items = s.items ++ pos index ∷ [] })
content_with_child index (Mapping m) =
    let begun : List yaml_node_pair_t = m.pairs ++ record { key = pos index; value = pos 0 } ∷ [] in
    Mapping (record m { pairs = if waits m.pairs then with_value index m.pairs else begun })

-- The node of an id is changed.
abbrev pub change : (id : ℕ) → (yaml_node_t → yaml_node_t) → List yaml_node_t → List yaml_node_t
change zero f nodes = nodes
change (suc n) f nodes = changed_at n f nodes

-- The STACK_LIMIT of the parent's list; a pair's value needs no room.
abbrev pub is_full : (limit : ℕ) → unnamed_yaml_node_t_data → Bool
is_full limit (Scalar s) = false
is_full limit (Sequence s) = not (nat_lt (length s.items) limit)
is_full limit (Mapping m) = if waits m.pairs then false else not (nat_lt (length m.pairs) limit)

-- That of the node at a place, counted from 0.
abbrev pub full_at : (limit place : ℕ) → List yaml_node_t → Bool
full_at limit n [] = false
full_at limit zero (x ∷ nodes) = is_full limit x.content
full_at limit (suc n) (x ∷ nodes) = full_at limit n nodes

-- That of the innermost open collection; none has a bound at the root.
abbrev pub is_parent_full : (limit : ℕ) → (ctx : List ℕ) → List yaml_node_t → Bool
is_parent_full limit [] nodes = false
is_parent_full limit (zero ∷ outer) nodes = false
is_parent_full limit (suc n ∷ outer) nodes = full_at limit n nodes

-- The innermost open collection gets the child of this id.
abbrev pub child_added : OriginalLoader → (index : ℕ) → OriginalLoader
child_added l index = elim l.ctx [
  | [] ↦ l
  | parent ∷ outer ↦ record l {
    nodes = change parent (λ x. record x { content = content_with_child index x.content }) l.nodes;
  }
]

-- The same, where there is room.
abbrev pub yaml_parser_load_node_add : (limit : ℕ) → OriginalLoader → (index : ℕ) → LoaderResult
yaml_parser_load_node_add limit l index
    = if is_parent_full limit l.ctx l.nodes then FAIL memory_fault else OK (child_added l index)

-- events

-- An alias: the id of its anchored node is handed to the parent.
abbrev pub yaml_parser_load_alias : (limit : ℕ) → OriginalLoader → (anchor : List ℕ) → Mark → LoaderResult
yaml_parser_load_alias limit l anchor mark = elim (alias_of l.aliases anchor) [
  | Some found ↦ yaml_parser_load_node_add limit l found.id
  | None ↦ yaml_parser_set_composer_error (codes "found undefined alias") mark
]

-- A node's tag: the default for none and for `!`.
abbrev pub tag_or_default : (default : List ℕ) → Option (List ℕ) → List ℕ
tag_or_default default None = default
tag_or_default default (Some tag) = elim (bytes_eq tag (codes "!")) [ true ↦ default | false ↦ tag ]

-- What yaml_parser_load_scalar, .._sequence and .._mapping have in common: a node comes after the others, its
-- anchor is registered, and its parent gets its id; a collection is then open.
abbrev pub node_pushed : (limit : ℕ) → OriginalLoader → (anchor : Option (List ℕ)) → yaml_node_t → (opens : Bool) → LoaderResult
node_pushed limit l anchor x opens =
    let index : ℕ = suc (length l.nodes) in
    STACK_LIMIT limit (length l.nodes)
    (yaml_parser_register_anchor (record l { nodes = l.nodes ++ x ∷ [] }) index x.start_mark anchor λ r.
    if_ok (yaml_parser_load_node_add limit r index) λ s.
    if opens then STACK_LIMIT limit (length s.ctx) (OK (record s { ctx = index ∷ s.ctx })) else OK s)

-- The node of an event, with both of its marks.
abbrev pub node : (tag : List ℕ) → unnamed_yaml_node_t_data → Event → yaml_node_t
node tag content e = record { tag = tag; content = content; start_mark = e.start_mark; end_mark = e.end_mark }

-- yaml_parser_load_sequence_end and yaml_parser_load_mapping_end: the innermost collection ends where the
-- event does.
abbrev pub node_ended : OriginalLoader → Event → OriginalLoader
node_ended l e = elim l.ctx [
  | [] ↦ l
  | index ∷ outer ↦ record l {
    nodes = change index (λ x. record x { end_mark = e.end_mark }) l.nodes;
    ctx = outer;
  }
]

-- The match of yaml_parser_load_nodes.
abbrev pub load_event : (limit : ℕ) → OriginalLoader → Event → LoaderResult
load_event limit l e = elim e.content [
  | ev.Alias a ↦ yaml_parser_load_alias limit l a.anchor e.start_mark
  | ev.Scalar s ↦
      node_pushed limit l s.anchor
      (node (tag_or_default (codes "tag:yaml.org,2002:str") s.tag)
      (Scalar (record { value = s.value; style = s.style })) e)
      false
  | ev.SequenceStart s ↦
      node_pushed limit l s.anchor
      (node (tag_or_default (codes "tag:yaml.org,2002:seq") s.tag) (Sequence (record { items = []; style = s.style }))
      e)
      true
  | ev.SequenceEnd ↦ OK (node_ended l e)
  | ev.MappingStart m ↦
      node_pushed limit l m.anchor
      (node (tag_or_default (codes "tag:yaml.org,2002:map") m.tag) (Mapping (record { pairs = []; style = m.style }))
      e)
      true
  | ev.MappingEnd ↦ OK (node_ended l e)
  | _ ↦ OK l
]

-- whole loads

-- Between documents, or in the loop over a document's events.
pub data OriginalState : Type 0 where
  between : OriginalState
  within : Opening → OriginalLoader → OriginalState

-- yaml_parser_load, yaml_parser_load_document and yaml_parser_load_nodes, again and again: a document each,
-- up to an error or, at the stream's end, the document without root.
abbrev pub original_loads_from : (limit : ℕ) → OriginalState → List Event → Ending → List Load
original_loads_from limit s [] Ends = Ok (empty_document None [] false false) ∷ []
original_loads_from limit s [] (Fails f) = Err f ∷ []
original_loads_from limit between (e ∷ r) x = elim e.content [
  | ev.StreamEnd ↦ Ok (empty_document None [] false false) ∷ []
  | ev.DocumentStart d ↦
      original_loads_from limit (within (record { start = d; mark = e.start_mark }) new_loader) r x
  | _ ↦ original_loads_from limit between r x
]
original_loads_from limit (within o l) (e ∷ r) x = elim e.content [
  | ev.DocumentEnd d ↦
      Ok (document o l.nodes (record { is_implicit = d.implicit; mark = e.end_mark })) ∷ original_loads_from limit
      between r x
  | _ ↦ elim (load_event limit l e) [ FAIL f ↦ Err f ∷ [] | OK m ↦ original_loads_from limit (within o m) r x ]
]

-- The loads over a run's events and ending.
abbrev pub loads_there : (limit : ℕ) → List Event → Ending → List Load
loads_there limit e x = original_loads_from limit between e x

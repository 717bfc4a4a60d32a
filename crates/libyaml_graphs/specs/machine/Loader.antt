-- The loader as a machine over events: the nodes so far, a stack of the
-- collections that are open, and the anchors. By this the loader's contracts are proved. Of the public clauses the law
-- `machine::one_load` speaks of it, where a load may take memory (`GrowsAt`), and those of a loader that is handed its tokens.
use Rattle.std.specs.Prelude.{ℕ, suc, ℤ, pos, List, [], ◌∷◌, ◌++◌, length, nat_lt, Option, Some, None, Bool, true, false, Ok, Err}
use Rattle.std.specs.FinMap.{FinMap, from_entries, get, insert}
use Rattle.std.specs.Cmp.Lexicographic.{slice_cmp}
use Rattle.std.specs.Ordering.{nat_cmp}
use Rattle.libyaml_grammar.specs.grammar.Events.{Event}
use Rattle.libyaml_types.specs.Fault.{Fault, memory_fault}
use Rattle.libyaml_grammar.specs.runs.Runs.{Ending}
use Rattle.libyaml_grammar.specs.grammar.Tokens.{Mark}
use Rattle.libyaml_documents.specs.LoadedNodes.{with_end}
use Rattle.libyaml_documents.specs.Nodes.{item_after, node_at, pair_after, with_changed}
use Rattle.libyaml_documents.specs.declared.node.unnamed_yaml_node_t_data.{unnamed_yaml_node_t_data}
use Rattle.libyaml_documents.specs.declared.node.unnamed_yaml_node_t_data.TheVariants.{Scalar, Sequence, Mapping}
use Rattle.libyaml_documents.specs.declared.node.yaml_node_t.{yaml_node_t}
use Rattle.libyaml_graphs.specs.graphs.ComposerFaults.{repeated_anchor, undefined_alias}
use Rattle.libyaml_graphs.specs.graphs.Graphs.{AnchoredNode}
use Rattle.libyaml_graphs.specs.loads.Loads.{Load, after_document, document, last_load, left_over}
use Rattle.libyaml_graphs.specs.graphs.GraphParts.{Opening, Part, alias_part, closing_of, end_part, leaf_part, opening_of, part_of, start_part}

-- the node that each anchor names
abbrev pub Anchors : Type 0
Anchors = FinMap (slice_cmp nat_cmp) AnchoredNode

abbrev pub no_anchors : Anchors
no_anchors = from_entries []

-- An open collection: the id of its node, and that of the key that waits for its value.
pub record OpenNode : Type 0 where
  pub node : ℤ
  pub key : Option ℤ

-- the innermost open collection stands first
pub record Loader : Type 0 where
  pub nodes : List yaml_node_t
  pub stack : List OpenNode
  pub anchors : Anchors

abbrev pub fresh : Loader
fresh = record { nodes = []; stack = []; anchors = no_anchors }

pub data Loading : Type 0 where
  going : Loader → Loading
  failed : Fault → Loading

-- A child after those of a node, where k is the key that waits: a sequence has one item more, a mapping a pair more
-- or a key that waits.
abbrev pub content_and_child : Option ℤ → ℤ → unnamed_yaml_node_t_data → unnamed_yaml_node_t_data
content_and_child k i (Scalar s) = Scalar s
content_and_child k i (Sequence s) = item_after i (Sequence s)
content_and_child None i (Mapping s) = Mapping s
content_and_child (Some k) i (Mapping s) = pair_after (record { key = k; value = i }) (Mapping s)

abbrev pub key_after_child : Option ℤ → ℤ → unnamed_yaml_node_t_data → Option ℤ
key_after_child k i (Scalar s) = k
key_after_child k i (Sequence s) = k
key_after_child None i (Mapping s) = Some i
key_after_child (Some k) i (Mapping s) = None

abbrev pub with_child : Option ℤ → ℤ → yaml_node_t → yaml_node_t
with_child k i x = record x { content = content_and_child k i x.content }

abbrev pub key_after : Option ℤ → ℤ → Option yaml_node_t → Option ℤ
key_after k i None = k
key_after k i (Some x) = key_after_child k i x.content

-- a child handed to the innermost open collection: the nodes and the stack after it
abbrev pub hand : ℤ → List OpenNode → List yaml_node_t → List yaml_node_t
hand i [] nodes = nodes
hand i (o ∷ s) nodes = with_changed o.node (with_child o.key i) nodes

abbrev pub handed : ℤ → List OpenNode → List yaml_node_t → List OpenNode
handed i [] nodes = []
handed i (o ∷ s) nodes = record { node = o.node; key = key_after o.key i (node_at nodes o.node) } ∷ s

-- the innermost open collection ends at m
abbrev pub closed_by : Mark → List OpenNode → List yaml_node_t → List yaml_node_t
closed_by m [] nodes = nodes
closed_by m (o ∷ s) nodes = with_changed o.node (with_end m) nodes

abbrev pub outer : List OpenNode → List OpenNode
outer [] = []
outer (o ∷ s) = s

-- an anchor is registered, unless it is known
pub data Registered : Type 0 where
  known : Mark → Registered
  registered : Anchors → Registered

abbrev pub register : Option (List ℕ) → ℕ → Mark → Anchors → Registered
register None i m xs = registered xs
register (Some a) i m xs =
    elim (get xs a) [ Some c ↦ known c.mark | None ↦ registered (insert xs a (record { id = i; mark = m })) ]

abbrev pub on_alias : Option AnchoredNode → Mark → Loader → Loading
on_alias None m l = failed (undefined_alias m)
on_alias (Some c) m l = going
    (record {
      nodes = hand (pos c.id) l.stack l.nodes;
      stack = handed (pos c.id) l.stack l.nodes;
      anchors =
          l.anchors;
    })

-- a node is put after the others and then handed to its parent; `opens` are the collections that it opens
abbrev pub on_node : Registered → yaml_node_t → (opens : List OpenNode) → Loader → Loading
on_node (known m) x opens l = failed (repeated_anchor m x.start_mark)
on_node (registered xs) x opens l
    = going (record {
      nodes = hand (pos (suc (length l.nodes))) l.stack (l.nodes ++ x ∷ []);
      stack = opens
          ++ handed (pos (suc (length l.nodes))) l.stack (l.nodes ++ x ∷ []);
      anchors = xs;
    })

-- one part, without a bound
abbrev pub load_part : Loader → Part → Loading
load_part l (alias_part a m) = on_alias (get l.anchors a) m l
load_part l (leaf_part a x) = on_node (register a (suc (length l.nodes)) x.start_mark l.anchors) x [] l
load_part l (start_part a x)
    = on_node (register a (suc (length l.nodes)) x.start_mark l.anchors) x
    (record { node = pos (suc (length l.nodes)); key = None } ∷ []) l
load_part l (end_part n) =
    going (record { nodes = closed_by n l.stack l.nodes; stack = outer l.stack; anchors = l.anchors })

-- One part, with the bound n: the list of nodes first, then the anchor or alias, then the parent's list. A mapping's list
-- has room for a value where it had room for the key.
abbrev pub content_full : ℕ → Option ℤ → unnamed_yaml_node_t_data → Bool
content_full n k (Scalar s) = false
content_full n k (Sequence s) = nat_lt n (suc (length s.items))
content_full n None (Mapping s) = nat_lt n (suc (length s.pairs))
content_full n (Some k) (Mapping s) = false

abbrev pub node_full : ℕ → Option ℤ → Option yaml_node_t → Bool
node_full n k None = false
node_full n k (Some x) = content_full n k x.content

abbrev pub parent_full : ℕ → List OpenNode → List yaml_node_t → Bool
parent_full n [] nodes = false
parent_full n (o ∷ s) nodes = node_full n o.key (node_at nodes o.node)

abbrev pub nodes_full : ℕ → Loader → Part → Bool
nodes_full n l (alias_part a m) = false
nodes_full n l (leaf_part a x) = nat_lt n (suc (length l.nodes))
nodes_full n l (start_part a x) = nat_lt n (suc (length l.nodes))
nodes_full n l (end_part m) = false

abbrev pub list_full : ℕ → Loader → Part → Bool
list_full n l (alias_part a m) = parent_full n l.stack l.nodes
list_full n l (leaf_part a x) = parent_full n l.stack l.nodes
list_full n l (start_part a x) = parent_full n l.stack l.nodes
list_full n l (end_part m) = false

abbrev pub unless_full : Bool → Loading → Loading
unless_full true o = failed memory_fault
unless_full false o = o

abbrev pub if_child_fits : Bool → Loading → Loading
if_child_fits b (failed f) = failed f
if_child_fits b (going l) = unless_full b (going l)

abbrev pub bounded_part : ℕ → Loader → Part → Loading
bounded_part n l p = unless_full (nodes_full n l p) (if_child_fits (list_full n l p) (load_part l p))

-- an event that is no part of a document leaves all as it is
abbrev pub bounded_option : ℕ → Loader → Option Part → Loading
bounded_option n l None = going l
bounded_option n l (Some p) = bounded_part n l p

-- between documents, or within one
pub data State : Type 0 where
  between : State
  within : Opening → Loader → State

-- what comes of an outcome: its error in the form of a result, or what the loader goes on to
abbrev pub if_going : {A : Type 0} → (Fault → A) → Loading → (Loader → A) → A
if_going fault (going l) f = f l
if_going fault (failed x) f = fault x

-- One load, over the events to come: its result, and the events that it leaves.
abbrev pub load_from : ℕ → State → List Event → Ending → Load
load_from n s [] x = last_load x
load_from n between (e ∷ r) x =
    elim (opening_of e) [ None ↦ load_from n between r x | Some o ↦ load_from n (within o fresh) r x ]
load_from n (within o l) (e ∷ r) x
    = elim (closing_of e) [
      | Some c ↦ Ok (document o l.nodes c)
      | None ↦ if_going (λ (f : Fault). Err f) (bounded_option n l (part_of e))
          (λ (k : Loader). load_from n (within o k) r x)
    ]

abbrev pub left_from : State → List Event → List Event
left_from between r = left_over r
left_from (within o l) r = after_document r

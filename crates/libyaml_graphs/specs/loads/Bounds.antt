-- Loads in which each list of a document has at most n entries: the list of its nodes, and the items or pairs of each node
-- (docs/DEFINITIONS.md, "Loads within a bound").
use Rattle.std.specs.Prelude.{◌≡◌, ◌≢◌, ◌≤◌, ℕ, suc, List, [], ◌∷◌, ◌++◌, length, nat_lt, Option, Some, None, All, Bool, ◌||◌, true, false, Ok, Err}
use Rattle.libyaml_types.specs.declared.enums.yaml_error_type_t.TheVariants.{YAML_MEMORY_ERROR}
use Rattle.libyaml_grammar.specs.grammar.Events.{Event}
use Rattle.libyaml_types.specs.Fault.{Fault, memory_fault}
use Rattle.libyaml_grammar.specs.runs.Runs.{Ending}
use Rattle.libyaml_grammar.specs.grammar.Tokens.{Token}
use Rattle.libyaml_documents.specs.declared.node.unnamed_yaml_node_t_data.{unnamed_yaml_node_t_data}
use Rattle.libyaml_documents.specs.declared.node.unnamed_yaml_node_t_data.TheVariants.{Scalar, Sequence, Mapping}
use Rattle.libyaml_graphs.specs.graphs.ComposerFaults.{composer_fault, composer_part_fault}
use Rattle.libyaml_graphs.specs.graphs.Graphs.{Start}
use Rattle.libyaml_graphs.specs.loads.Loads.{AreLoads, Begun, Load, begun, loads_by, next_by}
use Rattle.libyaml_graphs.specs.graphs.GraphParts.{Part, alias_part, following, children, end_part, graph, leaf_part, parts, anchored_node_start, start_part}

-- the pairs that children begin: one at each key, also where its value is still to come
abbrev pub pairs_begun : List ℕ → ℕ
pairs_begun [] = 0
pairs_begun (k ∷ []) = 1
pairs_begun (k ∷ v ∷ is) = suc (pairs_begun is)

-- the entries that a node's list needs for its children
abbrev pub entries : unnamed_yaml_node_t_data → List ℕ → ℕ
entries (Scalar s) is = 0
entries (Sequence s) is = length is
entries (Mapping s) is = pairs_begun is

-- those of each collection among the parts of a document
abbrev pub list_sizes : List Start → List Part → List ℕ
list_sizes es [] = []
list_sizes es (alias_part a m ∷ r) = list_sizes es r
list_sizes es (leaf_part a x ∷ r) = list_sizes (anchored_node_start a x ∷ es) r
list_sizes es (start_part a x ∷ r) = entries x.content (children 0 (anchored_node_start a x ∷ es) r) ∷ list_sizes (anchored_node_start a x ∷ es) r
list_sizes es (end_part n ∷ r) = list_sizes es r

-- one of them is more than n
abbrev pub one_above : ℕ → List ℕ → Bool
one_above n [] = false
one_above n (k ∷ ks) = nat_lt n k || one_above n ks

-- What stops a load: the first part with which there are more than n nodes, else which has a composer error, else
-- with which a node's list has more than n entries. The first and the last are reported as out of memory. `before`
-- are the parts before, and es their starts.
abbrev pub if_above : Bool → Option Fault → Option Fault
if_above true o = Some memory_fault
if_above false o = o

abbrev pub if_wrong : Option Fault → Option Fault → Option Fault
if_wrong (Some f) o = Some f
if_wrong None o = o

abbrev pub stop_at : ℕ → List Start → (before : List Part) → Part → Option Fault → Option Fault
stop_at n es before p o = if_above (nat_lt n (length (following p es)))
    (if_wrong (composer_part_fault es p) (if_above (one_above n (list_sizes [] (before ++ p ∷ []))) o))

abbrev pub first_stop : ℕ → List Start → (before : List Part) → List Part → Option Fault
first_stop n es before [] = None
first_stop n es before (p ∷ r) = stop_at n es before p (first_stop n (following p es) (before ++ p ∷ []) r)

-- The loads of a run within the bound n, and one of them. The events that it leaves are those that it leaves
-- without a bound.
abbrev pub bounded_loads : ℕ → List Event → Ending → List Load
bounded_loads n e x = loads_by (first_stop n [] []) x (begun e)

abbrev pub next_bounded : ℕ → List Event → Ending → Load
next_bounded n e x = next_by (first_stop n [] []) x (begun e)

-- the loads over a list of tokens, after which the source fails with f
abbrev pub IsBoundedLoads : ℕ → List Token → Fault → List Load → Type 0
IsBoundedLoads n l f a = AreLoads (first_stop n [] []) l f a

-- no list of these parts of a document needs more than n entries
abbrev pub StaysWithin : ℕ → List Part → Type 0
StaysWithin n l = (length (graph [] l) ≤ n) × All (λ k. k ≤ n) (list_sizes [] l)

-- nor does one of a document that a load begins: after a composer error no load begins one
abbrev pub HaveRoom : ℕ → List Begun → Type 0
HaveRoom n [] = Unit {0}
HaveRoom n (b ∷ bs) = StaysWithin n (parts b.rest) × (composer_fault [] (parts b.rest) ≡ None → HaveRoom n bs)

abbrev pub HasRoom : ℕ → List Event → Type 0
HasRoom n e = HaveRoom n (begun e)

-- none of these loads is out of memory
abbrev pub NoneLacksMemory : List Load → Type 0
NoneLacksMemory [] = Unit {0}
NoneLacksMemory (Ok d ∷ l) = NoneLacksMemory l
NoneLacksMemory (Err f ∷ l) = (f.error ≢ YAML_MEMORY_ERROR) × NoneLacksMemory l

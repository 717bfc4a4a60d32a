-- The document that is open where a load fails, closed there (docs/DEFINITIONS.md, "Half a document").
use Rattle.std.specs.Prelude.{◌≡◌, ◌++◌, ◌∷◌, ℕ, ℤ, List, [], length, nat_lt, Option, Some, None, Bool, true, false}
use Rattle.libyaml_types.specs.declared.enums.yaml_scalar_style_t.TheVariants.{YAML_PLAIN_SCALAR_STYLE}
use Rattle.libyaml_grammar.specs.grammar.Events.{Event}
use Rattle.libyaml_grammar.specs.grammar.Tokens.{Mark}
use Rattle.libyaml_documents.specs.Documents.{Document}
use Rattle.libyaml_documents.specs.LoadedNodes.{scalar_loaded}
use Rattle.libyaml_documents.specs.declared.node.yaml_node_t.{yaml_node_t}
use Rattle.libyaml_graphs.specs.graphs.GraphParts.{Part, end_part, leaf_part}
use Rattle.libyaml_graphs.specs.loads.Loads.{document}
use Rattle.libyaml_graphs.specs.machine.Loader.{Loader, Loading, OpenNode, State, between, bounded_part, failed, going, if_going, within}

-- an empty plain scalar at m
abbrev pub empty_scalar_node : Mark → yaml_node_t
empty_scalar_node m = scalar_loaded (record {
  anchor = None;
  tag = None;
  value = [];
  plain_implicit = true;
  quoted_implicit = false;
  style = YAML_PLAIN_SCALAR_STYLE;
}) m m

-- What ends the innermost open collection at m: a key that waits gets an empty value first, if there is room for it.
abbrev pub waiting_value : (has_room : Bool) → Mark → Option ℤ → List Part
waiting_value b m None = []
waiting_value false m (Some k) = []
waiting_value true m (Some k) = leaf_part None (empty_scalar_node m) ∷ []

abbrev pub ending_parts : (has_room : Bool) → Mark → Option ℤ → List Part
ending_parts b m k = waiting_value b m k ++ end_part m ∷ []

-- parts in turn, within the bound n
abbrev pub bounded_parts : ℕ → Loader → List Part → Loading
bounded_parts n l [] = going l
bounded_parts n l (p ∷ r) = if_going failed (bounded_part n l p) (λ k. bounded_parts n k r)

-- these open collections ended at m, the innermost first
abbrev pub closed_at : ℕ → Mark → List OpenNode → Loader → Loading
closed_at n m [] l = going l
closed_at n m (o ∷ s) l = if_going failed (bounded_parts n l (ending_parts (nat_lt (length l.nodes) n) m o.key)) (closed_at n m s)

-- a key waits for its value
abbrev pub has_waiting_key : List OpenNode → Bool
has_waiting_key [] = false
has_waiting_key (o ∷ s) = elim o.key [ Some k ↦ true | None ↦ has_waiting_key s ]

-- an empty value is needed: a key waits, and the list of nodes has room
abbrev pub NeedsValue : ℕ → Loader → Type 0
NeedsValue n l = (has_waiting_key l.stack ≡ true) × (nat_lt (length l.nodes) n ≡ true)

-- The document that is open, closed at m; none, if no document is open, or an allocation failed for an empty value.
abbrev pub IsHalf : ℕ → Mark → State → Option Document → Type 0
IsHalf n m between d = d ≡ None
IsHalf n m (within o l) None = NeedsValue n l
IsHalf n m (within o l) (Some d) = (k : Loader) × (closed_at n m l.stack l ≡ going k)
    × (d ≡ document o k.nodes (record { is_implicit = true; mark = m }))

-- where the last of these events ends
abbrev pub last_end : Mark → List Event → Mark
last_end m [] = m
last_end m (e ∷ r) = last_end e.end_mark r

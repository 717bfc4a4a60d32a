-- A document's anchors, in the caller's memory.
use Rattle.std.specs.Prelude.{◌≡◌, ◌∷◌, ◌+◌, ◌≤◌, ℕ, ℤ, pos, List, [], length, take, drop, bytes_eq, cond, Option, Some, None}
use Rattle.std.specs.FinMap.{get}
use Rattle.libyaml_graphs.specs.graphs.Graphs.{AnchoredNode}
use Rattle.libyaml_graphs.specs.machine.Loader.{Anchors}
use Rattle.document_steps.specs.declared.anchors.anchor_t.{anchor_t}

-- the bytes of an anchor; where it goes past the end, those that there are
abbrev pub bytes_of : List ℕ → anchor_t → List ℕ
bytes_of texts e = take e.length (drop e.place texts)

-- the node of the first entry with this anchor, and 0 where there is none
abbrev pub node_in : List ℕ → List anchor_t → List ℕ → ℤ
node_in texts [] a = pos 0
node_in texts (e ∷ es) a = cond (bytes_eq (bytes_of texts e) a) e.node (node_in texts es a)

abbrev pub entry_in : List ℕ → List anchor_t → List ℕ → Option ℤ
entry_in texts [] a = None
entry_in texts (e ∷ es) a = cond (bytes_eq (bytes_of texts e) a) (Some e.node) (entry_in texts es a)

abbrev pub anchored_node_id : Option AnchoredNode → Option ℤ
anchored_node_id None = None
anchored_node_id (Some c) = Some (pos c.id)

-- the table has these anchored nodes
abbrev pub Tabled : List ℕ → List anchor_t → Anchors → Type 0
Tabled texts table xs = (a : List ℕ) → entry_in texts table a ≡ anchored_node_id (get xs a)

abbrev pub AreAnchorsWithin : List ℕ → List anchor_t → Type 0
AreAnchorsWithin texts [] = Unit {0}
AreAnchorsWithin texts (e ∷ es) = (e.place + e.length ≤ length texts) × AreAnchorsWithin texts es

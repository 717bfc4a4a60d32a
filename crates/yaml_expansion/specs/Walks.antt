-- Where a walk over the nodes is, and what its marks say.
use Rattle.std.specs.Prelude.{◌≡◌, ℕ, suc, ◌+◌, ◌-◌, ◌<◌, ◌≤◌, ◌==◌, pos, if◌then◌else◌, List, [], ◌∷◌, ◌++◌, length, get_or, take}
use Rattle.libyaml_documents.specs.declared.node.yaml_node_t.{yaml_node_t}
use Rattle.libyaml_documents.specs.Nodes.{ids_of}
use Rattle.yaml_expansion.specs.declared.walk.Mark.{Mark}
use Rattle.yaml_expansion.specs.declared.walk.Mark.TheVariants.{New, Open, Done}
use Rattle.yaml_expansion.specs.declared.walk.Step.{Step}
use Rattle.yaml_expansion.specs.declared.walk.Step.TheVariants.{Moves, Ends, Meets}
use Rattle.yaml_expansion.specs.declared.walk.Walk.{Walk}
use Rattle.yaml_expansion.specs.Expansion.{TreesHave, HasExpandedSize, Holds, IsCyclicAt, ids_at}
use Rattle.yaml_expansion.specs.Sizes.{bounded}

-- what the mark of the node at a place says
abbrev pub IsRight : List yaml_node_t → (max place : ℕ) → Mark → Type 0
IsRight nodes max place New = Unit {0}
IsRight nodes max place (Open next size) = (n : ℕ) × TreesHave nodes (take next (ids_at nodes (pos (suc place)))) n
    × (size ≡ bounded max (suc n)) × (next ≤ length (ids_at nodes (pos (suc place))))
IsRight nodes max place (Done size) = (n : ℕ) × TreesHave nodes (pos (suc place) ∷ []) n × (size ≡ bounded max n)

-- down from a place through others to a last one, from a node to one that it holds
abbrev pub Down : List yaml_node_t → (from : ℕ) → List ℕ → (to : ℕ) → Type 0
Down nodes from [] to = Holds nodes (pos (suc from)) (pos (suc to))
Down nodes from (next ∷ places) to = Holds nodes (pos (suc from)) (pos (suc next)) × Down nodes next places to

-- the same from the root, which may be the last one itself
abbrev pub DownFromRoot : List yaml_node_t → List ℕ → (to : ℕ) → Type 0
DownFromRoot nodes [] to = to ≡ 0
DownFromRoot nodes (root ∷ places) to = (root ≡ 0) × Down nodes root places to

-- how often a place is among these
abbrev pub times : ℕ → List ℕ → ℕ
times place [] = 0
times place (x ∷ xs) = (if x == place then 1 else 0) + times place xs

-- once where a node is open, else never
abbrev pub times_open : Mark → ℕ
times_open New = 0
times_open (Open next size) = 1
times_open (Done size) = 0

-- a walk is at a place, with these places above it
pub record Walks (nodes : List yaml_node_t) (max : ℕ) (marks : List Mark) (above : List ℕ) (place : ℕ) : Type 0 where
  pub count : length marks ≡ length nodes
  pub inside : place < length nodes
  pub right : (k : ℕ) → IsRight nodes max k (get_or marks k New)
  pub way : DownFromRoot nodes above place
  pub opened : (k : ℕ) → times k (above ++ place ∷ []) ≡ times_open (get_or marks k New)

abbrev pub IsUnderWay : List yaml_node_t → Walk → Type 0
IsUnderWay nodes walk = Walks nodes walk.max walk.marks.items walk.above.items walk.place

-- how many steps are left for a node of so many ids
abbrev pub steps_left : (ids : ℕ) → Mark → ℕ
steps_left ids New = ids + 2
steps_left ids (Open next size) = ids + 1 - next
steps_left ids (Done size) = 0

-- how many steps are left
abbrev pub work : List yaml_node_t → List Mark → ℕ
work [] marks = 0
work (node ∷ nodes) [] = 0
work (node ∷ nodes) (mark ∷ marks) = steps_left (length (ids_of node.content)) mark + work nodes marks

-- what a step led to
abbrev pub StepSays : List yaml_node_t → (old new : Walk) → Step → Type 0
StepSays nodes old new Moves = IsUnderWay nodes new × (work nodes new.marks.items < work nodes old.marks.items)
StepSays nodes old new (Ends size) = (n : ℕ) × HasExpandedSize nodes n × (size ≡ bounded old.max n)
StepSays nodes old new (Meets place) = (place < length nodes) × IsCyclicAt nodes (pos (suc place))

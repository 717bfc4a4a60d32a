-- What holds of every run that counts (docs/DEFINITIONS.md, "Expanded size while composing").
use Rattle.std.specs.Prelude.{◌≡◌, ◌≤◌, ◌<◌, ◌++◌, ℕ, ℤ, List, [], ◌∷◌, length, Bool, true, false}
use Rattle.std.specs.List.{AllByRecursion}
use Rattle.libyaml_grammar.specs.grammar.Events.{Event}
use Rattle.libyaml_documents.specs.declared.node.yaml_node_t.{yaml_node_t}
use Rattle.libyaml_composer.specs.declared.records.open_t.{open_t}
use Rattle.libyaml_composer.specs.Composing.{Composer, Told}
use Rattle.libyaml_composer.specs.DocumentSoFar.{DocumentSoFar, applied}
use Rattle.libyaml_composer.specs.Numbers.{is_set, is_id}
use Rattle.yaml_expansion.specs.Expansion.{HasExpandedSize, IsCyclicAt, ids_at}
use Rattle.document_sizes.specs.declared.counted.Counted.TheVariants as counted
use Rattle.document_sizes.specs.Counting.{bound_of, count_of}
use Rattle.document_sizes.specs.Runs.{CountRun, Counts}

-- the key that waits in a mapping
abbrev pub key_waiting : (is_mapping waits : Bool) → ℤ → List ℤ
key_waiting true true key = key ∷ []
key_waiting true false key = []
key_waiting false waits key = []

-- what an open collection holds so far, with the key that waits
abbrev pub held_so_far : List yaml_node_t → open_t → List ℤ
held_so_far nodes o = ids_at nodes o.node ++ key_waiting (is_set o.is_mapping) (is_id o.key) o.key

abbrev pub StartsWith : List ℤ → List ℤ → Type 0
StartsWith ids all = (more : List ℤ) × (all ≡ ids ++ more)

-- These nodes go on from those, of which these collections are open: each node holds first what it holds so far.
pub record Continues (nodes : List yaml_node_t) (open_now : List open_t) (later : List yaml_node_t) : Type 0 where
  pub count : length nodes ≤ length later
  pub holds : (id : ℤ) → StartsWith (ids_at nodes id) (ids_at later id)
  pub holds_keys : AllByRecursion (λ o. StartsWith (held_so_far nodes o) (ids_at later o.node)) open_now

-- where no collection is open, the total is the expanded size, and at most the bound
abbrev pub TotalIsSize : Type 0
TotalIsSize = (max : ℕ) (c : Composer) (h : DocumentSoFar) (total : ℕ) (sizes : List ℕ) → CountRun max c h total sizes
    → c.stack ≡ [] → HasExpandedSize h.nodes total × (total ≤ bound_of max)

-- at an event that is too large, however the document goes on, its expanded size is above the bound
abbrev pub TooLargeIsRight : Type 0
TooLargeIsRight = (max : ℕ) (c : Composer) (h : DocumentSoFar) (total total' : ℕ) (sizes sizes' : List ℕ) (e : Event) (t : Told)
    → CountRun max c h total sizes → Counts max c h total sizes e t (count_of counted.TooLarge total' sizes')
    → (later : List yaml_node_t) → Continues (applied t.deed t.place e h).nodes t.composer.stack later
    → (size : ℕ) → HasExpandedSize later size → bound_of max < size

-- at an alias that makes the tree endless, however the document goes on, the node that it names lies on a cycle
abbrev pub EndlessIsRight : Type 0
EndlessIsRight = (max : ℕ) (c : Composer) (h : DocumentSoFar) (total total' : ℕ) (sizes sizes' : List ℕ) (e : Event) (t : Told)
    → CountRun max c h total sizes → Counts max c h total sizes e t (count_of counted.Endless total' sizes')
    → (later : List yaml_node_t) → Continues (applied t.deed t.place e h).nodes t.composer.stack later
    → IsCyclicAt later t.place.child

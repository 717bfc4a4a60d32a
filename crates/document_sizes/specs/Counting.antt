-- What a deed does to the count of a document's nodes with its aliases written out (docs/DEFINITIONS.md, "Expanded size while
-- composing"). A node that has ended has the number of nodes of its tree; a collection that is open has 2 ^ 63 and the total
-- before it.
use Rattle.std.specs.Prelude.{◌+◌, ◌-◌, ◌&&◌, ◌≡◌, ◌≤◌, ℕ, zero, suc, ℤ, pos, negsuc, List, length, min, nat_le, nat_lt, Bool, if◌then◌else◌, Option, Some, None, slice_get, slice_set}
use Rattle.libyaml_composer.specs.declared.deed.Deed.{Deed}
use Rattle.libyaml_composer.specs.declared.deed.Deed.TheVariants as deed
use Rattle.libyaml_composer.specs.declared.records.place_t.{place_t}
use Rattle.libyaml_composer.specs.Numbers.{is_id}
use Rattle.document_sizes.specs.declared.counted.Counted.{Counted}
use Rattle.document_sizes.specs.declared.counted.Counted.TheVariants as counted

-- the largest total
abbrev pub bound_of : ℕ → ℕ
bound_of max = min max 9223372036854775807

-- what is said, the total, and the number of each node
pub record Count : Type 0 where
  pub answer : Counted
  pub total : ℕ
  pub sizes : List ℕ

abbrev pub count_of : Counted → ℕ → List ℕ → Count
count_of a total sizes = record { answer = a; total = total; sizes = sizes }

-- the place of an id in a list of so many, from 0
abbrev pub place_among : ℕ → ℤ → Option ℕ
place_among room (pos zero) = None
place_among room (pos (suc k)) = if nat_lt k room then Some k else None
place_among room (negsuc n) = None

abbrev pub size_in : List ℕ → Option ℕ → Option ℕ
size_in sizes None = None
size_in sizes (Some k) = slice_get sizes k

-- the number of a node
abbrev pub size_at : List ℕ → ℤ → Option ℕ
size_at sizes id = size_in sizes (place_among (length sizes) id)

abbrev pub is_open : ℕ → Bool
is_open size = nat_le 9223372036854775808 size

abbrev pub open_number : (total : ℕ) → ℕ
open_number total = 9223372036854775808 + total

-- the total before an open collection
abbrev pub total_before : ℕ → ℕ
total_before size = size - 9223372036854775808

-- so many nodes more
abbrev pub with_more : (max more total : ℕ) → List ℕ → Count
with_more max more total sizes = if nat_le (total + more) max then count_of counted.Within (total + more) sizes
    else count_of counted.TooLarge total sizes

-- an alias, by the number of its node
abbrev pub at_alias : (max : ℕ) → Option ℕ → (total : ℕ) → List ℕ → Count
at_alias max None total sizes = count_of counted.Bad total sizes
at_alias max (Some size) total sizes = if is_open size then count_of counted.Endless total sizes else with_more max size total sizes

-- a node, whose tree has one node so far
abbrev pub new_number : (is_start : Bool) → (total : ℕ) → ℕ
new_number start total = if start then open_number total else 1

abbrev pub at_node : (max : ℕ) → (is_start : Bool) → ℤ → (total : ℕ) → List ℕ → Count
at_node max start (pos zero) total sizes = count_of counted.Bad total sizes
at_node max start (pos (suc k)) total sizes = if nat_le (total + 1) max
    then (if nat_lt k (length sizes) then count_of counted.Within (total + 1) (slice_set sizes k (new_number start total))
    else count_of counted.Full total sizes)
    else count_of counted.TooLarge total sizes
at_node max start (negsuc n) total sizes = count_of counted.Bad total sizes

-- the end of a collection: what came since its start is its tree
abbrev pub ended_with : (k : ℕ) → Option ℕ → (total : ℕ) → List ℕ → Count
ended_with k None total sizes = count_of counted.Bad total sizes
ended_with k (Some size) total sizes = if is_open size && nat_le (total_before size) total
    then count_of counted.Within total (slice_set sizes k (total - total_before size))
    else count_of counted.Bad total sizes

abbrev pub at_end : Option ℕ → (total : ℕ) → List ℕ → Count
at_end None total sizes = count_of counted.Bad total sizes
at_end (Some k) total sizes = ended_with k (slice_get sizes k) total sizes

-- a node or an alias
abbrev pub at_child : (max : ℕ) → (is_node is_start : Bool) → place_t → (total : ℕ) → List ℕ → Count
at_child max node start p total sizes = if node then at_node max start p.node total sizes
    else at_alias max (size_at sizes p.child) total sizes

-- a deed at an event that starts a collection, or doesn't, with this bound
abbrev pub counting : (max : ℕ) → Deed → (is_start : Bool) → place_t → (total : ℕ) → List ℕ → Count
counting max deed.Begins start p total sizes = count_of counted.Within 0 sizes
counting max deed.Root start p total sizes = at_child max (is_id p.node) start p total sizes
counting max deed.Item start p total sizes = at_child max (is_id p.node) start p total sizes
counting max deed.Key start p total sizes = at_child max (is_id p.node) start p total sizes
counting max deed.Value start p total sizes = at_child max (is_id p.node) start p total sizes
counting max deed.Closes start p total sizes = at_end (place_among (length sizes) p.parent) total sizes
counting max deed.Bad start p total sizes = count_of counted.Bad total sizes
counting max _ start p total sizes = count_of counted.Within total sizes

-- how many nodes more a node or an alias is: an alias as many as the tree of its node has, if that has ended
abbrev pub size_of_closed : Option ℕ → Option ℕ
size_of_closed None = None
size_of_closed (Some size) = if is_open size then None else Some size

abbrev pub more_of : ℤ → Option ℕ → Option ℕ
more_of (pos zero) size = size_of_closed size
more_of (pos (suc k)) size = Some 1
more_of (negsuc n) size = None

-- a place has numbers that no composer gives
abbrev pub IsStrange : ℤ → Option ℕ → Type 0
IsStrange (pos zero) size = size ≡ None
IsStrange (pos (suc k)) size = ⊥
IsStrange (negsuc n) size = Unit {0}

-- a collection with this number is open, and began when the total was at most this
abbrev pub IsOpenSince : (total : ℕ) → Option ℕ → Type 0
IsOpenSince total None = ⊥
IsOpenSince total (Some size) = (9223372036854775808 ≤ size) × (size ≤ 9223372036854775808 + total)

abbrev pub IsBad : Deed → place_t → (total : ℕ) → List ℕ → Type 0
IsBad deed.Root p total sizes = IsStrange p.node (size_at sizes p.child)
IsBad deed.Item p total sizes = IsStrange p.node (size_at sizes p.child)
IsBad deed.Key p total sizes = IsStrange p.node (size_at sizes p.child)
IsBad deed.Value p total sizes = IsStrange p.node (size_at sizes p.child)
IsBad deed.Closes p total sizes = IsOpenSince total (size_at sizes p.parent) → ⊥
IsBad deed.Bad p total sizes = Unit {0}
IsBad _ p total sizes = ⊥

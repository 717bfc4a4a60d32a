-- The stack that so many entries are.
use Rattle.std.proofs.Common.{◌≡◌, ◌≤◌, ◌++◌, ℕ, List, suc, length, reverse, false, nat_le, arith, ap}
use Rattle.std.proofs.lemmas.List.{take-append-le}
use Rattle.libyaml_composer.specs.declared.records.open_t.{open_t}
use Rattle.libyaml_composer.specs.Composing.{stack_of}
pub use Rattle.libyaml_composer.proofs.Tops.{depth_is, none_open, top_below}

-- entries more change nothing
pub stack_among : (entries l : List open_t) (n : ℕ) → n ≤ length entries → stack_of n (entries ++ l) ≡ stack_of n entries
unfolding stack_of
stack_among entries l n h = ap reverse (take-append-le n entries l h)

pub depth_within : (entries : List open_t) (n : ℕ) → n ≤ length entries
    → nat_le (suc (length entries)) (length (stack_of n entries)) ≡ false
depth_within entries n h = let e = depth_is entries n h in grind arith

-- for a stack that is made longer
pub ruleset lengthened = (stack_among, depth_within)

-- for what lies on top of the stack
pub ruleset tops = (none_open, top_below)

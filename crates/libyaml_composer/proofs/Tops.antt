-- What lies on top of the stack.
use Rattle.std.proofs.Common.{◌≡◌, ◌∷◌, ◌+◌, ◌-◌, ◌<◌, ◌≤◌, ℕ, List, [], length, refl, get_or, set, arith}
use Rattle.std.proofs.lemmas.Grind.{common_steps, take-set_at}
use Rattle.std.proofs.lemmas.List.{take_more}
use Rattle.libyaml_composer.specs.declared.records.open_t.{open_t}
use Rattle.libyaml_composer.specs.Composing.{stack_of}

pub none_open : (entries : List open_t) → stack_of 0 entries ≡ []
unfolding stack_of
none_open entries = refl

pub top_at : (entries : List open_t) (n : ℕ) (d : open_t) → n < length entries
    → stack_of (n + 1) entries ≡ get_or entries n d ∷ stack_of n entries
unfolding stack_of
top_at entries n d h = rw (take_more entries n d h) (grind (arith, common_steps))

pub top_below : (entries : List open_t) (n : ℕ) (d : open_t) → 0 < n → n ≤ length entries
    → stack_of n entries ≡ get_or entries (n - 1) d ∷ stack_of (n - 1) entries
top_below entries n d h l =
    let e : n - 1 + 1 ≡ n = omega (arith, h) in
    let m : n - 1 < length entries = omega (arith, h, l) in
    rw e at (top_at entries (n - 1) d m)

pub top_set : (entries : List open_t) (n : ℕ) (o : open_t) → 0 < n → n ≤ length entries
    → stack_of n (set entries (n - 1) o) ≡ o ∷ stack_of (n - 1) entries
unfolding stack_of
top_set entries n o h l = rw (take-set_at entries (n - 1) n o (omega (arith, h, l)) (omega (arith, h, l)))
    (grind (arith, common_steps))

pub top_more : (entries : List open_t) (n m : ℕ) (o : open_t) → m ≡ n + 1 → n < length entries
    → stack_of m (set entries n o) ≡ o ∷ stack_of n entries
unfolding stack_of
top_more entries n m o e h = rw (take-set_at entries n m o e h) (grind (arith, common_steps))

pub depth_is : (entries : List open_t) (n : ℕ) → n ≤ length entries → length (stack_of n entries) ≡ n
unfolding stack_of
depth_is entries n h = grind (arith, common_steps)

-- That a test of each pair tells whether all of them are UTF-8.
use Rattle.std.proofs.Common.{ℕ, ◌<◌, List, [], ◌∷◌, length, Bool, true, false, IsTrue, refl, arith}
use Rattle.std.specs.Bool.{MatchBool}
use Rattle.std.specs.List.{AllWithin, HoldsAt}
use Rattle.libyaml_types.specs.Texts.{HandleAndPrefix, PairIsUtf8, PairsAreUtf8}

pub all_are_utf8 : (r : Bool) (pairs : List HandleAndPrefix)
    → MatchBool r (AllWithin PairIsUtf8 pairs 0 (length pairs))
    ((k : ℕ) × (k < length pairs) × HoldsAt (λ pair. ¬ PairIsUtf8 pair) pairs k)
    → (IsTrue r → PairsAreUtf8 pairs) × (PairsAreUtf8 pairs → IsTrue r)
all_are_utf8 true pairs every = (λ _. record { each = λ k d below. every k d (omega arith) below }, λ _. refl)
all_are_utf8 false [] some = absurd (omega (arith, some.1))
all_are_utf8 false (pair ∷ pairs) some =
    (λ e. cc, λ all. absurd (some.2 pair (all.each some.0 pair some.1)))

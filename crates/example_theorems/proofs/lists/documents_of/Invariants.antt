use Rattle.std.proofs.Common.{◌≡◌, ◌++◌, length}
use Rattle.std.specs.Vec.Iter.{into_iter_items, into_iter_len}
use Rattle.example_theorems.proofs.LoadTurn.{LoadTurn}
use Rattle.example_theorems.proofs.lists.documents_of.Given as goal

abbrev pub invariant-loop-token : goal.invariant-loop-token
invariant-loop-token l = (l.fn.tokens.items ≡ l.yielded ++ into_iter_items l.token-iterator)
    × (into_iter_len l.token-iterator ≡ length (into_iter_items l.token-iterator))
    × LoadTurn l.loader l.yielded l.documents.items

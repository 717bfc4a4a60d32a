-- How a test vector is shown: it is read token by token, and all else is computed.
use Rattle.std.proofs.Common.{◌≡◌, ◌++◌, ◌∷◌, ℕ, suc, List, refl, true, false, arith}
use Rattle.std.specs.Prelude.{take, drop}
use Rattle.libyaml_grammar.specs.partial.PartialEvents.{partial_events}
use Rattle.libyaml_grammar.specs.partial.PartialFaults.{fault}
use Rattle.libyaml_grammar.specs.partial.PartialTrees.{PartialTree}
use Rattle.libyaml_grammar.specs.grammar.Events.{events}
use Rattle.libyaml_types.specs.Fault.{Fault}
use Rattle.libyaml_grammar.proofs.exported.Positions.{Position, done, unopened}
use Rattle.libyaml_grammar.proofs.exported.Reading.{bad, goes, reads, reads_all}
use Rattle.libyaml_grammar.specs.runs.Runs.{Ends, Fails, is_after_properties}
use Rattle.libyaml_grammar.specs.grammar.ValidLists.{has_end}
use Rattle.libyaml_grammar.specs.partial.DeterminedEvents.{sure}
use Rattle.libyaml_grammar.specs.grammar.Tokens.{Token}
use Rattle.libyaml_grammar.specs.grammar.Trees.{Stream}
use Rattle.libyaml_grammar.proofs.exported.ReadSteps.{front}
use Rattle.libyaml_grammar.proofs.exported.VectorKinds.{begin_vector, partial_vector, valid_list_vector}
use Rattle.libyaml_graphs.specs.loads.Bounds.{IsBoundedLoads, bounded_loads}
use Rattle.libyaml_graphs.specs.loads.Loads.{IsLoads, Load, loads}

pub valid_list_loads : (n : ℕ) (l : List Token) (f : Fault) (a : List Load) (t : Stream)
    → reads_all (take n l) unopened ≡ goes (done t) → take n l ++ drop n l ≡ l
    → a ≡ loads (events t) Ends → IsLoads l f a
valid_list_loads n l f a t r s h = grind (arith, valid_list_vector n l f (events t) t r s refl)

pub partial_loads : (n : ℕ) (l : List Token) (f : Fault) (a : List Load) (b : Token) (q : Position) (c : PartialTree)
    → take n l ++ b ∷ drop (suc n) l ≡ l
    → reads_all (take n l) unopened ≡ goes q → reads q b ≡ bad c → is_after_properties c (drop (suc n) l) ≡ true
    → a ≡ loads (partial_events c b) (Fails (fault c b.content b.start_mark)) → IsLoads l f a
partial_loads n l f a b q c s r h i k
    = record {
      events = partial_events c b;
      ending = Fails (fault c b.content b.start_mark);
      run
          = partial_vector n l f (partial_events c b) (fault c b.content b.start_mark) b q c s r h i refl refl;
      all = k;
    }

pub begin_loads : (l : List Token) (f : Fault) (a : List Load) (q : Position) → reads_all l unopened ≡ goes q
    → has_end l ≡ false
    → a ≡ loads (sure (front q)) (Fails f) → IsLoads l f a
begin_loads l f a q r h k = grind (arith, front q, begin_vector l f (sure (front q)) q r h refl)

pub bounded_vectors : (m n : ℕ) (l : List Token) (f : Fault) (a : List Load) (t : Stream)
    → reads_all (take n l) unopened ≡ goes (done t) → take n l ++ drop n l ≡ l
    → a ≡ bounded_loads m (events t) Ends → IsBoundedLoads m l f a
bounded_vectors m n l f a t r s h = grind (arith, valid_list_vector n l f (events t) t r s refl)

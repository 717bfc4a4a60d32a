-- How a test vector is shown: its tokens are read to their end, to the bad token, or to where they stop.
use Rattle.std.proofs.Common.{◌≡◌, ◌++◌, ◌∷◌, ℕ, suc, List, [], ap, ◌∙◌, subst, true, false, append-nil}
use Rattle.std.specs.Prelude.{take, drop}
use Rattle.libyaml_grammar.specs.partial.PartialEvents.{partial_events}
use Rattle.libyaml_grammar.specs.partial.PartialFaults.{fault}
use Rattle.libyaml_grammar.specs.partial.PartialTrees.{PartialTree}
use Rattle.libyaml_grammar.specs.grammar.Events.{Event, events}
use Rattle.libyaml_types.specs.Fault.{Fault}
use Rattle.libyaml_grammar.proofs.exported.Positions.{Position, done, unopened}
use Rattle.libyaml_grammar.proofs.exported.Reading.{bad, goes, reads, reads_all}
use Rattle.libyaml_grammar.specs.runs.Runs.{Ends, Fails, IsRun, is_after_properties}
use Rattle.libyaml_grammar.specs.grammar.ValidLists.{has_end}
use Rattle.libyaml_grammar.specs.partial.DeterminedEvents.{Determines, sure}
use Rattle.libyaml_grammar.specs.grammar.Tokens.{Token}
use Rattle.libyaml_grammar.specs.grammar.Trees.{Stream, tokens}
use Rattle.libyaml_grammar.proofs.exported.Completion.{reached_begins, read_order}
use Rattle.libyaml_grammar.proofs.exported.Fitting.{stops_fits}
use Rattle.libyaml_grammar.proofs.exported.PrefixTrees.{prefix_of}
use Rattle.libyaml_grammar.proofs.exported.ReadSteps.{front}
use Rattle.libyaml_grammar.proofs.exported.Keeps.{feeds_keep}
use Rattle.libyaml_grammar.proofs.exported.Orders.{reads_to}
use Rattle.libyaml_grammar.proofs.exported.Running.{amid_run, begin_run, partial_run, valid_list_run}
use Rattle.libyaml_grammar.proofs.exported.Determining.{prefix_determines}
use Rattle.libyaml_grammar.proofs.exported.StreamEnds.{not_end_not_done}

-- the first n tokens are a valid list
pub valid_list_vector : (n : ℕ) (l : List Token) (f : Fault) (e : List Event) (t : Stream)
    → reads_all (take n l) unopened ≡ goes (done t) → take n l ++ drop n l ≡ l
    → events t ≡ e → IsRun l f e Ends
valid_list_vector n l f e t r s g =
    let x : tokens t ≡ take n l = feeds_keep (take n l) unopened (done t)
    (reads_to (take n l) unopened (done t) r).0 [] ∙ append-nil (take n l) in
    rw g at (rw (ap (λ (k : List Token). k ++ drop n l) x ∙ s) at
    (valid_list_run t (drop n l) f (read_order (take n l) (done t) r)))

-- token n is bad
pub partial_vector : (n : ℕ) (l : List Token) (f : Fault) (e : List Event) (g : Fault) (b : Token) (q : Position) (c : PartialTree)
    → take n l ++ b ∷ drop (suc n) l ≡ l
    → reads_all (take n l) unopened ≡ goes q → reads q b ≡ bad c → is_after_properties c (drop (suc n) l) ≡ true
    → partial_events c b ≡ e
    → fault c b.content b.start_mark ≡ g → IsRun l f e (Fails g)
partial_vector n l f e g b q c s r h i j k
    = rw k at (rw j at (rw s at (partial_run (take n l) b (drop (suc n) l) c f (stops_fits (take n l) b q c r h) i)))

pub within_vector : (n : ℕ) (l : List Token) (f : Fault) (e : List Event) (b : Token) (q : Position) (c : PartialTree)
    → take n l ++ b ∷ drop (suc n) l ≡ l
    → reads_all (take n l) unopened ≡ goes q → reads q b ≡ bad c → is_after_properties c (drop (suc n) l) ≡ false
    → partial_events c b ≡ e
    → IsRun l f e (Fails f)
within_vector n l f e b q c s r h i j
    = rw j at (rw s at (amid_run (take n l) b (drop (suc n) l) c f (stops_fits (take n l) b q c r h) i))

-- no token is bad, and none ends the stream
pub begin_vector : (l : List Token) (f : Fault) (e : List Event) (q : Position) → reads_all l unopened ≡ goes q
    → has_end l ≡ false → sure (front q) ≡ e
    → IsRun l f e (Fails f)
begin_vector l f e q r h g = begin_run l e f (reached_begins l q r) h
    (subst (λ (d : List Event). Determines l d) g (prefix_determines l (front q) (prefix_of l q r (not_end_not_done l q r h))))

-- The laws of runs that count, over a parser's events.
use Rattle.std.proofs.Common.{◌≡◌, ◌∷◌, ◌++◌, ℕ, List, [], subst, append_assoc, arith}
use Rattle.libyaml_grammar.specs.grammar.Events.{Event}
use Rattle.libyaml_grammar.specs.grammar.Nesting.{IsNested, NestsSoFar}
use Rattle.libyaml_composer.specs.declared.deed.Deed.TheVariants as deed
use Rattle.libyaml_composer.specs.Composing.{Composer, Told}
use Rattle.libyaml_composer.specs.DocumentSoFar.{DocumentSoFar}
use Rattle.document_sizes.specs.declared.counted.Counted.TheVariants as counted
use Rattle.document_sizes.specs.Counting.{Count, count_of}
use Rattle.document_sizes.specs.ParserLaws.{EndsWithItsSize, NothingIsLost, StopsAtACycle, StopsAtTheBound}
use Rattle.document_sizes.specs.ParserRuns.{CountsEvent, StreamRun}
use Rattle.document_sizes.specs.Runs.{CountRun, Counts, LosesNothing}
use Rattle.document_sizes.proofs.NestedEvents.{goes_on}
use Rattle.document_sizes.proofs.ParserRunning.{Does, closes, counts, did, opens, parts, same_count, stands, stays}
use Rattle.document_sizes.proofs.Running as running
use Rattle.document_sizes.proofs.Stops as stops

-- what the composer did at the last of these events, whatever follows
record Last (max : ℕ) (c : Composer) (h : DocumentSoFar) (total : ℕ) (sizes : List ℕ) (e : Event) (t : Told) : Type 0 where
  rest : List Event
  does : Does max c h total sizes e rest t

module _ (max : ℕ) (c : Composer) (h : DocumentSoFar) (total : ℕ) (sizes : List ℕ) (es : List Event) (e : Event) (t : Told) (n : Count)
    (r : StreamRun max c h total sizes es) (k : CountsEvent max c h total sizes e t n) (nests : NestsSoFar (es ++ e ∷ [])) where
  last : Last max c h total sizes e t
  last =
      let (rest, nested) = goes_on e.start_mark (es ++ e ∷ []) nests in
      record {
        rest = rest;
        does = did max c h total sizes e rest t n k
            (stands max c h total sizes es r (e ∷ rest) (subst IsNested (append_assoc es (e ∷ []) rest) nested));
      }

  -- it was a part of a document
  record PartOf : Type 0 where
    so_far : CountRun max c h total sizes
    counts : Counts max c h total sizes e t n

  -- unless it was counted
  part_of : (n.answer ≡ counted.Within → ⊥) → PartOf
  part_of stops_here = grind (arith, last, stays, same_count, opens, closes, parts, counts)

  loses : LosesNothing t.deed c
  loses = grind (arith, last, stays, opens, closes, parts)

  ends : t.deed ≡ deed.Ends → (c.stack ≡ []) × CountRun max c h total sizes
  ends is = grind (arith, last, stays, opens, closes, parts)

pub nothing_is_lost : NothingIsLost
nothing_is_lost max c h total sizes es e t n r k nests = loses max c h total sizes es e t n r k nests

pub ends_with_its_size : EndsWithItsSize
ends_with_its_size max c h total sizes es e t n r k nests is =
    let (none, s) = ends max c h total sizes es e t n r k nests is in
    running.total_is_size max c h total sizes s none

not_large : counted.TooLarge ≡ counted.Within → ⊥
not_large e = cc

not_endless : counted.Endless ≡ counted.Within → ⊥
not_endless e = cc

pub stops_at_the_bound : StopsAtTheBound
stops_at_the_bound max c h total total' sizes sizes' es e t r k nests =
    let q = part_of max c h total sizes es e t (count_of counted.TooLarge total' sizes') r k nests not_large in
    stops.too_large_is_right max c h total total' sizes sizes' e t q.so_far q.counts

pub stops_at_a_cycle : StopsAtACycle
stops_at_a_cycle max c h total total' sizes sizes' es e t r k nests =
    let q = part_of max c h total sizes es e t (count_of counted.Endless total' sizes') r k nests not_endless in
    stops.endless_is_right max c h total total' sizes sizes' e t q.so_far q.counts

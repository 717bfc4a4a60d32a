-- Load by load, whatever stops a document.
use Rattle.std.proofs.Common.{◌≡◌, ℕ, suc, List, [], ◌∷◌, Option, Some, None, refl, arith}
use Rattle.libyaml_grammar.specs.grammar.Events.{Event}
use Rattle.libyaml_grammar.specs.runs.Runs.{Ending}
use Rattle.libyaml_graphs.specs.loads.GraphLaws.{load_at, unless_fault}
use Rattle.libyaml_graphs.specs.loads.Loads.{Begun, Load, Stop, begun, begun_after, after_document, end_of_document, last_load, left_by, loads_by, next_by}
use Rattle.libyaml_graphs.specs.graphs.GraphParts.{Closing, Opening, closing_of, opening_of}

-- the documents after the first are those that begin in what its load leaves
abbrev pub Follow : List Begun → Type 0
Follow [] = Unit {0}
Follow (b ∷ bs) = bs ≡ begun (after_document b.rest)

pub left_after : (r : List Event) → begun_after r ≡ begun (after_document r)
left_after [] = refl
left_after (e ∷ r) = go (closing_of e) (left_after r)
  where
    go : (c : Option Closing) → begun_after r ≡ begun (after_document r)
        → ◌≡◌ {A = List Begun} (elim c [ Some y ↦ begun r | None ↦ begun_after r ])
        (begun (elim c [ Some y ↦ r | None ↦ after_document r ]))
    go (Some y) h = refl
    go None h = h

pub follow : (r : List Event) → Follow (begun r)
follow [] = tt
follow (e ∷ r) = go (opening_of e) (follow r)
  where
    go : (c : Option Opening) → Follow (begun r)
        → Follow (elim c [ None ↦ begun r | Some o ↦ record { opening = o; rest = r } ∷ begun_after r ])
    go None h = h
    go (Some o) h = left_after r

-- where a document has no end nothing follows it
none_after : (r : List Event) → end_of_document r ≡ None → after_document r ≡ []
none_after [] h = refl
none_after (e ∷ r) h = go (closing_of e) h (none_after r)
  where
    go : (c : Option Closing) → ◌≡◌ {A = Option Closing} (elim c [ Some y ↦ Some y | None ↦ end_of_document r ]) None
        → (end_of_document r ≡ None → after_document r ≡ [])
        → ◌≡◌ {A = List Event} (elim c [ Some y ↦ r | None ↦ after_document r ]) []
    go (Some y) h k = cc
    go None h k = k h

-- the first of the loads
pub first_load : (stop : Stop) (bs : List Begun) (x : Ending) (z : Load)
    → load_at z 0 (loads_by stop x bs) ≡ next_by stop x bs
first_load stop bs x z = grind arith

-- after the last load that one comes again and again
at_last : (n : ℕ) (x : Ending) → last_load x ≡ unless_fault (last_load x) (load_at (last_load x) n (last_load x ∷ []))
at_last n x = grind arith

-- the loads after the first are those of what it leaves, or its error again
pub later_load : (stop : Stop) (bs : List Begun) (x : Ending) (z : Load) (n : ℕ) → Follow bs
    → load_at z (suc n) (loads_by stop x bs) ≡ unless_fault (next_by stop x bs)
    (load_at (next_by stop x bs) n (loads_by stop x (begun (left_by bs))))
later_load stop bs x z n h = grind (arith, at_last, none_after)

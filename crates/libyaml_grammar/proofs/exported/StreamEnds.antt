-- A STREAM-END is the last token of a valid list, and each valid list has one.
use Rattle.std.specs.Prelude.{◌||◌}
use Rattle.std.proofs.Common.{◌≡◌, List, [], ◌∷◌, Bool, true, false, refl, subst}
use Rattle.libyaml_grammar.specs.grammar.ValidLists.{IsValidList, has_end, is_end}
use Rattle.libyaml_grammar.specs.grammar.Tokens.{Token}
use Rattle.libyaml_grammar.proofs.exported.Positions.{Position, done, unopened}
use Rattle.libyaml_grammar.proofs.exported.Reading.{Step, bad, goes, goes_same, over, reads, reads_all, then_all}
use Rattle.libyaml_grammar.proofs.exported.Completion.{valid_list_reads}
use Rattle.libyaml_grammar.proofs.exported.ReadSteps.{IsNotDone}
use Rattle.libyaml_grammar.proofs.trees.Ending.{Done, DoneAt, reads_done, stays_open}

abbrev pub IsDone : Position → Type 0
IsDone (done t) = Unit {0}
IsDone _ = ⊥

done_stays : (l : List Token) (q p : Position) → IsDone q → reads_all l q ≡ goes p → IsDone p
done_stays [] q p d e = subst IsDone (goes_same q p e) d
done_stays (t ∷ l) (done s) p d e = absurd cc
done_stays (t ∷ l) _ p d e = absurd d

-- after a STREAM-END nothing is read on
pub read_done : (q p : Position) (t : Token) → is_end t.content ≡ true → reads q t ≡ goes p → IsDone p
read_done q p t e f = go p (subst (λ (s : Step). Done s true) f (subst (Done (reads q t)) e (reads_done q t)))
  where
    go : (x : Position) → DoneAt x true → IsDone x
    go (done t) h = tt
    go _ h = absurd cc

-- a list that is read and has a STREAM-END leads to the end
pub end_is_done : (l : List Token) (q p : Position) → reads_all l q ≡ goes p → has_end l ≡ true → IsDone p
end_is_done [] q p e h = absurd cc
end_is_done (t ∷ l) q p e h =
    go (λ (x : Position) (f : reads_all l x ≡ goes p) (g : has_end l ≡ true). end_is_done l x p f g)
    (is_end t.content) refl
    (reads q t) refl e h
  where
    go : ((x : Position) → reads_all l x ≡ goes p → has_end l ≡ true → IsDone p) → (b : Bool) → is_end t.content ≡ b
        → (s : Step) → reads q t ≡ s
        → then_all s (reads_all l) ≡ goes p → b || has_end l ≡ true → IsDone p
    go ih true j (goes x) f g i = done_stays l x p (read_done q x t j f) g
    go ih false j (goes x) f g i = ih x g i
    go ih b j (bad c) f g i = absurd cc
    go ih b j over f g i = absurd cc

-- where no STREAM-END has come, the end is not reached
pub not_end_not_done : (l : List Token) (q : Position) → reads_all l unopened ≡ goes q → has_end l ≡ false → IsNotDone q
not_end_not_done l q e h = open_at q (stays_open l unopened q refl h e)
  where
    open_at : (x : Position) → DoneAt x false → IsNotDone x
    open_at (done t) f = absurd cc
    open_at _ f = tt

pub valid_list_has_end : (l : List Token) → IsValidList l → has_end l ≡ true
valid_list_has_end l s = go (has_end l) refl
  where
    go : (b : Bool) → has_end l ≡ b → has_end l ≡ true
    go true e = e
    go false e = absurd (not_end_not_done l (done s.tree) (valid_list_reads l s) e)

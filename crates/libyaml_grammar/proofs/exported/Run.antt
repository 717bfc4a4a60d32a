-- What the tokens of a list give, one after the other, are the events of the position that they lead to, and of a whole
-- tree the tree's.
use Rattle.std.proofs.Common.{◌≡◌, List, [], ◌∷◌, ◌++◌, sym, ap, ◌∙◌, subst, refl}
use Rattle.libyaml_grammar.specs.grammar.Tokens.{Mark, Token, marks_of}
use Rattle.libyaml_grammar.specs.grammar.Trees.{Stream, tokens}
use Rattle.libyaml_grammar.specs.grammar.Events.{Event, events}
use Rattle.libyaml_grammar.proofs.exported.Positions.{Position, done, shown, unopened}
use Rattle.libyaml_grammar.proofs.exported.Reading.{Step, along, feeds, goes}
use Rattle.libyaml_grammar.proofs.exported.Given.{gives, gives_all, if_all}
use Rattle.libyaml_grammar.proofs.trees.Complete.{stream_reads}
use Rattle.libyaml_grammar.proofs.exported.Shows.{step_shows}

abbrev pub first_mark : List Token → Mark → Mark
first_mark [] n = n
first_mark (t ∷ l) n = t.start_mark

-- the events of a position are those given by its tokens
pub given_shown : (l : List Token) (q p : Position) → feeds l q ≡ goes p → (n : Mark) (r : List Event)
    → shown p n r ≡ shown q (first_mark l n) (gives_all l q r)
given_shown l q p e n r
    = along (λ (a : List Token) (x : Position). shown p n r ≡ shown x (first_mark a n) (gives_all a x r)) p refl
    (λ t a y x f h. h
    ∙ (rw f at (step_shows y t.content (marks_of t)) (first_mark a n) (gives_all a x r)
    ∙ ap (λ (s : Step). shown y t.start_mark (gives y t.content (marks_of t) (if_all s (gives_all a) r))) (sym f))) l q e

pub tree_run : (t : Stream) → gives_all (tokens t) unopened [] ≡ events t
tree_run t =
    let m : Mark = record { index = 0; line = 0; column = 0 } in
    sym (given_shown (tokens t) unopened (done t) (stream_reads t) m [])

pub given_append : (a b : List Token) (q p : Position) → feeds a q ≡ goes p → (r : List Event)
    → gives_all (a ++ b) q r ≡ gives_all a q (gives_all b p r)
given_append a b q p e r
    = along (λ (l : List Token) (x : Position). gives_all (l ++ b) x r ≡ gives_all l x (gives_all b p r)) p refl
    (λ t l y x f h. ap (gives y t.content (marks_of t))
    (subst (λ (s : Step). if_all s (gives_all (l ++ b)) r ≡ if_all s (gives_all l) (gives_all b p r)) (sym f) h)) a q e

-- what a viable prefix has given begins the events of each valid list that it begins
pub begin_events : (a b : List Token) (q : Position) (t : Stream) → feeds a unopened ≡ goes q → a ++ b ≡ tokens t
    → events t ≡ gives_all a unopened (gives_all b q [])
begin_events a b q t e f = sym (tree_run t)
    ∙ (ap (λ (l : List Token). gives_all l unopened []) (sym f) ∙ given_append a b unopened q e [])

-- Reading goes on exactly through lists in order.
use Rattle.std.specs.Prelude.{◌&&◌}
use Rattle.std.proofs.Common.{◌≡◌, List, [], ◌∷◌, refl, sym, ap, ◌∙◌, Bool, true, false}
use Rattle.libyaml_grammar.specs.grammar.Tokens.{Token}
use Rattle.libyaml_grammar.proofs.exported.Positions.{Position, position_in_order}
use Rattle.libyaml_grammar.proofs.exported.Reading.{Step, along, bad, checked, feed, feeds, goes, is_legal, over, reads_all, then_all}
use Rattle.libyaml_grammar.proofs.exported.Keeps.{step_keeps}

-- the tests of a list
abbrev pub test_all : Step → (Position → Bool → Bool) → Bool → Bool
test_all (goes q) f r = f q r
test_all s f r = r

abbrev pub tests : List Token → Position → Bool → Bool
tests [] q r = r
tests (t ∷ l) q r = is_legal q t.content && test_all (feed q t) (tests l) r

pub feeds_order : (l : List Token) (q p : Position) → feeds l q ≡ goes p → (r : Bool)
    → position_in_order p r ≡ position_in_order q (tests l q r)
feeds_order l q p e r
    = along (λ (a : List Token) (x : Position). position_in_order p r ≡ position_in_order x (tests a x r)) p refl
    (λ t a y x f h. h
    ∙ ((step_keeps y x t f).1 (tests a x r)
    ∙ ap (λ (s : Step). position_in_order y (is_legal y t.content && test_all s (tests a) r)) (sym f))) l q e

-- in order the tests pass, and then the list is read
pub reads_from : (l : List Token) (q p : Position) → feeds l q ≡ goes p → tests l q true ≡ true → reads_all l q ≡ goes p
reads_from [] q p e h = e
reads_from (t ∷ l) q p e h =
    go (λ (x : Position) (f : feeds l x ≡ goes p) (g : tests l x true ≡ true). reads_from l x p f g) (feed q t)
    (is_legal q t.content)
    e h
  where
    go : ((x : Position) → feeds l x ≡ goes p → tests l x true ≡ true → reads_all l x ≡ goes p)
        → (s : Step) (b : Bool) → then_all s (feeds l) ≡ goes p
        → b && test_all s (tests l) true ≡ true → then_all (checked s b) (reads_all l) ≡ goes p
    go ih (goes x) true f g = ih x f g
    go ih (goes x) false f g = cc
    go ih (bad x) b f g = cc
    go ih over b f g = cc

pub reads_to : (l : List Token) (q p : Position) → reads_all l q ≡ goes p → (feeds l q ≡ goes p) × (tests l q true ≡ true)
reads_to [] q p e = (e, refl)
reads_to (t ∷ l) q p e = go (λ (x : Position) (f : reads_all l x ≡ goes p). reads_to l x p f) (feed q t)
    (is_legal q t.content) e
  where
    go : ((x : Position) → reads_all l x ≡ goes p → (feeds l x ≡ goes p) × (tests l x true ≡ true)) → (s : Step) (b : Bool)
        → then_all (checked s b) (reads_all l) ≡ goes p → (then_all s (feeds l) ≡ goes p)
        × ((b && test_all s (tests l) true) ≡ true)
    go ih (goes x) true f = ih x f
    go ih (goes x) false f = absurd cc
    go ih (bad x) b f = absurd cc
    go ih over b f = absurd cc

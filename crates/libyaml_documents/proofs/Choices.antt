-- Where the comparison of each field decides whether two values are one, so does that of a derive on the struct or enum.
use Rattle.std.proofs.Common.{◌≡◌, List, [], ◌∷◌, Bool, true, false, ◌&&◌, refl, sym, ap, subst}
use Rattle.std.specs.Bool.{Decides}
use Rattle.std.specs.Cmp.{first_so, second_so}
use mathlib.Core.Bool.{true≢false}
use mathlib.Core.Logic.{◌⊎◌, inl, inr}
use denote.Struct.Field.{Field}
use denote.Struct.Values.{Values}
use denote.Enum.Compared.{Each, by}
use denote.Enum.Declared.{Record, Choice, left_or, right_or, values_one}

-- both of two facts
pub both : {s t : Bool} {P Q : Type 0} → Decides s P → Decides t Q → Decides (s && t) (P × Q)
both {s} {t} a b = (λ e. (a.0 (first_so s t e), b.0 (second_so s t e)), λ p i. a.1 p.0 i && b.1 p.1 i)

-- the same flag, for a fact that says as much
pub through : {s : Bool} {P Q : Type 0} → Decides s P → (P → Q) → (Q → P) → Decides s Q
through a to from = (λ e. to (a.0 e), λ q. a.1 (from q))

-- a variant without fields, and one with a single field
pub no_field : (x y : Unit {0}) → Decides true (x ≡ y)
no_field x y = (λ e. refl, λ e. refl)

pub one_field : {A : Type 0} (E : A → A → Bool) → ((x y : A) → Decides (E x y) (x ≡ y)) → (x y : A × Unit {0})
    → Decides (E x.0 y.0) (x ≡ y)
one_field {A} E decides x y = through (decides x.0 y.0) (λ p i. (p i, tt)) (λ e. ap (λ (z : A × Unit {0}). z.0) e)

-- what is said of a variant, and then of the variants after it
infixr 20 ◌then◌
pub ◌then◌ : {A B : Type 0} → A → B → A × B
one then rest = (one, rest)

abbrev pub AllDecide : (Fss : List (List Field)) → Each Bool Fss → Type 0
AllDecide [] es = Unit {0}
AllDecide (Fs ∷ Fss) es = ((x y : Values Fs) → Decides (es.0 x y) (x ≡ y)) × AllDecide Fss es.1

abbrev OnLeft : {A B : Type 0} → A ⊎ B → Type 0
OnLeft (inl x) = Unit {0}
OnLeft (inr y) = ⊥

choices_decide : (Fss : List (List Field)) (es : Each Bool Fss) → AllDecide Fss es → (c d : Choice Fss)
    → Decides (by false false Fss es c d) (c ≡ d)
choices_decide [] es all c d = absurd c
choices_decide (Fs ∷ Fss) es all (inl x) (inl y) = (λ e. ap inl ((all.0 x y).0 e), λ e. (all.0 x y).1 (ap (left_or x) e))
choices_decide (Fs ∷ Fss) es all (inl x) (inr y) = (λ e. absurd (true≢false (sym e)), λ e. absurd (subst OnLeft e tt))
choices_decide (Fs ∷ Fss) es all (inr x) (inl y) = (λ e. absurd (true≢false (sym e)), λ e. absurd (subst OnLeft (sym e) tt))
choices_decide (Fs ∷ Fss) es all (inr x) (inr y) =
    let rest = choices_decide Fss es.1 all.1 x y in
    (λ e. ap inr (rest.0 e), λ e. rest.1 (ap (right_or x) e))

-- an enum, where each variant's fields decide
pub enum_decides : (N : Record) (es : Each Bool N.parts) → AllDecide N.parts es → (a b : N.D)
    → Decides (by false false N.parts es (N.as_values a) (N.as_values b)) (a ≡ b)
enum_decides N es all a b =
    through (choices_decide N.parts es all (N.as_values a) (N.as_values b)) (values_one N a b) (λ e. ap N.as_values e)

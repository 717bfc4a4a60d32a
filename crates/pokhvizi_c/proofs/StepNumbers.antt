-- What a number says.
use mathlib.Core.Bool.{true≢false}
use Rattle.std.proofs.Common.{◌≡◌, ◌∙◌, ◌==◌, ℕ, true, false, refl, sym, ap, subst, if◌then◌else◌}
use Rattle.token_steps.specs.declared.did.Did.{Did}
use Rattle.token_steps.specs.declared.did.Did.TheVariants as did
use Rattle.token_steps.specs.Numbers.{number, is_nothing_done, is_given}
use Rattle.token_steps.specs.Tells.{IsUntold, IsGiven}

pub number_undone : (d : Did) → is_nothing_done (number d) ≡ true → IsUntold d
number_undone did.FullStates e = tt
number_undone did.FullMarks e = tt
number_undone did.Bad e = tt
number_undone _ e = absurd (true≢false (sym e))

pub number_given : (d : Did) → is_given (number d) ≡ true → IsGiven d
number_given did.Gave e = tt
number_given did.Stays e = tt
number_given _ e = absurd (true≢false (sym e))

pub number_not_given : (d : Did) → is_given (number d) ≡ false → IsGiven d → ⊥
number_not_given did.Gave e = absurd (true≢false e)
number_not_given did.Stays e = absurd (true≢false e)
number_not_given did.Wants e = λ g. g
number_not_given did.FullStates e = λ g. g
number_not_given did.FullMarks e = λ g. g
number_not_given did.Failed e = λ g. g
number_not_given did.Bad e = λ g. g

abbrev did_of : ℕ → Did
did_of n = if n == 3 then did.FullStates else if n == 4 then did.FullMarks else if n == 5 then did.Failed else if n == 6 then did.Bad else did.Wants

back : (d : Did) → (did_of (number d) ≡ did.Wants → ⊥) → did_of (number d) ≡ d
back did.FullStates n = refl
back did.FullMarks n = refl
back did.Failed n = refl
back did.Bad n = refl
back _ n = absurd (n refl)

abbrev IsNotWants : Did → Type 0
IsNotWants did.Wants = ⊥
IsNotWants _ = Unit {0}

pub number_three : (d : Did) → number d ≡ 3 → d ≡ did.FullStates
number_three d e = let f = ap did_of e in sym (back d (λ w. subst IsNotWants (sym f ∙ w) tt)) ∙ f

pub number_four : (d : Did) → number d ≡ 4 → d ≡ did.FullMarks
number_four d e = let f = ap did_of e in sym (back d (λ w. subst IsNotWants (sym f ∙ w) tt)) ∙ f

pub number_six : (d : Did) → number d ≡ 6 → d ≡ did.Bad
number_six d e = let f = ap did_of e in sym (back d (λ w. subst IsNotWants (sym f ∙ w) tt)) ∙ f

pub number_five : (d : Did) → number d ≡ 5 → d ≡ did.Failed
number_five d e = let f = ap did_of e in sym (back d (λ w. subst IsNotWants (sym f ∙ w) tt)) ∙ f

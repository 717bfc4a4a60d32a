-- What a number says.
use mathlib.Core.Bool.{true≢false}
use Rattle.std.proofs.Common.{◌≡◌, ◌==◌, ℕ, true, refl, sym, ap}
use Rattle.libyaml_composer.specs.declared.deed.Deed.{Deed}
use Rattle.libyaml_composer.specs.declared.deed.Deed.TheVariants as deed
use Rattle.libyaml_composer.specs.Composing.{does_nothing}
use Rattle.libyaml_composer.specs.Numbers.{is_undone_number, deed_number}

pub number_undone : (d : Deed) → is_undone_number (deed_number d) ≡ true → does_nothing d ≡ true
number_undone deed.Passes e = refl
number_undone deed.FullStack e = refl
number_undone deed.UndefinedAlias e = refl
number_undone deed.RepeatedAnchor e = refl
number_undone deed.FullList e = refl
number_undone deed.Bad e = refl
number_undone _ e = absurd (true≢false (sym e))

pub number_twelve : (d : Deed) → deed_number d ≡ 12 → d ≡ deed.Bad
number_twelve deed.Bad e = refl
number_twelve _ e = absurd (true≢false (sym (ap (λ (n : ℕ). n == 12) e)))

use mathlib.Core.Bool.{true≢false}
use Rattle.std.proofs.Common.{◌≡◌, ◌==◌, ◌↔◌, ℕ, refl, sym, ap, ◌∙◌}
use Rattle.document_sizes.specs.Numbers.{counted_number}
use Rattle.document_sizes.specs.declared.counted.Counted.{Counted}
use Rattle.document_sizes.specs.declared.counted.Counted.TheVariants as counted
use Rattle.pokhvizi_c.proofs.compose.pokhvizi_count.Goals as goal

is_too_large : (a : Counted) → counted_number a ≡ 13 → a ≡ counted.TooLarge
is_too_large counted.TooLarge e = refl
is_too_large _ e = absurd (true≢false (sym (ap (λ (n : ℕ). n == 13) e)))

is_endless : (a : Counted) → counted_number a ≡ 14 → a ≡ counted.Endless
is_endless counted.Endless e = refl
is_endless _ e = absurd (true≢false (sym (ap (λ (n : ℕ). n == 14) e)))

is_bad : (a : Counted) → counted_number a ≡ 15 → a ≡ counted.Bad
is_bad counted.Bad e = refl
is_bad _ e = absurd (true≢false (sym (ap (λ (n : ℕ). n == 15) e)))

is_full : (a : Counted) → counted_number a ≡ 16 → a ≡ counted.Full
is_full counted.Full e = refl
is_full _ e = absurd (true≢false (sym (ap (λ (n : ℕ). n == 16) e)))

-- what is said of a result is said of its number
told : (result one : Counted) (number : ℕ) (P : Type 0) → number ≡ counted_number result
    → (counted_number result ≡ counted_number one → result ≡ one) → (result ≡ one) ↔ P → (number ≡ counted_number one) ↔ P
told result one number P e only h = (λ is. h.0 (only (sym e ∙ is)), λ p. e ∙ ap counted_number (h.1 p))

pub returns-clause-too_large : goal.returns-clause-too_large
returns-clause-too_large c = rw (sym c.deed_of.ensures)
    (told c.count.result counted.TooLarge c.number.result _ c.number.ensures (is_too_large c.count.result) c.count.ensures.too_large)

pub returns-clause-endless : goal.returns-clause-endless
returns-clause-endless c = rw (sym c.deed_of.ensures)
    (told c.count.result counted.Endless c.number.result _ c.number.ensures (is_endless c.count.result) c.count.ensures.endless)

pub returns-clause-bad : goal.returns-clause-bad
returns-clause-bad c = rw (sym c.deed_of.ensures)
    (told c.count.result counted.Bad c.number.result _ c.number.ensures (is_bad c.count.result) c.count.ensures.bad)

pub returns-clause-full : goal.returns-clause-full
returns-clause-full c = rw (sym c.deed_of.ensures)
    (told c.count.result counted.Full c.number.result _ c.number.ensures (is_full c.count.result) c.count.ensures.full)

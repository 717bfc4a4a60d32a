-- A map from the numbers of a list so far to their places finds the first number that the list repeats.
use Rattle.std.proofs.Common.{◌≡◌, ◌⊎◌, inl, inr, ◌<◌, ◌≤◌, ◌+◌, ℕ, false, List, Some, None, length, get_or, sym, subst, ap, ◌∙◌, arith}
use Rattle.std.proofs.lemmas.Bool.{cases_lt, cases_eq}
use Rattle.std.proofs.lemmas.Bool.Decides.{nat_tests}
use Rattle.std.specs.BTreeMap.{BTreeMap, get, is_at, Updates}
use Rattle.std.specs.Ordering.{nat_cmp}
use Rattle.yaml_keys.specs.Repeats.{IsRepeat, IsFirstRepeat}

-- the numbers before this place, each with its own
pub record HasSeen (xs : List ℕ) (n : ℕ) (m : BTreeMap ℕ ℕ) : Type 0 where
  pub only : (x place : ℕ) → get nat_cmp m x ≡ Some place → (place < n) × (get_or xs place 0 ≡ x)
  pub each : (place : ℕ) → place < n → get nat_cmp m (get_or xs place 0) ≡ Some place

one_place : {a b : ℕ} → Some a ≡ Some b → a ≡ b
one_place e = cc

some_none : {a : ℕ} → Some a ≡ None → ⊥
some_none e = cc

-- numbers that differ are different keys
apart_keys : (x q : ℕ) → (x ≡ q → ⊥) → is_at (nat_cmp x) q ≡ false
apart_keys x q ne = grind (arith, nat_tests)

-- two places before have different numbers
one_each : (xs : List ℕ) (n : ℕ) (m : BTreeMap ℕ ℕ) → HasSeen xs n m → (a b : ℕ) → a < n → b < n
    → get_or xs a 0 ≡ get_or xs b 0 → a ≡ b
one_each xs n m seen a b la lb same =
    one_place (sym (seen.each a la) ∙ ap (λ x. get nat_cmp m x) same ∙ seen.each b lb)

-- a number is found again
pub again : (xs : List ℕ) (n x place : ℕ) (m : BTreeMap ℕ ℕ) → HasSeen xs n m → n < length xs → x ≡ get_or xs n 0
    → get nat_cmp m x ≡ Some place → IsFirstRepeat xs (Some (place, n))
again xs n x place m seen inside is found =
    let was = seen.only x place found in (
      record { order = was.0; inside = inside; same = was.1 ∙ is },
      λ first second r. later first second r (cases_lt second n) (cases_lt n second),
    )
  where
    later : (first second : ℕ) → IsRepeat xs first second → (second < n) ⊎ (n ≤ second) → (n < second) ⊎ (second ≤ n)
        → (n < second) ⊎ ((n ≡ second) × (place ≡ first))
    later first second r (inl before) _ =
        let same : first ≡ second = one_each xs n m seen first second (omega (arith, r.order)) before r.same in
        absurd (omega (arith, same, r.order))
    later first second r (inr from) (inl after) = inl after
    later first second r (inr from) (inr upto) =
        let here : n ≡ second = omega arith in
        let value : get_or xs first 0 ≡ x = r.same ∙ ap (λ (k : ℕ). get_or xs k 0) (sym here) ∙ sym is in
        let first_found : get nat_cmp m x ≡ Some first =
        subst (λ (y : ℕ). get nat_cmp m y ≡ Some first) value (seen.each first (omega (arith, r.order))) in
        inr (here, one_place (sym found ∙ first_found))

-- no number was found again
pub none : (xs : List ℕ) (n : ℕ) (m : BTreeMap ℕ ℕ) → HasSeen xs n m → length xs ≤ n → IsFirstRepeat xs None
none xs n m seen all first second r =
    let same : first ≡ second = one_each xs n m seen first second (omega (arith, r.order, r.inside)) (omega (arith, r.inside)) r.same in
    omega (arith, same, r.order)

-- one number more, which is new
pub more : (xs : List ℕ) (n x : ℕ) (m new : BTreeMap ℕ ℕ) → HasSeen xs n m → x ≡ get_or xs n 0 → get nat_cmp m x ≡ None
    → Updates nat_cmp m new x (Some n) → HasSeen xs (n + 1) new
more xs n x m new seen is absent updates = record {
  only = λ y place found. only_at y place found (cases_eq x y);
  each = λ place before. each_at place before (cases_lt place n) (cases_eq x (get_or xs place 0));
}
  where
    only_at : (y place : ℕ) → get nat_cmp new y ≡ Some place → (x ≡ y) ⊎ (x ≡ y → ⊥) → (place < n + 1) × (get_or xs place 0 ≡ y)
    only_at y place found (inl same) =
        let here : n ≡ place = one_place (sym updates.1 ∙ ap (λ (k : ℕ). get nat_cmp new k) same ∙ found) in
        (omega (arith, here), ap (λ (k : ℕ). get_or xs k 0) (sym here) ∙ sym is ∙ same)
    only_at y place found (inr differs) =
        let old = seen.only y place (sym (updates.2 y (apart_keys x y differs)) ∙ found) in
        (omega (arith, old.0), old.1)

    each_at : (place : ℕ) → place < n + 1 → (place < n) ⊎ (n ≤ place)
        → (x ≡ get_or xs place 0) ⊎ (x ≡ get_or xs place 0 → ⊥) → get nat_cmp new (get_or xs place 0) ≡ Some place
    each_at place before (inl earlier) (inl same) =
        absurd (some_none (sym (seen.each place earlier) ∙ ap (λ (k : ℕ). get nat_cmp m k) (sym same) ∙ absent))
    each_at place before (inl earlier) (inr differs) =
        updates.2 (get_or xs place 0) (apart_keys x (get_or xs place 0) differs) ∙ seen.each place earlier
    each_at place before (inr later) _ =
        let here : n ≡ place = omega (arith, before) in
        subst (λ (k : ℕ). get nat_cmp new (get_or xs k 0) ≡ Some k) here
        (subst (λ (y : ℕ). get nat_cmp new y ≡ Some n) is updates.1)

-- Sets as bits.
use Rattle.std.specs.Prelude.{◌==◌, ◌||◌, ◌<◌, Bool, true, false}
use Rattle.std.proofs.Common.{◌≡◌, ℕ, ◌*◌, ◌/◌, ◌%◌, ◌^◌, refl, ap, ◌∙◌, arith, max}
use Rattle.std.specs.Int.{bit_at, w32}
use Rattle.libyaml_automaton.specs.Acceptable.{is_same}
use Rattle.std.specs.Int.RustNames.{bit_and, bit_or}
use Rattle.std.proofs.lemmas.Nat.Bits.{shr_and_one, bit_at_or, bit_at-lt, bit_at_set_same, bit_at_set_other}
use Rattle.libyaml_types.specs.Numbers.{token_type_number}
use Rattle.libyaml_types.specs.declared.enums.yaml_token_type_t.{yaml_token_type_t}
use Rattle.libyaml_types.specs.declared.enums.yaml_token_type_t.TheVariants.{YAML_NO_TOKEN}

pub number_small : (k : yaml_token_type_t) → token_type_number k < 32
number_small YAML_NO_TOKEN = omega arith
number_small _ = omega arith

pub bit_tested : (n i : ℕ) → (bit_and (n / 2 ^ i) 1 == 1) ≡ (bit_at n i == 1)
bit_tested n i = ap (λ (x : ℕ). x == 1) (shr_and_one n i)

is_one : (a b : ℕ) → a < 2 → b < 2 → (max a b == 1) ≡ ((a == 1) || (b == 1))
is_one a b h k = grind arith

pub both_tested : (a b i : ℕ) → (bit_at (bit_or a b) i == 1) ≡ ((bit_at a i == 1) || (bit_at b i == 1))
both_tested a b i = ap (λ (x : ℕ). x == 1) (bit_at_or a b i) ∙ is_one (bit_at a i) (bit_at b i) (bit_at-lt a i) (bit_at-lt b i)

set_tested : (n b i : ℕ) → b < 32 → (bit_at (bit_or n (1 * 2 ^ b % 4294967296)) i == 1) ≡ ((i == b) || (bit_at n i == 1))
set_tested n b i h = by (i == b) refl
  where
    by : (t : Bool) → (i == b) ≡ t → (bit_at (bit_or n (1 * 2 ^ b % 4294967296)) i == 1) ≡ ((i == b) || (bit_at n i == 1))
    by true e = let s : i ≡ b = grind arith in rw e (rw s (rw (bit_at_set_same w32 n b h) refl))
    by false e = rw e (ap (λ (x : ℕ). x == 1) (bit_at_set_other w32 n b h i (λ f. (let z : (i == b) ≡ true = rw f grind arith in cc))))

pub with_has : (n b : ℕ) (a : yaml_token_type_t) → b ≡ token_type_number a → (k : yaml_token_type_t)
    → (bit_at (bit_or n (1 * 2 ^ b % 4294967296)) (token_type_number k) == 1) ≡ (is_same a k || (bit_at n (token_type_number k) == 1))
with_has n b a e k = rw e (set_tested n (token_type_number a) (token_type_number k) (number_small a))

pub ruleset test_is = (number_small, bit_tested)

pub ruleset union_has = both_tested

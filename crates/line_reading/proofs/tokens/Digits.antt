-- a number that begins some bytes
use Rattle.std.proofs.Common.{◌≡◌, ℕ, ◌+◌, ◌-◌, ◌*◌, ◌<◌, ◌≤◌, ◌^◌, true, false, List, [], ◌∷◌, ◌++◌, length, take, drop, get_or, None, refl, ap, sym, ◌∙◌, arith, append_assoc}
use Rattle.std.proofs.lemmas.List.{at_drop_more, at_drop_all, take_more, append-nil, get_or-take, length-take, length-drop}
use Rattle.std.specs.Char.{is_ascii_digit}
use Rattle.line_reading.specs.tokens.Number.{value_after, value_of, number_of}
use Rattle.line_reading.specs.tokens.Field.{number_at}
use Rattle.line_reading.specs.tokens.Prefixes.{digits_of, after_digits}
use Rattle.line_reading.specs.tokens.ReadAt.{HasDigits, IsNumberRead}
use Rattle.line_reading.specs.declared.marks.NumberRead.{NumberRead}
use Rattle.line_reading.proofs.tokens.Numerals.{value_after-end, value_after-digit, value_after-large}

-- the first i bytes are digits of this value
pub record HasRead (bytes : List ℕ) (i n : ℕ) : Type 0 where
  pub digits : digits_of bytes ≡ take i bytes ++ digits_of (drop i bytes)
  pub behind : after_digits bytes ≡ after_digits (drop i bytes)
  pub value : value_of (digits_of bytes) ≡ value_after n (digits_of (drop i bytes))
  pub fits : n < 2 ^ 64

pub none_read : (bytes : List ℕ) → HasRead bytes 0 0
none_read bytes = record { digits = refl; behind = refl; value = refl; fits = omega arith }

digits-yes : (b : ℕ) (bs : List ℕ) → is_ascii_digit b ≡ true → digits_of (b ∷ bs) ≡ b ∷ digits_of bs
digits-yes b bs d = rw d refl

behind-yes : (b : ℕ) (bs : List ℕ) → is_ascii_digit b ≡ true → after_digits (b ∷ bs) ≡ after_digits bs
behind-yes b bs d = rw d refl

digits-no : (b : ℕ) (bs : List ℕ) → is_ascii_digit b ≡ false → digits_of (b ∷ bs) ≡ []
digits-no b bs d = rw d refl

behind-no : (b : ℕ) (bs : List ℕ) → is_ascii_digit b ≡ false → after_digits (b ∷ bs) ≡ b ∷ bs
behind-no b bs d = rw d refl

pub no_value : (ds : List ℕ) → value_of ds ≡ None → number_of ds ≡ None
no_value ds h = grind arith

-- the digits end at i
ends : (bytes : List ℕ) (i n : ℕ) → HasRead bytes i n → digits_of (drop i bytes) ≡ []
    → after_digits (drop i bytes) ≡ drop i bytes → HasDigits bytes i n
ends bytes i n h none rest = grind (arith, append-nil, value_after-end)

pub ends_at_end : (bytes : List ℕ) (i n : ℕ) → HasRead bytes i n → length bytes ≤ i → HasDigits bytes i n
ends_at_end bytes i n h large =
    let none : drop i bytes ≡ [] = at_drop_all (λ x. x) bytes i large in
    ends bytes i n h (ap digits_of none) (ap after_digits none ∙ sym none)

-- the next byte, where the bytes that are looked at are a prefix of those

module _ (bytes : List ℕ) (k i n : ℕ) (h : HasRead bytes i n) (small : i < length (take k bytes)) where
  abbrev byte : ℕ
  byte = get_or (take k bytes) i 0

  abbrev rest : List ℕ
  rest = drop (i + 1) bytes

  within : (i < length bytes) × (byte ≡ get_or bytes i 0)
  within = grind (arith, length-take, get_or-take)

  whole : drop i bytes ≡ byte ∷ rest
  whole = at_drop_more (λ x. x) bytes i 0 within.0 ∙ ap (λ b. b ∷ rest) (sym within.1)

  pub more_within : is_ascii_digit byte ≡ true → n * 10 + (byte - 48) < 2 ^ 64
      → HasRead bytes (i + 1) (n * 10 + (byte - 48))
  more_within d fits =
      let digits : digits_of (drop i bytes) ≡ byte ∷ digits_of rest = ap digits_of whole ∙ digits-yes byte rest d in
      record {
        digits = h.digits ∙ ap (λ x. take i bytes ++ x) digits
            ∙ sym (append_assoc (take i bytes) (byte ∷ []) (digits_of rest))
            ∙ ap (λ x. x ++ digits_of rest)
            (ap (λ b. take i bytes ++ b ∷ []) within.1 ∙ sym (take_more bytes i 0 within.0));
        behind = h.behind ∙ ap after_digits whole ∙ behind-yes byte rest d;
        value = h.value ∙ ap (value_after n) digits ∙ value_after-digit n byte (digits_of rest) d;
        fits = fits;
      }

  pub too_much_within : is_ascii_digit byte ≡ true → 2 ^ 64 ≤ n * 10 + (byte - 48) → number_at bytes ≡ None
  too_much_within d large = grind (arith, whole, digits-yes, value_after-digit, value_after-large, no_value)

  pub ends_within : is_ascii_digit byte ≡ false → HasDigits bytes i n
  ends_within d
      = ends bytes i n h (ap digits_of whole ∙ digits-no byte rest d)
      (ap after_digits whole ∙ behind-no byte rest d ∙ sym whole)

pub ends_with_line : (line : List ℕ) (at end i n : ℕ) → end ≡ length line → HasRead (drop at line) i n
    → i ≤ length (take (end - at) (drop at line))
    → length (take (end - at) (drop at line)) ≤ i → HasDigits (drop at line) (end - at) n
ends_with_line line at end i n e h most least = grind (arith, length-take, length-drop, ends_at_end)

-- the number that is there, or that there is none

pub no_number_read : (line : List ℕ) (at : ℕ) (read : NumberRead) → read.end ≡ 0 → number_at (drop at line) ≡ None
    → IsNumberRead line at read
no_number_read line at read e none = grind arith

pub digit_within : (b : ℕ) → is_ascii_digit b ≡ true → (48 ≤ b) × (b ≤ 57)
digit_within b d = grind arith

-- the last bytes of a text, as a word that is shifted
use Rattle.std.proofs.Common.{◌≡◌, ℕ, zero, suc, ◌+◌, ◌-◌, ◌*◌, ◌/◌, ◌^◌, ◌<◌, ◌≤◌, List, [], ◌∷◌, length, length-drop, drop, get_or, refl, ap, sym, ◌∙◌, arith}
use Rattle.std.proofs.lemmas.List.{get_or-drop, drop-drop}
use Rattle.std.specs.Slice.Scan.{little_endian}
use native.Mathlib.Nat.{pow-suc, mul_comm, mul-suc, div-div-eq-div-mul, div-one, zero-div}
use lib.Pow.{pow-add}
use Rattle.std.proofs.lemmas.Nat.{div-mul-add}
use Rattle.line_reading.proofs.Words.{AreBytes, word, bytes_of, eight_are}

pub power : (k : ℕ) → 2 ^ (8 * k) ≡ 256 ^ k
power zero = refl
power (suc k) = ap (λ n. 2 ^ n) (mul-suc 8 k) ∙ pow-add 2 (8 * k) 8 ∙ ap (λ n. n * 256) (power k) ∙ sym (pow-suc 256 k)

abbrev pub plain : List ℕ → ℕ
plain xs = word (λ b. b) xs

pub shifted : (k : ℕ) (xs : List ℕ) → AreBytes xs → plain xs / (256 ^ k) ≡ plain (drop k xs)
shifted zero xs fit = div-one (plain xs)
shifted (suc k) [] fit = zero-div (256 ^ suc k)
shifted (suc k) (b ∷ xs) fit =
    ap (λ n. plain (b ∷ xs) / n) (pow-suc 256 k ∙ mul_comm (256 ^ k) 256)
    ∙ sym (div-div-eq-div-mul (plain (b ∷ xs)) 256 (256 ^ k))
    ∙ ap (λ n. n / 256 ^ k) (div-mul-add (plain xs) 256 b (omega (arith, fit.0)))
    ∙ shifted k xs fit.1

-- bytes are those of their word
pub same : (xs ys : List ℕ) → length xs ≡ length ys → AreBytes xs → AreBytes ys → plain xs ≡ plain ys → xs ≡ ys
same [] [] l f g e = refl
same [] (y ∷ ys) l f g e = absurd (omega (arith, l))
same (x ∷ xs) [] l f g e = absurd (omega (arith, l))
same (x ∷ xs) (y ∷ ys) l f g e = grind (arith, same xs ys (omega (arith, l)) f.1 g.1 (omega (arith, e, f.0, g.0)))

fit_drop : (k : ℕ) (xs : List ℕ) → AreBytes xs → AreBytes (drop k xs)
fit_drop zero xs f = f
fit_drop (suc k) [] f = tt
fit_drop (suc k) (x ∷ xs) f = fit_drop k xs f.1

module _ (bytes : List ℕ) (room : 8 ≤ length bytes) (fits : (i : ℕ) → get_or bytes i 0 < 2 ^ 8) where
  abbrev last : List ℕ
  last = drop (length bytes - 8) bytes

  pub long : length last ≡ 8
  long = length-drop (length bytes - 8) bytes ∙ omega (arith, room)

  pub are_bytes : AreBytes last
  are_bytes = bytes_of last (λ j h. rw (get_or-drop (length bytes - 8) bytes j 0) (fits (length bytes - 8 + j)))

  pub read : (w : ℕ) → w ≡ little_endian last 0 → w ≡ plain last
  read w is = omega (arith, is, eight_are last long)

  pub cut : (len : ℕ) → 0 < len → len ≤ 8 → drop (8 - len) last ≡ drop (length bytes - len) bytes
  cut len some few = drop-drop (8 - len) (length bytes - 8) bytes ∙ ap (λ n. drop n bytes) (omega (arith, room, some, few))

  pub word_of : (len w : ℕ) → 0 < len → len ≤ 8 → w ≡ little_endian last 0
      → w / (2 ^ (8 * (8 - len))) ≡ plain (drop (length bytes - len) bytes)
  word_of len w some few is = grind (arith, read, power, shifted, are_bytes, cut)

  pub ends_are : (len : ℕ) → 0 < len → len ≤ 8 → AreBytes (drop (length bytes - len) bytes)
  ends_are len some few = rw (← cut len some few) (fit_drop (8 - len) last are_bytes)

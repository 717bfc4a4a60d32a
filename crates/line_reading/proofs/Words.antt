-- a word of bytes, and what the operations on words do to each byte
use Rattle.std.proofs.Common.{◌≡◌, ◌≢◌, ◌+◌, ◌-◌, ◌*◌, ◌^◌, ◌<◌, ◌≤◌, ℕ, zero, suc, Bool, true, false, not, ◌==◌, List, [], ◌∷◌, length, length-drop, take, drop, get_or, refl, ap, sym, ◌∙◌, arith, eq-eqb}
use Rattle.std.specs.Int.Bits.{bit_and, bit_or, bit_xor}
use Rattle.std.proofs.lemmas.Bool.{agree_below, agree_below_at, eqb-true, eqb-false}
use Rattle.std.proofs.lemmas.List.{get_or-drop, get_or-take, length-take}
use Rattle.std.proofs.lemmas.Nat.{and_block, or_block, xor_block, and_le_r, or_lt, xor_lt}
use Rattle.std.specs.Slice.Scan.{little_endian, HoldsNowhere, HoldsSomewhere}
use Rattle.line_reading.specs.Clean.{is_odd, is_odd_at}

abbrev pub AreBytes : List ℕ → Type 0
AreBytes [] = Unit {0}
AreBytes (b ∷ bs) = (b < 2 ^ 8) × AreBytes bs

-- the word whose bytes are f of each byte, the first lowest
abbrev pub word : (ℕ → ℕ) → List ℕ → ℕ
word f [] = 0
word f (b ∷ bs) = word f bs * 2 ^ 8 + f b

-- f of a byte is a byte
abbrev KeepsBytes : (ℕ → ℕ) → Type 0
KeepsBytes f = (b : ℕ) → b < 2 ^ 8 → f b < 2 ^ 8

-- an operation that works on the low eight bits for themselves
abbrev WorksByBytes : (ℕ → ℕ → ℕ) → Type 0
WorksByBytes op = (a b x y : ℕ) → x < 2 ^ 8 → y < 2 ^ 8 → op (a * 2 ^ 8 + x) (b * 2 ^ 8 + y) ≡ op a b * 2 ^ 8 + op x y

on_word : (op : ℕ → ℕ → ℕ) → WorksByBytes op → op 0 0 ≡ 0 → (f g : ℕ → ℕ) → KeepsBytes f → KeepsBytes g
    → (bs : List ℕ) → AreBytes bs
    → op (word f bs) (word g bs) ≡ word (λ b. op (f b) (g b)) bs
on_word op works none f g F G [] h = none
on_word op works none f g F G (b ∷ bs) h = grind (arith, on_word op works none f g F G bs h.1)

and_word : (f g : ℕ → ℕ) → KeepsBytes f → KeepsBytes g → (bs : List ℕ) → AreBytes bs
    → bit_and (word f bs) (word g bs) ≡ word (λ b. bit_and (f b) (g b)) bs
and_word = on_word bit_and (and_block 8) refl

or_word : (f g : ℕ → ℕ) → KeepsBytes f → KeepsBytes g → (bs : List ℕ) → AreBytes bs
    → bit_or (word f bs) (word g bs) ≡ word (λ b. bit_or (f b) (g b)) bs
or_word = on_word bit_or (or_block 8) refl

pub xor_word : (f g : ℕ → ℕ) → KeepsBytes f → KeepsBytes g → (bs : List ℕ) → AreBytes bs
    → bit_xor (word f bs) (word g bs) ≡ word (λ b. bit_xor (f b) (g b)) bs
xor_word = on_word bit_xor (xor_block 8) refl

add_word : (f g : ℕ → ℕ) → (bs : List ℕ) → word f bs + word g bs ≡ word (λ b. f b + g b) bs
add_word f g [] = refl
add_word f g (b ∷ bs) = omega (arith, add_word f g bs)

-- one byte again and again
abbrev ones : ℕ → ℕ
ones zero = 0
ones (suc n) = ones n * 2 ^ 8 + 1

spread : (c : ℕ) (bs : List ℕ) → word (λ _. c) bs ≡ c * ones (length bs)
spread c [] = omega arith
spread c (b ∷ bs) = omega (arith, spread c bs)

pub eight : (c : ℕ) (bs : List ℕ) → length bs ≡ 8 → word (λ _. c) bs ≡ c * 0x0101_0101_0101_0101
eight c bs e = spread c bs ∙ ap (λ n. c * ones n) e

-- the bits of a byte that is odd: the highest, and else none

abbrev low : ℕ → ℕ
low b = bit_and b 127

abbrev visible : ℕ → ℕ
visible b = low b + 95

abbrev no_percent : ℕ → ℕ
no_percent b = bit_xor (low b) 37 + 127

abbrev delete : ℕ → ℕ
delete b = low b + 1

abbrev both : ℕ → ℕ
both b = bit_and (visible b) (no_percent b)

abbrev other : ℕ → ℕ
other b = bit_xor (both b) 128

abbrev either : ℕ → ℕ
either b = bit_or (other b) (delete b)

abbrev any : ℕ → ℕ
any b = bit_or (either b) b

abbrev marked : ℕ → ℕ
marked b = bit_and (any b) 128

tried : agree_below (λ b. marked b == 0) (λ b. not (is_odd b)) 256 ≡ true
tried = refl

low_small : (b : ℕ) → low b < 2 ^ 7
low_small b = omega (arith, and_le_r b 127)

-- each of them is a byte

pub constant : (c : ℕ) → c < 2 ^ 8 → KeepsBytes (λ _. c)
constant c h b small = h

low_byte : KeepsBytes low
low_byte b h = omega (arith, low_small b)

visible_byte : KeepsBytes visible
visible_byte b h = omega (arith, low_small b)

no_percent_byte : KeepsBytes no_percent
no_percent_byte b h = omega (arith, xor_lt 7 (low b) 37 (low_small b) (omega arith))

delete_byte : KeepsBytes delete
delete_byte b h = omega (arith, low_small b)

both_byte : KeepsBytes both
both_byte b h = omega (arith, and_le_r (visible b) (no_percent b), no_percent_byte b h)

other_byte : KeepsBytes other
other_byte b h = xor_lt 8 (both b) 128 (both_byte b h) (omega arith)

either_byte : KeepsBytes either
either_byte b h = or_lt 8 (other b) (delete b) (other_byte b h) (delete_byte b h)

any_byte : KeepsBytes any
any_byte b h = or_lt 8 (either b) b (either_byte b h) h

-- the same of a word

abbrev any_of : ℕ → ℕ → ℕ
any_of w l =
    let odd = bit_xor (bit_and (l + 0x5f5f_5f5f_5f5f_5f5f)
    (bit_xor l 0x2525_2525_2525_2525 + 0x7f7f_7f7f_7f7f_7f7f)) 0x8080_8080_8080_8080 in
    bit_or (bit_or odd (l + 0x0101_0101_0101_0101)) w

abbrev marks : ℕ → ℕ
marks w = bit_and (any_of w (bit_and w 0x7f7f_7f7f_7f7f_7f7f)) 0x8080_8080_8080_8080

module _ (bs : List ℕ) (long : length bs ≡ 8) (fit : AreBytes bs) where
  low_is : bit_and (word (λ b. b) bs) 0x7f7f_7f7f_7f7f_7f7f ≡ word low bs
  low_is = grind (arith, eight 127 bs long, and_word (λ b. b) (λ _. 127) (λ b h. h) (constant 127 (omega arith)) bs fit)

  visible_is : word low bs + 0x5f5f_5f5f_5f5f_5f5f ≡ word visible bs
  visible_is = ap (λ w. word low bs + w) (sym (eight 95 bs long)) ∙ add_word low (λ _. 95) bs

  percent_is : bit_xor (word low bs) 0x2525_2525_2525_2525 ≡ word (λ b. bit_xor (low b) 37) bs
  percent_is = grind (arith, eight 37 bs long, xor_word low (λ _. 37) low_byte (constant 37 (omega arith)) bs fit)

  no_percent_is : word (λ b. bit_xor (low b) 37) bs + 0x7f7f_7f7f_7f7f_7f7f ≡ word no_percent bs
  no_percent_is = grind (arith, eight 127 bs long, add_word (λ b. bit_xor (low b) 37) (λ _. 127) bs)

  delete_is : word low bs + 0x0101_0101_0101_0101 ≡ word delete bs
  delete_is = ap (λ w. word low bs + w) (sym (eight 1 bs long)) ∙ add_word low (λ _. 1) bs

  other_is : bit_xor (word both bs) 0x8080_8080_8080_8080 ≡ word other bs
  other_is = grind (arith, eight 128 bs long, xor_word both (λ _. 128) both_byte (constant 128 (omega arith)) bs fit)

  any_is : any_of (word (λ b. b) bs) (word low bs) ≡ word any bs
  any_is =
      grind (arith, and_word, visible_byte, no_percent_byte, or_word, other_byte, delete_byte, visible_is, percent_is, no_percent_is, delete_is, other_is, either_byte)

  pub marks_are : marks (word (λ b. b) bs) ≡ word marked bs
  marks_are = grind (arith, low_is, any_is, eight 128 bs long, and_word any (λ _. 128) any_byte (constant 128 (omega arith)) bs fit)

-- a byte is marked where it is odd

pub true_not : (x : Bool) → not x ≡ true → x ≡ false
true_not x e = grind arith

false_not : (x : Bool) → not x ≡ false → x ≡ true
false_not x e = grind arith

is_marked : (b : ℕ) → b < 2 ^ 8 → (marked b == 0) ≡ not (is_odd b)
is_marked b small = agree_below_at (λ b. marked b == 0) (λ b. not (is_odd b)) 256 b tried small

none_marked : (bs : List ℕ) → AreBytes bs → word marked bs ≡ 0 → (j : ℕ) → j < length bs → is_odd (get_or bs j 0) ≡ false
none_marked [] fit e j h = absurd (omega arith)
none_marked (b ∷ bs) fit e zero h = true_not (is_odd b) (sym (is_marked b fit.0) ∙ eq-eqb (marked b) 0 (omega (arith, e)))
none_marked (b ∷ bs) fit e (suc j) h = none_marked bs fit.1 (omega (arith, e)) j (omega arith)

abbrev SomeOdd : List ℕ → Type 0
SomeOdd bs = (j : ℕ) × (j < length bs) × (is_odd (get_or bs j 0) ≡ true)

some_marked : (bs : List ℕ) → AreBytes bs → word marked bs ≢ 0 → SomeOdd bs
some_marked [] fit e = absurd (e refl)
some_marked (b ∷ bs) fit e = go (marked b == 0) refl (some_marked bs fit.1)
  where
    go : (t : Bool) → (marked b == 0) ≡ t → (word marked bs ≢ 0 → SomeOdd bs) → SomeOdd (b ∷ bs)
    go false h rest = (0, omega arith, false_not (is_odd b) (sym (is_marked b fit.0) ∙ h))
    go true h rest =
        let zero_here = eqb-true (marked b) 0 h in
        let found = rest (λ z. e (omega (arith, z, zero_here))) in
        (suc found.0, omega (arith, found.1), found.2)

-- the bytes at a place

pub bytes_of : (xs : List ℕ) → ((i : ℕ) → i < length xs → get_or xs i 0 < 2 ^ 8) → AreBytes xs
bytes_of [] f = tt
bytes_of (x ∷ xs) f = (f 0 (omega arith), bytes_of xs (λ i h. f (suc i) (omega arith)))

pub eight_are : (xs : List ℕ) → length xs ≡ 8
    → word (λ b. b) xs
    ≡ get_or xs 0 0 + get_or xs 1 0 * 256 + get_or xs 2 0 * 65536 + get_or xs 3 0 * 16777216
    + get_or xs 4 0 * 4294967296 + get_or xs 5 0 * 1099511627776 + get_or xs 6 0 * 281474976710656 + get_or xs 7
    0 * 72057594037927936
eight_are [] e = absurd (omega arith)
eight_are (a ∷ []) e = absurd (omega arith)
eight_are (a ∷ b ∷ []) e = absurd (omega arith)
eight_are (a ∷ b ∷ c ∷ []) e = absurd (omega arith)
eight_are (a ∷ b ∷ c ∷ d ∷ []) e = absurd (omega arith)
eight_are (a ∷ b ∷ c ∷ d ∷ p ∷ []) e = absurd (omega arith)
eight_are (a ∷ b ∷ c ∷ d ∷ p ∷ q ∷ []) e = absurd (omega arith)
eight_are (a ∷ b ∷ c ∷ d ∷ p ∷ q ∷ r ∷ []) e = absurd (omega arith)
eight_are (a ∷ b ∷ c ∷ d ∷ p ∷ q ∷ r ∷ s ∷ []) e = omega arith
eight_are (a ∷ b ∷ c ∷ d ∷ p ∷ q ∷ r ∷ s ∷ t ∷ xs) e = absurd (omega arith)

module _ (bs : List ℕ) (at : ℕ) (room : at + 8 ≤ length bs) (fits : (i : ℕ) → get_or bs i 0 < 2 ^ 8) where
  abbrev xs : List ℕ
  xs = take 8 (drop at bs)

  long : length xs ≡ 8
  long = length-take 8 (drop at bs) ∙ omega (arith, length-drop at bs)

  place : (j : ℕ) → j < 8 → get_or xs j 0 ≡ get_or bs (at + j) 0
  place j h = get_or-take 8 (drop at bs) j 0 h ∙ get_or-drop at bs j 0

  pub are_bytes : AreBytes xs
  are_bytes = bytes_of xs (λ j h. rw (place j (omega (arith, long, h))) (fits (at + j)))

  spelt : (w : ℕ) → w ≡ little_endian bs at → w ≡ word (λ b. b) xs
  spelt w is =
      let first : get_or xs 0 0 ≡ get_or bs at 0 = place 0 (omega arith) ∙ ap (λ i. get_or bs i 0) {y = at} (omega arith) in
      let one = place 1 (omega arith) in
      let two = place 2 (omega arith) in
      let three = place 3 (omega arith) in
      let four = place 4 (omega arith) in
      let five = place 5 (omega arith) in
      let six = place 6 (omega arith) in
      let seven = place 7 (omega arith) in
      omega (arith, is, eight_are xs long, first, one, two, three, four, five, six, seven)

  read : (w : ℕ) → w ≡ little_endian bs at → marks w ≡ word marked xs
  read w is = ap marks (spelt w is) ∙ marks_are xs long are_bytes

  pub clean_at : (w : ℕ) → w ≡ little_endian bs at → (marks w == 0) ≡ true → HoldsNowhere (is_odd_at bs) at (at + 8)
  clean_at w is e k low high =
      let none : word marked xs ≡ 0 = sym (read w is) ∙ eqb-true (marks w) 0 e in
      let here : at + (k - at) ≡ k = omega arith in
      let found = none_marked xs are_bytes none (k - at) (omega (arith, long)) in
      rw (← here, ← place (k - at) (omega arith)) found

  pub odd_at : (w : ℕ) → w ≡ little_endian bs at → (marks w == 0) ≡ false → HoldsSomewhere (is_odd_at bs) at (at + 8)
  odd_at w is e =
      let found = some_marked xs are_bytes (λ z. eqb-false (marks w) 0 e (read w is ∙ z)) in
      let small : found.0 < 8 = omega (arith, long, found.1) in
      (at + found.0, omega arith, omega (arith, small), ap is_odd (sym (place found.0 small)) ∙ found.2)

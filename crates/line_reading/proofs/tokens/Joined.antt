-- the number that the digits in a word write
use Rattle.std.proofs.Common.{◌≡◌, ◌≢◌, ℕ, zero, suc, ◌+◌, ◌-◌, ◌*◌, ◌/◌, ◌%◌, ◌^◌, ◌<◌, ◌≤◌, Bool, true, false, true≢false, not, ◌==◌, ◌&&◌, ◌||◌, cond, List, [], ◌∷◌, ◌++◌, length, map, take, take-take, drop, replicate, get_or, Some, refl, ap, sym, subst, ◌∙◌, arith, w64}
use Rattle.std.specs.Int.Bits.{bit_and, bit_xor}
use Rattle.std.specs.Char.{is_ascii_digit, digit_value}
use Rattle.std.specs.Int.{from_le_bytes}
use Rattle.std.specs.Str.{all_ascii_digits}
use Rattle.std.specs.Str.Parse.{digits_value_after}
use Rattle.std.proofs.lemmas.Bool.{lt-ltb, agree_below_at, eqb-true, ne_eqb}
use Rattle.std.proofs.lemmas.List.{length-take, length-map, length-replicate, take-map}
use Rattle.std.proofs.lemmas.Nat.{and_block, and_mask, xor_lt, pow-add}
use Rattle.std.proofs.lemmas.Simd.{length-chunk}
use Rattle.std.proofs.Math.Seq.{take-append-add}
use Rattle.std.proofs.Math.Nat.{pow-suc}
use native.Mathlib.Nat.{mul_comm, mul_assoc}
use Rattle.line_reading.specs.tokens.Number.{number_of, value_of}
use Rattle.line_reading.specs.tokens.Field.{number_at}
use Rattle.line_reading.specs.tokens.Prefixes.{digits_of, after_digits}
use Rattle.line_reading.specs.tokens.ReadAt.{HasDigits}
use Rattle.line_reading.specs.tokens.Joined.{Joins, is_no_digit}
use Rattle.line_reading.proofs.Words.{AreBytes, word, eight_are, are_bytes, xor_word, eight, constant}
use Rattle.line_reading.proofs.Ends.{plain, power}
use Rattle.line_reading.proofs.Lanes.{run}
use Rattle.line_reading.proofs.tokens.Digits.{digit_within}
use Rattle.line_reading.proofs.tokens.Numerals.{digit_value_is}

-- ---- two joined

keep_four : (p q r s x y z w : ℕ) → p < 256 → q < 256 → r < 256 → s < 256 → x < 256 → y < 256 → z < 256 → w < 256
    → bit_and (p + x * 256 + q * 65536 + y * 16777216 + r * 4294967296 + z * 1099511627776 + s * 281474976710656
    + w * 72057594037927936) 0x00ff_00ff_00ff_00ff
    ≡ p + q * 65536 + r * 4294967296 + s * 281474976710656
keep_four p q r s x y z w P Q R S X Y Z W =
    let a : p + x * 256 + q * 65536 + y * 16777216 + r * 4294967296 + z * 1099511627776 + s * 281474976710656
    + w * 72057594037927936
    ≡ (((s + w * 256) * 2 ^ 16 + (r + z * 256)) * 2 ^ 16 + (q + y * 256)) * 2 ^ 16 + (p + x * 256) = omega arith in
    ap (λ n. bit_and n 0x00ff_00ff_00ff_00ff) a
    ∙ and_block 16 (((s + w * 256) * 2 ^ 16 + (r + z * 256)) * 2 ^ 16 + (q + y * 256)) 0x00ff_00ff_00ff (p + x * 256) 255
    (omega arith) (omega arith)
    ∙ ap (λ n. n * 2 ^ 16 + bit_and (p + x * 256) 255)
    (and_block 16 ((s + w * 256) * 2 ^ 16 + (r + z * 256)) 0x00ff_00ff (q + y * 256) 255 (omega arith) (omega arith))
    ∙ ap (λ n. (n * 2 ^ 16 + bit_and (q + y * 256) 255) * 2 ^ 16 + bit_and (p + x * 256) 255)
    (and_block 16 (s + w * 256) 0x00ff (r + z * 256) 255 (omega arith) (omega arith))
    ∙ rw (
      and_mask (s + w * 256) 8,
      and_mask (r + z * 256) 8,
      and_mask (q + y * 256) 8,
      and_mask (p + x * 256) 8,
    ) (omega arith)

keep_two : (p q x y : ℕ) → p < 65536 → q < 65536 → x < 65536 → y < 65536
    → bit_and (p + x * 65536 + q * 4294967296 + y * 281474976710656) 0x0000_ffff_0000_ffff ≡ p + q * 4294967296
keep_two p q x y P Q X Y =
    let a : p + x * 65536 + q * 4294967296 + y * 281474976710656 ≡ (q + y * 65536) * 2 ^ 32 + (p + x * 65536) = omega arith in
    ap (λ n. bit_and n 0x0000_ffff_0000_ffff) a
    ∙ and_block 32 (q + y * 65536) 0xffff (p + x * 65536) 0xffff (omega arith) (omega arith)
    ∙ rw (and_mask (q + y * 65536) 16, and_mask (p + x * 65536) 16) (omega arith)

-- ---- eight joined

pub joined_is : (a b c d e f g more word : ℕ) → a < 10 → b < 10 → c < 10 → d < 10 → e < 10 → f < 10 → g < 10 → more < 256
    → word ≡ a + b * 256 + c * 65536 + d * 16777216 + e * 4294967296 + f * 1099511627776 + g * 281474976710656
    + more * 72057594037927936
    → bit_and (word * 2561 % 2 ^ 64) 0x00ff_00ff_00ff_00ff
    ≡ a + (10 * b + c) * 65536 + (10 * d + e) * 4294967296 + (10 * f + g) * 281474976710656
joined_is a b c d e f g more word A B C D E F G M is =
    let over : 10 * g + more ≡ (10 * g + more) / 256 * 256 + (10 * g + more) % 256 = omega arith in
    let low : a + (10 * a + b) * 256 + (10 * b + c) * 65536 + (10 * c + d) * 16777216 + (10 * d + e) * 4294967296
    + (10 * e + f) * 1099511627776 + (10 * f + g) * 281474976710656 + (10 * g + more) % 256 * 72057594037927936
    < 2 ^ 64 = omega arith in
    let parts : word * 2561
    ≡ a + (10 * a + b) * 256 + (10 * b + c) * 65536 + (10 * c + d) * 16777216 + (10 * d + e) * 4294967296
    + (10 * e + f) * 1099511627776 + (10 * f + g) * 281474976710656 + (10 * g + more) % 256 * 72057594037927936
    + ((10 * g + more) / 256 + 10 * more) * 2 ^ 64 = omega (arith, is, over) in
    let cut : word * 2561 % 2 ^ 64
    ≡ a + (10 * a + b) * 256 + (10 * b + c) * 65536 + (10 * c + d) * 16777216 + (10 * d + e) * 4294967296
    + (10 * e + f) * 1099511627776 + (10 * f + g) * 281474976710656 + (10 * g + more) % 256 * 72057594037927936 =
    omega (arith, parts, low) in
    rw cut
    (keep_four a (10 * b + c) (10 * d + e) (10 * f + g) (10 * a + b) (10 * c + d) (10 * e + f) ((10 * g + more) % 256)
    (omega arith) (omega arith) (omega arith) (omega arith) (omega arith) (omega arith) (omega arith) (omega arith))

pub fours_is : (p q r s pairs : ℕ) → p < 100 → q < 100 → r < 100 → s < 100
    → pairs ≡ p + q * 65536 + r * 4294967296 + s * 281474976710656
    → bit_and (pairs * 100 + pairs / 2 ^ 16) 0x0000_ffff_0000_ffff ≡ (100 * p + q) + (100 * r + s) * 4294967296
fours_is p q r s pairs P Q R S is =
    let down : pairs / 2 ^ 16 ≡ q + r * 65536 + s * 4294967296 = omega arith in
    let parts : pairs * 100 + pairs / 2 ^ 16
    ≡ (100 * p + q) + (100 * q + r) * 65536 + (100 * r + s) * 4294967296 + 100 * s * 281474976710656 = omega (arith, down) in
    rw parts
    (keep_two (100 * p + q) (100 * r + s) (100 * q + r) (100 * s) (omega arith) (omega arith) (omega arith) (omega arith))

pub eight_is : (u v fours : ℕ) → u < 10000 → v < 10000 → fours ≡ u + v * 4294967296
    → bit_and (fours * 10000 + fours / 2 ^ 32) 0xffff_ffff ≡ 10000 * u + v
eight_is u v fours U V is =
    let down : fours / 2 ^ 32 ≡ v = omega arith in
    rw (and_mask (fours * 10000 + fours / 2 ^ 32) 32, down) (omega arith)

-- ---- the digits in a list

abbrev less : ℕ → ℕ
less b = bit_xor b 48

less_is : (b : ℕ) → b < 256 → is_ascii_digit b ≡ true → (less b < 10) × (less b ≡ digit_value b)
less_is b small d =
    let tried : (not (is_ascii_digit b) || (less b == b - 48)) ≡ true =
    agree_below_at (λ x. not (is_ascii_digit x) || (less x == x - 48)) (λ _. true) 256 b refl small in
    let same : less b ≡ b - 48 = eqb-true (less b) (b - 48) (rw d at tried) in
    let low : (48 ≤ b) × (b ≤ 57) = digit_within b d in
    (omega (arith, same, low.1), same ∙ sym (digit_value_is b d))

abbrev Small : List ℕ → Type 0
Small [] = Unit {0}
Small (d ∷ ds) = (d < 10) × Small ds

-- the number of digits that follow a number
abbrev worth : ℕ → List ℕ → ℕ
worth m [] = m
worth m (d ∷ ds) = worth (m * 10 + d) ds

padded : (k : ℕ) (ds : List ℕ) → AreBytes ds
    → AreBytes (replicate k 0 ++ ds) × (plain (replicate k 0 ++ ds) ≡ plain ds * 256 ^ k)
    × (length (replicate k 0 ++ ds) ≡ k + length ds)
padded zero ds fit = (fit, omega arith, omega arith)
padded (suc k) ds fit =
    let rest = padded k ds fit in
    ((omega arith, rest.0), omega (arith, rest.1, ap (λ n. plain ds * n) (pow-suc 256 k)), omega (arith, rest.2))

-- zeros before digits are digits that add nothing
led : (k : ℕ) (ds : List ℕ) → Small ds → Small (replicate k 0 ++ ds) × (worth 0 (replicate k 0 ++ ds) ≡ worth 0 ds)
led zero ds small = (small, refl)
led (suc k) ds small = let rest = led k ds small in ((omega arith, rest.0), rest.1)

values : (cs : List ℕ) (m : ℕ) → AreBytes cs → all_ascii_digits cs ≡ true
    → Small (map less cs) × (worth m (map less cs) ≡ digits_value_after 10 m cs)
values [] m fit d = (tt, refl)
values (c ∷ cs) m fit d = go (is_ascii_digit c) refl d (values cs (m * 10 + digit_value c) fit.1)
  where
    go : (t : Bool) → is_ascii_digit c ≡ t → (t && all_ascii_digits cs) ≡ true
        → (all_ascii_digits cs ≡ true
        → Small (map less cs)
        × (worth (m * 10 + digit_value c) (map less cs) ≡ digits_value_after 10 (m * 10 + digit_value c) cs))
        → Small (map less (c ∷ cs)) × (worth m (map less (c ∷ cs)) ≡ digits_value_after 10 m (c ∷ cs))
    go true is d more =
        let here = less_is c fit.0 is in
        let rest = more d in
        ((here.0, rest.0), ap (λ v. worth (m * 10 + v) (map less cs)) here.1 ∙ rest.1)
    go false is d more = absurd (true≢false (sym d))

join : (ds : List ℕ) (word number : ℕ) → length ds ≡ 8 → AreBytes ds → Small (take 7 ds) → word ≡ plain ds
    → Joins word number → number ≡ worth 0 (take 7 ds)
join [] word number l fit s e j = absurd (omega (arith, l))
join (a ∷ []) word number l fit s e j = absurd (omega (arith, l))
join (a ∷ b ∷ []) word number l fit s e j = absurd (omega (arith, l))
join (a ∷ b ∷ c ∷ []) word number l fit s e j = absurd (omega (arith, l))
join (a ∷ b ∷ c ∷ d ∷ []) word number l fit s e j = absurd (omega (arith, l))
join (a ∷ b ∷ c ∷ d ∷ f ∷ []) word number l fit s e j = absurd (omega (arith, l))
join (a ∷ b ∷ c ∷ d ∷ f ∷ g ∷ []) word number l fit s e j = absurd (omega (arith, l))
join (a ∷ b ∷ c ∷ d ∷ f ∷ g ∷ h ∷ []) word number l fit s e j = absurd (omega (arith, l))
join (a ∷ b ∷ c ∷ d ∷ f ∷ g ∷ h ∷ i ∷ k ∷ ds) word number l fit s e j = absurd (omega (arith, l))
join (a ∷ b ∷ c ∷ d ∷ f ∷ g ∷ h ∷ i ∷ []) word number l fit s e j =
    j a b c d f g h i s.0 s.1.0 s.1.1.0 s.1.1.1.0 s.1.1.1.1.0 s.1.1.1.1.1.0 s.1.1.1.1.1.1.0 fit.1.1.1.1.1.1.1.0
    (omega (arith, e)) ∙ omega arith

below : (ds : List ℕ) → AreBytes ds → plain ds < 256 ^ length ds
below [] fit = omega arith
below (d ∷ ds) fit = omega (arith, below ds fit.1, fit.0, pow-suc 256 (length ds))

parts : (n : ℕ) (ds : List ℕ) → plain ds ≡ plain (take n ds) + 256 ^ n * plain (drop n ds)
parts zero ds = omega arith
parts (suc n) [] = omega arith
parts (suc n) (d ∷ ds) =
    omega (
      arith,
      parts n ds,
      ap (λ m. m * plain (drop n ds)) (pow-suc 256 n),
      mul_assoc (256 ^ n) 256 (plain (drop n ds)),
      mul_comm 256 (plain (drop n ds)),
      mul_assoc (256 ^ n) (plain (drop n ds)) 256,
    )

fit_take : (n : ℕ) (xs : List ℕ) → AreBytes xs → AreBytes (take n xs)
fit_take zero xs f = tt
fit_take (suc n) [] f = tt
fit_take (suc n) (x ∷ xs) f = (f.0, fit_take n xs f.1)

-- the first n bytes of a word of eight are moved to its end
moved : (ds : List ℕ) (n word : ℕ) → n ≤ 8 → n ≤ length ds → AreBytes ds → word ≡ plain ds
    → word * 2 ^ (64 - 8 * n) % 2 ^ 64 ≡ plain (replicate (8 - n) 0 ++ take n ds)
moved ds n word few long fit is =
    let pad = padded (8 - n) (take n ds) (fit_take n ds fit) in
    let size : length (replicate (8 - n) 0 ++ take n ds) ≡ 8 = omega (arith, pad.2, few, long, length-take n ds) in
    let bound : plain (replicate (8 - n) 0 ++ take n ds) < 2 ^ 64 =
    omega (arith, below _ pad.0, ap (λ k. 256 ^ k) size) in
    let shift : 2 ^ (64 - 8 * n) ≡ 256 ^ (8 - n) = ap (λ k. 2 ^ k) (omega (arith, few)) ∙ power (8 - n) in
    let all : 256 ^ n * 256 ^ (8 - n) ≡ 2 ^ 64 = sym (pow-add 256 n (8 - n)) ∙ ap (λ k. 256 ^ k) {y = 8} (omega (arith, few)) in
    let rest = plain (drop n ds) in
    let whole : word * 2 ^ (64 - 8 * n) ≡ plain (take n ds) * 256 ^ (8 - n) + 2 ^ 64 * rest =
    rw (is, shift, parts n ds) (spread_out (plain (take n ds)) (256 ^ n) rest (256 ^ (8 - n)) (2 ^ 64) all) in
    omega (arith, whole, pad.1, bound)
  where
    spread_out : (a p r q m : ℕ) → p * q ≡ m → (a + p * r) * q ≡ a * q + m * r
    spread_out a p r q m e = rw (← e) (grind arith)

-- ---- the digits that begin some bytes

abbrev ahead : ℕ → List ℕ → ℕ
ahead k ys = run is_no_digit (take k ys)

abbrev Ends : ℕ → List ℕ → Type 0
Ends n ys = (digits_of ys ≡ take n ys) × (after_digits ys ≡ drop n ys)

runs : (k : ℕ) (ys : List ℕ) → ahead k ys < length (take k ys) → Ends (ahead k ys) ys
runs zero ys h = absurd (omega (arith, h))
runs (suc k) [] h = absurd (omega (arith, h))
runs (suc k) (y ∷ ys) h = go (is_ascii_digit y) refl h (runs k ys)
  where
    go : (t : Bool) → is_ascii_digit y ≡ t → cond (not (not t)) (1 + ahead k ys) 0 < length (y ∷ take k ys)
        → (ahead k ys < length (take k ys) → Ends (ahead k ys) ys) → Ends (cond (not (not t)) (1 + ahead k ys) 0) (y ∷ ys)
    go true d h more =
        let rest = more (omega (arith, h)) in
        let next : 1 + ahead k ys ≡ suc (ahead k ys) = omega arith in
        rw (next, d) (ap (λ r. y ∷ r) rest.0, rest.1)
    go false d h more = rw d (refl, refl)

all_digits : (ys : List ℕ) → all_ascii_digits (digits_of ys) ≡ true
all_digits [] = refl
all_digits (y ∷ ys) = go (is_ascii_digit y) refl (all_digits ys)
  where
    go : (t : Bool) → is_ascii_digit y ≡ t → all_ascii_digits (digits_of ys) ≡ true
        → all_ascii_digits (digits_of (y ∷ ys)) ≡ true
    go true d h = rw (d, d) h
    go false d h = rw d refl

of_map : (f : ℕ → ℕ) (xs : List ℕ) → word f xs ≡ plain (map f xs)
of_map f [] = refl
of_map f (x ∷ xs) = ap (λ w. w * 2 ^ 8 + f x) (of_map f xs)

lanes_fit : (xs : List ℕ) → AreBytes xs → AreBytes (map less xs)
lanes_fit [] f = tt
lanes_fit (x ∷ xs) f = (xor_lt 8 x 48 f.0 (omega arith), lanes_fit xs f.1)

value_fits : (ds : List ℕ) (v : ℕ) → all_ascii_digits ds ≡ true → digits_value_after 10 0 ds ≡ v → v < 2 ^ 64
    → value_of ds ≡ Some v
value_fits ds v d e h = rw (d, e, lt-ltb v (2 ^ 64) h) refl

module _ (bytes : List ℕ) (at : ℕ) (room : at + 8 ≤ length bytes) (fits : (i : ℕ) → get_or bytes i 0 < 2 ^ 8) where
  abbrev ys : List ℕ
  ys = drop at bytes

  abbrev xs : List ℕ
  xs = take 8 ys

  size : length xs ≡ 8
  size = length-chunk at 8 bytes room

  ends : (n : ℕ) → n ≡ run is_no_digit xs → n < 8 → Ends n ys
  ends n is few = subst (λ k. Ends k ys) (sym is) (runs 8 ys (omega (arith, is, few, size)))

  pub few_digits : (n w value : ℕ) → n ≡ run is_no_digit xs → n < 8 → w ≡ from_le_bytes w64 xs → value < 2 ^ 64
      → Joins (bit_xor w 0x3030_3030_3030_3030 * 2 ^ (56 - 8 * n) % 2 ^ 64) value → HasDigits ys n value
  few_digits n w value is few spelled small j =
      let e = ends n is few in
      let bytes_fit = are_bytes bytes at room fits in
      let first : take n xs ≡ take n ys = take-take n 8 ys (omega (arith, few)) in
      let digits : all_ascii_digits (take n xs) ≡ true = ap all_ascii_digits (first ∙ sym e.0) ∙ all_digits ys in
      let v = values (take n xs) 0 (fit_take n xs bytes_fit) digits in
      let ds = map less xs in
      let long : length ds ≡ 8 = length-map xs less ∙ size in
      let lanes : take n ds ≡ map less (take n xs) = take-map less n xs in
      let whole : w ≡ word (λ b. b) xs = omega (arith, spelled, eight_are xs size) in
      let turned : bit_xor w 0x3030_3030_3030_3030 ≡ plain ds =
      ap (λ k. bit_xor k 0x3030_3030_3030_3030) whole
      ∙ ap (bit_xor (word (λ b. b) xs)) (sym (eight 48 xs size))
      ∙ xor_word (λ b. b) (λ _. 48) (λ b h. h) (constant 48 (omega arith)) xs bytes_fit ∙ of_map less xs in
      let fit = lanes_fit xs bytes_fit in
      let k = n + 1 in
      let zs = replicate (8 - k) 0 ++ take k ds in
      let zs_long : length zs ≡ 8 =
      omega (arith, (padded (8 - k) (take k ds) (fit_take k ds fit)).2, few, long, length-take k ds) in
      let seven : take 7 zs ≡ replicate (8 - k) 0 ++ take n ds =
      ap (λ i. take i zs) {x = 7} {y = length {A = ℕ} (replicate (8 - k) 0) + n} (omega (arith, length-replicate {A = ℕ} (8 - k) 0, few))
      ∙ take-append-add (replicate (8 - k) 0) (take k ds) n
      ∙ ap (λ r. replicate (8 - k) 0 ++ r) (take-take n k ds (omega arith)) in
      let lead = led (8 - k) (take n ds) (subst Small (sym lanes) v.0) in
      let same : bit_xor w 0x3030_3030_3030_3030 * 2 ^ (56 - 8 * n) % 2 ^ 64
      ≡ bit_xor w 0x3030_3030_3030_3030 * 2 ^ (64 - 8 * k) % 2 ^ 64 =
      ap (λ i. bit_xor w 0x3030_3030_3030_3030 * 2 ^ i % 2 ^ 64) (omega (arith, few)) in
      let number : value ≡ digits_value_after 10 0 (take n ys) =
      join zs _ value zs_long (padded (8 - k) (take k ds) (fit_take k ds fit)).0 (subst Small (sym seven) lead.0)
      (same ∙ moved ds k _ (omega (arith, few)) (omega (arith, few, long)) fit turned) j
      ∙ ap (worth 0) seven ∙ lead.1 ∙ ap (worth 0) lanes ∙ v.1 ∙ ap (digits_value_after 10 0) first in
      record {
        digits = e.0;
        behind = e.1;
        value_is = value_fits (take n ys) value (ap all_ascii_digits (sym first) ∙ digits) (sym number) small;
      }

-- digits that don't begin with 0 are a number

not_zero : (d : ℕ) (ds : List ℕ) → d ≢ 48 → number_of (d ∷ ds) ≡ value_of (d ∷ ds)
not_zero d [] f = refl
not_zero d (e ∷ ds) f = rw (ne_eqb d 48 f) refl

pub no_lead : (ys : List ℕ) (n value : ℕ) → HasDigits ys n value → n < length ys → n ≢ 0 → get_or ys 0 0 ≢ 48
    → number_at ys ≡ Some (value, drop n ys)
no_lead [] n value h more some first = absurd (omega (arith, more))
no_lead (y ∷ ys) zero value h more some first = absurd (some refl)
no_lead (y ∷ ys) (suc n) value h more some first =
    rw (h.digits, not_zero y (take n ys) first, h.value_is, h.behind) refl

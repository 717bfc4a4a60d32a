-- Digits in bytes, and the number that they write.
use Rattle.std.specs.Prelude.{◌≡◌, ◌+◌, ◌*◌, ◌<◌, ℕ, Bool, not}
use Rattle.std.specs.Char.{is_ascii_digit}

abbrev pub is_no_digit : ℕ → Bool
is_no_digit byte = not (is_ascii_digit byte)

-- if the first seven bytes of the word are digits' values, the number is theirs
abbrev pub Joins : ℕ → ℕ → Type 0
Joins word number =
    (a b c d e f g more : ℕ) → a < 10 → b < 10 → c < 10 → d < 10 → e < 10 → f < 10 → g < 10 → more < 256
    → word ≡ a + b * 256 + c * 65536 + d * 16777216 + e * 4294967296 + f * 1099511627776 + g * 281474976710656
    + more * 72057594037927936
    → number ≡ a * 1000000 + b * 100000 + c * 10000 + d * 1000 + e * 100 + f * 10 + g

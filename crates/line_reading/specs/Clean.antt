-- Bytes that stand for themselves in a line: a visible ASCII character other than `%`.
use Rattle.std.specs.Prelude.{◌≤◌, ◌<◌, ◌≢◌, ℕ, Bool, not, ◌&&◌, ◌==◌, nat_le, nat_lt, List, slice_index}

abbrev pub IsClean : ℕ → Type 0
IsClean b = (0x21 ≤ b) × (b < 0x7F) × (b ≢ 0x25)

-- any other byte
abbrev pub is_odd : ℕ → Bool
is_odd b = not (nat_le 0x21 b && nat_lt b 0x7F && not (b == 0x25))

-- the same of the byte at an index
abbrev pub is_odd_at : List ℕ → ℕ → Bool
is_odd_at bytes at = is_odd (slice_index bytes at)

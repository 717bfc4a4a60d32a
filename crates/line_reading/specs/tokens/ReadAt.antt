-- What the code reads at an index of a line.
use Rattle.std.specs.Prelude.{◌≡◌, ◌+◌, ◌<◌, ◌≤◌, ℕ, List, [], ◌∷◌, length, take, drop, Option, Some, None}
use Rattle.line_reading.specs.declared.marks.NumberRead.{NumberRead}
use Rattle.line_reading.specs.declared.token_name.NameRead.{NameRead}
use Rattle.line_reading.specs.tokens.Number.{value_of}
use Rattle.line_reading.specs.tokens.Prefixes.{digits_of, after_digits, before_byte, after_byte}
use Rattle.line_reading.specs.tokens.Field.{number_at}
use Rattle.line_reading.specs.tokens.TokenName.{token_type_of}

-- so many digits begin the bytes, no digit follows them, and this is their value
pub record HasDigits (bytes : List ℕ) (len value : ℕ) : Type 0 where
  pub digits : digits_of bytes ≡ take len bytes
  pub behind : after_digits bytes ≡ drop len bytes
  pub value_is : value_of (take len bytes) ≡ Some value

-- the further fields after a field that has ended
abbrev pub further : List ℕ → Option (List ℕ)
further [] = None
further (b ∷ bs) = Some bs

-- what was read at an index of a line: no number, where the end is 0; or else the number that begins there, and its end
pub record IsNumberRead (line : List ℕ) (at : ℕ) (read : NumberRead) : Type 0 where
  pub within : read.end ≤ length line
  pub none : read.end ≡ 0 → number_at (drop at line) ≡ None
  pub some : 0 < read.end → number_at (drop at line) ≡ Some (read.value, drop read.end line)

-- a name that was read: the line's first field, whose end a space follows
pub record IsNameRead (line : List ℕ) (read : NameRead) : Type 0 where
  pub within : read.end < length line
  pub type : token_type_of (before_byte 32 line) ≡ Some read.type_
  pub behind : after_byte 32 line ≡ Some (drop (read.end + 1) line)

-- no digit begins the bytes
pub record BeginsWithNoDigit (bytes : List ℕ) : Type 0 where
  pub digits : digits_of bytes ≡ []
  pub behind : after_digits bytes ≡ bytes

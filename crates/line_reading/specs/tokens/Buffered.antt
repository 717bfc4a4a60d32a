-- What the code reads of a line that begins a reader's buffer, whose LF is not found yet.
use Rattle.std.specs.Prelude.{◌≡◌, ◌≢◌, ◌+◌, ◌<◌, ◌≤◌, ℕ, List, length, take, drop, slice_index, Some}
use Rattle.libyaml_types.specs.declared.enums.yaml_token_type_t.{yaml_token_type_t}
use Rattle.libyaml_types.specs.declared.mark.yaml_mark_t.{yaml_mark_t}
use Rattle.libyaml_types.specs.declared.token.unnamed_yaml_token_t_data.{unnamed_yaml_token_t_data}
use Rattle.libyaml_types.specs.declared.token.yaml_token_t.{yaml_token_t}
use Rattle.line_reading.specs.declared.buffered.marks.RowRead.{RowRead}
use Rattle.line_reading.specs.declared.token_name.NameRead.{NameRead}
use Rattle.line_reading.specs.tokens.Field.{mark_at, number_at}
use Rattle.line_reading.specs.tokens.Pieces.{pieces_of}
use Rattle.line_reading.specs.tokens.ReadAt.{further, IsNameRead}
use Rattle.line_reading.specs.tokens.TokenLine.{content_of, token_of_line}

-- no LF from an index up to another
abbrev pub NoFeed : List ℕ → ℕ → ℕ → Type 0
NoFeed bytes from to = (i : ℕ) → from ≤ i → i < to → slice_index bytes i ≢ 10

-- the line of this length, which an LF follows, begins the bytes
pub record HasLine (bytes : List ℕ) (len : ℕ) : Type 0 where
  pub within : len < length bytes
  pub no_feed : NoFeed bytes 0 len
  pub feed : slice_index bytes len ≡ 10

-- the name that was read is that of each line that begins the bytes and goes on after it
pub record IsBufferedName (bytes : List ℕ) (read : NameRead) : Type 0 where
  pub long : 3 ≤ read.end
  pub no_feed : NoFeed bytes 0 (read.end + 1)
  pub reads : (n : ℕ) → read.end < n → IsNameRead (take n bytes) read

-- the mark that was read stands in each line that begins the bytes, if its field ends there
pub record IsBufferedMark (bytes : List ℕ) (at end : ℕ) (mark : yaml_mark_t) : Type 0 where
  pub order : at < end
  pub no_feed : NoFeed bytes at end
  pub reads : (n : ℕ) → end ≤ n → (end < n → slice_index bytes end ≡ 32)
      → mark_at (drop at (take n bytes)) ≡ Some (mark, further (drop end (take n bytes)))

-- a line number of at most seven digits that was read; the end is 0 where there is none
pub record IsBufferedRow (bytes : List ℕ) (row : RowRead) : Type 0 where
  pub order : 0 < row.end → (7 ≤ row.end) × (row.at < row.end) × (row.end ≤ row.at + 7) × (row.end < length bytes)
  pub some : 0 < row.end → number_at (drop row.at bytes) ≡ Some (row.value, drop row.end bytes)

-- the content that was read, after marks that end at an index, is that of the line of this length
pub record IsBufferedContent (type : yaml_token_type_t) (bytes : List ℕ) (end len : ℕ)
    (content : unnamed_yaml_token_t_data) : Type 0 where
  pub order : (end ≤ len) × (len < length bytes)
  pub no_feed : NoFeed bytes end len
  pub feed : slice_index bytes len ≡ 10
  pub field : end < len → slice_index bytes end ≡ 32
  pub reads : content_of type (pieces_of 32 (further (drop end (take len bytes)))) ≡ Some content

-- the token that was read is that of the line of this length
pub record IsBufferedLine (bytes : List ℕ) (len : ℕ) (token : yaml_token_t) : Type 0 where
  pub line : HasLine bytes len
  pub reads : token_of_line (take len bytes) ≡ Some token

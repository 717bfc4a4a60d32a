-- a line's token from its name and from the marks at their indices
use Rattle.std.proofs.Common.{◌≡◌, ◌≢◌, ◌+◌, ◌<◌, ◌≤◌, ℕ, All, List, length, take, drop, get_or, Option, Some, None, Result, refl, ap, sym, arith}
use Rattle.std.proofs.lemmas.List.{at_drop_more}
use Rattle.libyaml_types.specs.declared.mark.yaml_mark_t.{yaml_mark_t}
use Rattle.libyaml_types.specs.declared.token.yaml_token_t.{yaml_token_t}
use Rattle.libyaml_types.specs.declared.token.unnamed_yaml_token_t_data.{unnamed_yaml_token_t_data}
use Rattle.line_reading.specs.declared.line_problem.LineProblem.{LineProblem}
use Rattle.line_reading.specs.tokens.Reading.{IsReadInto}
use Rattle.line_reading.specs.tokens.Pieces.{pieces_of}
use Rattle.line_reading.specs.tokens.TokenName.{token_type_of}
use Rattle.line_reading.specs.declared.token_name.NameRead.{NameRead}
use Rattle.line_reading.specs.tokens.Field.{◌>>=◌, mark_at}
use Rattle.line_reading.specs.tokens.Prefixes.{after_byte, before_byte}
use Rattle.line_reading.specs.tokens.ReadAt.{further, IsNameRead}
use Rattle.line_reading.specs.tokens.TokenLine.{content_of, token_of_line}
use Rattle.line_reading.proofs.tokens.Split.{cut_here, cut_nowhere}

-- the fields after one that ends at an index
pub some_further : (line : List ℕ) (at : ℕ) → at < length line → further (drop at line) ≡ Some (drop (at + 1) line)
some_further line at h = ap further (at_drop_more (λ x. x) line at 0 h)

-- a name of n bytes, which a space follows
pub named : (line : List ℕ) (n : ℕ) → n < length line → All (λ x. x ≢ 32) (take n line)
    → (n < length line → get_or line n 0 ≡ 32)
    → (before_byte 32 line ≡ take n line) × (after_byte 32 line ≡ Some (drop (n + 1) line))
named line n small clean found = grind (arith, cut_here 32 line n small clean (found small))

pub no_marks : (line : List ℕ) (n : ℕ) → length line ≤ n → All (λ x. x ≢ 32) (take n line) → token_of_line line ≡ None
no_marks line n all clean = rw (sym (cut_nowhere 32 line n all clean).1) refl

pub no_type : (line behind : List ℕ) → after_byte 32 line ≡ Some behind → token_type_of (before_byte 32 line) ≡ None
    → token_of_line line ≡ None
no_type line behind h t = rw (h, t) refl

pub bad_end : (line : List ℕ) (a : ℕ) (name : NameRead) (start : yaml_mark_t) → IsNameRead line name
    → mark_at (drop (name.end + 1) line) ≡ Some (start, further (drop a line)) → a < length line
    → mark_at (drop (a + 1) line) ≡ None → token_of_line line ≡ None
bad_end line a name start h s more e = rw (h.behind, h.type, s, some_further line a more, e) refl

pub with_content : (line : List ℕ) (a z : ℕ) (name : NameRead) (start end : yaml_mark_t) → IsNameRead line name
    → mark_at (drop (name.end + 1) line) ≡ Some (start, further (drop a line)) → a < length line
    → mark_at (drop (a + 1) line) ≡ Some (end, further (drop z line))
    → token_of_line line ≡ (content_of name.type_ (pieces_of 32 (further (drop z line)))
    >>= (λ content. Some (record { content = content; start_mark = start; end_mark = end })))
with_content line a z name start end h s more e = rw (h.behind, h.type, s, some_further line a more, e) refl

-- what is read of the content is read of the token
pub with_marks : (result : Result (Unit {0}) LineProblem) (content : unnamed_yaml_token_t_data)
    (there : Option unnamed_yaml_token_t_data)
    (start end : yaml_mark_t) → IsReadInto result content there
    → IsReadInto {A = yaml_token_t} result (record { content = content; start_mark = start; end_mark = end })
    (there >>= (λ content. Some (record { content = content; start_mark = start; end_mark = end })))
with_marks result content there start end h = grind arith

-- what is read in a buffer is read of a line that begins it
use Rattle.std.proofs.Common.{◌≡◌, ◌≢◌, ℕ, zero, suc, ◌+◌, ◌-◌, ◌<◌, ◌≤◌, ◌⊎◌, inl, inr, ◌==◌, ◌&&◌, ◌++◌, not, Bool, true, false, All, List, [], ◌∷◌, length, length-drop, take, take-take, drop, get_or, Option, Some, Result, Ok, Err, IfOk, refl, ap, sym, subst, ◌∙◌, arith}
use Rattle.std.proofs.lemmas.Bool.{cases_lt}
use Rattle.std.proofs.lemmas.List.{drop-drop, drop-take, length-take, get_or-take, get_or-drop, at_drop_more, at_drop_all}
use Rattle.std.proofs.lemmas.List.Elements.{All-get_or, All-from_get_or}
use Rattle.std.specs.Char.{is_ascii_digit}
use Rattle.libyaml_types.specs.declared.enums.yaml_token_type_t.{yaml_token_type_t}
use Rattle.libyaml_types.specs.declared.mark.yaml_mark_t.{yaml_mark_t}
use Rattle.libyaml_types.specs.declared.token.unnamed_yaml_token_t_data.{unnamed_yaml_token_t_data}
use Rattle.line_reading.specs.declared.line_problem.LineProblem.{LineProblem}
use Rattle.line_reading.specs.declared.token_name.NameRead.{NameRead}
use Rattle.line_reading.specs.tokens.Buffered.{NoFeed, HasLine, IsBufferedName, IsBufferedMark, IsBufferedContent, IsBufferedLine}
use Rattle.line_reading.specs.tokens.Field.{number_at}
use Rattle.line_reading.specs.tokens.Pieces.{pieces_of}
use Rattle.line_reading.specs.tokens.Prefixes.{digits_of, after_digits, before_byte, after_byte, after_first, after_field}
use Rattle.line_reading.specs.tokens.ReadAt.{further}
use Rattle.line_reading.specs.tokens.Reading.{IsReadInto}
use Rattle.line_reading.specs.tokens.TokenLine.{content_of}
use Rattle.line_reading.specs.tokens.TokenName.{token_type_of}
use Rattle.line_reading.proofs.tokens.Marks.{with_content}
use Rattle.line_reading.proofs.tokens.Names.{is_named}
use Rattle.line_reading.proofs.tokens.Repeats.{digits_there, digits_before}

-- ---- no LF

pub join : (bytes : List ℕ) (a b c : ℕ) → NoFeed bytes a b → NoFeed bytes b c → NoFeed bytes a c
join bytes a b c f g i low high = go (cases_lt i b)
  where
    go : (i < b) ⊎ (b ≤ i) → get_or bytes i 0 ≢ 10
    go (inl before) = f i low before
    go (inr after) = g i after high

pub one : (bytes : List ℕ) (a : ℕ) → get_or bytes a 0 ≡ 32 → NoFeed bytes a (a + 1)
one bytes a e i low high feed =
    let same : i ≡ a = omega arith in
    omega (arith, e, feed, ap (λ k. get_or bytes k 0) same)

-- ---- names

abbrev pub clear : List ℕ → Bool
clear [] = true
clear (b ∷ bs) = not (b == 10) && clear bs

clear_at : (bs : List ℕ) (i : ℕ) → clear bs ≡ true → i < length bs → get_or bs i 0 ≢ 10
clear_at [] i h l e = absurd (omega (arith, l))
clear_at (b ∷ bs) zero h l e = absurd (grind arith)
clear_at (b ∷ bs) (suc i) h l e = clear_at bs i (grind arith) (omega (arith, l)) e

named_at : (bytes start : List ℕ) (i : ℕ) → take (length start) bytes ≡ start → i < length start
    → get_or bytes i 0 ≡ get_or start i 0
named_at bytes start i e l = sym (get_or-take (length start) bytes i 0 l) ∙ ap (λ xs. get_or xs i 0) e

longer : (bytes start : List ℕ) (n : ℕ) → take (length start) bytes ≡ start → length start ≤ n
    → take (length start) (take n bytes) ≡ start
longer bytes start n e h = grind (arith, take-take)

pub buffered_name : (bytes start : List ℕ) (name : NameRead) → take (length start) bytes ≡ start
    → length start ≡ name.end + 1 → 3 ≤ name.end → clear start ≡ true
    → ((rest : List ℕ) → token_type_of (before_byte 32 (start ++ rest)) ≡ Some name.type_)
    → ((rest : List ℕ) → after_byte 32 (start ++ rest) ≡ Some rest) → IsBufferedName bytes name
buffered_name bytes start name e n long no_feed type behind = record {
  long = long;
  no_feed = λ i low high feed.
      clear_at start i no_feed (omega (arith, high, n)) (sym (named_at bytes start i e (omega (arith, high, n))) ∙ feed);
  reads = λ m more. is_named (take m bytes) start name (longer bytes start m e (omega (arith, more, n))) n type behind;
}

-- ---- numbers

digits_prefix : (m : ℕ) (xs : List ℕ) → length (digits_of xs) ≤ m
    → (digits_of (take m xs) ≡ digits_of xs) × (after_digits (take m xs) ≡ drop (length (digits_of xs)) (take m xs))
digits_prefix zero [] h = (refl, refl)
digits_prefix (suc m) [] h = (refl, refl)
digits_prefix zero (x ∷ xs) h = go (is_ascii_digit x) refl h
  where
    go : (t : Bool) → is_ascii_digit x ≡ t → length (digits_of (x ∷ xs)) ≤ 0
        → (digits_of [] ≡ digits_of (x ∷ xs)) × (after_digits [] ≡ drop (length (digits_of (x ∷ xs))) (after_digits []))
    go true d h = absurd (omega (arith, rw d at h))
    go false d h = rw d (refl, refl)
digits_prefix (suc m) (x ∷ xs) h = go (is_ascii_digit x) refl h (digits_prefix m xs)
  where
    go : (t : Bool) → is_ascii_digit x ≡ t → length (digits_of (x ∷ xs)) ≤ suc m
        → (length (digits_of xs) ≤ m
        → (digits_of (take m xs) ≡ digits_of xs)
        × (after_digits (take m xs) ≡ drop (length (digits_of xs)) (take m xs)))
        → (digits_of (x ∷ take m xs) ≡ digits_of (x ∷ xs))
        × (after_digits (x ∷ take m xs) ≡ drop (length (digits_of (x ∷ xs))) (x ∷ take m xs))
    go true d h more =
        let rest = more (omega (arith, rw d at h)) in
        rw d (ap (λ r. x ∷ r) rest.0, rest.1)
    go false d h more = rw d (refl, refl)

digit_in : (xs : List ℕ) (i : ℕ) → i < length (digits_of xs) → is_ascii_digit (get_or xs i 0) ≡ true
digit_in [] i h = absurd (omega (arith, h))
digit_in (x ∷ xs) i h = go (is_ascii_digit x) refl i h (digit_in xs)
  where
    go : (t : Bool) → is_ascii_digit x ≡ t → (i : ℕ) → i < length (digits_of (x ∷ xs))
        → ((j : ℕ) → j < length (digits_of xs) → is_ascii_digit (get_or xs j 0) ≡ true)
        → is_ascii_digit (get_or (x ∷ xs) i 0) ≡ true
    go true d zero h more = d
    go true d (suc i) h more = more i (omega (arith, rw d at h))
    go false d i h more = absurd (omega (arith, rw d at h))

no_digit : (b : ℕ) → is_ascii_digit b ≡ true → b ≢ 10
no_digit b d e = absurd (grind arith)

module _ (bytes : List ℕ) (at end value : ℕ) (a : at ≤ length bytes) (z : end ≤ length bytes)
    (is : number_at (drop at bytes) ≡ Some (value, drop end bytes)) where
  abbrev rest : List ℕ
  rest = drop at bytes

  before : (at < end) × (length (digits_of rest) ≡ end - at)
  before = digits_before bytes at end value a z is

  pub number_order : at < end
  number_order = before.0

  pub number_clear : NoFeed bytes at end
  number_clear i low high feed =
      let place : at + (i - at) ≡ i = omega (arith, low) in
      let same : get_or rest (i - at) 0 ≡ get_or bytes i 0 =
      get_or-drop at bytes (i - at) 0 ∙ ap (λ k. get_or bytes k 0) place in
      no_digit (get_or rest (i - at) 0) (digit_in rest (i - at) (omega (arith, before.1, low, high))) (same ∙ feed)

  pub number_prefix : (n : ℕ) → end ≤ n
      → number_at (drop at (take n bytes)) ≡ Some (value, drop end (take n bytes))
  number_prefix n more =
      let there = digits_there rest (drop end bytes) value is in
      let sum : at + (n - at) ≡ n = omega (arith, more, before.0) in
      let cut : drop at (take n bytes) ≡ take (n - at) rest = ap (λ k. drop at (take k bytes)) (sym sum) ∙ drop-take at (n - at) bytes in
      let p = digits_prefix (n - at) rest (omega (arith, before.1, more)) in
      let up : at + (end - at) ≡ end = omega (arith, before.0) in
      let behind : after_digits (drop at (take n bytes)) ≡ drop end (take n bytes) =
      ap after_digits cut ∙ p.1 ∙ ap (λ k. drop k (take (n - at) rest)) before.1
      ∙ ap (drop (end - at)) (sym cut) ∙ drop-drop (end - at) at (take n bytes)
      ∙ ap (λ k. drop k (take n bytes)) up in
      let digits : digits_of (drop at (take n bytes)) ≡ digits_of rest = ap digits_of cut ∙ p.0 in
      rw (digits, there.0, behind) refl

-- ---- marks

module _ (bytes : List ℕ) (n : ℕ) where
  abbrev line : List ℕ
  line = take n bytes

  within : (i : ℕ) → i < n → i < length bytes → i < length line
  within i h k = omega (arith, length-take n bytes, h, k)

  at_byte : (i b : ℕ) → i < n → i < length bytes → get_or bytes i 0 ≡ b → drop i line ≡ b ∷ drop (i + 1) line
  at_byte i b h k e =
      at_drop_more (λ x. x) line i 0 (within i h k)
      ∙ ap (λ x. x ∷ drop (i + 1) line) (get_or-take n bytes i 0 h ∙ e)

  colon : (i : ℕ) → i < n → i < length bytes → get_or bytes i 0 ≡ 58
      → after_first 58 (drop i line) ≡ Some (drop (i + 1) line)
  colon i h k e = ap (after_first 58) (at_byte i 58 h k e)

  at_line_end : drop n line ≡ []
  at_line_end = at_drop_all (λ x. x) line n (omega (arith, length-take n bytes))

  field_end : (i : ℕ) → i ≤ n → i < length bytes → (i < n → get_or bytes i 0 ≡ 32)
      → after_field (drop i line) ≡ Some (further (drop i line))
  field_end i h k space = go (cases_lt i n)
    where
      go : (i < n) ⊎ (n ≤ i) → after_field (drop i line) ≡ Some (further (drop i line))
      go (inl more) = rw (at_byte i 32 more k (space more)) refl
      go (inr none) =
          let same : i ≡ n = omega (arith, none, h) in
          rw (ap (λ j. drop j line) same ∙ at_line_end) refl

pub mark_read : (bytes : List ℕ) (at i r end index row column : ℕ) → at ≤ length bytes → end < length bytes
    → i < length bytes → r < length bytes
    → number_at (drop at bytes) ≡ Some (index, drop i bytes) → get_or bytes i 0 ≡ 58
    → number_at (drop (i + 1) bytes) ≡ Some (row, drop r bytes) → get_or bytes r 0 ≡ 58
    → number_at (drop (r + 1) bytes) ≡ Some (column, drop end bytes)
    → IsBufferedMark bytes at end (record { index = index; line = row; column = column })
mark_read bytes at i r end index row column a z il rl first ic second rc third =
    let o1 = number_order bytes at i index a (omega (arith, il)) first in
    let o2 = number_order bytes (i + 1) r row (omega (arith, il)) (omega (arith, rl)) second in
    let o3 = number_order bytes (r + 1) end column (omega (arith, rl)) (omega (arith, z)) third in
    let c1 = number_clear bytes at i index a (omega (arith, il)) first in
    let c2 = number_clear bytes (i + 1) r row (omega (arith, il)) (omega (arith, rl)) second in
    let c3 = number_clear bytes (r + 1) end column (omega (arith, rl)) (omega (arith, z)) third in
    record {
      order = omega (arith, o1, o2, o3);
      no_feed = join bytes at i end c1
          (join bytes i (i + 1) end (colon_clear bytes i ic)
          (join bytes (i + 1) r end c2 (join bytes r (r + 1) end (colon_clear bytes r rc) c3)));
      reads = λ n more space.
          rw (
            number_prefix bytes at i index a (omega (arith, il)) first n (omega (arith, more, o2, o3)),
            colon bytes n i (omega (arith, more, o2, o3)) il ic,
            number_prefix bytes (i + 1) r row (omega (arith, il)) (omega (arith, rl)) second n (omega (arith, more, o3)),
            colon bytes n r (omega (arith, more, o3)) rl rc,
            number_prefix bytes (r + 1) end column (omega (arith, rl)) (omega (arith, z)) third n more,
            field_end bytes n end more z space,
          ) refl;
    }
  where
    colon_clear : (bytes : List ℕ) (i : ℕ) → get_or bytes i 0 ≡ 58 → NoFeed bytes i (i + 1)
    colon_clear bytes i e j low high feed =
        let same : j ≡ i = omega arith in
        omega (arith, e, feed, ap (λ k. get_or bytes k 0) same)

-- ---- content

pub fields_read : (type : yaml_token_type_t) (bytes : List ℕ) (end n : ℕ) (content : unnamed_yaml_token_t_data)
    → end + 1 < length bytes → get_or bytes end 0 ≡ 32 → n < length (drop (end + 1) bytes)
    → All (λ x. x ≢ 10) (take n (drop (end + 1) bytes)) → get_or (drop (end + 1) bytes) n 0 ≡ 10
    → content_of type (pieces_of 32 (Some (take n (drop (end + 1) bytes)))) ≡ Some content
    → IsBufferedContent type bytes end (end + n + 1) content
fields_read type bytes end n content h space more clean feed is =
    let rest = drop (end + 1) bytes in
    let sum : end + 1 + n ≡ end + n + 1 = omega arith in
    let long : end + n + 1 < length bytes = omega (arith, length-drop (end + 1) bytes, more) in
    let whole : drop end (take (end + n + 1) bytes) ≡ 32 ∷ drop (end + 1) (take (end + n + 1) bytes) =
    at_byte bytes (end + n + 1) end 32 (omega arith) (omega (arith, h)) space in
    let fields : drop (end + 1) (take (end + n + 1) bytes) ≡ take n rest =
    ap (λ k. drop (end + 1) (take k bytes)) (sym sum) ∙ drop-take (end + 1) n bytes in
    record {
      order = (omega arith, long);
      no_feed = join bytes end (end + 1) (end + n + 1) (one bytes end space) (λ i low high line_feed.
          let place : end + 1 + (i - (end + 1)) ≡ i = omega (arith, low) in
          let small : i - (end + 1) < n = omega (arith, low, high) in
          let here : get_or (take n rest) (i - (end + 1)) 0 ≡ get_or bytes i 0 =
          get_or-take n rest (i - (end + 1)) 0 small ∙ get_or-drop (end + 1) bytes (i - (end + 1)) 0
          ∙ ap (λ k. get_or bytes k 0) place in
          All-get_or (λ x. x ≢ 10) (take n rest) (i - (end + 1)) 0 (omega (arith, small, length-take n rest, more)) clean
          (here ∙ line_feed));
      feed = ap (λ k. get_or bytes k 0) (sym sum) ∙ sym (get_or-drop (end + 1) bytes n 0) ∙ feed;
      field = λ _. space;
      reads = rw (whole, fields) is;
    }

-- ---- lines

pub line_read : (bytes : List ℕ) (a z len : ℕ) (name : NameRead) (start end : yaml_mark_t)
    (content : unnamed_yaml_token_t_data) → a < length bytes → IsBufferedName bytes name
    → IsBufferedMark bytes (name.end + 1) a start → get_or bytes a 0 ≡ 32 → IsBufferedMark bytes (a + 1) z end
    → IsBufferedContent name.type_ bytes z len content
    → IsBufferedLine bytes len (record { content = content; start_mark = start; end_mark = end })
line_read bytes a z len name start end content within n s space e c =
    let line = take len bytes in
    let long : length line ≡ len = omega (arith, length-take len bytes, c.order.1) in
    let all = with_content line a z name start end (n.reads len (omega (arith, s.order, e.order, c.order.0)))
    (s.reads len (omega (arith, e.order, c.order.0)) (λ _. space))
    (omega (arith, long, e.order, c.order.0)) (e.reads len c.order.0 c.field) in
    record {
      line = record {
        within = c.order.1;
        no_feed = join bytes 0 (name.end + 1) len n.no_feed
            (join bytes (name.end + 1) a len s.no_feed
            (join bytes a (a + 1) len (one bytes a space) (join bytes (a + 1) z len e.no_feed c.no_feed)));
        feed = c.feed;
      };
      reads = all ∙ rw c.reads refl;
    }

-- ---- what is read is what was asked for

pub when_read : {A : Type 0} (result : Result ℕ LineProblem) (read : Result (Unit {0}) LineProblem) (n : ℕ) (value : A)
    (there : Option A) (P : ℕ → Type 0) → IfOk result (λ l. 0 < l → (l ≡ n) × (read ≡ Ok tt)) → IsReadInto read value there
    → (there ≡ Some value → P n) → IfOk result (λ l. 0 < l → P l)
when_read (Ok l) read n value there P ended reads p = λ some.
    let e = ended some in
    subst P (sym e.0) (p (subst (λ r. IsReadInto r value there) e.1 reads))
when_read (Err problem) read n value there P ended reads p = tt

pub weaker : (result : Result ℕ LineProblem) (P Q : ℕ → Type 0) → ((l : ℕ) → P l → Q l) → IfOk result P → IfOk result Q
weaker (Ok l) P Q f p = f l p
weaker (Err problem) P Q f p = tt

pub without_feed : (bytes : List ℕ) (len : ℕ) → HasLine bytes len → All (λ x. x ≢ 10) (take len bytes)
without_feed bytes len h =
    All-from_get_or (λ x. x ≢ 10) (take len bytes) 0 (λ i small.
    let inside : i < len = omega (arith, small, length-take len bytes) in
    λ feed. h.no_feed i (omega arith) inside (sym (get_or-take len bytes i 0 inside) ∙ feed))

-- Two results of line sources that keep the same, over readers of the same bytes, are one.
use Rattle.std.proofs.Common.{◌≡◌, ◌<◌, ◌≤◌, ◌+◌, inl, inr, ◌==◌, ℕ, List, [], ◌∷◌, Bool, true, false, cond, drop, length, nat_lt, Option, Some, None, Ok, Err, refl, sym, ap, subst, ◌∙◌, arith}
use Rattle.std.proofs.lemmas.Bool.{cases_lt}
use Rattle.std.specs.Io.KnownBytes.{Consumes}
use Rattle.std.specs.List.{onto_first, slice_split}
use Rattle.libyaml_types.specs.declared.token.yaml_token_t.{yaml_token_t}
use Rattle.libyaml_types.specs.Fault.{SourceResult, Fault}
use Rattle.line_reading.specs.declared.line_problem.LineProblem.TheVariants.{BadTokenLine, LineTooLong}
use Rattle.line_reading.specs.sources.LineFault.{line_fault}
use Rattle.line_reading.specs.sources.LineLaws.{HasPieces, has_pieces}
use Rattle.line_reading.specs.sources.LineSource.{Gives, GivesBy, GivesNext, LineSource}
use Rattle.line_reading.specs.sources.NextLine.{IsAfterLine, IsWithinLine, KnownAnswer, LineAnswer, first_answer}
use Rattle.line_reading.specs.sources.OneLine.{LineBreaksOff, LineOutcome, OneLine, SourcesAlike, alike, first_breaks, second_breaks}
use Rattle.line_reading.specs.sources.ReadLines.{after_line, line_answer, lines, lines_of_pieces, longest_line, token_or_fault}

-- an input without a line has no byte
none_or_more : (b : ℕ) (bs : List ℕ) (t : Bool) (pieces : List (List ℕ)) → HasPieces pieces
    → lines_of_pieces (cond t ([] ∷ pieces) (onto_first b pieces)) ≡ [] → ⊥
none_or_more b bs t pieces h e = grind arith

no_byte : (bytes : List ℕ) → lines bytes ≡ [] → bytes ≡ []
no_byte [] e = refl
no_byte (b ∷ bs) e = absurd (none_or_more b bs (b == 10) (slice_split (λ x. x == 10) bs) (has_pieces bs) e)

consumed_none : (after : Option (List ℕ)) (taken : List ℕ) → Consumes (Some []) after taken → after ≡ Some []
consumed_none None taken h = absurd h
consumed_none (Some []) taken h = refl
consumed_none (Some (b ∷ bs)) [] h = cc
consumed_none (Some (b ∷ bs)) (c ∷ taken) h = cc

module _ {R : Type 0} (remaining : R → Option (List ℕ)) where
  -- what a result leaves of known bytes, where n tokens were given
  record Leaves (bytes : List ℕ) (n : ℕ) (answer : SourceResult) (after : Option (List ℕ)) : Type 0 where
    token : (t : yaml_token_t) → answer ≡ Ok t → after ≡ Some (after_line bytes)
    bad_line : answer ≡ Err (line_fault BadTokenLine n) → after ≡ Some (after_line bytes)
    too_long : answer ≡ Err (line_fault LineTooLong n) → after ≡ Some (drop (longest_line + 1) bytes)
    none : bytes ≡ [] → after ≡ Some []

  -- a result of the first line leaves one thing
  left_by_token : (bytes : List ℕ) (n : ℕ) (o : Option yaml_token_t) (a b : SourceResult) (x y : Option (List ℕ))
      → token_or_fault o n ≡ a → a ≡ b
      → Leaves bytes n a x → Leaves bytes n b y → x ≡ y
  left_by_token bytes n o a b x y e i h k = grind arith

  left_by_line : (bytes line : List ℕ) (n : ℕ) (a b : SourceResult) (x y : Option (List ℕ)) (is_long : Bool)
      → nat_lt longest_line (length line) ≡ is_long
      → line_answer n line ≡ a → a ≡ b → Leaves bytes n a x → Leaves bytes n b y → x ≡ y
  left_by_line bytes line n a b x y true l e i h k = grind (arith, h, k)
  left_by_line bytes line n a b x y false l e i h k = grind (arith, left_by_token, h, k)

  left_by : (bytes : List ℕ) (n : ℕ) (ls : List (List ℕ)) (a b : SourceResult) (x y : Option (List ℕ)) → lines bytes ≡ ls
      → first_answer n ls ≡ a → a ≡ b
      → Leaves bytes n a x → Leaves bytes n b y → x ≡ y
  left_by bytes n [] a b x y l e i h k = h.none (no_byte bytes l) ∙ sym (k.none (no_byte bytes l))
  left_by bytes n (line ∷ more) a b x y l e i h k = cc (left_by_line bytes line n a b x y (nat_lt longest_line (length line)) refl e i h k)

  -- what was said of a result
  data Came (s : LineSource R) (bytes : List ℕ) (answer : SourceResult) : Type 0 where
    of_line : first_answer s.given (lines bytes) ≡ answer → Came s bytes answer
    broke : LineBreaksOff s answer → Came s bytes answer

  came : (s : LineSource R) (bytes : List ℕ) (answer : SourceResult) (after : Option (List ℕ))
      → KnownAnswer bytes s.given answer after → Came s bytes answer
  came s bytes answer after h = grind arith

  after_token : (s : LineSource R) (bytes : List ℕ) (answer : SourceResult) (after : Option (List ℕ))
      → KnownAnswer bytes s.given answer after
      → (t : yaml_token_t) → answer ≡ Ok t → after ≡ Some (after_line bytes)
  after_token s bytes answer after h t e = grind arith

  known_after : (before after : Option (List ℕ)) (bytes : List ℕ) → before ≡ Some bytes → IsAfterLine before after
      → after ≡ Some (after_line bytes)
  known_after before after bytes e h = grind arith

  known_within : (n : ℕ) (before after : Option (List ℕ)) (bytes : List ℕ) → before ≡ Some bytes
      → IsWithinLine n before after → after ≡ Some (drop n bytes)
  known_within n before after bytes e h = grind arith

  leaves : (s t : LineSource R) (bytes : List ℕ) (answer : SourceResult) → remaining s.reader ≡ Some bytes
      → s.fault ≡ None → LineOutcome remaining s answer t
      → KnownAnswer bytes s.given answer (remaining t.reader) → Leaves bytes s.given answer (remaining t.reader)
  leaves s t bytes answer known running o k = record {
    token = after_token s bytes answer (remaining t.reader) k;
    bad_line = λ e. known_after (remaining s.reader) (remaining t.reader) bytes known (o.bad_line running e);
    too_long = λ e. known_within (longest_line + 1) (remaining s.reader) (remaining t.reader) bytes known
        (o.too_long running e);
    none = λ e. consumed_none (remaining t.reader) o.takes.0
        (subst (λ (b : Option (List ℕ)). Consumes b (remaining t.reader) o.takes.0) (known ∙ ap Some e) o.takes.2);
  }

  gives_next : (s : LineSource R) (answer : SourceResult) (t : LineSource R) → s.fault ≡ None → Gives remaining s answer t
      → GivesNext remaining s answer t
  gives_next s answer t running h = subst (λ (f : Option Fault). GivesBy f remaining s answer t) running h

  known_answer : (s : LineSource R) (answer : SourceResult) (t : LineSource R) (bytes : List ℕ) → remaining s.reader ≡ Some bytes
      → LineAnswer (remaining s.reader) s.given answer (remaining t.reader)
      → KnownAnswer bytes s.given answer (remaining t.reader)
  known_answer s answer t bytes known h = grind arith

  module _ (s u : LineSource R) (a b : SourceResult) (t v : LineSource R) (bytes : List ℕ)
      (known : remaining s.reader ≡ Some bytes)
      (same : SourcesAlike remaining s u) (first : LineOutcome remaining s a t) (second : LineOutcome remaining u b v) where
    left_alike : a ≡ b → remaining t.reader ≡ remaining v.reader → GivesNext remaining s a t
        → GivesNext remaining u b v → SourcesAlike remaining t v
    left_alike e r h k = grind arith

    also_known : remaining u.reader ≡ Some bytes
    also_known = sym same.bytes ∙ known

    -- a token may be given
    next_line : s.given < s.max_tokens → u.given < u.max_tokens → s.fault ≡ None → u.fault ≡ None
        → OneLine remaining s u a t b v
    next_line l m f g = go (came s bytes a (remaining t.reader) ka) (came u bytes b (remaining v.reader) kb)
      where
        h : GivesNext remaining s a t
        h = gives_next s a t f first.gives

        k : GivesNext remaining u b v
        k = gives_next u b v g second.gives

        ka : KnownAnswer bytes s.given a (remaining t.reader)
        ka = known_answer s a t bytes known (h.below l)

        kb : KnownAnswer bytes u.given b (remaining v.reader)
        kb = known_answer u b v bytes also_known (k.below m)

        go : Came s bytes a → Came u bytes b → OneLine remaining s u a t b v
        go (broke x) y = first_breaks x
        go x (broke y) = second_breaks y
        go (of_line x) (of_line y) =
            let e : a ≡ b = sym x ∙ (ap (λ (n : ℕ). first_answer n (lines bytes)) same.given ∙ y) in
            let of_u = subst (λ (n : ℕ). Leaves bytes n b (remaining v.reader)) (sym same.given)
            (leaves u v bytes b also_known g second kb) in
            alike e (left_alike e (left_by bytes s.given (lines bytes) a b (remaining t.reader) (remaining v.reader)
            refl x e
            (leaves s t bytes a known f first ka) of_u) h k)

    -- no token may be given
    at_bound : s.max_tokens ≤ s.given → u.max_tokens ≤ u.given → s.fault ≡ None → u.fault ≡ None
        → OneLine remaining s u a t b v
    at_bound l m f g = grind arith

    by_fault : (f : Option Fault) → s.fault ≡ f → OneLine remaining s u a t b v
    by_fault (Some f) e =
        let h : (a ≡ Err f) × (t ≡ s) = subst (λ (x : Option Fault). GivesBy x remaining s a t) e first.gives in
        let k : (b ≡ Err f) × (v ≡ u) = subst (λ (x : Option Fault). GivesBy x remaining u b v) (sym same.fault ∙ e)
        second.gives in
        alike (h.0 ∙ sym k.0) (subst (λ (x : LineSource R). SourcesAlike remaining x v) (sym h.1)
        (subst (λ (x : LineSource R). SourcesAlike remaining s x) (sym k.1) same))
    by_fault None e = elim (cases_lt s.given s.max_tokens) [
      | inl below ↦ next_line below (omega (arith, same.given, same.max_tokens)) e (sym same.fault ∙ e)
      | inr bound ↦ at_bound bound (omega (arith, same.given, same.max_tokens)) e (sym same.fault ∙ e)
    ]

    pub one_line_proof : OneLine remaining s u a t b v
    one_line_proof = by_fault s.fault refl

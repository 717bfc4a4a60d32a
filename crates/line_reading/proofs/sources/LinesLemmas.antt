-- what a piece of an input says of its lines
use Rattle.std.proofs.Common.{◌≡◌, ◌≢◌, ℕ, ◌+◌, ◌<◌, ◌≤◌, ◌==◌, All, List, [], ◌∷◌, ◌++◌, length, Option, refl, ap, ◌∙◌, arith, ne_eqb, append_assoc, OnSome}
use Rattle.std.proofs.Transfers.{drop-appended}
use Rattle.std.proofs.lemmas.List.{append-nil, length-append}
use Rattle.std.proofs.lemmas.List.Elements.{All-head, All-tail}
use Rattle.std.proofs.lemmas.List.Splits.{slice_split_at, slice_split_none}
use Rattle.std.specs.List.{slice_split}
use Rattle.std.specs.Io.KnownBytes.{Consumes, IsAtEnd}
use Rattle.line_reading.specs.sources.ReadLines.{longest_line, last_line, lines_of_pieces, lines, after_line}
use Rattle.line_reading.specs.sources.NextLine.{TakesLine, TakesNoLine, BeginsTooLong, IsWithinLine}
use Rattle.line_reading.specs.declared.line_problem.LineProblem.TheVariants.{LineTooLong}
use Rattle.line_reading.specs.sources.LineLaws.{has_pieces, lines_of_more}
use Rattle.line_reading.proofs.tokens.Split.{no_separator, before-append}

-- a line and its LF
lines-line : (l rest : List ℕ) → All (λ x. x ≢ 10) l → lines (l ++ 10 ∷ rest) ≡ l ∷ lines rest
lines-line l rest clean =
    ap lines_of_pieces (slice_split_at (λ b. b == 10) l 10 rest (no_separator 10 l clean) refl)
    ∙ lines_of_more l (slice_split (λ b. b == 10) rest) (has_pieces rest)

behind-line : (l rest : List ℕ) → All (λ x. x ≢ 10) l → after_line (l ++ 10 ∷ rest) ≡ rest
behind-line [] rest clean = refl
behind-line (b ∷ l) rest clean = cc (ne_eqb b 10 (All-head (λ x. x ≢ 10) b l clean), behind-line l rest (All-tail (λ x. x ≢ 10) b l clean))

-- a line without an LF
lines-last : (l : List ℕ) → All (λ x. x ≢ 10) l → lines l ≡ last_line l
lines-last l clean = ap lines_of_pieces (slice_split_none (λ b. b == 10) l (no_separator 10 l clean))

behind-last : (l : List ℕ) → All (λ x. x ≢ 10) l → after_line l ≡ []
behind-last [] clean = refl
behind-last (b ∷ l) clean = grind (arith, ne_eqb b 10 (All-head (λ x. x ≢ 10) b l clean), behind-last l (All-tail (λ x. x ≢ 10) b l clean))

last-some : (l : List ℕ) → 0 < length l → last_line l ≡ l ∷ []
last-some l h = grind arith

-- a line of which a prefix is known
LongPiece : ℕ → List (List ℕ) → Type 0
LongPiece n pieces = (f : List ℕ) × ((r : List (List ℕ)) × ((pieces ≡ f ∷ r) × (n ≤ length f)))

long_piece : (l rest : List ℕ) → All (λ x. x ≢ 10) l → LongPiece (length l) (slice_split (λ b. b == 10) (l ++ rest))
unfolding LongPiece
long_piece [] rest clean = let h = has_pieces rest in (h.0, (h.1.0, (h.1.1, omega arith)))
long_piece (b ∷ l) rest clean =
    let h = long_piece l rest (All-tail (λ x. x ≢ 10) b l clean) in
    rw (ne_eqb b 10 (All-head (λ x. x ≢ 10) b l clean), h.1.1.0) (b ∷ h.0, (h.1.0, (refl, omega (arith, h.1.1.1))))

too_long : (l rest : List ℕ) → All (λ x. x ≢ 10) l → length l ≡ longest_line + 1 → BeginsTooLong (lines (l ++ rest))
unfolding LongPiece
too_long l rest clean e = grind (arith, long_piece l rest clean)

-- the same of a reader

pub takes_line : (before after : Option (List ℕ)) (l : List ℕ) → All (λ x. x ≢ 10) l
    → Consumes before after (l ++ 10 ∷ []) → TakesLine before l after
takes_line before after l clean h = grind (arith, append_assoc, lines-line, behind-line)

pub takes_last : (before after : Option (List ℕ)) (l : List ℕ) → All (λ x. x ≢ 10) l → 0 < length l
    → Consumes before after (l ++ [])
    → OnSome before (IsAtEnd after) → TakesLine before l after
takes_last before after l clean some h end = grind (arith, append-nil, lines-last, last-some, behind-last)

pub takes_too_long : (before after : Option (List ℕ)) (l : List ℕ) → All (λ x. x ≢ 10) l
    → length l ≡ longest_line + 1 → Consumes before after (l ++ [])
    → TakesNoLine before LineTooLong
takes_too_long before after l clean e h = grind (arith, append-nil, too_long)

pub takes_within : (before after : Option (List ℕ)) (l : List ℕ) (n : ℕ) → All (λ x. x ≢ 10) l → length l ≡ n
    → Consumes before after (l ++ [])
    → IsWithinLine n before after
takes_within before after l n clean e h = grind (arith, append-nil, before-append, length-append, drop-appended)

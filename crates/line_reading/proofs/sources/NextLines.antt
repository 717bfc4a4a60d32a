-- What a line that is read, or the lack of one, says of a result (`ReadsNext`).
use Rattle.std.proofs.Common.{◌≡◌, ◌≢◌, ◌≤◌, ◌<◌, ◌+◌, ◌++◌, ℕ, All, List, [], ◌∷◌, length, Option, Some, OnSome, Result, take, take-take, take_all, length-take, slice_index, Err, refl, ap, subst, sym, ◌∙◌, arith}
use Rattle.std.proofs.lemmas.List.{length-append, take_more}
use Rattle.std.specs.Io.KnownBytes.{Consumes, IsAtEnd}
use Rattle.libyaml_types.specs.declared.token.yaml_token_t.{yaml_token_t}
use Rattle.line_reading.specs.declared.line.LineEnd.{LineEnd}
use Rattle.line_reading.specs.declared.line.LineEnd.TheVariants.{LineFeed, End}
use Rattle.line_reading.specs.declared.line_problem.LineProblem.{LineProblem}
use Rattle.line_reading.specs.declared.line_problem.LineProblem.TheVariants.{LineTooLong, BadTokenLine}
use Rattle.line_reading.specs.sources.Line.{line_feed}
use Rattle.line_reading.specs.sources.NextLine.{IsAfterLine, IsWithinLine, TakesAtMost, TakesLine, TakesNoLine, ReadsNext}
use Rattle.line_reading.specs.sources.ReadLines.{longest_line}
use Rattle.line_reading.specs.tokens.Reading.{IsReadInto}
use Rattle.line_reading.specs.tokens.TokenLine.{token_of_line}
use Rattle.line_reading.proofs.sources.LinesLemmas.{takes_line, takes_last, takes_too_long, takes_within}
use Rattle.line_reading.proofs.sources.Problems.{line_answer_of}

-- a line that is read
of_line : (before after : Option (List ℕ)) (l : List ℕ) (result : Result (Unit {0}) LineProblem) (token : yaml_token_t)
    → length l ≤ longest_line → TakesLine before l after → TakesAtMost (longest_line + 1) before after
    → IsReadInto result token (token_of_line l) → ReadsNext before result token after
of_line before after l result token fits h takes r = grind arith

none_bad : (before after : Option (List ℕ)) (problem : LineProblem) → problem ≡ BadTokenLine
    → TakesNoLine before problem → IsAfterLine before after
none_bad before after problem e h = grind arith

-- no line
of_none : (before after : Option (List ℕ)) (problem : LineProblem) (token : yaml_token_t) → TakesNoLine before problem
    → (problem ≡ LineTooLong → IsWithinLine (longest_line + 1) before after)
    → TakesAtMost (longest_line + 1) before after → ReadsNext before (Err problem) token after
of_none before after problem token h within takes = grind (arith, line_answer_of, none_bad)

-- a line and its LF
line_read : (before after : Option (List ℕ)) (l : List ℕ) (result : Result (Unit {0}) LineProblem) (token : yaml_token_t)
    → All (λ x. x ≢ 10) l → length l ≤ longest_line → Consumes before after (l ++ 10 ∷ [])
    → IsReadInto result token (token_of_line l) → ReadsNext before result token after
line_read before after l result token clean fits h r =
    of_line before after l result token fits (takes_line before after l clean h)
    (l ++ 10 ∷ [], omega (arith, fits, length-append l (10 ∷ [])), h) r

-- a line that a reader shows whole, with its LF
pub shown_read : (before after : Option (List ℕ)) (shown : List ℕ) (most len : ℕ) (result : Result (Unit {0}) LineProblem)
    (token : yaml_token_t) → most ≤ longest_line + 1 → len < length (take most shown)
    → All (λ x. x ≢ 10) (take len (take most shown)) → slice_index (take most shown) len ≡ 10
    → Consumes before after (take (len + 1) shown)
    → IsReadInto result token (token_of_line (take len (take most shown))) → ReadsNext before result token after
shown_read before after shown most len result token bound within clean found h r =
    let fits : len + 1 ≤ most = omega (arith, within, length-take most shown) in
    let whole : take (len + 1) shown ≡ take len (take most shown) ++ 10 ∷ [] =
    sym (take-take (len + 1) most shown fits) ∙ take_more (take most shown) len 0 within
    ∙ ap (λ (b : ℕ). take len (take most shown) ++ b ∷ []) found in
    line_read before after (take len (take most shown)) result token clean
    (omega (arith, bound, fits, length-take len (take most shown))) (subst (Consumes before after) whole h) r

-- all that a reader shows of a line, where no LF is there
pub shown_all : (shown : List ℕ) (most len : ℕ) → len ≡ length (take most shown) → take len shown ≡ take most shown
shown_all shown most len e = grind (arith, take-take, length-take, take_all)

-- the last line, which no LF follows
last_read : (before after : Option (List ℕ)) (l : List ℕ) (result : Result (Unit {0}) LineProblem) (token : yaml_token_t)
    → All (λ x. x ≢ 10) l → 0 < length l → length l ≤ longest_line → Consumes before after (l ++ [])
    → OnSome before (IsAtEnd after)
    → IsReadInto result token (token_of_line l) → ReadsNext before result token after
last_read before after l result token clean some fits h end r =
    of_line before after l result token fits (takes_last before after l clean some h end)
    (l ++ [], omega (arith, fits, length-append l []), h) r

-- a line that has ended so
pub ended_read : (before after : Option (List ℕ)) (l : List ℕ) (end : LineEnd) (result : Result (Unit {0}) LineProblem)
    (token : yaml_token_t) → All (λ x. x ≢ 10) l → 0 < length l → length l ≤ longest_line
    → Consumes before after (l ++ line_feed (Some end)) → (end ≡ End → OnSome before (IsAtEnd after))
    → IsReadInto result token (token_of_line l) → ReadsNext before result token after
ended_read before after l LineFeed result token clean some fits h at_end r = line_read before after l result token clean fits h r
ended_read before after l End result token clean some fits h at_end r = last_read before after l result token clean some fits h (at_end refl) r

pub fits_unless : (n : ℕ) → n ≤ longest_line + 1 → (n ≡ longest_line + 1 → ⊥) → n ≤ longest_line
fits_unless n h k = grind arith

pub too_long_read : (before after : Option (List ℕ)) (l : List ℕ) (token : yaml_token_t) → All (λ x. x ≢ 10) l
    → length l ≡ longest_line + 1 → Consumes before after (l ++ []) → ReadsNext before (Err LineTooLong) token after
too_long_read before after l token clean e h = grind (arith, of_none, takes_too_long, takes_within, length-append)

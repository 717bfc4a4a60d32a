-- What a line source gives (docs/DEFINITIONS.md, "Lines").
use Rattle.std.specs.Prelude.{ℕ, ◌+◌, ◌==◌, List, [], ◌∷◌, length, Option, Some, None, Ok, Err, nat_lt, if◌then◌else◌}
use Rattle.std.specs.List.{slice_split}
use Rattle.libyaml_types.specs.declared.token.yaml_token_t.{yaml_token_t}
use Rattle.libyaml_types.specs.Fault.{SourceResult}
use Rattle.libyaml_types.specs.Source.{Coming, coming}
use Rattle.line_reading.specs.declared.line_problem.LineProblem.TheVariants.{LineTooLong, BadTokenLine, TooManyTokens, NoMoreTokens}
use Rattle.line_reading.specs.sources.LineFault.{line_fault}
use Rattle.line_reading.specs.tokens.TokenLine.{token_of_line}

-- a token line has at most so many bytes, its LF not counted
abbrev pub longest_line : ℕ
longest_line = 1048576

-- what follows the last LF is a line where there is a byte
abbrev pub last_line : List ℕ → List (List ℕ)
last_line [] = []
last_line (b ∷ bs) = (b ∷ bs) ∷ []

abbrev pub lines_of_pieces : List (List ℕ) → List (List ℕ)
lines_of_pieces [] = []
lines_of_pieces (piece ∷ []) = last_line piece
lines_of_pieces (piece ∷ next ∷ more) = piece ∷ lines_of_pieces (next ∷ more)

-- the lines of an input: the bytes before an LF, or before its end
abbrev pub lines : List ℕ → List (List ℕ)
lines bytes = lines_of_pieces (slice_split (λ b. b == 10) bytes)

-- what follows the first line and its LF
abbrev pub after_line : List ℕ → List ℕ
after_line [] = []
after_line (b ∷ bs) = if b == 10 then bs else after_line bs

-- a line's token, or its error if n tokens were given before it
abbrev pub token_or_fault : Option yaml_token_t → ℕ → SourceResult
token_or_fault (Some token) n = Ok token
token_or_fault None n = Err (line_fault BadTokenLine n)

abbrev pub line_answer : ℕ → List ℕ → SourceResult
line_answer n line = if nat_lt longest_line (length line) then Err (line_fault LineTooLong n) else token_or_fault
    (token_of_line line) n

-- a result, and what comes after it: nothing after an error
abbrev pub coming_after : SourceResult → Coming → Coming
coming_after (Ok token) behind = coming (token ∷ behind.tokens) behind.fault
coming_after (Err fault) behind = coming [] fault

-- the tokens of lines, up to the first that gives an error, where n tokens were given and max may be given
abbrev pub coming_from : ℕ → ℕ → List (List ℕ) → Coming
coming_from n max [] = coming [] (line_fault (if nat_lt n max then NoMoreTokens else TooManyTokens) n)
coming_from n max (line ∷ more) =
    if nat_lt n max
    then coming_after (line_answer n line) (coming_from (n + 1) max more)
    else coming [] (line_fault TooManyTokens n)

-- the tokens and the error of an input of which at most max tokens are read
abbrev pub read_lines : List ℕ → ℕ → Coming
read_lines bytes max = coming_from 0 max (lines bytes)

-- the tokens of a text of brackets, commas and letters
use Rattle.std.specs.Prelude.{◌≡◌, ◌≢◌, ℕ, ◌+◌, ◌==◌, cond, List, [], ◌∷◌, drop, Option, Some, None, Ok, Err, codes}
use Rattle.std.specs.Char.{is_ascii_alphabetic}
use Rattle.unsafe_libyaml.specs.Fault.{SourceResult, Fault, memory_fault, scanner_fault}
use Rattle.unsafe_libyaml.specs.VectorNotation.{SCALAR, STREAM, place}
use Rattle.unsafe_libyaml.specs.Source.{Coming, coming}
use Rattle.unsafe_libyaml.specs.Tokens.{Content, Token, FlowEntry, FlowSequenceEnd, FlowSequenceStart, StreamEnd}

-- a character's token: a bracket, a comma, or a letter as a plain scalar
abbrev pub letter_content : ℕ → Option Content
letter_content c = cond (c == 91) (Some FlowSequenceStart) (cond (c == 93) (Some FlowSequenceEnd)
    (cond (c == 44) (Some FlowEntry) (cond (is_ascii_alphabetic c) (Some (SCALAR (c ∷ []))) None)))

abbrev pub letter_token_at : ℕ → Content → Token
letter_token_at n content = record { content = content; start_mark = place n; end_mark = place n }

-- a token and what comes after it, or the error of a character that is none
abbrev pub from_here : ℕ → Option Content → Coming → Coming
from_here n None rest = coming [] (scanner_fault (codes "found no token") (place n))
from_here n (Some content) rest = coming (letter_token_at n content ∷ rest.tokens) rest.fault

-- the tokens of the characters from a place on, and the error after them
abbrev pub letters_from : ℕ → List ℕ → Coming
letters_from n [] = coming (letter_token_at n StreamEnd ∷ []) (scanner_fault (codes "text ended") (place n))
letters_from n (c ∷ cs) = from_here n (letter_content c) (letters_from (n + 1) cs)

-- the tokens of a whole text
abbrev pub all_tokens : List ℕ → Coming
all_tokens text = from_here 0 (Some STREAM) (letters_from 0 text)

-- what is to come, by what the source keeps
abbrev pub letters_coming : List ℕ → Option ℕ → Option Fault → Coming
letters_coming text next (Some fault) = coming [] fault
letters_coming text None None = all_tokens text
letters_coming text (Some n) None = letters_from n (drop n text)

-- the list's next token; or its error, and where a token is left a failed allocation's, for good
abbrev pub LettersGive : Coming → SourceResult → Coming → Type 0
LettersGive s (Ok token) t = (s.tokens ≡ token ∷ t.tokens) × (t.fault ≡ s.fault)
LettersGive s (Err f) t = (t ≡ coming [] f) × (s.tokens ≡ [] → f ≡ s.fault) × (s.tokens ≢ [] → f ≡ memory_fault)

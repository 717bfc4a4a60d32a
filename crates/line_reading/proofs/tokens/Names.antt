-- a line that begins with a name and a space
use Rattle.std.proofs.Common.{◌≡◌, ◌+◌, ◌∙◌, ℕ, List, ◌++◌, length, length-append, take, drop, Some, ap, sym, arith}
use Rattle.std.proofs.lemmas.List.{take-append-drop}
use Rattle.line_reading.specs.declared.token_name.NameRead.{NameRead}
use Rattle.line_reading.specs.tokens.Prefixes.{before_byte, after_byte}
use Rattle.line_reading.specs.tokens.ReadAt.{IsNameRead}
use Rattle.line_reading.specs.tokens.TokenName.{token_type_of}

begun : (line start : List ℕ) → take (length start) line ≡ start → line ≡ start ++ drop (length start) line
begun line start e = sym (take-append-drop (length start) line) ∙ ap (λ x. x ++ drop (length start) line) e

pub is_named : (line start : List ℕ) (name : NameRead) → take (length start) line ≡ start → length start ≡ name.end + 1
    → ((rest : List ℕ) → token_type_of (before_byte 32 (start ++ rest)) ≡ Some name.type_)
    → ((rest : List ℕ) → after_byte 32 (start ++ rest) ≡ Some rest) → IsNameRead line name
is_named line start name e n type behind = grind (arith, begun line start e, length-append start (drop (length start) line))

use Rattle.std.proofs.Common.{ℕ, List, [], ◌++◌, codes, decimal, arith, IsAscii}
use Rattle.std.proofs.lemmas.Str.{IsAscii-append}
use Rattle.std.proofs.lemmas.Str.Ascii.{IsAscii-cons, IsAscii-nil}
use Rattle.libyaml_types.specs.declared.mark.yaml_mark_t.{yaml_mark_t}
use Rattle.line_writing.specs.FieldTexts.{mark_text}
use Rattle.line_writing.proofs.marks.write_mark.Goals as goal

colon : IsAscii (codes ":")
colon = IsAscii-cons 0x3A [] (omega arith) IsAscii-nil

-- a number after a text, with `:` between them
ascii_pair : (xs : List ℕ) (n : ℕ) → IsAscii xs → IsAscii (decimal n) → IsAscii (xs ++ codes ":" ++ decimal n)
ascii_pair xs n ascii number = IsAscii-append (xs ++ codes ":") (decimal n)
    (IsAscii-append xs (codes ":") ascii colon) number

ascii_mark : (m : yaml_mark_t) → IsAscii (decimal m.index) → IsAscii (decimal m.line) → IsAscii (decimal m.column)
    → IsAscii (mark_text m)
ascii_mark m index line column = ascii_pair (decimal m.index ++ codes ":" ++ decimal m.line) m.column
    (ascii_pair (decimal m.index) m.line index line) column

pub returns-clause-ascii : goal.returns-clause-ascii
returns-clause-ascii c = ascii_mark c.args.mark.now c.write_number.ensures.ascii c.write_number-line.ensures.ascii
    c.write_number-column.ensures.ascii

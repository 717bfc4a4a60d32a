-- The numbers and texts of the errors of writing a line (docs/DEFINITIONS.md, "Numbers").
use Rattle.std.specs.Prelude.{ℕ, List, codes}
use Rattle.line_writing.specs.declared.refusal.line_refusal_t.{line_refusal_t}
use Rattle.line_writing.specs.declared.refusal.line_refusal_t.TheVariants.{Memory, Output}

abbrev pub line_refusal_number : line_refusal_t → ℕ
line_refusal_number Memory = 1
line_refusal_number Output = 2

abbrev pub refusal_text : line_refusal_t → List ℕ
refusal_text Memory = codes "out of memory"
refusal_text Output = codes "output failed"

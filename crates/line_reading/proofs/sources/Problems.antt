-- What a source that got no line returns.
use Rattle.std.proofs.Common.{◌≡◌, ℕ, List, Option, Err, arith}
use Rattle.libyaml_types.specs.Fault.{Fault}
use Rattle.line_reading.specs.declared.line_problem.LineProblem.{LineProblem}
use Rattle.line_reading.specs.sources.LineFault.{line_fault}
use Rattle.line_reading.specs.sources.NextLine.{TakesNoLine, LineAnswer}

pub line_answer_of : (before : Option (List ℕ)) (n : ℕ) (problem : LineProblem) (f : Fault) (after : Option (List ℕ))
    → f ≡ line_fault problem n
    → TakesNoLine before problem → LineAnswer before n (Err f) after
line_answer_of before n problem f after e h = grind arith

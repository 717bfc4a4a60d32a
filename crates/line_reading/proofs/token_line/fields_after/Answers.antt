use Rattle.std.proofs.Common.{length-drop, arith}
use Rattle.std.proofs.lemmas.List.{take_all}
use Rattle.line_reading.proofs.tokens.Marks.{some_further}
use Rattle.line_reading.proofs.token_line.fields_after.Goals as goal

pub returns : goal.returns
returns c = grind (arith, take_all, length-drop, some_further)

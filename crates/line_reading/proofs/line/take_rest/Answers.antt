use Rattle.std.proofs.Common.{arith}
use Rattle.line_reading.proofs.sources.Appended.{moved, kept_clean}
use Rattle.std.proofs.lemmas.Grind.{common_steps}
use Rattle.line_reading.proofs.line.take_rest.Goals as goal

pub loop-line-preserved : goal.loop-line-preserved
loop-line-preserved g c = record {
  taken = grind (arith, moved);
  clean = grind (arith, kept_clean);
  longer = grind (arith, common_steps);
  fits = grind (arith, common_steps);
}

pub returns-in-Some-clause-clean : goal.returns-in-Some-clause-clean
returns-in-Some-clause-clean g c = grind (arith, kept_clean)

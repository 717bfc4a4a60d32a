use Rattle.document_steps.proofs.Tables.{adds, found, none}
use Rattle.document_steps.proofs.laws.tables_follow.Goals as goal

pub returns : goal.returns
returns c = record {
  begins = none;
  adds = adds;
  found = found;
}

use Rattle.document_steps.proofs.Depth.{full_where_open, stack_fits}
use Rattle.document_steps.proofs.laws.stack_fits.Goals as goal

pub returns-clause-depth : goal.returns-clause-depth
returns-clause-depth c = stack_fits

pub returns-clause-full : goal.returns-clause-full
returns-clause-full c = full_where_open

use Rattle.token_steps.proofs.Tables.{declares}
use Rattle.token_steps.proofs.laws.tables_follow.Goals as goal

pub returns-clause-declares : goal.returns-clause-declares
returns-clause-declares c = declares

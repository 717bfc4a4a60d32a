use Rattle.std.proofs.Common.{rules}
use Rattle.libyaml_types.specs.Events.{zero_mark}
use Rattle.token_steps.proofs.steps.steps_t.tell_bare.Goals as goal

pub returns-clause-tells : goal.returns-clause-tells
returns-clause-tells c = λ p states marks i. let told = c.tell.ensures.tells p zero_mark states marks i in search rules

use Rattle.std.proofs.Common.{◌∙◌}
use Rattle.libyaml_types.proofs.Places.{ordered_token_types}
use Rattle.libyaml_types.proofs.laws.order_of_token_types.Goals as goal

pub returns : goal.returns
returns c = c.cmp.ensures ∙ ordered_token_types _ _

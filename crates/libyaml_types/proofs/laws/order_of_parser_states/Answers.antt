use Rattle.std.proofs.Common.{◌∙◌}
use Rattle.libyaml_types.proofs.Places.{ordered_parser_states}
use Rattle.libyaml_types.proofs.laws.order_of_parser_states.Goals as goal

pub returns : goal.returns
returns c = c.cmp.ensures ∙ ordered_parser_states _ _

use Rattle.std.proofs.Common.{None, ◌∙◌}
use Rattle.libyaml_events.proofs.exported.Pushes.{fed_accepts, fed_ended}
use Rattle.token_steps.proofs.Running.{fed}
use Rattle.token_steps.proofs.laws.next_types.Goals as goal

pub returns : goal.returns
returns c d ss ms hs kept l g r e viable k =
    let f = (fed d ss ms hs kept None l g r).0 in fed_accepts f (fed_ended f ∙ e) viable k

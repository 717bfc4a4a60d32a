use Rattle.token_steps.proofs.Stacks.{marks_fit, states_fit}
use Rattle.token_steps.proofs.laws.stacks_fit.Goals as goal

pub returns-clause-states : goal.returns-clause-states
returns-clause-states c = states_fit

pub returns-clause-marks : goal.returns-clause-marks
returns-clause-marks c = marks_fit

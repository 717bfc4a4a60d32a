-- What the buffers of the stacks stand for.
use Rattle.std.proofs.Common.{arith}
pub use Rattle.libyaml_automaton.proofs.exported.Stacks.{grown_marks, grown_states, marks_none, state_of_number, states_none}
use Rattle.libyaml_automaton.specs.declared.action.Action.{Action}
use Rattle.libyaml_automaton.specs.declared.reading.Reading.{Reading}
use Rattle.libyaml_automaton.specs.Fits.{SameReading, Stays}

pub ruleset grown = (grown_states, grown_marks)

pub ruleset cleared = (states_none, marks_none)

-- what a step that was undone leaves is read as before
pub same_reading : (a : Action) (r r' : Reading) → Stays a r r' → SameReading r r'
same_reading a r r' e = grind arith

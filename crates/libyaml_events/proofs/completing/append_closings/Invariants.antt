use Rattle.std.proofs.Common.{◌≡◌, ◌≤◌, ◌++◌, length}
use Rattle.libyaml_automaton.specs.Completing.{closings}
use Rattle.libyaml_automaton.specs.Config.{states_of}
use Rattle.libyaml_events.proofs.completing.append_closings.Given as goal

-- what was appended, and what the states that are left append
abbrev pub invariant-loop-left : goal.invariant-loop-left
invariant-loop-left l = (l.left ≤ length l.states) × (l.types.items ++ closings (states_of l.left l.states)
    ≡ l.fn.types.items ++ closings (states_of l.count l.states))

abbrev pub decreases-loop-left : goal.decreases-loop-left
decreases-loop-left l = l.left

-- What lies on the stack of states are states to go back to.
use Rattle.std.proofs.Common.{ℕ, List, All, set}
use Rattle.std.proofs.lemmas.List.Elements.{All-set}
use Rattle.libyaml_automaton.specs.Numbers.{IsBackByte}
use Rattle.libyaml_automaton.proofs.exported.Stacks.{state_of_number}

pub set_back : (bytes : List ℕ) (i byte : ℕ) → IsBackByte byte → All IsBackByte bytes → All IsBackByte (set bytes i byte)
set_back bytes i byte h a = All-set IsBackByte bytes i byte h a

-- the number of a state is put there
pub ruleset puts_state = (state_of_number, set_back)

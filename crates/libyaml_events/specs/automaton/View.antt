-- What a parser is whose stacks are the automaton's (docs/DEFINITIONS.md, "The parser as a machine").
use Rattle.libyaml_automaton.specs.Numbers.{next_of}
use Rattle.libyaml_automaton.specs.Purposes.{IsAt}
use Rattle.libyaml_events.specs.declared.pending.Pending.{Pending}
use Rattle.libyaml_events.specs.machine.Config.{Machine}

-- the function that takes the next token is that of the parser's state, or follows another token
abbrev pub Ready : Pending → Machine → Type 0
Ready p c = IsAt (next_of p.reading.next) c.state

-- What the code's token stands for.
use Rattle.libyaml_automaton.specs.declared.token.Token.{Token}
use Rattle.libyaml_automaton.specs.Automaton.{KindAndMarks}
use Rattle.libyaml_automaton.specs.Purposes.{kind_and_marks}

abbrev pub of_token : Token → KindAndMarks
of_token t = kind_and_marks t.kind t.start_mark.now t.end_mark.now

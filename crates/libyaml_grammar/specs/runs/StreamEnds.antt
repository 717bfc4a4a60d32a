-- The prefix of a list up to its first STREAM-END (docs/DEFINITIONS.md, "Runs").
use Rattle.std.specs.Prelude.{List, [], ◌∷◌, true, false}
use Rattle.libyaml_grammar.specs.grammar.ValidLists.{is_end}
use Rattle.libyaml_grammar.specs.grammar.Tokens.{Token}

-- the tokens up to and with the first STREAM-END, or all
abbrev pub up_to_end : List Token → List Token
up_to_end [] = []
up_to_end (t ∷ l) = t ∷ elim (is_end t.content) [ true ↦ [] | false ↦ up_to_end l ]

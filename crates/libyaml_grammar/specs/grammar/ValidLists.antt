-- Valid lists and viable prefixes (docs/DEFINITIONS.md, "Valid lists").
use Rattle.std.specs.Prelude.{◌≡◌, ◌⊎◌, List, [], ◌∷◌, ◌++◌, Bool, true, false, ◌||◌}
use Rattle.libyaml_grammar.specs.grammar.Tokens.{Content, StreamEnd, Token}
use Rattle.libyaml_grammar.specs.grammar.Trees.{Stream, tokens}
use Rattle.libyaml_grammar.specs.grammar.Order.{in_order}

-- the tokens of a stream tree whose documents are in order
pub record IsValidList (l : List Token) : Type 0 where
  pub tree : Stream
  pub all : l ≡ tokens tree
  pub order : in_order tree ≡ true

-- a list that begins a valid list
pub record IsViablePrefix (l : List Token) : Type 0 where
  pub rest : List Token
  pub valid_list : IsValidList (l ++ rest)

-- b is the first token with which no valid list goes on
abbrev pub IsBadToken : List Token → Token → Type 0
IsBadToken l b = IsViablePrefix l × (IsViablePrefix (l ++ b ∷ []) → ⊥)

-- the list has a STREAM-END
abbrev pub is_end : Content → Bool
is_end StreamEnd = true
is_end _ = false

abbrev pub has_end : List Token → Bool
has_end [] = false
has_end (t ∷ l) = is_end t.content || has_end l

-- one of the two holds, and not both
abbrev pub EitherNotBoth : Type 0 → Type 0 → Type 0
EitherNotBoth A B = (A ⊎ B) × (A → B → ⊥)

-- What the Rust crate's parser and loader together make of a list of tokens, and how far it is what this
-- repository's make.
use Rattle.std.specs.Prelude.{◌≡◌, ◌∷◌, ◌++◌, ℕ, List, [], map, Ok}
use Rattle.libyaml_types.specs.Fault.{Fault}
use Rattle.libyaml_grammar.specs.runs.Runs.{Ending, Ends}
use Rattle.libyaml_grammar.specs.grammar.Events.{Event}
use Rattle.libyaml_grammar.specs.grammar.Tokens.{Token}
use Rattle.libyaml_documents.specs.Documents.{Document}
use Rattle.libyaml_graphs.specs.loads.Loads.{Load, last_load}
use Rattle.rust_original.specs.loader.Loader.{loads_there}
use Rattle.rust_original.specs.parser.Differences.{Differs, Reaches, call_here, call_there}
use Rattle.rust_original.specs.parser.Parser.{OriginalParser}
use Rattle.rust_original.specs.parser.Runs.{RunsThere}

-- Its loads over a list, with this bound on its lists.
pub record LoadsThere (limit : ℕ) (l : List Token) (f : Fault) (a : List Load) : Type 0 where
  pub events : List Event
  pub ending : Ending
  pub run : RunsThere l f events ending
  pub all : a ≡ loads_there limit events ending

-- Loads there and here, of a parser and its tokens: they are the same; or calls do the same up to one of the
-- three kinds, the loads of the events before it have no error, and their documents begin both.
pub data LoadsCompare (limit : ℕ) (p : OriginalParser) (a b : List Load) : Type 0 where
  same_loads : a ≡ b → LoadsCompare limit p a b
  loads_part : (before : List Event) (q : OriginalParser) → Reaches p before q
      → Differs q (call_there q) (call_here q)
      → (documents : List Document) → loads_there limit before Ends ≡ map Ok documents ++ last_load Ends ∷ []
      → (a' b' : List Load) → a ≡ map Ok documents ++ a' → b ≡ map Ok documents ++ b' → LoadsCompare limit p a b

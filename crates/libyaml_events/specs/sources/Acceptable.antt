-- Which types of token may come next (docs/DEFINITIONS.md, "Acceptable tokens").
use Rattle.std.specs.Prelude.{◌≡◌, ◌≤◌, ◌↔◌, ◌++◌, ◌∷◌, ℕ, List, [], length, map, true}
use Rattle.libyaml_types.specs.Types.{token_type}
use Rattle.libyaml_types.specs.declared.enums.yaml_token_type_t.{yaml_token_type_t}
use Rattle.libyaml_types.specs.declared.enums.yaml_token_type_t.TheVariants as kinds
use Rattle.libyaml_automaton.specs.Acceptable.{has}
use Rattle.libyaml_automaton.specs.declared.token_types.TokenTypes.{TokenTypes}
use Rattle.libyaml_grammar.specs.grammar.Tokens.{BlockEnd, DocumentStart, FlowMappingEnd, FlowSequenceEnd, Marks, NoToken, Scalar, StreamEnd, StreamStart, Token, empty_plain, tok}
use Rattle.libyaml_grammar.specs.grammar.ValidLists.{IsValidList, IsViablePrefix}
use Rattle.libyaml_grammar.specs.partial.Rest.{any_encoding}

-- some valid list goes on from these tokens with a token of this type
pub record IsAcceptable (l : List Token) (k : yaml_token_type_t) : Type 0 where
  pub token : Token
  pub of_type : token_type token.content ≡ k
  pub goes_on : IsViablePrefix (l ++ token ∷ [])

-- of tokens that begin a valid list the set has exactly these types
abbrev pub AreAcceptable : TokenTypes → List Token → Type 0
AreAcceptable s l = IsViablePrefix l → (k : yaml_token_type_t) → (has s k ≡ true) ↔ IsAcceptable l k

-- so many tokens at most complete these to a valid list
pub record IsCompleted (l : List Token) (most : ℕ) : Type 0 where
  pub rest : List Token
  pub valid_list : IsValidList (l ++ rest)
  pub few : length rest ≤ most

-- a token of a type that ends something, or the least that has to come before: a scalar is empty and plain
abbrev pub bare : Marks → yaml_token_type_t → Token
bare m kinds.YAML_STREAM_START_TOKEN = tok (StreamStart any_encoding) m
bare m kinds.YAML_DOCUMENT_START_TOKEN = tok DocumentStart m
bare m kinds.YAML_SCALAR_TOKEN = tok (Scalar empty_plain) m
bare m kinds.YAML_BLOCK_END_TOKEN = tok BlockEnd m
bare m kinds.YAML_FLOW_SEQUENCE_END_TOKEN = tok FlowSequenceEnd m
bare m kinds.YAML_FLOW_MAPPING_END_TOKEN = tok FlowMappingEnd m
bare m kinds.YAML_STREAM_END_TOKEN = tok StreamEnd m
bare m _ = tok NoToken m

-- tokens of these types, whatever their marks, complete these tokens to a valid list
abbrev pub Complete : List yaml_token_type_t → List Token → Type 0
Complete types l = (m : Marks) → IsValidList (l ++ map (bare m) types)

-- The numbers of the largest enums are their variants' places, and a derived order goes by the places.
use Rattle.std.proofs.Common.{◌≡◌, ◌∙◌, ℕ, suc, ◌<◌, List, [], ◌∷◌, refl, ap, sym, arith, inl, inr}
use Rattle.std.specs.declared.cmp.Ordering.{Ordering}
use Rattle.std.specs.declared.cmp.Ordering.TheVariants.{Less, Equal, Greater}
use Rattle.std.specs.Ordering.{MatchOrdering, nat_cmp}
use Rattle.std.specs.Cmp.{nat_cmp_is}
use Rattle.std.specs.Cmp.Derive.{of_values, points}
use denote.Struct.Field.{Field}
use denote.Enum.Enum.{tag}
use denote.Enum.Declared.{Record, Choice, declared, rowss, intoss, tag_of}
use denote.Enum.Compared.{by}
use Rattle.libyaml_types.specs.contracts.enums.yaml_token_type_t as token_type
use Rattle.libyaml_types.specs.contracts.enums.yaml_parser_state_t as parser_state
use Rattle.libyaml_types.specs.declared.enums.yaml_token_type_t.{yaml_token_type_t}
use Rattle.libyaml_types.specs.declared.enums.yaml_token_type_t.TheVariants as kinds
use Rattle.libyaml_types.specs.declared.enums.yaml_parser_state_t.{yaml_parser_state_t}
use Rattle.libyaml_types.specs.declared.enums.yaml_parser_state_t.TheVariants as st
use Rattle.libyaml_types.specs.Numbers.{token_type_number, parser_state_number}

-- a variant's place among the others
abbrev place : (Fss : List (List Field)) → Choice Fss → ℕ
place Fss c = tag (rowss Fss) (intoss Fss c)

one_up : (r : Ordering) (m n : ℕ) → MatchOrdering r (m < n) (m ≡ n) (n < m)
    → MatchOrdering r (suc m < suc n) (suc m ≡ suc n) (suc n < suc m)
one_up Less m n h = omega (arith, h)
one_up Equal m n h = ap suc h
one_up Greater m n h = omega (arith, h)

by_place : (Fss : List (List Field)) (c d : Choice Fss)
    → MatchOrdering (by Less Greater Fss (points Equal Fss) c d) (place Fss c < place Fss d)
    (place Fss c ≡ place Fss d) (place Fss d < place Fss c)
by_place [] c d = absurd c
by_place (Fs ∷ Fss) (inl x) (inl y) = refl
by_place (Fs ∷ Fss) (inl x) (inr y) = omega arith
by_place (Fs ∷ Fss) (inr x) (inl y) = omega arith
by_place (Fs ∷ Fss) (inr x) (inr y) = one_up (by Less Greater Fss (points Equal Fss) x y) (place Fss x)
    (place Fss y) (by_place Fss x y)

-- an enum without payload whose numbers are its places is ordered by its numbers
ordered : (N : Record) (number : N.D → ℕ) → ((x : N.D) → number x ≡ tag_of (declared N) x) → (a b : N.D)
    → of_values N Less Greater (points Equal N.parts) a b ≡ nat_cmp (number a) (number b)
ordered N number is a b =
    nat_cmp_is (tag_of (declared N) a) (tag_of (declared N) b) _ (by_place N.parts (N.as_values a) (N.as_values b))
    ∙ (λ i. nat_cmp (sym (is a) i) (sym (is b) i))

token_type_place : (x : yaml_token_type_t) → token_type_number x ≡ tag_of token_type.the_type x
token_type_place kinds.YAML_NO_TOKEN = refl
token_type_place kinds.YAML_STREAM_START_TOKEN = refl
token_type_place kinds.YAML_STREAM_END_TOKEN = refl
token_type_place kinds.YAML_VERSION_DIRECTIVE_TOKEN = refl
token_type_place kinds.YAML_TAG_DIRECTIVE_TOKEN = refl
token_type_place kinds.YAML_DOCUMENT_START_TOKEN = refl
token_type_place kinds.YAML_DOCUMENT_END_TOKEN = refl
token_type_place kinds.YAML_BLOCK_SEQUENCE_START_TOKEN = refl
token_type_place kinds.YAML_BLOCK_MAPPING_START_TOKEN = refl
token_type_place kinds.YAML_BLOCK_END_TOKEN = refl
token_type_place kinds.YAML_FLOW_SEQUENCE_START_TOKEN = refl
token_type_place kinds.YAML_FLOW_SEQUENCE_END_TOKEN = refl
token_type_place kinds.YAML_FLOW_MAPPING_START_TOKEN = refl
token_type_place kinds.YAML_FLOW_MAPPING_END_TOKEN = refl
token_type_place kinds.YAML_BLOCK_ENTRY_TOKEN = refl
token_type_place kinds.YAML_FLOW_ENTRY_TOKEN = refl
token_type_place kinds.YAML_KEY_TOKEN = refl
token_type_place kinds.YAML_VALUE_TOKEN = refl
token_type_place kinds.YAML_ALIAS_TOKEN = refl
token_type_place kinds.YAML_ANCHOR_TOKEN = refl
token_type_place kinds.YAML_TAG_TOKEN = refl
token_type_place kinds.YAML_SCALAR_TOKEN = refl

parser_state_place : (x : yaml_parser_state_t) → parser_state_number x ≡ tag_of parser_state.the_type x
parser_state_place st.YAML_PARSE_STREAM_START_STATE = refl
parser_state_place st.YAML_PARSE_IMPLICIT_DOCUMENT_START_STATE = refl
parser_state_place st.YAML_PARSE_DOCUMENT_START_STATE = refl
parser_state_place st.YAML_PARSE_DOCUMENT_CONTENT_STATE = refl
parser_state_place st.YAML_PARSE_DOCUMENT_END_STATE = refl
parser_state_place st.YAML_PARSE_BLOCK_NODE_STATE = refl
parser_state_place st.YAML_PARSE_BLOCK_NODE_OR_INDENTLESS_SEQUENCE_STATE = refl
parser_state_place st.YAML_PARSE_FLOW_NODE_STATE = refl
parser_state_place st.YAML_PARSE_BLOCK_SEQUENCE_FIRST_ENTRY_STATE = refl
parser_state_place st.YAML_PARSE_BLOCK_SEQUENCE_ENTRY_STATE = refl
parser_state_place st.YAML_PARSE_INDENTLESS_SEQUENCE_ENTRY_STATE = refl
parser_state_place st.YAML_PARSE_BLOCK_MAPPING_FIRST_KEY_STATE = refl
parser_state_place st.YAML_PARSE_BLOCK_MAPPING_KEY_STATE = refl
parser_state_place st.YAML_PARSE_BLOCK_MAPPING_VALUE_STATE = refl
parser_state_place st.YAML_PARSE_FLOW_SEQUENCE_FIRST_ENTRY_STATE = refl
parser_state_place st.YAML_PARSE_FLOW_SEQUENCE_ENTRY_STATE = refl
parser_state_place st.YAML_PARSE_FLOW_SEQUENCE_ENTRY_MAPPING_KEY_STATE = refl
parser_state_place st.YAML_PARSE_FLOW_SEQUENCE_ENTRY_MAPPING_VALUE_STATE = refl
parser_state_place st.YAML_PARSE_FLOW_SEQUENCE_ENTRY_MAPPING_END_STATE = refl
parser_state_place st.YAML_PARSE_FLOW_MAPPING_FIRST_KEY_STATE = refl
parser_state_place st.YAML_PARSE_FLOW_MAPPING_KEY_STATE = refl
parser_state_place st.YAML_PARSE_FLOW_MAPPING_VALUE_STATE = refl
parser_state_place st.YAML_PARSE_FLOW_MAPPING_EMPTY_VALUE_STATE = refl
parser_state_place st.YAML_PARSE_END_STATE = refl

pub ordered_token_types : (a b : yaml_token_type_t)
    → of_values token_type.enum Less Greater (points Equal token_type.the_parts) a b ≡ nat_cmp (token_type_number a)
    (token_type_number b)
ordered_token_types = ordered token_type.enum token_type_number token_type_place

pub ordered_parser_states : (a b : yaml_parser_state_t)
    → of_values parser_state.enum Less Greater (points Equal parser_state.the_parts) a b ≡ nat_cmp
    (parser_state_number a) (parser_state_number b)
ordered_parser_states = ordered parser_state.enum parser_state_number parser_state_place

-- Where libyaml does something else with the token at hand (docs/DIFFERENCES.md). In each function k is the kind of the
-- token.
use Rattle.std.specs.Prelude.{ℕ, Bool, true, false}
use Rattle.libyaml_types.specs.declared.enums.yaml_token_type_t.{yaml_token_type_t}
use Rattle.libyaml_types.specs.declared.enums.yaml_token_type_t.TheVariants as kinds
use Rattle.libyaml_types.specs.declared.enums.yaml_parser_state_t.{yaml_parser_state_t}
use Rattle.libyaml_types.specs.declared.enums.yaml_parser_state_t.TheVariants as st
use Rattle.libyaml_automaton.specs.declared.difference.Difference.{Difference}
use Rattle.libyaml_automaton.specs.declared.difference.Difference.TheVariants.{Nowhere, PairKey, ValueFirst, BareDocument}
use Rattle.libyaml_automaton.specs.Automaton.{Purpose, AtState}

-- after a document's explicit end, or before the first document
abbrev pub differs_before_document : (behind_document_end : Bool) → yaml_token_type_t → Difference
differs_before_document false k = Nowhere
differs_before_document true kinds.YAML_STREAM_END_TOKEN = Nowhere
differs_before_document true kinds.YAML_VERSION_DIRECTIVE_TOKEN = Nowhere
differs_before_document true kinds.YAML_TAG_DIRECTIVE_TOKEN = Nowhere
differs_before_document true kinds.YAML_DOCUMENT_START_TOKEN = Nowhere
differs_before_document true kinds.YAML_DOCUMENT_END_TOKEN = Nowhere
differs_before_document true _ = BareDocument

-- where a block mapping's KEY is due
abbrev pub differs_before_key : yaml_token_type_t → Difference
differs_before_key kinds.YAML_VALUE_TOKEN = ValueFirst
differs_before_key _ = Nowhere

-- after the KEY of a flow sequence's pair
abbrev pub differs_after_pair_key : yaml_token_type_t → Difference
differs_after_pair_key kinds.YAML_VALUE_TOKEN = PairKey
differs_after_pair_key kinds.YAML_FLOW_ENTRY_TOKEN = PairKey
differs_after_pair_key kinds.YAML_FLOW_SEQUENCE_END_TOKEN = PairKey
differs_after_pair_key _ = Nowhere

abbrev pub differs_at : yaml_parser_state_t → (behind_document_end : Bool) → yaml_token_type_t → Difference
differs_at st.YAML_PARSE_IMPLICIT_DOCUMENT_START_STATE b k = differs_before_document b k
differs_at st.YAML_PARSE_BLOCK_MAPPING_KEY_STATE b k = differs_before_key k
differs_at st.YAML_PARSE_FLOW_SEQUENCE_ENTRY_MAPPING_KEY_STATE b k = differs_after_pair_key k
differs_at _ b k = Nowhere

-- a token that follows another within a production is taken as there
abbrev pub differs : Purpose → yaml_parser_state_t → (behind_document_end : Bool) → yaml_token_type_t → Difference
differs AtState state b k = differs_at state b k
differs _ state b k = Nowhere

abbrev pub difference_number : Difference → ℕ
difference_number Nowhere = 0
difference_number PairKey = 1
difference_number ValueFirst = 2
difference_number BareDocument = 3

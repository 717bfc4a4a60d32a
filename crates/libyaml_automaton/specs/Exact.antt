-- A step that does what libyaml does, also where this parser does something else (docs/DIFFERENCES.md). In each
-- function k is the kind of the token t.
use Rattle.std.specs.Prelude.{Bool, false}
use Rattle.libyaml_types.specs.Events.{zero_mark}
use Rattle.libyaml_types.specs.declared.enums.yaml_parser_state_t.TheVariants.{YAML_PARSE_FLOW_SEQUENCE_ENTRY_MAPPING_VALUE_STATE}
use Rattle.libyaml_types.specs.declared.enums.yaml_token_type_t.{yaml_token_type_t}
use Rattle.libyaml_automaton.specs.Automaton.{EmptyScalar, KindAndMarks, Purpose, Step, fail, give, step}
use Rattle.libyaml_automaton.specs.Config.{Stacks, in_state, top_mark}
use Rattle.libyaml_automaton.specs.Differing.{differs}
use Rattle.libyaml_automaton.specs.Problems as problem
use Rattle.libyaml_automaton.specs.declared.difference.Difference.{Difference}
use Rattle.libyaml_automaton.specs.declared.difference.Difference.TheVariants.{Nowhere, PairKey, ValueFirst, BareDocument}

-- After the KEY of a flow sequence's pair the token is lost, and an empty node stands at its end. Elsewhere it is
-- an error.
abbrev pub step_at_difference : Difference → Purpose → Stacks → KindAndMarks → yaml_token_type_t → Step
step_at_difference Nowhere v c t k = step v c t k
step_at_difference PairKey v c t k = give (EmptyScalar false false) t.end_mark t.end_mark
    (in_state YAML_PARSE_FLOW_SEQUENCE_ENTRY_MAPPING_VALUE_STATE c)
step_at_difference ValueFirst v c t k = fail problem.no_key (top_mark c.marks) t.start_mark
step_at_difference BareDocument v c t k = fail problem.no_document_start zero_mark t.start_mark

-- an exact step by a token
abbrev pub exact_step : Purpose → Stacks → KindAndMarks → yaml_token_type_t → Step
exact_step v c t k = step_at_difference (differs v c.state c.behind_document_end k) v c t k

-- Where an exact step pushes: where the other does and libyaml does the same.
abbrev pub where_same : Difference → Bool → Bool
where_same Nowhere b = b
where_same _ b = false

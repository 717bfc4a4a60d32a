-- A step that does what libyaml does, also where this parser does something else (docs/DIFFERENCES.md). In each function t is the
-- token.
use Rattle.std.specs.Prelude.{Bool, true, false, Ok, Err}
use Rattle.libyaml_types.specs.Events.{zero_mark}
use Rattle.libyaml_types.specs.declared.enums.yaml_parser_state_t.TheVariants.{YAML_PARSE_FLOW_SEQUENCE_ENTRY_MAPPING_VALUE_STATE}
use Rattle.libyaml_types.specs.declared.enums.yaml_token_type_t.{yaml_token_type_t}
use Rattle.libyaml_automaton.specs.Config.{Stacks, in_state, top_mark}
use Rattle.libyaml_automaton.specs.Differing.{differs}
use Rattle.libyaml_automaton.specs.Exact.{where_same}
use Rattle.libyaml_automaton.specs.Problems as problem
use Rattle.libyaml_automaton.specs.declared.difference.Difference.{Difference}
use Rattle.libyaml_automaton.specs.declared.difference.Difference.TheVariants.{Nowhere, PairKey, ValueFirst, BareDocument}
use Rattle.token_steps.specs.declared.steps.steps_t.{steps_t}
use Rattle.token_steps.specs.Differing.{differs_in}
use Rattle.token_steps.specs.Facts.{Given, Scalar, StepEvent, StepResult, StepToken, StepWant, step_by_fact}
use Rattle.token_steps.specs.Growth.{grows_marks, grows_states}

-- an empty scalar at the end of a token that is lost
abbrev pub empty_at_end : StepToken → StepEvent
empty_at_end t = record {
  shape = Scalar false false true false;
  stays = false;
  start_mark = t.end_mark;
  end_mark = t.end_mark;
}

-- After the KEY of a flow sequence's pair the token is lost. Elsewhere it is an error.
abbrev pub step_there : Difference → StepWant → Stacks → StepToken → StepResult
step_there Nowhere v c t = step_by_fact v c t
step_there PairKey v c t = Ok (Given (empty_at_end t), in_state YAML_PARSE_FLOW_SEQUENCE_ENTRY_MAPPING_VALUE_STATE c)
step_there ValueFirst v c t
    = Err (record { problem = problem.no_key; context_mark = top_mark c.marks; mark = t.start_mark })
step_there BareDocument v c t
    = Err (record { problem = problem.no_document_start; context_mark = zero_mark; mark = t.start_mark })

-- an exact step by a token
abbrev pub exact_step_by_fact : StepWant → Stacks → StepToken → StepResult
exact_step_by_fact v c t = step_there (differs v.next c.state c.behind_document_end t.kind) v c t

-- a step by a token, which may be exact
abbrev pub step_by_fact_if : (is_exact : Bool) → StepWant → Stacks → StepToken → StepResult
step_by_fact_if false v c t = step_by_fact v c t
step_by_fact_if true v c t = exact_step_by_fact v c t

-- Where an exact call pushes: where the other does and libyaml does the same.
abbrev pub exactly_grows_states : steps_t → yaml_token_type_t → Bool
exactly_grows_states d k = where_same (differs_in d k) (grows_states d k)

abbrev pub exactly_grows_marks : steps_t → yaml_token_type_t → Bool
exactly_grows_marks d k = where_same (differs_in d k) (grows_marks d k)

abbrev pub where_same_if : (is_exact : Bool) → Difference → Bool → Bool
where_same_if false x b = b
where_same_if true x b = where_same x b

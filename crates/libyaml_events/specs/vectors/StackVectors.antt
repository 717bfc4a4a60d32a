-- Test vectors of the stacks and of the token held (docs/DEFINITIONS.md, "Stacks").
use Rattle.std.specs.Prelude.{◌∷◌, ℕ, pos, List, [], Option, Some, None, Ok, Err, codes}
use Rattle.libyaml_types.specs.declared.mark.yaml_mark_t.{yaml_mark_t}
use Rattle.libyaml_types.specs.declared.event.unnamed_yaml_event_t_data.TheVariants as ev
use Rattle.libyaml_types.specs.declared.token.unnamed_yaml_token_t_data.TheVariants.{BlockEnd, Key}
use Rattle.libyaml_types.specs.declared.enums.yaml_error_type_t.TheVariants.{YAML_PARSER_ERROR}
use Rattle.libyaml_types.specs.declared.enums.yaml_parser_state_t.{yaml_parser_state_t}
use Rattle.libyaml_types.specs.declared.enums.yaml_parser_state_t.TheVariants as st
use Rattle.libyaml_grammar.specs.grammar.Tokens.{Token}
use Rattle.libyaml_events.specs.machine.Config.{Config, holding, start, with_fault}
use Rattle.libyaml_events.specs.parsers.Pops.{KeepsBelow}
use Rattle.libyaml_events.specs.parsers.Lookahead.{LookaheadIsLast}
use Rattle.libyaml_grammar.specs.vectors.VectorNotation.{SCALAR, STREAM, at, place, says_while, token}

-- a parser in this state, over these stacks
abbrev pub standing_over : yaml_parser_state_t → List yaml_parser_state_t → List yaml_mark_t → Config
standing_over state states marks = holding None (record start { state = state; states = states; marks = marks })

abbrev pub in_sequence : List yaml_parser_state_t → List yaml_mark_t → Config
in_sequence states marks = standing_over st.YAML_PARSE_BLOCK_SEQUENCE_ENTRY_STATE states marks

abbrev pub MissesEntry : List yaml_mark_t → (opened_at : ℕ) → Type 0
MissesEntry marks i = KeepsBelow (in_sequence (st.YAML_PARSE_DOCUMENT_END_STATE ∷ []) marks) (Ok (token 4 Key)
    ∷ []) (Err YAML_PARSER_ERROR) (holding None (with_fault (in_sequence (st.YAML_PARSE_DOCUMENT_END_STATE ∷ []) marks).machine
    (says_while (codes "while parsing a block collection") i (codes "did not find expected '-' indicator") 8)))

-- A sequence ends: its state goes and the one below comes, and its mark goes.
abbrev pub VectorSequenceEnds : Type 0
VectorSequenceEnds = KeepsBelow (in_sequence (st.YAML_PARSE_DOCUMENT_END_STATE ∷ []) (place 2 ∷ [])) (Ok (token 4 BlockEnd)
    ∷ []) (Ok (at 8 9 ev.SequenceEnd)) (standing_over st.YAML_PARSE_DOCUMENT_END_STATE [] [])

-- not over an empty stack
abbrev pub NeverWithoutState : Type 0
NeverWithoutState = KeepsBelow (in_sequence [] (place 2 ∷ [])) (Ok (token 4 BlockEnd) ∷ [])
    (Ok (at 8 9 ev.SequenceEnd)) (standing_over st.YAML_PARSE_END_STATE [] []) → ⊥

abbrev pub NeverWithoutMark : Type 0
NeverWithoutMark = KeepsBelow (in_sequence (st.YAML_PARSE_DOCUMENT_END_STATE ∷ []) []) (Ok (token 4 BlockEnd)
    ∷ []) (Ok (at 8 9 ev.SequenceEnd)) (standing_over st.YAML_PARSE_DOCUMENT_END_STATE [] []) → ⊥

-- An entry is missing: the error has the mark on top.
abbrev pub VectorEntryMissing : Type 0
VectorEntryMissing = MissesEntry (place 2 ∷ []) 2

abbrev pub NeverByNoMark : Type 0
NeverByNoMark = MissesEntry [] 0 → ⊥

-- the token that is held, of two that were asked for
abbrev pub LookaheadOf : Option Token → Type 0
LookaheadOf held = LookaheadIsLast {S = Unit {0}}
    (record { source = tt; config = holding held start; max_entries = pos 1 }) (token 0 STREAM
    ∷ token 1 (SCALAR (codes "a")) ∷ [])

abbrev pub VectorHoldsNone : Type 0
VectorHoldsNone = LookaheadOf None

abbrev pub VectorHoldsSecond : Type 0
VectorHoldsSecond = LookaheadOf (Some (token 1 (SCALAR (codes "a"))))

abbrev pub NeverHoldsFirst : Type 0
NeverHoldsFirst = LookaheadOf (Some (token 0 STREAM)) → ⊥

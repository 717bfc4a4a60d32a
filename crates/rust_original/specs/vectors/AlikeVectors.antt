-- Test vectors where both parsers do the same, at places that the lists in examples do not reach, in the notation of
-- Notation.
use Rattle.std.specs.Prelude.{◌≡◌, ◌∷◌, List, [], codes, Err}
use Rattle.libyaml_types.specs.declared.event.unnamed_yaml_event_t_data.TheVariants as ev
use Rattle.libyaml_types.specs.declared.token.unnamed_yaml_token_t_data.TheVariants.{BlockEnd, BlockEntry, BlockMappingStart, BlockSequenceStart, FlowEntry, FlowSequenceEnd, FlowSequenceStart, Key, StreamEnd}
use Rattle.libyaml_grammar.specs.vectors.VectorNotation.{SCALAR, STREAM, at, flow_mapping, flow_sequence, list, mapping, nothing, sequence, text}
use Rattle.libyaml_grammar.specs.grammar.Tokens.{Token}
use Rattle.libyaml_graphs.specs.vectors.LoadVectors.{implicit, no_memory, no_root, pair}
use Rattle.rust_original.specs.vectors.Notation.{alike, block_map, block_seq, broken_run, flow_seq, loads_within, fails_without_flow_content, vector_node, parse, plain, run_to, str}

-- A sequence without indentation ends where the next token begins.
abbrev pub VectorIndentlessSequenceAlike : Type 0
VectorIndentlessSequenceAlike = parse (list (STREAM ∷ BlockMappingStart ∷ Key ∷ BlockEntry ∷ SCALAR (codes "x") ∷ Key ∷
    SCALAR (codes "y") ∷ BlockEnd ∷ StreamEnd ∷ [])) ≡ alike
    (run_to 16 (at 2 3 mapping ∷ at 6 7 sequence ∷ at 8 9 (text (codes "x")) ∷ at 10 10 ev.SequenceEnd ∷
    at 10 10 nothing ∷ at 12 13 (text (codes "y")) ∷ at 14 14 nothing ∷ at 14 15 ev.MappingEnd ∷ []))
    (implicit 16 (vector_node 2 15 (block_map (pair 2 4 ∷ pair 5 6 ∷ [])) ∷ vector_node 6 10 (block_seq (3 ∷ [])) ∷
    vector_node 8 9 (str plain (codes "x")) ∷ vector_node 10 10 (str plain []) ∷ vector_node 12 13 (str plain (codes "y")) ∷
    vector_node 14 14 (str plain []) ∷ []) ∷ no_root ∷ [])

-- A pair's key is no block collection.
abbrev pub VectorBlockSequenceAsAPairsKey : Type 0
VectorBlockSequenceAsAPairsKey = parse (list (STREAM ∷ FlowSequenceStart ∷ Key ∷ BlockSequenceStart ∷ StreamEnd ∷
    [])) ≡ alike (broken_run (fails_without_flow_content 6) (at 2 3 flow_sequence ∷ at 4 5 flow_mapping ∷ []))
    (Err (fails_without_flow_content 6) ∷ [])

-- A document of three nodes, with a bound of three and of two.
abbrev pub two_entries : List Token
two_entries = list (STREAM ∷ FlowSequenceStart ∷ SCALAR (codes "a") ∷ FlowEntry ∷ SCALAR (codes "b") ∷
    FlowSequenceEnd ∷ StreamEnd ∷ [])

abbrev pub VectorAtTheBound : Type 0
VectorAtTheBound = loads_within 3 two_entries ≡ implicit 12 (vector_node 2 11 (flow_seq (2 ∷ 3 ∷ [])) ∷
    vector_node 4 5 (str plain (codes "a")) ∷ vector_node 8 9 (str plain (codes "b")) ∷ []) ∷ no_root ∷ []

abbrev pub VectorBeyondTheBound : Type 0
VectorBeyondTheBound = loads_within 2 two_entries ≡ no_memory ∷ []

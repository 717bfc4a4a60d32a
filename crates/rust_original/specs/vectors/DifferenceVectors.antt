-- Test vectors of the three places where the parsers differ: the run there, the run here, and the loads there, in the
-- notation of Notation.
use Rattle.std.specs.Prelude.{◌≡◌, ◌∷◌, [], None, true, false, codes, Err}
use Rattle.libyaml_types.specs.declared.event.unnamed_yaml_event_t_data.TheVariants as ev
use Rattle.libyaml_types.specs.declared.token.unnamed_yaml_token_t_data.TheVariants.{BlockEnd, BlockMappingStart, DocumentEnd, DocumentStart, FlowEntry, FlowSequenceEnd, FlowSequenceStart, Key, StreamEnd, Value}
use Rattle.libyaml_grammar.specs.vectors.VectorNotation.{SCALAR, STREAM, TAG, at, bare_document, explicit_end, flow_mapping, flow_sequence, headed_document, list, mapping, no_document_end, nothing, stream, text}
use Rattle.libyaml_graphs.specs.vectors.LoadVectors.{implicit, loaded, no_root, pair}
use Rattle.rust_original.specs.vectors.Notation.{broken_run, fails, flow_map, flow_seq, fails_without_block_content, fails_without_document_start, fails_without_flow_content, fails_without_key, no_separator, vector_node, parse, plain, run_to, str, fails_at_undefined_handle}

-- the KEY of a flow sequence's pair, and after it a token that begins no node

abbrev pub VectorPairKeyThenValue : Type 0
VectorPairKeyThenValue = parse (list (STREAM ∷ FlowSequenceStart ∷ Key ∷ Value ∷ SCALAR (codes "x") ∷ FlowSequenceEnd ∷
    StreamEnd ∷ [])) ≡ record {
      there = broken_run (no_separator 2 8) (at 2 3 flow_sequence ∷ at 4 5 flow_mapping ∷ at 7 7 nothing ∷
          at 8 8 nothing ∷ at 8 8 ev.MappingEnd ∷ []);
      here = run_to 12 (at 2 3 flow_sequence ∷ at 4 5 flow_mapping ∷ at 6 6 nothing ∷ at 8 9 (text (codes "x")) ∷
          at 10 10 ev.MappingEnd ∷ at 10 11 ev.SequenceEnd ∷ []);
      loads = Err (no_separator 2 8) ∷ [];
    }

abbrev pub VectorPairKeyThenValueAlone : Type 0
VectorPairKeyThenValueAlone = parse (list (STREAM ∷ FlowSequenceStart ∷ Key ∷ Value ∷ FlowSequenceEnd ∷ StreamEnd ∷
    [])) ≡ record {
      there = run_to 10 (at 2 3 flow_sequence ∷ at 4 5 flow_mapping ∷ at 7 7 nothing ∷ at 8 8 nothing ∷
          at 8 8 ev.MappingEnd ∷ at 8 9 ev.SequenceEnd ∷ []);
      here = run_to 10 (at 2 3 flow_sequence ∷ at 4 5 flow_mapping ∷ at 6 6 nothing ∷ at 8 8 nothing ∷
          at 8 8 ev.MappingEnd ∷ at 8 9 ev.SequenceEnd ∷ []);
      loads = implicit 10 (vector_node 2 9 (flow_seq (2 ∷ [])) ∷ vector_node 4 8 (flow_map (pair 3 4 ∷ [])) ∷
          vector_node 7 7 (str plain []) ∷ vector_node 8 8 (str plain []) ∷ []) ∷ no_root ∷ [];
    }

abbrev pub VectorPairKeyThenTwoValues : Type 0
VectorPairKeyThenTwoValues = parse (list (STREAM ∷ FlowSequenceStart ∷ Key ∷ Value ∷ Value ∷ SCALAR (codes "x") ∷
    FlowSequenceEnd ∷ StreamEnd ∷ [])) ≡ record {
      there = run_to 14 (at 2 3 flow_sequence ∷ at 4 5 flow_mapping ∷ at 7 7 nothing ∷ at 10 11 (text (codes "x")) ∷
          at 12 12 ev.MappingEnd ∷ at 12 13 ev.SequenceEnd ∷ []);
      here = broken_run (fails_without_flow_content 8) (at 2 3 flow_sequence ∷ at 4 5 flow_mapping ∷ at 6 6 nothing ∷ []);
      loads = implicit 14 (vector_node 2 13 (flow_seq (2 ∷ [])) ∷ vector_node 4 12 (flow_map (pair 3 4 ∷ [])) ∷
          vector_node 7 7 (str plain []) ∷ vector_node 10 11 (str plain (codes "x")) ∷ []) ∷ no_root ∷ [];
    }

abbrev pub VectorPairKeyThenEntry : Type 0
VectorPairKeyThenEntry = parse (list (STREAM ∷ FlowSequenceStart ∷ Key ∷ FlowEntry ∷ SCALAR (codes "x") ∷
    FlowSequenceEnd ∷ StreamEnd ∷ [])) ≡ record {
      there = broken_run (no_separator 2 8) (at 2 3 flow_sequence ∷ at 4 5 flow_mapping ∷ at 7 7 nothing ∷
          at 8 8 nothing ∷ at 8 8 ev.MappingEnd ∷ []);
      here = run_to 12 (at 2 3 flow_sequence ∷ at 4 5 flow_mapping ∷ at 6 6 nothing ∷ at 6 6 nothing ∷
          at 6 6 ev.MappingEnd ∷ at 8 9 (text (codes "x")) ∷ at 10 11 ev.SequenceEnd ∷ []);
      loads = Err (no_separator 2 8) ∷ [];
    }

abbrev pub VectorPairKeyThenTwoEntries : Type 0
VectorPairKeyThenTwoEntries = parse (list (STREAM ∷ FlowSequenceStart ∷ Key ∷ FlowEntry ∷ FlowEntry ∷
    SCALAR (codes "x") ∷ FlowSequenceEnd ∷ StreamEnd ∷ [])) ≡ record {
      there = run_to 14 (at 2 3 flow_sequence ∷ at 4 5 flow_mapping ∷ at 7 7 nothing ∷ at 8 8 nothing ∷
          at 8 8 ev.MappingEnd ∷ at 10 11 (text (codes "x")) ∷ at 12 13 ev.SequenceEnd ∷ []);
      here = broken_run (fails_without_flow_content 8) (at 2 3 flow_sequence ∷ at 4 5 flow_mapping ∷ at 6 6 nothing ∷
          at 6 6 nothing ∷ at 6 6 ev.MappingEnd ∷ []);
      loads = implicit 14 (vector_node 2 13 (flow_seq (2 ∷ 5 ∷ [])) ∷ vector_node 4 8 (flow_map (pair 3 4 ∷ [])) ∷
          vector_node 7 7 (str plain []) ∷ vector_node 8 8 (str plain []) ∷ vector_node 10 11 (str plain (codes "x")) ∷ []) ∷
          no_root ∷ [];
    }

abbrev pub VectorPairKeyThenEnd : Type 0
VectorPairKeyThenEnd = parse (list (STREAM ∷ FlowSequenceStart ∷ Key ∷ FlowSequenceEnd ∷ StreamEnd ∷ [])) ≡ record {
  there = broken_run (no_separator 2 8) (at 2 3 flow_sequence ∷ at 4 5 flow_mapping ∷ at 7 7 nothing ∷
      at 8 8 nothing ∷ at 8 8 ev.MappingEnd ∷ []);
  here = run_to 8 (at 2 3 flow_sequence ∷ at 4 5 flow_mapping ∷ at 6 6 nothing ∷ at 6 6 nothing ∷
      at 6 6 ev.MappingEnd ∷ at 6 7 ev.SequenceEnd ∷ []);
  loads = Err (no_separator 2 8) ∷ [];
}

abbrev pub VectorPairKeyThenTwoEnds : Type 0
VectorPairKeyThenTwoEnds = parse (list (STREAM ∷ FlowSequenceStart ∷ Key ∷ FlowSequenceEnd ∷ FlowSequenceEnd ∷
    StreamEnd ∷ [])) ≡ record {
      there = run_to 10 (at 2 3 flow_sequence ∷ at 4 5 flow_mapping ∷ at 7 7 nothing ∷ at 8 8 nothing ∷
          at 8 8 ev.MappingEnd ∷ at 8 9 ev.SequenceEnd ∷ []);
      here = broken_run (fails_without_document_start 8) (at 2 3 flow_sequence ∷ at 4 5 flow_mapping ∷ at 6 6 nothing ∷
          at 6 6 nothing ∷ at 6 6 ev.MappingEnd ∷ at 6 7 ev.SequenceEnd ∷ at 8 8 no_document_end ∷ []);
      loads = implicit 10 (vector_node 2 9 (flow_seq (2 ∷ [])) ∷ vector_node 4 8 (flow_map (pair 3 4 ∷ [])) ∷
          vector_node 7 7 (str plain []) ∷ vector_node 8 8 (str plain []) ∷ []) ∷ no_root ∷ [];
    }

-- a VALUE where the KEY of a block mapping is due

abbrev pub VectorValueFirst : Type 0
VectorValueFirst = parse (list (STREAM ∷ BlockMappingStart ∷ Value ∷ SCALAR (codes "x") ∷ BlockEnd ∷ StreamEnd ∷
    [])) ≡ record {
      there = broken_run (fails_without_key 2 4) (at 2 3 mapping ∷ []);
      here = run_to 10 (at 2 3 mapping ∷ at 4 4 nothing ∷ at 6 7 (text (codes "x")) ∷ at 8 9 ev.MappingEnd ∷ []);
      loads = Err (fails_without_key 2 4) ∷ [];
    }

abbrev pub VectorValueAfterAnEntry : Type 0
VectorValueAfterAnEntry = parse (list (STREAM ∷ BlockMappingStart ∷ Key ∷ SCALAR (codes "k") ∷ Value ∷ Value ∷
    BlockEnd ∷ StreamEnd ∷ [])) ≡ record {
      there = broken_run (fails_without_key 2 10) (at 2 3 mapping ∷ at 6 7 (text (codes "k")) ∷ at 9 9 nothing ∷ []);
      here = run_to 14 (at 2 3 mapping ∷ at 6 7 (text (codes "k")) ∷ at 9 9 nothing ∷ at 10 10 nothing ∷
          at 11 11 nothing ∷ at 12 13 ev.MappingEnd ∷ []);
      loads = Err (fails_without_key 2 10) ∷ [];
    }

-- no DOCUMENT-START after a document with a DOCUMENT-END

abbrev pub VectorScalarAfterADocumentEnd : Type 0
VectorScalarAfterADocumentEnd = parse (list (STREAM ∷ SCALAR (codes "a") ∷ DocumentEnd ∷ SCALAR (codes "b") ∷
    StreamEnd ∷ [])) ≡ record {
      there = broken_run (fails_without_document_start 6) (at 2 3 (text (codes "a")) ∷ at 4 5 explicit_end ∷ []);
      here = run_to 8 (at 2 3 (text (codes "a")) ∷ at 4 5 explicit_end ∷ at 6 6 bare_document ∷ at 6 7 (text (codes "b")) ∷
          []);
      loads = loaded [] true false 2 5 (vector_node 2 3 (str plain (codes "a")) ∷ []) ∷ Err (fails_without_document_start 6) ∷ [];
    }

abbrev pub VectorTagAfterADocumentEnd : Type 0
VectorTagAfterADocumentEnd = parse (list (STREAM ∷ DocumentStart ∷ DocumentEnd ∷ TAG (codes "!e!") (codes "x") ∷
    SCALAR (codes "b") ∷ StreamEnd ∷ [])) ≡ record {
      there = fails (fails_without_document_start 6) (at 0 0 stream ∷ at 2 3 (headed_document None []) ∷ at 4 4 nothing ∷
          at 4 5 explicit_end ∷ []);
      here = fails (fails_at_undefined_handle 6) (at 0 0 stream ∷ at 2 3 (headed_document None []) ∷ at 4 4 nothing ∷
          at 4 5 explicit_end ∷ at 6 6 bare_document ∷ []);
      loads = loaded [] false false 2 5 (vector_node 4 4 (str plain []) ∷ []) ∷ Err (fails_without_document_start 6) ∷ [];
    }

abbrev pub VectorNoNodeAfterADocumentEnd : Type 0
VectorNoNodeAfterADocumentEnd = parse (list (STREAM ∷ SCALAR (codes "a") ∷ DocumentEnd ∷ BlockEnd ∷ StreamEnd ∷
    [])) ≡ record {
      there = broken_run (fails_without_document_start 6) (at 2 3 (text (codes "a")) ∷ at 4 5 explicit_end ∷ []);
      here = broken_run (fails_without_block_content 6) (at 2 3 (text (codes "a")) ∷ at 4 5 explicit_end ∷ at 6 6 bare_document ∷ []);
      loads = loaded [] true false 2 5 (vector_node 2 3 (str plain (codes "a")) ∷ []) ∷ Err (fails_without_document_start 6) ∷ [];
    }

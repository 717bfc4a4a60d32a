-- Test vectors of texts with zero bytes: the run there, the run here, and the loads there, in the notation of Notation.
use Rattle.std.specs.Prelude.{◌≡◌, ◌∷◌, ◌++◌, [], None, Some, true, false, codes, Err}
use Rattle.libyaml_types.specs.declared.event.unnamed_yaml_event_t_data.TheVariants as ev
use Rattle.libyaml_types.specs.declared.token.unnamed_yaml_token_t_data.TheVariants.{DocumentStart, FlowEntry, FlowSequenceEnd, FlowSequenceStart, StreamEnd}
use Rattle.libyaml_grammar.specs.vectors.VectorNotation.{ALIAS, ANCHOR, HANDLE, SCALAR, STREAM, TAG, alias, at, declaring, flow_sequence, headed_document, list, no_document_end, nothing, scalar, stream}
use Rattle.libyaml_graphs.specs.vectors.LoadVectors.{implicit, loaded, no_anchored_node, no_root, second_anchored_node}
use Rattle.rust_original.specs.vectors.Notation.{broken_run, ends, fails, flow_seq, vector_node, parse, plain, run_to, second_handle, str, vector_tagged, fails_at_undefined_handle, zero_between}

abbrev pub VectorAliasWithAZeroByte : Type 0
VectorAliasWithAZeroByte = parse (list (STREAM ∷ ALIAS (zero_between (codes "a") (codes "b")) ∷ StreamEnd ∷
    [])) ≡ record {
      there = run_to 4 (at 2 3 (alias (codes "a")) ∷ []);
      here = run_to 4 (at 2 3 (alias (zero_between (codes "a") (codes "b"))) ∷ []);
      loads = no_anchored_node 2 ∷ [];
    }

abbrev pub VectorAnchorWithAZeroByte : Type 0
VectorAnchorWithAZeroByte = parse (list (STREAM ∷ FlowSequenceStart ∷ ANCHOR (zero_between (codes "a") (codes "b")) ∷
    SCALAR (codes "x") ∷ FlowEntry ∷ ALIAS (codes "a") ∷ FlowSequenceEnd ∷ StreamEnd ∷ [])) ≡ record {
      there = run_to 14 (at 2 3 flow_sequence ∷ at 4 7 (scalar (Some (codes "a")) None (codes "x") true false plain) ∷
          at 10 11 (alias (codes "a")) ∷ at 12 13 ev.SequenceEnd ∷ []);
      here = run_to 14 (at 2 3 flow_sequence ∷
          at 4 7 (scalar (Some (zero_between (codes "a") (codes "b"))) None (codes "x") true false plain) ∷
          at 10 11 (alias (codes "a")) ∷ at 12 13 ev.SequenceEnd ∷ []);
      loads = implicit 14 (vector_node 2 13 (flow_seq (2 ∷ 2 ∷ [])) ∷ vector_node 4 7 (str plain (codes "x")) ∷ []) ∷ no_root ∷
          [];
    }

abbrev pub VectorTwoAnchorsWithZeroBytes : Type 0
VectorTwoAnchorsWithZeroBytes = parse (list (STREAM ∷ FlowSequenceStart ∷ ANCHOR (zero_between (codes "a") (codes "b")) ∷
    FlowEntry ∷ ANCHOR (zero_between (codes "a") (codes "c")) ∷ FlowSequenceEnd ∷ StreamEnd ∷ [])) ≡ record {
      there = run_to 12 (at 2 3 flow_sequence ∷ at 4 5 (scalar (Some (codes "a")) None [] true false plain) ∷
          at 8 9 (scalar (Some (codes "a")) None [] true false plain) ∷ at 10 11 ev.SequenceEnd ∷ []);
      here = run_to 12 (at 2 3 flow_sequence ∷
          at 4 5 (scalar (Some (zero_between (codes "a") (codes "b"))) None [] true false plain) ∷
          at 8 9 (scalar (Some (zero_between (codes "a") (codes "c"))) None [] true false plain) ∷
          at 10 11 ev.SequenceEnd ∷ []);
      loads = second_anchored_node 4 8 ∷ [];
    }

abbrev pub VectorTwoHandlesWithZeroBytes : Type 0
VectorTwoHandlesWithZeroBytes = parse (list (STREAM ∷ HANDLE (zero_between (codes "!a") []) (codes "p") ∷
    HANDLE (zero_between (codes "!a") (codes "b")) (codes "q") ∷ DocumentStart ∷ StreamEnd ∷ [])) ≡ record {
      there = fails (second_handle 4) (at 0 0 stream ∷ []);
      here = ends (at 0 0 stream ∷ at 2 7 (headed_document None (declaring (zero_between (codes "!a") []) (codes "p") ∷
          declaring (zero_between (codes "!a") (codes "b")) (codes "q") ∷ [])) ∷ at 8 8 nothing ∷ at 8 8 no_document_end ∷
          at 8 9 ev.StreamEnd ∷ []);
      loads = Err (second_handle 4) ∷ [];
    }

abbrev pub VectorHandleOfAZeroByte : Type 0
VectorHandleOfAZeroByte = parse (list (STREAM ∷ TAG (zero_between [] []) (codes "x") ∷ SCALAR (codes "a") ∷ StreamEnd ∷
    [])) ≡ record {
      there = run_to 6 (at 2 5 (scalar None (Some (codes "x")) (codes "a") false false plain) ∷ []);
      here = broken_run (fails_at_undefined_handle 2) [];
      loads = implicit 6 (vector_node 2 5 (vector_tagged (codes "x") plain (codes "a")) ∷ []) ∷ no_root ∷ [];
    }

abbrev pub VectorTagWithAZeroByte : Type 0
VectorTagWithAZeroByte = parse (list (STREAM ∷ TAG [] (zero_between (codes "!") []) ∷ SCALAR (codes "a") ∷ StreamEnd ∷
    [])) ≡ record {
      there = run_to 6 (at 2 5 (scalar None (Some (codes "!")) (codes "a") true false plain) ∷ []);
      here = run_to 6 (at 2 5 (scalar None (Some (zero_between (codes "!") [])) (codes "a") false false plain) ∷ []);
      loads = implicit 6 (vector_node 2 5 (str plain (codes "a")) ∷ []) ∷ no_root ∷ [];
    }

abbrev pub VectorPrefixAndSuffixWithZeroBytes : Type 0
VectorPrefixAndSuffixWithZeroBytes = parse (list (STREAM ∷ HANDLE (codes "!a!") (zero_between (codes "p") (codes "q")) ∷
    DocumentStart ∷ TAG (codes "!a!") (zero_between (codes "x") (codes "y")) ∷ SCALAR (codes "a") ∷ StreamEnd ∷
    [])) ≡ record {
      there = ends (at 0 0 stream ∷ at 2 5 (headed_document None (declaring (codes "!a!") (codes "p") ∷ [])) ∷
          at 6 9 (scalar None (Some (codes "px")) (codes "a") false false plain) ∷ at 10 10 no_document_end ∷
          at 10 11 ev.StreamEnd ∷ []);
      here = ends (at 0 0 stream ∷
          at 2 5 (headed_document None (declaring (codes "!a!") (zero_between (codes "p") (codes "q")) ∷ [])) ∷
          at 6 9 (scalar None (Some (codes "p" ++ 0 ∷ codes "qx" ++ 0 ∷ codes "y")) (codes "a") false false plain) ∷
          at 10 10 no_document_end ∷ at 10 11 ev.StreamEnd ∷ []);
      loads = loaded (declaring (codes "!a!") (codes "p") ∷
          []) false true 2 10 (vector_node 6 9 (vector_tagged (codes "px") plain (codes "a")) ∷ []) ∷ no_root ∷ [];
    }

-- Test vectors of valid lists: lists of tokens with their runs, in the notation of VectorNotation. That the definitions give
-- these is computed by the prover.
use Rattle.std.specs.Prelude.{◌∷◌, [], None, Some, true, false, codes}
use Rattle.libyaml_types.specs.declared.enums.yaml_scalar_style_t.TheVariants.{YAML_PLAIN_SCALAR_STYLE, YAML_SINGLE_QUOTED_SCALAR_STYLE, YAML_DOUBLE_QUOTED_SCALAR_STYLE, YAML_LITERAL_SCALAR_STYLE, YAML_FOLDED_SCALAR_STYLE}
use Rattle.libyaml_types.specs.declared.event.unnamed_yaml_event_t_data.TheVariants as ev
use Rattle.libyaml_types.specs.declared.token.unnamed_yaml_token_t_data.TheVariants.{StreamEnd, DocumentStart, DocumentEnd, BlockSequenceStart, BlockMappingStart, BlockEnd, FlowSequenceStart, FlowSequenceEnd, FlowMappingStart, FlowMappingEnd, BlockEntry, FlowEntry, Key, Value}
use Rattle.libyaml_grammar.specs.vectors.VectorNotation.{ALIAS, ANCHOR, HANDLE, SCALAR, STREAM, STREAM_LE, STYLED, TAG, VERSION, alias, asks_version, at, declaring, bare_document, explicit_end, flow_mapping, flow_mapping_of, flow_sequence, flow_sequence_of, headed_document, list, mapping}
use Rattle.libyaml_grammar.specs.vectors.VectorNotation.{mapping_of, no_document_end, no_more, nothing, scalar, sequence, sequence_of, stream, stream_le, text}
use Rattle.libyaml_grammar.specs.runs.Runs.{Ends, IsRun}

-- A stream and its documents, and what ends them.
abbrev pub VectorEmptyStream : Type 0
VectorEmptyStream = IsRun (list (
    STREAM_LE ∷ StreamEnd ∷ [])) no_more (
    at 0 0 stream_le ∷ at 2 3 ev.StreamEnd ∷ []) Ends

abbrev pub VectorImplicitDocument : Type 0
VectorImplicitDocument = IsRun (list (
    STREAM ∷ SCALAR (codes "a") ∷ StreamEnd ∷ [])) no_more (
    at 0 0 stream ∷ at 2 2 bare_document ∷ at 2 3 (text (codes "a")) ∷ at 4 4 no_document_end ∷ at 4 5 ev.StreamEnd ∷ []) Ends

abbrev pub VectorExplicitDocuments : Type 0
VectorExplicitDocuments = IsRun (list (
    STREAM ∷ DocumentStart ∷ SCALAR (codes "a") ∷ DocumentStart ∷ SCALAR (codes "b") ∷ StreamEnd ∷ [])) no_more (
    at 0 0 stream ∷ at 2 3 (headed_document None []) ∷ at 4 5 (text (codes "a")) ∷ at 6 6 no_document_end ∷
    at 6 7 (headed_document None []) ∷ at 8 9 (text (codes "b")) ∷ at 10 10 no_document_end ∷ at 10 11
    ev.StreamEnd ∷ []) Ends

abbrev pub VectorEmptyDocuments : Type 0
VectorEmptyDocuments = IsRun (list (
    STREAM ∷ DocumentStart ∷ VERSION 1 1 ∷ DocumentStart ∷ HANDLE (codes "!e!") (codes "p:") ∷ DocumentStart ∷
    DocumentStart ∷ DocumentEnd ∷ DocumentStart ∷ StreamEnd ∷ [])) no_more (
    at 0 0 stream ∷ at 2 3 (headed_document None []) ∷ at 4 4 nothing ∷ at 4 4 no_document_end ∷
    at 4 7 (headed_document (asks_version 1 1) []) ∷ at 8 8 nothing ∷ at 8 8 no_document_end ∷
    at 8 11 (headed_document None (declaring (codes "!e!") (codes "p:") ∷ [])) ∷ at 12 12 nothing ∷
    at 12 12 no_document_end ∷ at 12 13 (headed_document None []) ∷ at 14 14 nothing ∷ at 14 15 explicit_end ∷
    at 16 17 (headed_document None []) ∷ at 18 18 nothing ∷ at 18 18 no_document_end ∷ at 18 19 ev.StreamEnd ∷ []) Ends

abbrev pub VectorDocumentEnds : Type 0
VectorDocumentEnds = IsRun (list (
    STREAM ∷ DocumentStart ∷ DocumentEnd ∷ DocumentEnd ∷ StreamEnd ∷ [])) no_more (
    at 0 0 stream ∷ at 2 3 (headed_document None []) ∷ at 4 4 nothing ∷ at 4 5 explicit_end ∷ at 8 9 ev.StreamEnd ∷ []) Ends

abbrev pub VectorImplicitAfterDocumentEnd : Type 0
VectorImplicitAfterDocumentEnd = IsRun (list (
    STREAM ∷ DocumentStart ∷ DocumentEnd ∷ DocumentEnd ∷ SCALAR (codes "b") ∷ StreamEnd ∷ [])) no_more (
    at 0 0 stream ∷ at 2 3 (headed_document None []) ∷ at 4 4 nothing ∷ at 4 5 explicit_end ∷ at 8 8 bare_document ∷
    at 8 9 (text (codes "b")) ∷ at 10 10 no_document_end ∷ at 10 11 ev.StreamEnd ∷ []) Ends

abbrev pub VectorImplicitAfterImplicit : Type 0
VectorImplicitAfterImplicit = IsRun (list (
    STREAM ∷ SCALAR (codes "a") ∷ DocumentEnd ∷ SCALAR (codes "b") ∷ DocumentEnd ∷ StreamEnd ∷ [])) no_more (
    at 0 0 stream ∷ at 2 2 bare_document ∷ at 2 3 (text (codes "a")) ∷ at 4 5 explicit_end ∷ at 6 6 bare_document ∷
    at 6 7 (text (codes "b")) ∷ at 8 9 explicit_end ∷ at 10 11 ev.StreamEnd ∷ []) Ends

abbrev pub VectorExplicitAfterDocumentEnd : Type 0
VectorExplicitAfterDocumentEnd = IsRun (list (
    STREAM ∷ SCALAR (codes "a") ∷ DocumentEnd ∷ HANDLE (codes "!e!") (codes "p:") ∷ DocumentStart ∷
    ANCHOR (codes "a") ∷ TAG (codes "!e!") (codes "x") ∷ StreamEnd ∷ [])) no_more (
    at 0 0 stream ∷ at 2 2 bare_document ∷ at 2 3 (text (codes "a")) ∷ at 4 5 explicit_end ∷
    at 6 9 (headed_document None (declaring (codes "!e!") (codes "p:") ∷ [])) ∷
    at 10 13 (scalar (Some (codes "a")) (Some (codes "p:x")) [] false false YAML_PLAIN_SCALAR_STYLE) ∷
    at 14 14 no_document_end ∷ at 14 15 ev.StreamEnd ∷ []) Ends

abbrev pub VectorDirectives : Type 0
VectorDirectives = IsRun (list (
    STREAM ∷ VERSION 1 2 ∷ HANDLE (codes "!e!") (codes "p:") ∷ DocumentStart ∷ TAG (codes "!e!") (codes "x") ∷
    SCALAR (codes "a") ∷ StreamEnd ∷ [])) no_more (
    at 0 0 stream ∷ at 2 7 (headed_document (asks_version 1 2) (declaring (codes "!e!") (codes "p:") ∷ [])) ∷
    at 8 11 (scalar None (Some (codes "p:x")) (codes "a") false false YAML_PLAIN_SCALAR_STYLE) ∷
    at 12 12 no_document_end ∷ at 12 13 ev.StreamEnd ∷ []) Ends

abbrev pub VectorAfterStreamEnd : Type 0
VectorAfterStreamEnd = IsRun (list (
    STREAM ∷ SCALAR (codes "a") ∷ StreamEnd ∷ BlockEnd ∷ STREAM ∷ StreamEnd ∷ [])) no_more (
    at 0 0 stream ∷ at 2 2 bare_document ∷ at 2 3 (text (codes "a")) ∷ at 4 4 no_document_end ∷ at 4 5 ev.StreamEnd ∷ []) Ends

-- Block sequences and mappings, and sequences without tokens of their own.
abbrev pub VectorBlockSequence : Type 0
VectorBlockSequence = IsRun (list (
    STREAM ∷ BlockSequenceStart ∷ BlockEntry ∷ SCALAR (codes "a") ∷ BlockEntry ∷ BlockSequenceStart ∷ BlockEntry ∷
    BlockEnd ∷ BlockEnd ∷ StreamEnd ∷ [])) no_more (
    at 0 0 stream ∷ at 2 2 bare_document ∷ at 2 3 sequence ∷ at 6 7 (text (codes "a")) ∷ at 10 11 sequence ∷
    at 13 13 nothing ∷ at 14 15 ev.SequenceEnd ∷ at 16 17 ev.SequenceEnd ∷ at 18 18 no_document_end ∷
    at 18 19 ev.StreamEnd ∷ []) Ends

abbrev pub VectorEmptySequenceEntries : Type 0
VectorEmptySequenceEntries = IsRun (list (
    STREAM ∷ BlockSequenceStart ∷ BlockEntry ∷ BlockEntry ∷ BlockEnd ∷ StreamEnd ∷ [])) no_more (
    at 0 0 stream ∷ at 2 2 bare_document ∷ at 2 3 sequence ∷ at 5 5 nothing ∷ at 7 7 nothing ∷ at 8 9 ev.SequenceEnd ∷
    at 10 10 no_document_end ∷ at 10 11 ev.StreamEnd ∷ []) Ends

abbrev pub VectorEmptyCollections : Type 0
VectorEmptyCollections = IsRun (list (
    STREAM ∷ BlockSequenceStart ∷ BlockEntry ∷ BlockSequenceStart ∷ BlockEnd ∷ BlockEntry ∷ BlockMappingStart ∷
    BlockEnd ∷ BlockEnd ∷ StreamEnd ∷ [])) no_more (
    at 0 0 stream ∷ at 2 2 bare_document ∷ at 2 3 sequence ∷ at 6 7 sequence ∷ at 8 9 ev.SequenceEnd ∷ at 12 13 mapping ∷
    at 14 15 ev.MappingEnd ∷ at 16 17 ev.SequenceEnd ∷ at 18 18 no_document_end ∷ at 18 19 ev.StreamEnd ∷ []) Ends

abbrev pub VectorIndentlessSequence : Type 0
VectorIndentlessSequence = IsRun (list (
    STREAM ∷ BlockMappingStart ∷ Key ∷ SCALAR (codes "a") ∷ Value ∷ BlockEntry ∷ SCALAR (codes "b") ∷ BlockEntry ∷
    BlockEnd ∷ StreamEnd ∷ [])) no_more (
    at 0 0 stream ∷ at 2 2 bare_document ∷ at 2 3 mapping ∷ at 6 7 (text (codes "a")) ∷ at 10 11 sequence ∷
    at 12 13 (text (codes "b")) ∷ at 15 15 nothing ∷ at 16 16 ev.SequenceEnd ∷ at 16 17 ev.MappingEnd ∷
    at 18 18 no_document_end ∷ at 18 19 ev.StreamEnd ∷ []) Ends

abbrev pub VectorEmptyIndentlessEntries : Type 0
VectorEmptyIndentlessEntries = IsRun (list (
    STREAM ∷ BlockMappingStart ∷ Key ∷ BlockEntry ∷ BlockEntry ∷ Value ∷ BlockEntry ∷ Key ∷ BlockEntry ∷ Value ∷
    SCALAR (codes "a") ∷ Value ∷ BlockEntry ∷ BlockEnd ∷ StreamEnd ∷ [])) no_more (
    at 0 0 stream ∷ at 2 2 bare_document ∷ at 2 3 mapping ∷ at 6 7 sequence ∷ at 7 7 nothing ∷ at 9 9 nothing ∷
    at 10 10 ev.SequenceEnd ∷ at 12 13 sequence ∷ at 13 13 nothing ∷ at 14 14 ev.SequenceEnd ∷ at 16 17 sequence ∷
    at 17 17 nothing ∷ at 18 18 ev.SequenceEnd ∷ at 20 21 (text (codes "a")) ∷ at 22 22 nothing ∷ at 24 25 sequence ∷
    at 25 25 nothing ∷ at 26 26 ev.SequenceEnd ∷ at 26 27 ev.MappingEnd ∷ at 28 28 no_document_end ∷
    at 28 29 ev.StreamEnd ∷ []) Ends

abbrev pub VectorAnchoredIndentless : Type 0
VectorAnchoredIndentless = IsRun (list (
    STREAM ∷ BlockMappingStart ∷ Key ∷ SCALAR (codes "k") ∷ Value ∷ ANCHOR (codes "a") ∷ BlockEntry ∷
    SCALAR (codes "x") ∷ BlockEnd ∷ StreamEnd ∷ [])) no_more (
    at 0 0 stream ∷ at 2 2 bare_document ∷ at 2 3 mapping ∷ at 6 7 (text (codes "k")) ∷
    at 10 13 (sequence_of (Some (codes "a")) None true) ∷ at 14 15 (text (codes "x")) ∷ at 16 16 ev.SequenceEnd ∷
    at 16 17 ev.MappingEnd ∷ at 18 18 no_document_end ∷ at 18 19 ev.StreamEnd ∷ []) Ends

abbrev pub VectorEmptyKeys : Type 0
VectorEmptyKeys = IsRun (list (
    STREAM ∷ BlockMappingStart ∷ Key ∷ Key ∷ Value ∷ Key ∷ BlockEnd ∷ StreamEnd ∷ [])) no_more (
    at 0 0 stream ∷ at 2 2 bare_document ∷ at 2 3 mapping ∷ at 5 5 nothing ∷ at 6 6 nothing ∷ at 7 7 nothing ∷
    at 9 9 nothing ∷ at 11 11 nothing ∷ at 12 12 nothing ∷ at 12 13 ev.MappingEnd ∷ at 14 14 no_document_end ∷
    at 14 15 ev.StreamEnd ∷ []) Ends

abbrev pub VectorEmptyValues : Type 0
VectorEmptyValues = IsRun (list (
    STREAM ∷ BlockMappingStart ∷ Key ∷ SCALAR (codes "a") ∷ Value ∷ Key ∷ SCALAR (codes "b") ∷ Value ∷ Value ∷
    SCALAR (codes "c") ∷ Value ∷ BlockEnd ∷ StreamEnd ∷ [])) no_more (
    at 0 0 stream ∷ at 2 2 bare_document ∷ at 2 3 mapping ∷ at 6 7 (text (codes "a")) ∷ at 9 9 nothing ∷
    at 12 13 (text (codes "b")) ∷ at 15 15 nothing ∷ at 16 16 nothing ∷ at 18 19 (text (codes "c")) ∷
    at 20 20 nothing ∷ at 21 21 nothing ∷ at 22 23 ev.MappingEnd ∷ at 24 24 no_document_end ∷ at 24 25
    ev.StreamEnd ∷ []) Ends

abbrev pub VectorKeysWithoutValues : Type 0
VectorKeysWithoutValues = IsRun (list (
    STREAM ∷ BlockMappingStart ∷ Key ∷ SCALAR (codes "a") ∷ Key ∷ SCALAR (codes "b") ∷ BlockEnd ∷ StreamEnd ∷ [])) no_more (
    at 0 0 stream ∷ at 2 2 bare_document ∷ at 2 3 mapping ∷ at 6 7 (text (codes "a")) ∷ at 8 8 nothing ∷
    at 10 11 (text (codes "b")) ∷ at 12 12 nothing ∷ at 12 13 ev.MappingEnd ∷ at 14 14 no_document_end ∷
    at 14 15 ev.StreamEnd ∷ []) Ends

abbrev pub VectorEntryThatBeginsWithValue : Type 0
VectorEntryThatBeginsWithValue = IsRun (list (
    STREAM ∷ BlockMappingStart ∷ Value ∷ SCALAR (codes "x") ∷ BlockEnd ∷ StreamEnd ∷ [])) no_more (
    at 0 0 stream ∷ at 2 2 bare_document ∷ at 2 3 mapping ∷ at 4 4 nothing ∷ at 6 7 (text (codes "x")) ∷
    at 8 9 ev.MappingEnd ∷ at 10 10 no_document_end ∷ at 10 11 ev.StreamEnd ∷ []) Ends

abbrev pub VectorValueAfterValue : Type 0
VectorValueAfterValue = IsRun (list (
    STREAM ∷ BlockMappingStart ∷ Key ∷ SCALAR (codes "k") ∷ Value ∷ Value ∷ SCALAR (codes "x") ∷ Value ∷
    SCALAR (codes "y") ∷ BlockEnd ∷ StreamEnd ∷ [])) no_more (
    at 0 0 stream ∷ at 2 2 bare_document ∷ at 2 3 mapping ∷ at 6 7 (text (codes "k")) ∷ at 9 9 nothing ∷
    at 10 10 nothing ∷ at 12 13 (text (codes "x")) ∷ at 14 14 nothing ∷ at 16 17 (text (codes "y")) ∷
    at 18 19 ev.MappingEnd ∷ at 20 20 no_document_end ∷ at 20 21 ev.StreamEnd ∷ []) Ends

abbrev pub VectorCollectionsInMapping : Type 0
VectorCollectionsInMapping = IsRun (list (
    STREAM ∷ BlockMappingStart ∷ Key ∷ BlockMappingStart ∷ Value ∷ BlockEnd ∷ Value ∷ BlockSequenceStart ∷
    BlockEntry ∷ ALIAS (codes "a") ∷ BlockEnd ∷ Key ∷ FlowSequenceStart ∷ FlowSequenceEnd ∷ Value ∷
    FlowMappingStart ∷ FlowMappingEnd ∷ BlockEnd ∷ StreamEnd ∷ [])) no_more (
    at 0 0 stream ∷ at 2 2 bare_document ∷ at 2 3 mapping ∷ at 6 7 mapping ∷ at 8 8 nothing ∷ at 9 9 nothing ∷
    at 10 11 ev.MappingEnd ∷ at 14 15 sequence ∷ at 18 19 (alias (codes "a")) ∷ at 20 21 ev.SequenceEnd ∷
    at 24 25 flow_sequence ∷ at 26 27 ev.SequenceEnd ∷ at 30 31 flow_mapping ∷ at 32 33 ev.MappingEnd ∷
    at 34 35 ev.MappingEnd ∷ at 36 36 no_document_end ∷ at 36 37 ev.StreamEnd ∷ []) Ends

-- Flow sequences and mappings, and pairs.
abbrev pub VectorFlowSequence : Type 0
VectorFlowSequence = IsRun (list (
    STREAM ∷ FlowSequenceStart ∷ SCALAR (codes "a") ∷ FlowEntry ∷ ALIAS (codes "b") ∷ FlowEntry ∷ FlowSequenceStart ∷
    FlowSequenceEnd ∷ FlowEntry ∷ FlowMappingStart ∷ FlowMappingEnd ∷ FlowEntry ∷ FlowSequenceEnd ∷ StreamEnd ∷ []))
    no_more (
    at 0 0 stream ∷ at 2 2 bare_document ∷ at 2 3 flow_sequence ∷ at 4 5 (text (codes "a")) ∷ at 8 9 (alias (codes "b")) ∷
    at 12 13 flow_sequence ∷ at 14 15 ev.SequenceEnd ∷ at 18 19 flow_mapping ∷ at 20 21 ev.MappingEnd ∷
    at 24 25 ev.SequenceEnd ∷ at 26 26 no_document_end ∷ at 26 27 ev.StreamEnd ∷ []) Ends

abbrev pub VectorFlowMapping : Type 0
VectorFlowMapping = IsRun (list (
    STREAM ∷ FlowMappingStart ∷ Key ∷ SCALAR (codes "a") ∷ Value ∷ SCALAR (codes "b") ∷ FlowEntry ∷
    SCALAR (codes "c") ∷ FlowMappingEnd ∷ StreamEnd ∷ [])) no_more (
    at 0 0 stream ∷ at 2 2 bare_document ∷ at 2 3 flow_mapping ∷ at 6 7 (text (codes "a")) ∷ at 10 11 (text (codes "b")) ∷
    at 14 15 (text (codes "c")) ∷ at 16 16 nothing ∷ at 16 17 ev.MappingEnd ∷ at 18 18 no_document_end ∷
    at 18 19 ev.StreamEnd ∷ []) Ends

abbrev pub VectorNodesAloneInMapping : Type 0
VectorNodesAloneInMapping = IsRun (list (
    STREAM ∷ FlowMappingStart ∷ SCALAR (codes "a") ∷ FlowEntry ∷ FlowSequenceStart ∷ FlowSequenceEnd ∷ FlowEntry ∷
    FlowMappingEnd ∷ StreamEnd ∷ [])) no_more (
    at 0 0 stream ∷ at 2 2 bare_document ∷ at 2 3 flow_mapping ∷ at 4 5 (text (codes "a")) ∷ at 6 6 nothing ∷
    at 8 9 flow_sequence ∷ at 10 11 ev.SequenceEnd ∷ at 12 12 nothing ∷ at 14 15 ev.MappingEnd ∷
    at 16 16 no_document_end ∷ at 16 17 ev.StreamEnd ∷ []) Ends

abbrev pub VectorPair : Type 0
VectorPair = IsRun (list (
    STREAM ∷ FlowSequenceStart ∷ Key ∷ SCALAR (codes "a") ∷ Value ∷ SCALAR (codes "b") ∷ FlowEntry ∷ Key ∷
    FlowSequenceStart ∷ FlowSequenceEnd ∷ Value ∷ FlowMappingStart ∷ FlowMappingEnd ∷ FlowSequenceEnd ∷ StreamEnd ∷
    [])) no_more (
    at 0 0 stream ∷ at 2 2 bare_document ∷ at 2 3 flow_sequence ∷ at 4 5 flow_mapping ∷ at 6 7 (text (codes "a")) ∷
    at 10 11 (text (codes "b")) ∷ at 12 12 ev.MappingEnd ∷ at 14 15 flow_mapping ∷ at 16 17 flow_sequence ∷
    at 18 19 ev.SequenceEnd ∷ at 22 23 flow_mapping ∷ at 24 25 ev.MappingEnd ∷ at 26 26 ev.MappingEnd ∷
    at 26 27 ev.SequenceEnd ∷ at 28 28 no_document_end ∷ at 28 29 ev.StreamEnd ∷ []) Ends

abbrev pub VectorPairWithEmptyKey : Type 0
VectorPairWithEmptyKey = IsRun (list (
    STREAM ∷ FlowSequenceStart ∷ Key ∷ Value ∷ SCALAR (codes "x") ∷ FlowSequenceEnd ∷ StreamEnd ∷ [])) no_more (
    at 0 0 stream ∷ at 2 2 bare_document ∷ at 2 3 flow_sequence ∷ at 4 5 flow_mapping ∷ at 6 6 nothing ∷
    at 8 9 (text (codes "x")) ∷ at 10 10 ev.MappingEnd ∷ at 10 11 ev.SequenceEnd ∷ at 12 12 no_document_end ∷
    at 12 13 ev.StreamEnd ∷ []) Ends

abbrev pub VectorEmptyPairKeys : Type 0
VectorEmptyPairKeys = IsRun (list (
    STREAM ∷ FlowSequenceStart ∷ Key ∷ Value ∷ FlowEntry ∷ Key ∷ FlowEntry ∷ Key ∷ FlowSequenceEnd ∷ StreamEnd ∷
    [])) no_more (
    at 0 0 stream ∷ at 2 2 bare_document ∷ at 2 3 flow_sequence ∷ at 4 5 flow_mapping ∷ at 6 6 nothing ∷ at 8 8 nothing ∷
    at 8 8 ev.MappingEnd ∷ at 10 11 flow_mapping ∷ at 12 12 nothing ∷ at 12 12 nothing ∷ at 12 12 ev.MappingEnd ∷
    at 14 15 flow_mapping ∷ at 16 16 nothing ∷ at 16 16 nothing ∷ at 16 16 ev.MappingEnd ∷ at 16 17 ev.SequenceEnd ∷
    at 18 18 no_document_end ∷ at 18 19 ev.StreamEnd ∷ []) Ends

abbrev pub VectorEmptyPairValues : Type 0
VectorEmptyPairValues = IsRun (list (
    STREAM ∷ FlowSequenceStart ∷ Key ∷ SCALAR (codes "a") ∷ Value ∷ FlowEntry ∷ Key ∷ SCALAR (codes "a") ∷ Value ∷
    FlowSequenceEnd ∷ StreamEnd ∷ [])) no_more (
    at 0 0 stream ∷ at 2 2 bare_document ∷ at 2 3 flow_sequence ∷ at 4 5 flow_mapping ∷ at 6 7 (text (codes "a")) ∷
    at 10 10 nothing ∷ at 10 10 ev.MappingEnd ∷ at 12 13 flow_mapping ∷ at 14 15 (text (codes "a")) ∷
    at 18 18 nothing ∷ at 18 18 ev.MappingEnd ∷ at 18 19 ev.SequenceEnd ∷ at 20 20 no_document_end ∷
    at 20 21 ev.StreamEnd ∷ []) Ends

abbrev pub VectorPairWithoutValue : Type 0
VectorPairWithoutValue = IsRun (list (
    STREAM ∷ FlowSequenceStart ∷ Key ∷ SCALAR (codes "a") ∷ FlowEntry ∷ Key ∷ SCALAR (codes "b") ∷ FlowSequenceEnd ∷
    StreamEnd ∷ [])) no_more (
    at 0 0 stream ∷ at 2 2 bare_document ∷ at 2 3 flow_sequence ∷ at 4 5 flow_mapping ∷ at 6 7 (text (codes "a")) ∷
    at 8 8 nothing ∷ at 8 8 ev.MappingEnd ∷ at 10 11 flow_mapping ∷ at 12 13 (text (codes "b")) ∷ at 14 14 nothing ∷
    at 14 14 ev.MappingEnd ∷ at 14 15 ev.SequenceEnd ∷ at 16 16 no_document_end ∷ at 16 17 ev.StreamEnd ∷ []) Ends

abbrev pub VectorNestedPairs : Type 0
VectorNestedPairs = IsRun (list (
    STREAM ∷ FlowSequenceStart ∷ Key ∷ FlowSequenceStart ∷ Key ∷ Value ∷ FlowSequenceEnd ∷ FlowSequenceEnd ∷
    StreamEnd ∷ [])) no_more (
    at 0 0 stream ∷ at 2 2 bare_document ∷ at 2 3 flow_sequence ∷ at 4 5 flow_mapping ∷ at 6 7 flow_sequence ∷
    at 8 9 flow_mapping ∷ at 10 10 nothing ∷ at 12 12 nothing ∷ at 12 12 ev.MappingEnd ∷ at 12 13 ev.SequenceEnd ∷
    at 14 14 nothing ∷ at 14 14 ev.MappingEnd ∷ at 14 15 ev.SequenceEnd ∷ at 16 16 no_document_end ∷
    at 16 17 ev.StreamEnd ∷ []) Ends

abbrev pub VectorEmptyFlowKeys : Type 0
VectorEmptyFlowKeys = IsRun (list (
    STREAM ∷ FlowMappingStart ∷ Key ∷ Value ∷ FlowEntry ∷ Key ∷ FlowEntry ∷ Key ∷ FlowMappingEnd ∷ StreamEnd ∷ []))
    no_more (
    at 0 0 stream ∷ at 2 2 bare_document ∷ at 2 3 flow_mapping ∷ at 6 6 nothing ∷ at 8 8 nothing ∷ at 12 12 nothing ∷
    at 12 12 nothing ∷ at 16 16 nothing ∷ at 16 16 nothing ∷ at 16 17 ev.MappingEnd ∷ at 18 18 no_document_end ∷
    at 18 19 ev.StreamEnd ∷ []) Ends

abbrev pub VectorEmptyFlowValues : Type 0
VectorEmptyFlowValues = IsRun (list (
    STREAM ∷ FlowMappingStart ∷ Key ∷ SCALAR (codes "a") ∷ Value ∷ FlowEntry ∷ Key ∷ SCALAR (codes "a") ∷ Value ∷
    FlowMappingEnd ∷ StreamEnd ∷ [])) no_more (
    at 0 0 stream ∷ at 2 2 bare_document ∷ at 2 3 flow_mapping ∷ at 6 7 (text (codes "a")) ∷ at 10 10 nothing ∷
    at 14 15 (text (codes "a")) ∷ at 18 18 nothing ∷ at 18 19 ev.MappingEnd ∷ at 20 20 no_document_end ∷
    at 20 21 ev.StreamEnd ∷ []) Ends

abbrev pub VectorFlowKeyWithoutValue : Type 0
VectorFlowKeyWithoutValue = IsRun (list (
    STREAM ∷ FlowMappingStart ∷ Key ∷ SCALAR (codes "a") ∷ FlowEntry ∷ Key ∷ SCALAR (codes "b") ∷ FlowMappingEnd ∷
    StreamEnd ∷ [])) no_more (
    at 0 0 stream ∷ at 2 2 bare_document ∷ at 2 3 flow_mapping ∷ at 6 7 (text (codes "a")) ∷ at 8 8 nothing ∷
    at 12 13 (text (codes "b")) ∷ at 14 14 nothing ∷ at 14 15 ev.MappingEnd ∷ at 16 16 no_document_end ∷
    at 16 17 ev.StreamEnd ∷ []) Ends

-- Anchors and tags, and the flags that depend on them.
abbrev pub VectorScalarStyles : Type 0
VectorScalarStyles = IsRun (list (
    STREAM ∷ FlowSequenceStart ∷ SCALAR (codes "a") ∷ FlowEntry ∷
    STYLED YAML_SINGLE_QUOTED_SCALAR_STYLE (codes "b") ∷ FlowEntry ∷
    STYLED YAML_DOUBLE_QUOTED_SCALAR_STYLE (codes "c") ∷ FlowEntry ∷ STYLED YAML_LITERAL_SCALAR_STYLE (codes "d") ∷
    FlowEntry ∷ STYLED YAML_FOLDED_SCALAR_STYLE (codes "e") ∷ FlowSequenceEnd ∷ StreamEnd ∷ [])) no_more (
    at 0 0 stream ∷ at 2 2 bare_document ∷ at 2 3 flow_sequence ∷ at 4 5 (text (codes "a")) ∷
    at 8 9 (scalar None None (codes "b") false true YAML_SINGLE_QUOTED_SCALAR_STYLE) ∷
    at 12 13 (scalar None None (codes "c") false true YAML_DOUBLE_QUOTED_SCALAR_STYLE) ∷
    at 16 17 (scalar None None (codes "d") false true YAML_LITERAL_SCALAR_STYLE) ∷
    at 20 21 (scalar None None (codes "e") false true YAML_FOLDED_SCALAR_STYLE) ∷ at 22 23 ev.SequenceEnd ∷
    at 24 24 no_document_end ∷ at 24 25 ev.StreamEnd ∷ []) Ends

abbrev pub VectorTagThatIsAnExclamationMark : Type 0
VectorTagThatIsAnExclamationMark = IsRun (list (
    STREAM ∷ FlowSequenceStart ∷ TAG [] (codes "!") ∷ SCALAR (codes "a") ∷ FlowEntry ∷ TAG [] (codes "!") ∷
    STYLED YAML_DOUBLE_QUOTED_SCALAR_STYLE (codes "b") ∷ FlowSequenceEnd ∷ StreamEnd ∷ [])) no_more (
    at 0 0 stream ∷ at 2 2 bare_document ∷ at 2 3 flow_sequence ∷
    at 4 7 (scalar None (Some (codes "!")) (codes "a") true false YAML_PLAIN_SCALAR_STYLE) ∷
    at 10 13 (scalar None (Some (codes "!")) (codes "b") true false YAML_DOUBLE_QUOTED_SCALAR_STYLE) ∷
    at 14 15 ev.SequenceEnd ∷ at 16 16 no_document_end ∷ at 16 17 ev.StreamEnd ∷ []) Ends

abbrev pub VectorEmptyTag : Type 0
VectorEmptyTag = IsRun (list (
    STREAM ∷ FlowSequenceStart ∷ TAG [] [] ∷ SCALAR (codes "a") ∷ FlowEntry ∷ TAG [] [] ∷
    STYLED YAML_DOUBLE_QUOTED_SCALAR_STYLE (codes "b") ∷ FlowSequenceEnd ∷ StreamEnd ∷ [])) no_more (
    at 0 0 stream ∷ at 2 2 bare_document ∷ at 2 3 flow_sequence ∷
    at 4 7 (scalar None (Some []) (codes "a") false false YAML_PLAIN_SCALAR_STYLE) ∷
    at 10 13 (scalar None (Some []) (codes "b") false false YAML_DOUBLE_QUOTED_SCALAR_STYLE) ∷
    at 14 15 ev.SequenceEnd ∷ at 16 16 no_document_end ∷ at 16 17 ev.StreamEnd ∷ []) Ends

abbrev pub VectorOtherTag : Type 0
VectorOtherTag = IsRun (list (
    STREAM ∷ FlowSequenceStart ∷ TAG [] (codes "t") ∷ SCALAR (codes "a") ∷ FlowEntry ∷ TAG [] (codes "t") ∷
    STYLED YAML_DOUBLE_QUOTED_SCALAR_STYLE (codes "b") ∷ FlowSequenceEnd ∷ StreamEnd ∷ [])) no_more (
    at 0 0 stream ∷ at 2 2 bare_document ∷ at 2 3 flow_sequence ∷
    at 4 7 (scalar None (Some (codes "t")) (codes "a") false false YAML_PLAIN_SCALAR_STYLE) ∷
    at 10 13 (scalar None (Some (codes "t")) (codes "b") false false YAML_DOUBLE_QUOTED_SCALAR_STYLE) ∷
    at 14 15 ev.SequenceEnd ∷ at 16 16 no_document_end ∷ at 16 17 ev.StreamEnd ∷ []) Ends

abbrev pub VectorPropertiesAlone : Type 0
VectorPropertiesAlone = IsRun (list (
    STREAM ∷ FlowSequenceStart ∷ ANCHOR (codes "a") ∷ FlowEntry ∷ TAG [] (codes "!") ∷ FlowEntry ∷ TAG [] [] ∷
    FlowEntry ∷ TAG (codes "!!") (codes "int") ∷ FlowEntry ∷ ANCHOR (codes "a") ∷ TAG (codes "!") (codes "x") ∷
    FlowEntry ∷ TAG [] (codes "t") ∷ ANCHOR (codes "b") ∷ FlowSequenceEnd ∷ StreamEnd ∷ [])) no_more (
    at 0 0 stream ∷ at 2 2 bare_document ∷ at 2 3 flow_sequence ∷
    at 4 5 (scalar (Some (codes "a")) None [] true false YAML_PLAIN_SCALAR_STYLE) ∷
    at 8 9 (scalar None (Some (codes "!")) [] false false YAML_PLAIN_SCALAR_STYLE) ∷
    at 12 13 (scalar None (Some []) [] true false YAML_PLAIN_SCALAR_STYLE) ∷
    at 16 17 (scalar None (Some (codes "tag:yaml.org,2002:int")) [] false false YAML_PLAIN_SCALAR_STYLE) ∷
    at 20 23 (scalar (Some (codes "a")) (Some (codes "!x")) [] false false YAML_PLAIN_SCALAR_STYLE) ∷
    at 26 29 (scalar (Some (codes "b")) (Some (codes "t")) [] false false YAML_PLAIN_SCALAR_STYLE) ∷
    at 30 31 ev.SequenceEnd ∷ at 32 32 no_document_end ∷ at 32 33 ev.StreamEnd ∷ []) Ends

abbrev pub VectorPropertiesBeforeContent : Type 0
VectorPropertiesBeforeContent = IsRun (list (
    STREAM ∷ BlockSequenceStart ∷ BlockEntry ∷ ANCHOR (codes "a") ∷ TAG [] (codes "t") ∷ SCALAR (codes "a") ∷
    BlockEntry ∷ TAG [] (codes "t") ∷ ANCHOR (codes "b") ∷ STYLED YAML_LITERAL_SCALAR_STYLE (codes "b") ∷
    BlockEntry ∷ ANCHOR (codes "c") ∷ BlockSequenceStart ∷ BlockEnd ∷ BlockEntry ∷ TAG [] (codes "t") ∷
    BlockMappingStart ∷ BlockEnd ∷ BlockEntry ∷ ANCHOR (codes "d") ∷ TAG [] (codes "u") ∷ FlowSequenceStart ∷
    FlowSequenceEnd ∷ BlockEntry ∷ TAG []
    (codes "v") ∷ FlowMappingStart ∷ FlowMappingEnd ∷ BlockEnd ∷ StreamEnd ∷ [])) no_more (
    at 0 0 stream ∷ at 2 2 bare_document ∷ at 2 3 sequence ∷
    at 6 11 (scalar (Some (codes "a")) (Some (codes "t")) (codes "a") false false YAML_PLAIN_SCALAR_STYLE) ∷
    at 14 19 (scalar (Some (codes "b")) (Some (codes "t")) (codes "b") false false YAML_LITERAL_SCALAR_STYLE) ∷
    at 22 25 (sequence_of (Some (codes "c")) None true) ∷ at 26 27 ev.SequenceEnd ∷
    at 30 33 (mapping_of None (Some (codes "t")) false) ∷ at 34 35 ev.MappingEnd ∷
    at 38 43 (flow_sequence_of (Some (codes "d")) (Some (codes "u")) false) ∷ at 44 45 ev.SequenceEnd ∷
    at 48 51 (flow_mapping_of None (Some (codes "v")) false) ∷ at 52 53 ev.MappingEnd ∷ at 54 55 ev.SequenceEnd ∷
    at 56 56 no_document_end ∷ at 56 57 ev.StreamEnd ∷ []) Ends

abbrev pub VectorRootsWithoutDocumentStart : Type 0
VectorRootsWithoutDocumentStart = IsRun (list (
    STREAM ∷ ANCHOR (codes "a") ∷ FlowSequenceStart ∷ FlowSequenceEnd ∷ DocumentEnd ∷ TAG [] (codes "t") ∷
    BlockMappingStart ∷ BlockEnd ∷ DocumentEnd ∷ ANCHOR (codes "b") ∷ BlockSequenceStart ∷ BlockEnd ∷ DocumentEnd ∷
    ANCHOR (codes "c") ∷ SCALAR (codes "x") ∷ DocumentEnd ∷ ALIAS (codes "d") ∷ DocumentEnd ∷ TAG [] (codes "u") ∷
    StreamEnd ∷ [])) no_more (
    at 0 0 stream ∷ at 2 2 bare_document ∷ at 2 5 (flow_sequence_of (Some (codes "a")) None true) ∷
    at 6 7 ev.SequenceEnd ∷ at 8 9 explicit_end ∷ at 10 10 bare_document ∷
    at 10 13 (mapping_of None (Some (codes "t")) false) ∷ at 14 15 ev.MappingEnd ∷ at 16 17 explicit_end ∷
    at 18 18 bare_document ∷ at 18 21 (sequence_of (Some (codes "b")) None true) ∷ at 22 23 ev.SequenceEnd ∷
    at 24 25 explicit_end ∷ at 26 26 bare_document ∷
    at 26 29 (scalar (Some (codes "c")) None (codes "x") true false YAML_PLAIN_SCALAR_STYLE) ∷
    at 30 31 explicit_end ∷ at 32 32 bare_document ∷ at 32 33 (alias (codes "d")) ∷ at 34 35 explicit_end ∷
    at 36 36 bare_document ∷ at 36 37 (scalar None (Some (codes "u")) [] false false YAML_PLAIN_SCALAR_STYLE) ∷
    at 38 38 no_document_end ∷ at 38 39 ev.StreamEnd ∷ []) Ends

abbrev pub VectorCollectionFlags : Type 0
VectorCollectionFlags = IsRun (list (
    STREAM ∷ FlowSequenceStart ∷ FlowSequenceStart ∷ FlowSequenceEnd ∷ FlowEntry ∷ TAG [] [] ∷ FlowSequenceStart ∷
    FlowSequenceEnd ∷ FlowEntry ∷ TAG [] (codes "!") ∷ FlowSequenceStart ∷ FlowSequenceEnd ∷ FlowEntry ∷
    FlowMappingStart ∷ FlowMappingEnd ∷ FlowEntry ∷ TAG [] [] ∷ FlowMappingStart ∷ FlowMappingEnd ∷ FlowEntry ∷
    TAG (codes "!!") (codes "map") ∷ FlowMappingStart ∷ FlowMappingEnd ∷ FlowSequenceEnd ∷ StreamEnd ∷ [])) no_more (
    at 0 0 stream ∷ at 2 2 bare_document ∷ at 2 3 flow_sequence ∷ at 4 5 flow_sequence ∷ at 6 7 ev.SequenceEnd ∷
    at 10 13 (flow_sequence_of None (Some []) true) ∷ at 14 15 ev.SequenceEnd ∷
    at 18 21 (flow_sequence_of None (Some (codes "!")) false) ∷ at 22 23 ev.SequenceEnd ∷ at 26 27 flow_mapping ∷
    at 28 29 ev.MappingEnd ∷ at 32 35 (flow_mapping_of None (Some []) true) ∷ at 36 37 ev.MappingEnd ∷
    at 40 43 (flow_mapping_of None (Some (codes "tag:yaml.org,2002:map")) false) ∷ at 44 45 ev.MappingEnd ∷
    at 46 47 ev.SequenceEnd ∷ at 48 48 no_document_end ∷ at 48 49 ev.StreamEnd ∷ []) Ends

abbrev pub VectorDefaultHandles : Type 0
VectorDefaultHandles = IsRun (list (
    STREAM ∷ FlowSequenceStart ∷ TAG (codes "!") (codes "x") ∷ FlowEntry ∷ TAG (codes "!!") (codes "y") ∷ FlowEntry ∷
    TAG [] (codes "z") ∷ FlowSequenceEnd ∷ StreamEnd ∷ [])) no_more (
    at 0 0 stream ∷ at 2 2 bare_document ∷ at 2 3 flow_sequence ∷
    at 4 5 (scalar None (Some (codes "!x")) [] false false YAML_PLAIN_SCALAR_STYLE) ∷
    at 8 9 (scalar None (Some (codes "tag:yaml.org,2002:y")) [] false false YAML_PLAIN_SCALAR_STYLE) ∷
    at 12 13 (scalar None (Some (codes "z")) [] false false YAML_PLAIN_SCALAR_STYLE) ∷ at 14 15 ev.SequenceEnd ∷
    at 16 16 no_document_end ∷ at 16 17 ev.StreamEnd ∷ []) Ends

abbrev pub VectorRedeclaredHandles : Type 0
VectorRedeclaredHandles = IsRun (list (
    STREAM ∷ HANDLE (codes "!") (codes "q:") ∷ HANDLE (codes "!!") (codes "p:") ∷ DocumentStart ∷
    BlockSequenceStart ∷ BlockEntry ∷ TAG (codes "!!") (codes "x") ∷ SCALAR (codes "a") ∷ BlockEntry ∷
    TAG (codes "!") (codes "y") ∷ SCALAR (codes "b") ∷ BlockEnd ∷ DocumentStart ∷ BlockSequenceStart ∷ BlockEntry ∷
    TAG (codes "!!") (codes "x") ∷ SCALAR (codes "a") ∷ BlockEntry ∷ TAG (codes "!") (codes "y") ∷
    SCALAR (codes "b") ∷ BlockEnd ∷ StreamEnd ∷ [])) no_more (
    at 0 0 stream ∷
    at 2 7 (headed_document None (declaring (codes "!") (codes "q:") ∷ declaring (codes "!!") (codes "p:") ∷ [])) ∷
    at 8 9 sequence ∷ at 12 15 (scalar None (Some (codes "p:x")) (codes "a") false false YAML_PLAIN_SCALAR_STYLE) ∷
    at 18 21 (scalar None (Some (codes "q:y")) (codes "b") false false YAML_PLAIN_SCALAR_STYLE) ∷
    at 22 23 ev.SequenceEnd ∷ at 24 24 no_document_end ∷ at 24 25 (headed_document None []) ∷ at 26 27 sequence ∷
    at 30 33 (scalar None (Some (codes "tag:yaml.org,2002:x")) (codes "a") false false YAML_PLAIN_SCALAR_STYLE) ∷
    at 36 39 (scalar None (Some (codes "!y")) (codes "b") false false YAML_PLAIN_SCALAR_STYLE) ∷
    at 40 41 ev.SequenceEnd ∷ at 42 42 no_document_end ∷ at 42 43 ev.StreamEnd ∷ []) Ends

abbrev pub VectorHandlesWithZeroBytes : Type 0
VectorHandlesWithZeroBytes = IsRun (list (
    STREAM ∷ HANDLE (33 ∷ 0 ∷ 97 ∷ 33 ∷ []) (codes "p:") ∷ HANDLE (33 ∷ 0 ∷ 98 ∷ 33 ∷ []) (codes "q:") ∷
    DocumentStart ∷ BlockSequenceStart ∷ BlockEntry ∷ TAG (33 ∷ 0 ∷ 98 ∷ 33 ∷ []) (codes "x") ∷ BlockEntry ∷
    TAG (33 ∷ 0 ∷ 97 ∷ 33 ∷ []) (codes "y") ∷ BlockEnd ∷ StreamEnd ∷ [])) no_more (
    at 0 0 stream ∷
    at 2 7 (headed_document None
    (declaring (33 ∷ 0 ∷ 97 ∷ 33 ∷ []) (codes "p:") ∷ declaring (33 ∷ 0 ∷ 98 ∷ 33 ∷ []) (codes "q:") ∷ [])) ∷
    at 8 9 sequence ∷ at 12 13 (scalar None (Some (codes "q:x")) [] false false YAML_PLAIN_SCALAR_STYLE) ∷
    at 16 17 (scalar None (Some (codes "p:y")) [] false false YAML_PLAIN_SCALAR_STYLE) ∷ at 18 19 ev.SequenceEnd ∷
    at 20 20 no_document_end ∷ at 20 21 ev.StreamEnd ∷ []) Ends

-- Test vectors of lists that are not valid: with a bad token, or with nothing after a viable prefix. A test vector is a
-- list of tokens in a short notation, with its events and error; that the definitions give these is computed by the prover.
use Rattle.std.specs.Prelude.{◌∷◌, [], None, Some, true, false, codes}
use Rattle.libyaml_types.specs.declared.enums.yaml_scalar_style_t.TheVariants.{YAML_PLAIN_SCALAR_STYLE}
use Rattle.libyaml_types.specs.declared.event.unnamed_yaml_event_t_data.TheVariants as ev
use Rattle.libyaml_types.specs.declared.token.unnamed_yaml_token_t_data.TheVariants.{NoToken, StreamEnd, DocumentStart, DocumentEnd, BlockSequenceStart, BlockMappingStart, BlockEnd, FlowSequenceStart, FlowSequenceEnd, FlowMappingStart, FlowMappingEnd, BlockEntry, FlowEntry, Key, Value}
use Rattle.libyaml_grammar.specs.vectors.VectorNotation.{ALIAS, ANCHOR, HANDLE, SCALAR, STREAM, TAG, VERSION, alias, asks_version, at, declaring, bare_document, explicit_end, flow_mapping, flow_sequence, flow_sequence_of, headed_document, list, mapping, mapping_of, no_document_end, no_more, nothing}
use Rattle.libyaml_grammar.specs.vectors.VectorNotation.{says, says_while, scalar, sequence, sequence_of, stream, text}
use Rattle.libyaml_grammar.specs.runs.Runs.{Fails, IsRun}

-- Each error, and the events before it.
abbrev pub VectorNoStreamStart : Type 0
VectorNoStreamStart = IsRun (list (
    SCALAR (codes "a") ∷ [])) no_more (
    []) (Fails (says (codes "did not find expected <stream-start>") 0))

abbrev pub VectorNoToken : Type 0
VectorNoToken = IsRun (list (
    NoToken ∷ STREAM ∷ StreamEnd ∷ [])) no_more (
    []) (Fails (says (codes "did not find expected <stream-start>") 0))

abbrev pub VectorSecondStreamStart : Type 0
VectorSecondStreamStart = IsRun (list (
    STREAM ∷ STREAM ∷ StreamEnd ∷ [])) no_more (
    at 0 0 stream ∷ at 2 2 bare_document ∷ [])
    (Fails (says_while (codes "while parsing a block node") 2 (codes "did not find expected node content") 2))

abbrev pub VectorTwoRoots : Type 0
VectorTwoRoots = IsRun (list (
    STREAM ∷ SCALAR (codes "a") ∷ SCALAR (codes "b") ∷ [])) no_more (
    at 0 0 stream ∷ at 2 2 bare_document ∷ at 2 3 (text (codes "a")) ∷ at 4 4 no_document_end ∷ [])
    (Fails (says (codes "did not find expected <document start>") 4))

abbrev pub VectorAliasAfterAnchor : Type 0
VectorAliasAfterAnchor = IsRun (list (
    STREAM ∷ ANCHOR (codes "a") ∷ ALIAS (codes "b") ∷ StreamEnd ∷ [])) no_more (
    at 0 0 stream ∷ at 2 2 bare_document ∷ at 2 3 (scalar (Some (codes "a")) None [] true false YAML_PLAIN_SCALAR_STYLE) ∷
    at 4 4 no_document_end ∷ []) (Fails (says (codes "did not find expected <document start>") 4))

abbrev pub VectorBlockCollectionAfterTagInFlow : Type 0
VectorBlockCollectionAfterTagInFlow = IsRun (list (
    STREAM ∷ FlowSequenceStart ∷ TAG [] (codes "t") ∷ BlockSequenceStart ∷ FlowSequenceEnd ∷ [])) no_more (
    at 0 0 stream ∷ at 2 2 bare_document ∷ at 2 3 flow_sequence ∷
    at 4 5 (scalar None (Some (codes "t")) [] false false YAML_PLAIN_SCALAR_STYLE)
    ∷ []) (Fails (says_while (codes "while parsing a flow sequence") 2 (codes "did not find expected ',' or ']'") 6))

abbrev pub VectorDirectiveWithoutDocument : Type 0
VectorDirectiveWithoutDocument = IsRun (list (
    STREAM ∷ VERSION 1 2 ∷ SCALAR (codes "a") ∷ StreamEnd ∷ [])) no_more (
    at 0 0 stream ∷ []) (Fails (says (codes "did not find expected <document start>") 4))

abbrev pub VectorSecondVersion : Type 0
VectorSecondVersion = IsRun (list (
    STREAM ∷ VERSION 1 1 ∷ VERSION 1 3 ∷ DocumentStart ∷ StreamEnd ∷ [])) no_more (
    at 0 0 stream ∷ []) (Fails (says (codes "found duplicate %YAML directive") 4))

abbrev pub VectorVersionOfLaterMinor : Type 0
VectorVersionOfLaterMinor = IsRun (list (
    STREAM ∷ DocumentStart ∷ VERSION 1 3 ∷ DocumentStart ∷ StreamEnd ∷ [])) no_more (
    at 0 0 stream ∷ at 2 3 (headed_document None []) ∷ at 4 4 nothing ∷ at 4 4 no_document_end ∷ [])
    (Fails (says (codes "found incompatible YAML document") 4))

abbrev pub VectorVersionOfEarlierMinor : Type 0
VectorVersionOfEarlierMinor = IsRun (list (
    STREAM ∷ HANDLE (codes "!e!") (codes "p:") ∷ VERSION 1 0 ∷ DocumentStart ∷ StreamEnd ∷ [])) no_more (
    at 0 0 stream ∷ []) (Fails (says (codes "found incompatible YAML document") 4))

abbrev pub VectorVersionOfLaterMajor : Type 0
VectorVersionOfLaterMajor = IsRun (list (
    STREAM ∷ SCALAR (codes "a") ∷ DocumentEnd ∷ VERSION 2 1 ∷ DocumentStart ∷ StreamEnd ∷ [])) no_more (
    at 0 0 stream ∷ at 2 2 bare_document ∷ at 2 3 (text (codes "a")) ∷ at 4 5 explicit_end ∷ [])
    (Fails (says (codes "found incompatible YAML document") 6))

abbrev pub VectorHandleDeclaredTwice : Type 0
VectorHandleDeclaredTwice = IsRun (list (
    STREAM ∷ HANDLE (codes "!a!") (codes "p:") ∷ HANDLE (codes "!a!")
    (codes "q:") ∷ DocumentStart ∷ StreamEnd ∷ [])) no_more (
    at 0 0 stream ∷ []) (Fails (says (codes "found duplicate %TAG directive") 4))

abbrev pub VectorDefaultDeclaredTwice : Type 0
VectorDefaultDeclaredTwice = IsRun (list (
    STREAM ∷ HANDLE (codes "!!") (codes "p:") ∷ HANDLE (codes "!!") (codes "p:") ∷ DocumentStart ∷ StreamEnd ∷ []))
    no_more (
    at 0 0 stream ∷ []) (Fails (says (codes "found duplicate %TAG directive") 4))

abbrev pub VectorDocumentEndFirst : Type 0
VectorDocumentEndFirst = IsRun (list (
    STREAM ∷ DocumentEnd ∷ StreamEnd ∷ [])) no_more (
    at 0 0 stream ∷ at 2 2 bare_document ∷ [])
    (Fails (says_while (codes "while parsing a block node") 2 (codes "did not find expected node content") 2))

abbrev pub VectorNoContentAfterDocumentEnd : Type 0
VectorNoContentAfterDocumentEnd = IsRun (list (
    STREAM ∷ SCALAR (codes "a") ∷ DocumentEnd ∷ BlockEnd ∷ [])) no_more (
    at 0 0 stream ∷ at 2 2 bare_document ∷ at 2 3 (text (codes "a")) ∷ at 4 5 explicit_end ∷ at 6 6 bare_document
    ∷ []) (Fails (says_while (codes "while parsing a block node") 6 (codes "did not find expected node content") 6))

abbrev pub VectorNoContentInDocument : Type 0
VectorNoContentInDocument = IsRun (list (
    STREAM ∷ DocumentStart ∷ Key ∷ [])) no_more (
    at 0 0 stream ∷ at 2 3 (headed_document None [])
    ∷ []) (Fails (says_while (codes "while parsing a block node") 4 (codes "did not find expected node content") 4))

abbrev pub VectorNoContentInBlockSequence : Type 0
VectorNoContentInBlockSequence = IsRun (list (
    STREAM ∷ BlockSequenceStart ∷ BlockEntry ∷ Value ∷ [])) no_more (
    at 0 0 stream ∷ at 2 2 bare_document ∷ at 2 3 sequence
    ∷ []) (Fails (says_while (codes "while parsing a block node") 6 (codes "did not find expected node content") 6))

abbrev pub VectorNoContentInIndentlessSequence : Type 0
VectorNoContentInIndentlessSequence = IsRun (list (
    STREAM ∷ BlockMappingStart ∷ Key ∷ BlockEntry ∷ FlowEntry ∷ [])) no_more (
    at 0 0 stream ∷ at 2 2 bare_document ∷ at 2 3 mapping ∷ at 6 7 sequence
    ∷ []) (Fails (says_while (codes "while parsing a block node") 8 (codes "did not find expected node content") 8))

abbrev pub VectorNoContentInBlockMapping : Type 0
VectorNoContentInBlockMapping = IsRun (list (
    STREAM ∷ BlockMappingStart ∷ Key ∷ SCALAR (codes "a") ∷ Value ∷ FlowEntry ∷ [])) no_more (
    at 0 0 stream ∷ at 2 2 bare_document ∷ at 2 3 mapping ∷ at 6 7 (text (codes "a"))
    ∷ []) (Fails (says_while (codes "while parsing a block node") 10 (codes "did not find expected node content") 10))

abbrev pub VectorNoContentAfterValue : Type 0
VectorNoContentAfterValue = IsRun (list (
    STREAM ∷ BlockMappingStart ∷ Value ∷ FlowSequenceEnd ∷ [])) no_more (
    at 0 0 stream ∷ at 2 2 bare_document ∷ at 2 3 mapping ∷ at 4 4 nothing
    ∷ []) (Fails (says_while (codes "while parsing a block node") 6 (codes "did not find expected node content") 6))

abbrev pub VectorNoContentInFlowSequence : Type 0
VectorNoContentInFlowSequence = IsRun (list (
    STREAM ∷ FlowSequenceStart ∷ FlowEntry ∷ FlowSequenceEnd ∷ StreamEnd ∷ [])) no_more (
    at 0 0 stream ∷ at 2 2 bare_document ∷ at 2 3 flow_sequence
    ∷ []) (Fails (says_while (codes "while parsing a flow node") 4 (codes "did not find expected node content") 4))

abbrev pub VectorNoContentAfterSeparator : Type 0
VectorNoContentAfterSeparator = IsRun (list (
    STREAM ∷ FlowSequenceStart ∷ SCALAR (codes "a") ∷ FlowEntry ∷ FlowEntry ∷ FlowSequenceEnd ∷ StreamEnd ∷ [])) no_more (
    at 0 0 stream ∷ at 2 2 bare_document ∷ at 2 3 flow_sequence ∷ at 4 5 (text (codes "a"))
    ∷ []) (Fails (says_while (codes "while parsing a flow node") 8 (codes "did not find expected node content") 8))

abbrev pub VectorNoContentInFlowMapping : Type 0
VectorNoContentInFlowMapping = IsRun (list (
    STREAM ∷ FlowMappingStart ∷ Value ∷ [])) no_more (
    at 0 0 stream ∷ at 2 2 bare_document ∷ at 2 3 flow_mapping
    ∷ []) (Fails (says_while (codes "while parsing a flow node") 4 (codes "did not find expected node content") 4))

abbrev pub VectorNoContentInPair : Type 0
VectorNoContentInPair = IsRun (list (
    STREAM ∷ FlowSequenceStart ∷ Key ∷ FlowMappingEnd ∷ [])) no_more (
    at 0 0 stream ∷ at 2 2 bare_document ∷ at 2 3 flow_sequence ∷ at 4 5 flow_mapping
    ∷ []) (Fails (says_while (codes "while parsing a flow node") 6 (codes "did not find expected node content") 6))

abbrev pub VectorNoContentInPairValue : Type 0
VectorNoContentInPairValue = IsRun (list (
    STREAM ∷ FlowSequenceStart ∷ Key ∷ SCALAR (codes "a") ∷ Value ∷ Value ∷ [])) no_more (
    at 0 0 stream ∷ at 2 2 bare_document ∷ at 2 3 flow_sequence ∷ at 4 5 flow_mapping ∷ at 6 7 (text (codes "a"))
    ∷ []) (Fails (says_while (codes "while parsing a flow node") 10 (codes "did not find expected node content") 10))

abbrev pub VectorBlockContentInFlow : Type 0
VectorBlockContentInFlow = IsRun (list (
    STREAM ∷ FlowSequenceStart ∷ BlockSequenceStart ∷ [])) no_more (
    at 0 0 stream ∷ at 2 2 bare_document ∷ at 2 3 flow_sequence
    ∷ []) (Fails (says_while (codes "while parsing a flow node") 4 (codes "did not find expected node content") 4))

abbrev pub VectorUnknownHandle : Type 0
VectorUnknownHandle = IsRun (list (
    STREAM ∷ ANCHOR (codes "a") ∷ TAG (codes "!e!") (codes "x") ∷ SCALAR (codes "b") ∷ StreamEnd ∷ [])) no_more (
    at 0 0 stream ∷ at 2 2 bare_document ∷ [])
    (Fails (says_while (codes "while parsing a node") 2 (codes "found undefined tag handle") 4))

abbrev pub VectorUnknownHandleFirst : Type 0
VectorUnknownHandleFirst = IsRun (list (
    STREAM ∷ TAG (codes "!e!") (codes "x") ∷ SCALAR (codes "b") ∷ StreamEnd ∷ [])) no_more (
    at 0 0 stream ∷ at 2 2 bare_document ∷ [])
    (Fails (says_while (codes "while parsing a node") 2 (codes "found undefined tag handle") 2))

abbrev pub VectorUnknownHandleBeforeAnchor : Type 0
VectorUnknownHandleBeforeAnchor = IsRun (list (
    STREAM ∷ FlowSequenceStart ∷ TAG (codes "!e!") (codes "x") ∷ ANCHOR (codes "a") ∷ FlowSequenceEnd ∷ [])) no_more (
    at 0 0 stream ∷ at 2 2 bare_document ∷ at 2 3 flow_sequence ∷ [])
    (Fails (says_while (codes "while parsing a node") 4 (codes "found undefined tag handle") 4))

abbrev pub VectorUnknownHandleAtStreamEnd : Type 0
VectorUnknownHandleAtStreamEnd = IsRun (list (
    STREAM ∷ SCALAR (codes "a") ∷ DocumentEnd ∷ TAG (codes "!e!") (codes "x") ∷ StreamEnd ∷ [])) no_more (
    at 0 0 stream ∷ at 2 2 bare_document ∷ at 2 3 (text (codes "a")) ∷ at 4 5 explicit_end ∷ at 6 6 bare_document
    ∷ []) (Fails (says_while (codes "while parsing a node") 6 (codes "found undefined tag handle") 6))

abbrev pub VectorHandleOfDocumentBefore : Type 0
VectorHandleOfDocumentBefore = IsRun (list (
    STREAM ∷ HANDLE (codes "!e!") (codes "p:") ∷ DocumentStart ∷ TAG (codes "!e!") (codes "x") ∷ SCALAR (codes "a") ∷
    DocumentStart ∷ TAG (codes "!e!") (codes "y") ∷ SCALAR (codes "b") ∷ StreamEnd ∷ [])) no_more (
    at 0 0 stream ∷ at 2 5 (headed_document None (declaring (codes "!e!") (codes "p:") ∷ [])) ∷
    at 6 9 (scalar None (Some (codes "p:x")) (codes "a") false false YAML_PLAIN_SCALAR_STYLE) ∷
    at 10 10 no_document_end ∷ at 10 11 (headed_document None [])
    ∷ []) (Fails (says_while (codes "while parsing a node") 12 (codes "found undefined tag handle") 12))

abbrev pub VectorTagWhereNoneMayStand : Type 0
VectorTagWhereNoneMayStand = IsRun (list (
    STREAM ∷ BlockSequenceStart ∷ TAG (codes "!e!") (codes "x") ∷ SCALAR (codes "b") ∷ [])) no_more (
    at 0 0 stream ∷ at 2 2 bare_document ∷ at 2 3 sequence
    ∷ []) (Fails (says_while (codes "while parsing a block collection") 2 (codes "did not find expected '-' indicator") 4))

abbrev pub VectorNoBlockEntry : Type 0
VectorNoBlockEntry = IsRun (list (
    STREAM ∷ BlockSequenceStart ∷ SCALAR (codes "x") ∷ [])) no_more (
    at 0 0 stream ∷ at 2 2 bare_document ∷ at 2 3 sequence
    ∷ []) (Fails (says_while (codes "while parsing a block collection") 2 (codes "did not find expected '-' indicator") 4))

abbrev pub VectorNoBlockEntryAfterEntry : Type 0
VectorNoBlockEntryAfterEntry = IsRun (list (
    STREAM ∷ BlockSequenceStart ∷ BlockEntry ∷ SCALAR (codes "a") ∷ Key ∷ [])) no_more (
    at 0 0 stream ∷ at 2 2 bare_document ∷ at 2 3 sequence ∷ at 6 7 (text (codes "a"))
    ∷ []) (Fails (says_while (codes "while parsing a block collection") 2 (codes "did not find expected '-' indicator") 8))

abbrev pub VectorNoKey : Type 0
VectorNoKey = IsRun (list (
    STREAM ∷ BlockMappingStart ∷ SCALAR (codes "x") ∷ [])) no_more (
    at 0 0 stream ∷ at 2 2 bare_document ∷ at 2 3 mapping ∷ [])
    (Fails (says_while (codes "while parsing a block mapping") 2 (codes "did not find expected key") 4))

abbrev pub VectorNoKeyAfterIndentless : Type 0
VectorNoKeyAfterIndentless = IsRun (list (
    STREAM ∷ BlockMappingStart ∷ Key ∷ BlockEntry ∷ SCALAR (codes "a") ∷ SCALAR (codes "b") ∷ [])) no_more (
    at 0 0 stream ∷ at 2 2 bare_document ∷ at 2 3 mapping ∷ at 6 7 sequence ∷ at 8 9 (text (codes "a")) ∷
    at 10 10 ev.SequenceEnd ∷ at 10 10 nothing ∷ [])
    (Fails (says_while (codes "while parsing a block mapping") 2 (codes "did not find expected key") 10))

abbrev pub VectorNoKeyAfterKey : Type 0
VectorNoKeyAfterKey = IsRun (list (
    STREAM ∷ BlockMappingStart ∷ Key ∷ SCALAR (codes "a") ∷ Value ∷ SCALAR (codes "b") ∷ FlowSequenceEnd ∷ [])) no_more (
    at 0 0 stream ∷ at 2 2 bare_document ∷ at 2 3 mapping ∷ at 6 7 (text (codes "a")) ∷ at 10 11 (text (codes "b"))
    ∷ []) (Fails (says_while (codes "while parsing a block mapping") 2 (codes "did not find expected key") 12))

abbrev pub VectorNoSeparatorInFlowSequence : Type 0
VectorNoSeparatorInFlowSequence = IsRun (list (
    STREAM ∷ FlowSequenceStart ∷ ANCHOR (codes "a") ∷ SCALAR (codes "x") ∷ FlowEntry ∷ ANCHOR (codes "a") ∷
    ALIAS (codes "b") ∷ FlowSequenceEnd ∷ StreamEnd ∷ [])) no_more (
    at 0 0 stream ∷ at 2 2 bare_document ∷ at 2 3 flow_sequence ∷
    at 4 7 (scalar (Some (codes "a")) None (codes "x") true false YAML_PLAIN_SCALAR_STYLE) ∷
    at 10 11 (scalar (Some (codes "a")) None [] true false YAML_PLAIN_SCALAR_STYLE)
    ∷ []) (Fails (says_while (codes "while parsing a flow sequence") 2 (codes "did not find expected ',' or ']'") 12))

abbrev pub VectorNoSeparatorInFlowMapping : Type 0
VectorNoSeparatorInFlowMapping = IsRun (list (
    STREAM ∷ FlowMappingStart ∷ SCALAR (codes "a") ∷ SCALAR (codes "b") ∷ FlowMappingEnd ∷ StreamEnd ∷ [])) no_more (
    at 0 0 stream ∷ at 2 2 bare_document ∷ at 2 3 flow_mapping ∷ at 4 5 (text (codes "a")) ∷ at 6 6 nothing
    ∷ []) (Fails (says_while (codes "while parsing a flow mapping") 2 (codes "did not find expected ',' or '}'") 6))

abbrev pub VectorNoSeparatorInAnchoredSequence : Type 0
VectorNoSeparatorInAnchoredSequence = IsRun (list (
    STREAM ∷ ANCHOR (codes "a") ∷ FlowSequenceStart ∷ SCALAR (codes "x") ∷ SCALAR (codes "y") ∷ [])) no_more (
    at 0 0 stream ∷ at 2 2 bare_document ∷ at 2 5 (flow_sequence_of (Some (codes "a")) None true) ∷
    at 6 7 (text (codes "x")) ∷ [])
    (Fails (says_while (codes "while parsing a flow sequence") 4 (codes "did not find expected ',' or ']'") 8))

abbrev pub VectorNoContentInTaggedMapping : Type 0
VectorNoContentInTaggedMapping = IsRun (list (
    STREAM ∷ TAG [] (codes "t") ∷ BlockMappingStart ∷ Key ∷ SCALAR (codes "a") ∷ Value ∷ FlowEntry ∷ [])) no_more (
    at 0 0 stream ∷ at 2 2 bare_document ∷ at 2 5 (mapping_of None (Some (codes "t")) false) ∷ at 8 9 (text (codes "a"))
    ∷ []) (Fails (says_while (codes "while parsing a block node") 12 (codes "did not find expected node content") 12))

abbrev pub VectorNoContentInAnchoredSequence : Type 0
VectorNoContentInAnchoredSequence = IsRun (list (
    STREAM ∷ ANCHOR (codes "a") ∷ BlockSequenceStart ∷ BlockEntry ∷ FlowEntry ∷ [])) no_more (
    at 0 0 stream ∷ at 2 2 bare_document ∷ at 2 5 (sequence_of (Some (codes "a")) None true)
    ∷ []) (Fails (says_while (codes "while parsing a block node") 8 (codes "did not find expected node content") 8))

abbrev pub VectorNoBlockEntryInAnchoredSequence : Type 0
VectorNoBlockEntryInAnchoredSequence = IsRun (list (
    STREAM ∷ ANCHOR (codes "a") ∷ BlockSequenceStart ∷ SCALAR (codes "x") ∷ [])) no_more (
    at 0 0 stream ∷ at 2 2 bare_document ∷ at 2 5 (sequence_of (Some (codes "a")) None true)
    ∷ []) (Fails (says_while (codes "while parsing a block collection") 4 (codes "did not find expected '-' indicator") 6))

abbrev pub VectorNoKeyInAnchoredMapping : Type 0
VectorNoKeyInAnchoredMapping = IsRun (list (
    STREAM ∷ ANCHOR (codes "a") ∷ BlockMappingStart ∷ SCALAR (codes "x") ∷ [])) no_more (
    at 0 0 stream ∷ at 2 2 bare_document ∷ at 2 5 (mapping_of (Some (codes "a")) None true)
    ∷ []) (Fails (says_while (codes "while parsing a block mapping") 4 (codes "did not find expected key") 6))

abbrev pub VectorWrongEndOfFlowSequence : Type 0
VectorWrongEndOfFlowSequence = IsRun (list (
    STREAM ∷ FlowSequenceStart ∷ Key ∷ SCALAR (codes "a") ∷ FlowMappingEnd ∷ [])) no_more (
    at 0 0 stream ∷ at 2 2 bare_document ∷ at 2 3 flow_sequence ∷ at 4 5 flow_mapping ∷ at 6 7 (text (codes "a")) ∷
    at 8 8 nothing ∷ at 8 8 ev.MappingEnd ∷ [])
    (Fails (says_while (codes "while parsing a flow sequence") 2 (codes "did not find expected ',' or ']'") 8))

abbrev pub VectorWrongEndOfFlowMapping : Type 0
VectorWrongEndOfFlowMapping = IsRun (list (
    STREAM ∷ FlowMappingStart ∷ Key ∷ SCALAR (codes "a") ∷ Value ∷ SCALAR (codes "b") ∷ FlowSequenceEnd ∷ [])) no_more (
    at 0 0 stream ∷ at 2 2 bare_document ∷ at 2 3 flow_mapping ∷ at 6 7 (text (codes "a")) ∷ at 10 11 (text (codes "b"))
    ∷ []) (Fails (says_while (codes "while parsing a flow mapping") 2 (codes "did not find expected ',' or '}'") 12))

-- What a viable prefix determines where the source fails after it.
abbrev pub VectorNoTokens : Type 0
VectorNoTokens = IsRun (list (
    [])) no_more (
    []) (Fails no_more)

abbrev pub VectorStreamBegun : Type 0
VectorStreamBegun = IsRun (list (
    STREAM ∷ [])) no_more (
    at 0 0 stream ∷ []) (Fails no_more)

abbrev pub VectorDirectiveBegun : Type 0
VectorDirectiveBegun = IsRun (list (
    STREAM ∷ SCALAR (codes "a") ∷ DocumentEnd ∷ DocumentEnd ∷ VERSION 1 1 ∷ [])) no_more (
    at 0 0 stream ∷ at 2 2 bare_document ∷ at 2 3 (text (codes "a")) ∷ at 4 5 explicit_end ∷ []) (Fails no_more)

abbrev pub VectorDocumentEnded : Type 0
VectorDocumentEnded = IsRun (list (
    STREAM ∷ SCALAR (codes "a") ∷ DocumentEnd ∷ DocumentEnd ∷ [])) no_more (
    at 0 0 stream ∷ at 2 2 bare_document ∷ at 2 3 (text (codes "a")) ∷ at 4 5 explicit_end ∷ []) (Fails no_more)

abbrev pub VectorEmptyDocumentEnded : Type 0
VectorEmptyDocumentEnded = IsRun (list (
    STREAM ∷ DocumentStart ∷ DocumentEnd ∷ [])) no_more (
    at 0 0 stream ∷ at 2 3 (headed_document None []) ∷ at 4 4 nothing ∷ at 4 5 explicit_end ∷ []) (Fails no_more)

abbrev pub VectorDocumentBegun : Type 0
VectorDocumentBegun = IsRun (list (
    STREAM ∷ VERSION 1 1 ∷ DocumentStart ∷ [])) no_more (
    at 0 0 stream ∷ at 2 5 (headed_document (asks_version 1 1) []) ∷ []) (Fails no_more)

abbrev pub VectorDocumentAndAnchorBegun : Type 0
VectorDocumentAndAnchorBegun = IsRun (list (
    STREAM ∷ SCALAR (codes "a") ∷ DocumentStart ∷ TAG [] (codes "t") ∷ ANCHOR (codes "b") ∷ [])) no_more (
    at 0 0 stream ∷ at 2 2 bare_document ∷ at 2 3 (text (codes "a")) ∷ at 4 4 no_document_end ∷
    at 4 5 (headed_document None []) ∷ []) (Fails no_more)

abbrev pub VectorValueAfterIndentlessCome : Type 0
VectorValueAfterIndentlessCome = IsRun (list (
    STREAM ∷ ANCHOR (codes "a") ∷ BlockMappingStart ∷ Key ∷ BlockEntry ∷ Value ∷ SCALAR (codes "a") ∷ [])) no_more (
    at 0 0 stream ∷ at 2 2 bare_document ∷ at 2 5 (mapping_of (Some (codes "a")) None true) ∷ at 8 9 sequence ∷
    at 9 9 nothing ∷ at 10 10 ev.SequenceEnd ∷ at 12 13 (text (codes "a")) ∷ []) (Fails no_more)

abbrev pub VectorEntryCome : Type 0
VectorEntryCome = IsRun (list (
    STREAM ∷ ANCHOR (codes "a") ∷ BlockSequenceStart ∷ BlockEntry ∷ SCALAR (codes "b") ∷ [])) no_more (
    at 0 0 stream ∷ at 2 2 bare_document ∷ at 2 5 (sequence_of (Some (codes "a")) None true) ∷ at 8 9
    (text (codes "b")) ∷ []) (Fails no_more)

abbrev pub VectorPairValueScalarCome : Type 0
VectorPairValueScalarCome = IsRun (list (
    STREAM ∷ FlowSequenceStart ∷ Key ∷ Value ∷ SCALAR (codes "a") ∷ [])) no_more (
    at 0 0 stream ∷ at 2 2 bare_document ∷ at 2 3 flow_sequence ∷ at 4 5 flow_mapping ∷ at 6 6 nothing ∷
    at 8 9 (text (codes "a")) ∷ []) (Fails no_more)

abbrev pub VectorAnchorBegun : Type 0
VectorAnchorBegun = IsRun (list (
    STREAM ∷ ANCHOR (codes "a") ∷ [])) no_more (
    at 0 0 stream ∷ at 2 2 bare_document ∷ []) (Fails no_more)

abbrev pub VectorPropertiesBegun : Type 0
VectorPropertiesBegun = IsRun (list (
    STREAM ∷ BlockSequenceStart ∷ BlockEntry ∷ SCALAR (codes "a") ∷ BlockEntry ∷ TAG [] (codes "t") ∷
    ANCHOR (codes "a") ∷ [])) no_more (
    at 0 0 stream ∷ at 2 2 bare_document ∷ at 2 3 sequence ∷ at 6 7 (text (codes "a")) ∷ []) (Fails no_more)

abbrev pub VectorAnchoredKeyBegun : Type 0
VectorAnchoredKeyBegun = IsRun (list (
    STREAM ∷ BlockMappingStart ∷ Key ∷ SCALAR (codes "a") ∷ Key ∷ ANCHOR (codes "a") ∷ [])) no_more (
    at 0 0 stream ∷ at 2 2 bare_document ∷ at 2 3 mapping ∷ at 6 7 (text (codes "a")) ∷ at 8 8 nothing ∷ []) (Fails no_more)

abbrev pub VectorAnchoredIndentlessBegun : Type 0
VectorAnchoredIndentlessBegun = IsRun (list (
    STREAM ∷ BlockMappingStart ∷ Key ∷ SCALAR (codes "a") ∷ Value ∷ BlockEntry ∷ SCALAR (codes "b") ∷ BlockEntry ∷
    ANCHOR (codes "a") ∷ [])) no_more (
    at 0 0 stream ∷ at 2 2 bare_document ∷ at 2 3 mapping ∷ at 6 7 (text (codes "a")) ∷ at 10 11 sequence ∷
    at 12 13 (text (codes "b")) ∷ []) (Fails no_more)

abbrev pub VectorAnchoredPairBegun : Type 0
VectorAnchoredPairBegun = IsRun (list (
    STREAM ∷ FlowSequenceStart ∷ Key ∷ SCALAR (codes "a") ∷ Value ∷ TAG [] (codes "t") ∷ [])) no_more (
    at 0 0 stream ∷ at 2 2 bare_document ∷ at 2 3 flow_sequence ∷ at 4 5 flow_mapping ∷ at 6 7 (text (codes "a")) ∷ [])
    (Fails no_more)

abbrev pub VectorScalarCome : Type 0
VectorScalarCome = IsRun (list (
    STREAM ∷ SCALAR (codes "a") ∷ [])) no_more (
    at 0 0 stream ∷ at 2 2 bare_document ∷ at 2 3 (text (codes "a")) ∷ []) (Fails no_more)

abbrev pub VectorCollectionBegun : Type 0
VectorCollectionBegun = IsRun (list (
    STREAM ∷ DocumentStart ∷ SCALAR (codes "a") ∷ DocumentStart ∷ FlowSequenceStart ∷ Key ∷ FlowMappingStart ∷ []))
    no_more (
    at 0 0 stream ∷ at 2 3 (headed_document None []) ∷ at 4 5 (text (codes "a")) ∷ at 6 6 no_document_end ∷
    at 6 7 (headed_document None []) ∷ at 8 9 flow_sequence ∷ at 10 11 flow_mapping ∷ at 12 13 flow_mapping ∷ [])
    (Fails no_more)

abbrev pub VectorAliasCome : Type 0
VectorAliasCome = IsRun (list (
    STREAM ∷ FlowMappingStart ∷ ALIAS (codes "a") ∷ [])) no_more (
    at 0 0 stream ∷ at 2 2 bare_document ∷ at 2 3 flow_mapping ∷ at 4 5 (alias (codes "a")) ∷ []) (Fails no_more)

abbrev pub VectorBlockEntryCome : Type 0
VectorBlockEntryCome = IsRun (list (
    STREAM ∷ BlockSequenceStart ∷ BlockEntry ∷ SCALAR (codes "a") ∷ BlockEntry ∷ [])) no_more (
    at 0 0 stream ∷ at 2 2 bare_document ∷ at 2 3 sequence ∷ at 6 7 (text (codes "a")) ∷ []) (Fails no_more)

abbrev pub VectorIndentlessBegun : Type 0
VectorIndentlessBegun = IsRun (list (
    STREAM ∷ BlockMappingStart ∷ Key ∷ ANCHOR (codes "a") ∷ BlockEntry ∷ [])) no_more (
    at 0 0 stream ∷ at 2 2 bare_document ∷ at 2 3 mapping ∷ at 6 9 (sequence_of (Some (codes "a")) None true) ∷ [])
    (Fails no_more)

abbrev pub VectorKeyCome : Type 0
VectorKeyCome = IsRun (list (
    STREAM ∷ BlockMappingStart ∷ Key ∷ SCALAR (codes "a") ∷ Key ∷ [])) no_more (
    at 0 0 stream ∷ at 2 2 bare_document ∷ at 2 3 mapping ∷ at 6 7 (text (codes "a")) ∷ at 8 8 nothing ∷ []) (Fails no_more)

abbrev pub VectorValueAfterIndentless : Type 0
VectorValueAfterIndentless = IsRun (list (
    STREAM ∷ BlockMappingStart ∷ Key ∷ BlockEntry ∷ Value ∷ [])) no_more (
    at 0 0 stream ∷ at 2 2 bare_document ∷ at 2 3 mapping ∷ at 6 7 sequence ∷ at 7 7 nothing ∷ at 8 8
    ev.SequenceEnd ∷ []) (Fails no_more)

abbrev pub VectorValueComeFirst : Type 0
VectorValueComeFirst = IsRun (list (
    STREAM ∷ BlockMappingStart ∷ Value ∷ [])) no_more (
    at 0 0 stream ∷ at 2 2 bare_document ∷ at 2 3 mapping ∷ at 4 4 nothing ∷ []) (Fails no_more)

abbrev pub VectorFlowKeyCome : Type 0
VectorFlowKeyCome = IsRun (list (
    STREAM ∷ FlowMappingStart ∷ Key ∷ [])) no_more (
    at 0 0 stream ∷ at 2 2 bare_document ∷ at 2 3 flow_mapping ∷ []) (Fails no_more)

abbrev pub VectorPairBegun : Type 0
VectorPairBegun = IsRun (list (
    STREAM ∷ FlowSequenceStart ∷ Key ∷ [])) no_more (
    at 0 0 stream ∷ at 2 2 bare_document ∷ at 2 3 flow_sequence ∷ at 4 5 flow_mapping ∷ []) (Fails no_more)

abbrev pub VectorPairSeparated : Type 0
VectorPairSeparated = IsRun (list (
    STREAM ∷ FlowSequenceStart ∷ Key ∷ SCALAR (codes "a") ∷ FlowEntry ∷ [])) no_more (
    at 0 0 stream ∷ at 2 2 bare_document ∷ at 2 3 flow_sequence ∷ at 4 5 flow_mapping ∷ at 6 7 (text (codes "a")) ∷
    at 8 8 nothing ∷ at 8 8 ev.MappingEnd ∷ []) (Fails no_more)

abbrev pub VectorNodeAloneSeparated : Type 0
VectorNodeAloneSeparated = IsRun (list (
    STREAM ∷ FlowMappingStart ∷ SCALAR (codes "a") ∷ FlowEntry ∷ [])) no_more (
    at 0 0 stream ∷ at 2 2 bare_document ∷ at 2 3 flow_mapping ∷ at 4 5 (text (codes "a")) ∷ at 6 6 nothing ∷ []) (Fails no_more)

abbrev pub VectorPairValueCome : Type 0
VectorPairValueCome = IsRun (list (
    STREAM ∷ FlowSequenceStart ∷ Key ∷ Value ∷ [])) no_more (
    at 0 0 stream ∷ at 2 2 bare_document ∷ at 2 3 flow_sequence ∷ at 4 5 flow_mapping ∷ at 6 6 nothing ∷ []) (Fails no_more)

abbrev pub VectorCollectionsEnded : Type 0
VectorCollectionsEnded = IsRun (list (
    STREAM ∷ BlockSequenceStart ∷ BlockEntry ∷ BlockMappingStart ∷ Key ∷ BlockEntry ∷ BlockEnd ∷ BlockEnd ∷ [])) no_more (
    at 0 0 stream ∷ at 2 2 bare_document ∷ at 2 3 sequence ∷ at 6 7 mapping ∷ at 10 11 sequence ∷ at 11 11 nothing ∷
    at 12 12 ev.SequenceEnd ∷ at 12 12 nothing ∷ at 12 13 ev.MappingEnd ∷ at 14 15 ev.SequenceEnd ∷ []) (Fails no_more)

abbrev pub VectorAmidProperties : Type 0
VectorAmidProperties = IsRun (list (
    STREAM ∷ ANCHOR (codes "a") ∷ TAG (codes "!e!") (codes "x") ∷ [])) no_more (
    at 0 0 stream ∷ at 2 2 bare_document ∷ []) (Fails no_more)

abbrev pub VectorAmidTag : Type 0
VectorAmidTag = IsRun (list (
    STREAM ∷ FlowSequenceStart ∷ TAG (codes "!e!") (codes "x") ∷ [])) no_more (
    at 0 0 stream ∷ at 2 2 bare_document ∷ at 2 3 flow_sequence ∷ []) (Fails no_more)

abbrev pub VectorAmidTagAndAnchor : Type 0
VectorAmidTagAndAnchor = IsRun (list (
    STREAM ∷ TAG (codes "!e!") (codes "x") ∷ ANCHOR (codes "a") ∷ [])) no_more (
    at 0 0 stream ∷ at 2 2 bare_document ∷ []) (Fails no_more)

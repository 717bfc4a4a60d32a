-- Test vectors of loads, without a bound and within one: lists of tokens with the results of the loads over
-- them, in the notation of libyaml_events' VectorNotation: token k begins at index 2k and ends at 2k + 1.
use Rattle.std.specs.Prelude.{◌∷◌, ℕ, pos, ℤ, List, [], None, Some, Option, Bool, true, false, Ok, Err, codes}
use Rattle.libyaml_types.specs.declared.directive.yaml_tag_directive_t.{yaml_tag_directive_t}
use Rattle.libyaml_types.specs.declared.directive.yaml_version_directive_t.{yaml_version_directive_t}
use Rattle.libyaml_types.specs.declared.enums.yaml_error_type_t.TheVariants.{YAML_COMPOSER_ERROR, YAML_MEMORY_ERROR}
use Rattle.libyaml_types.specs.declared.enums.yaml_mapping_style_t.TheVariants.{YAML_BLOCK_MAPPING_STYLE, YAML_FLOW_MAPPING_STYLE}
use Rattle.libyaml_types.specs.declared.enums.yaml_scalar_style_t.TheVariants.{YAML_PLAIN_SCALAR_STYLE}
use Rattle.libyaml_types.specs.declared.enums.yaml_sequence_style_t.TheVariants.{YAML_BLOCK_SEQUENCE_STYLE, YAML_FLOW_SEQUENCE_STYLE}
use Rattle.libyaml_types.specs.declared.token.unnamed_yaml_token_t_data.TheVariants.{StreamEnd, DocumentStart, DocumentEnd, BlockSequenceStart, BlockMappingStart, BlockEnd, BlockEntry, FlowSequenceStart, FlowSequenceEnd, FlowMappingStart, FlowMappingEnd, FlowEntry, Key, Value}
use Rattle.libyaml_grammar.specs.grammar.Events.{document_end_at, document_start_at}
use Rattle.libyaml_grammar.specs.vectors.VectorNotation.{ALIAS, ANCHOR, HANDLE, SCALAR, STREAM, TAG, VERSION, asks_version, declaring, list, no_more, place, says_while}
use Rattle.libyaml_grammar.specs.grammar.Trees.{no_directives}
use Rattle.libyaml_documents.specs.declared.node.unnamed_yaml_node_t_data.TheVariants.{Scalar, Sequence, Mapping}
use Rattle.libyaml_documents.specs.declared.node.yaml_node_t.{yaml_node_t}
use Rattle.libyaml_documents.specs.declared.pairs.yaml_node_pair_t.{yaml_node_pair_t}
use Rattle.libyaml_graphs.specs.loads.Bounds.{IsBoundedLoads}
use Rattle.libyaml_graphs.specs.loads.GraphLaws.{RootsFollow}
use Rattle.libyaml_graphs.specs.loads.Loads.{IsLoads, Load}

-- a document from an index to another, with its version, directives, flags and nodes; one whose start and end are implicit;
-- the one without root
abbrev pub versioned : Option yaml_version_directive_t → List yaml_tag_directive_t
    → (start_implicit end_implicit : Bool) → ℕ → ℕ → List yaml_node_t → Load
versioned v ds i j m n nodes = Ok
    (record {
      nodes = nodes;
      version_directive = v;
      tag_directives = ds;
      start_implicit = i;
      end_implicit = j;
      start_mark = place m;
      end_mark = place n;
    })

abbrev pub loaded : List yaml_tag_directive_t → (start_implicit end_implicit : Bool) → ℕ → ℕ → List yaml_node_t → Load
loaded ds i j m n nodes = versioned None ds i j m n nodes

abbrev pub implicit : ℕ → List yaml_node_t → Load
implicit n nodes = loaded [] true true 2 n nodes

abbrev pub no_root : Load
no_root = loaded [] false false 0 0 []

-- nodes from an index to another: plain scalars, and collections with their kind's tag
abbrev pub tagged : (tag value : List ℕ) → ℕ → ℕ → yaml_node_t
tagged t v m n = record {
  tag = t;
  content = Scalar (record { value = v; style = YAML_PLAIN_SCALAR_STYLE });
  start_mark = place m;
  end_mark = place n;
}

abbrev pub text_node : (value : List ℕ) → ℕ → ℕ → yaml_node_t
text_node v m n = tagged (codes "tag:yaml.org,2002:str") v m n

abbrev pub flow_sequence_node : List ℤ → ℕ → ℕ → yaml_node_t
flow_sequence_node is m n = record {
  tag = codes "tag:yaml.org,2002:seq";
  content = Sequence (record { items = is; style = YAML_FLOW_SEQUENCE_STYLE });
  start_mark
      = place m;
  end_mark = place n;
}

abbrev pub flow_mapping_node : List yaml_node_pair_t → ℕ → ℕ → yaml_node_t
flow_mapping_node ps m n = record {
  tag = codes "tag:yaml.org,2002:map";
  content = Mapping (record { pairs = ps; style = YAML_FLOW_MAPPING_STYLE });
  start_mark
      = place m;
  end_mark = place n;
}

abbrev pub block_sequence : List ℤ → ℕ → ℕ → yaml_node_t
block_sequence is m n = record {
  tag = codes "tag:yaml.org,2002:seq";
  content = Sequence (record { items = is; style = YAML_BLOCK_SEQUENCE_STYLE });
  start_mark
      = place m;
  end_mark = place n;
}

abbrev pub block_mapping : List yaml_node_pair_t → ℕ → ℕ → yaml_node_t
block_mapping ps m n = record {
  tag = codes "tag:yaml.org,2002:map";
  content = Mapping (record { pairs = ps; style = YAML_BLOCK_MAPPING_STYLE });
  start_mark
      = place m;
  end_mark = place n;
}

abbrev pub pair : (key value : ℕ) → yaml_node_pair_t
pair k v = record { key = pos k; value = pos v }

-- composer errors: an alias at an index whose anchor no node has, and the second of two nodes with one
abbrev pub no_anchored_node : ℕ → Load
no_anchored_node m = Err (record {
  error = YAML_COMPOSER_ERROR;
  problem = Some (codes "found undefined alias");
  problem_offset = 0;
  problem_value
      = pos 0;
  problem_mark = place m;
  context = None;
  context_mark = place 0;
})

abbrev pub second_anchored_node : (first second : ℕ) → Load
second_anchored_node m n = Err (record {
  error = YAML_COMPOSER_ERROR;
  problem = Some (codes "second occurrence");
  problem_offset = 0;
  problem_value
      = pos 0;
  problem_mark = place n;
  context = Some (codes "found duplicate anchor; first occurrence");
  context_mark = place m;
})

-- a list beyond its bound: the error alone
abbrev pub no_memory : Load
no_memory = Err (record {
  error = YAML_MEMORY_ERROR;
  problem = None;
  problem_offset = 0;
  problem_value = pos 0;
  problem_mark = place 0;
  context
      = None;
  context_mark = place 0;
})

-- Documents.
abbrev pub VectorEmptyStreamLoaded : Type 0
VectorEmptyStreamLoaded = IsLoads (list (
    STREAM ∷ StreamEnd ∷ [])) no_more (no_root ∷ [])

-- no run has a document's end directly after its start: there its root would lack
abbrev pub VectorStartWithoutRoot : Type 0
VectorStartWithoutRoot = RootsFollow
    (document_start_at no_directives true (place 2) (place 2) ∷ document_end_at true (place 2) (place 2) ∷ []) → ⊥

abbrev pub VectorDirectivesLoaded : Type 0
VectorDirectivesLoaded = IsLoads (list (
    STREAM ∷ HANDLE (codes "!!") (codes "p:") ∷ DocumentStart ∷ TAG (codes "!!") (codes "x") ∷ SCALAR (codes "a") ∷
    DocumentStart ∷ TAG (codes "!!") (codes "y") ∷ SCALAR (codes "b") ∷ StreamEnd ∷ [])) no_more (
    loaded (declaring (codes "!!") (codes "p:") ∷ []) false true 2 10 (tagged (codes "p:x") (codes "a") 6 9 ∷ []) ∷
    loaded [] false true 10 16 (tagged (codes "tag:yaml.org,2002:y") (codes "b") 12 15 ∷ []) ∷ no_root ∷ [])

abbrev pub VectorExplicitEnd : Type 0
VectorExplicitEnd = IsLoads (list (
    STREAM ∷ VERSION 1 1 ∷ DocumentStart ∷ SCALAR (codes "a") ∷ DocumentEnd ∷ SCALAR (codes "b") ∷ StreamEnd ∷ []))
    no_more (
    versioned (asks_version 1 1) [] false false 2 9 (text_node (codes "a") 6 7 ∷ []) ∷
    loaded [] true true 10 12 (text_node (codes "b") 10 11 ∷ []) ∷ no_root ∷ [])

abbrev pub VectorEmptyDocumentsLoaded : Type 0
VectorEmptyDocumentsLoaded = IsLoads (list (
    STREAM ∷ DocumentStart ∷ DocumentStart ∷ DocumentStart ∷ StreamEnd ∷ [])) no_more (
    loaded [] false true 2 4 (text_node [] 4 4 ∷ []) ∷ loaded [] false true 4 6 (text_node [] 6 6 ∷ []) ∷
    loaded [] false true 6 8 (text_node [] 8 8 ∷ []) ∷ no_root ∷ [])

-- Collections.
abbrev pub VectorPairs : Type 0
VectorPairs = IsLoads (list (
    STREAM ∷ FlowMappingStart ∷ Key ∷ SCALAR (codes "a") ∷ Value ∷ SCALAR (codes "b") ∷ FlowEntry ∷ SCALAR (codes "c") ∷
    FlowMappingEnd ∷ StreamEnd ∷ [])) no_more (
    implicit 18 (flow_mapping_node (pair 2 3 ∷ pair 4 5 ∷ []) 2 17 ∷ text_node (codes "a") 6 7 ∷ text_node (codes "b") 10 11 ∷
    text_node (codes "c") 14 15 ∷ text_node [] 16 16 ∷ []) ∷ no_root ∷ [])

-- a sequence as a value, and a mapping as a key; each collection ends at its own end
abbrev pub VectorCollectionsInPairs : Type 0
VectorCollectionsInPairs = IsLoads (list (
    STREAM ∷ BlockMappingStart ∷ Key ∷ FlowMappingStart ∷ FlowMappingEnd ∷ Value ∷ BlockSequenceStart ∷ BlockEntry ∷
    SCALAR (codes "a") ∷ BlockEntry ∷ SCALAR (codes "b") ∷ BlockEnd ∷ BlockEnd ∷ StreamEnd ∷ [])) no_more (
    implicit 26 (block_mapping (pair 2 3 ∷ []) 2 25 ∷ flow_mapping_node [] 6 9 ∷
    block_sequence (pos 4 ∷ pos 5 ∷ []) 12 23 ∷ text_node (codes "a") 16 17 ∷ text_node (codes "b") 20 21 ∷ []) ∷ no_root ∷ [])

-- Tags: the tag `!`, also of collections, and an empty one.
abbrev pub VectorTagThatIsAnExclamationMarkLoaded : Type 0
VectorTagThatIsAnExclamationMarkLoaded = IsLoads (list (
    STREAM ∷ TAG [] (codes "!") ∷ SCALAR (codes "b") ∷ StreamEnd ∷ [])) no_more (
    implicit 6 (text_node (codes "b") 2 5 ∷ []) ∷ no_root ∷ [])

abbrev pub VectorExclamationMarksOfCollections : Type 0
VectorExclamationMarksOfCollections = IsLoads (list (
    STREAM ∷ TAG [] (codes "!") ∷ FlowSequenceStart ∷ TAG [] (codes "!") ∷ FlowMappingStart ∷ FlowMappingEnd ∷
    FlowSequenceEnd ∷ StreamEnd ∷ [])) no_more (
    implicit 14 (flow_sequence_node (pos 2 ∷ []) 2 13 ∷ flow_mapping_node [] 6 11 ∷ []) ∷ no_root ∷ [])

abbrev pub VectorEmptyTagLoaded : Type 0
VectorEmptyTagLoaded = IsLoads (list (
    STREAM ∷ TAG [] [] ∷ SCALAR (codes "b") ∷ StreamEnd ∷ [])) no_more (
    implicit 6 (tagged [] (codes "b") 2 5 ∷ []) ∷ no_root ∷ [])

-- Aliases.
abbrev pub VectorHoldsItself : Type 0
VectorHoldsItself = IsLoads (list (
    STREAM ∷ ANCHOR (codes "a") ∷ FlowSequenceStart ∷ ALIAS (codes "a") ∷ FlowSequenceEnd ∷ StreamEnd ∷ [])) no_more (
    implicit 10 (flow_sequence_node (pos 1 ∷ []) 2 9 ∷ []) ∷ no_root ∷ [])

abbrev pub VectorItemTwice : Type 0
VectorItemTwice = IsLoads (list (
    STREAM ∷ ANCHOR (codes "a") ∷ FlowSequenceStart ∷ ALIAS (codes "a") ∷ FlowEntry ∷ ALIAS (codes "a") ∷
    FlowSequenceEnd ∷ StreamEnd ∷ [])) no_more (
    implicit 14 (flow_sequence_node (pos 1 ∷ pos 1 ∷ []) 2 13 ∷ []) ∷ no_root ∷ [])

-- a nested collection that holds itself, and stands a second time after its end: `[ &a [ *a ], *a ]`
abbrev pub VectorNestedHoldsItself : Type 0
VectorNestedHoldsItself = IsLoads (list (
    STREAM ∷ FlowSequenceStart ∷ ANCHOR (codes "a") ∷ FlowSequenceStart ∷ ALIAS (codes "a") ∷ FlowSequenceEnd ∷ FlowEntry ∷
    ALIAS (codes "a") ∷ FlowSequenceEnd ∷ StreamEnd ∷ [])) no_more (
    implicit 18 (flow_sequence_node (pos 2 ∷ pos 2 ∷ []) 2 17 ∷ flow_sequence_node (pos 2 ∷ []) 4 11 ∷ []) ∷ no_root ∷ [])

-- Composer errors.
abbrev pub VectorUndefinedAlias : Type 0
VectorUndefinedAlias = IsLoads (list (
    STREAM ∷ FlowSequenceStart ∷ ALIAS (codes "b") ∷ FlowSequenceEnd ∷ StreamEnd ∷ [])) no_more (no_anchored_node 4 ∷ [])

abbrev pub VectorSecondAliasUndefined : Type 0
VectorSecondAliasUndefined = IsLoads (list (
    STREAM ∷ ANCHOR (codes "a") ∷ FlowSequenceStart ∷ ALIAS (codes "a") ∷ FlowEntry ∷ ALIAS (codes "b") ∷
    FlowSequenceEnd ∷ StreamEnd ∷ [])) no_more (no_anchored_node 10 ∷ [])

abbrev pub VectorAnchorOfDocumentBefore : Type 0
VectorAnchorOfDocumentBefore = IsLoads (list (
    STREAM ∷ DocumentStart ∷ ANCHOR (codes "a") ∷ SCALAR (codes "x") ∷ DocumentStart ∷ ALIAS (codes "a") ∷
    StreamEnd ∷ [])) no_more (
    loaded [] false true 2 8 (text_node (codes "x") 4 7 ∷ []) ∷ no_anchored_node 10 ∷ [])

-- the parser's own error comes later, and is hidden
abbrev pub VectorSecondAnchor : Type 0
VectorSecondAnchor = IsLoads (list (
    STREAM ∷ FlowSequenceStart ∷ ANCHOR (codes "a") ∷ SCALAR (codes "x") ∷ FlowEntry ∷ ANCHOR (codes "a") ∷
    ALIAS (codes "b") ∷ FlowSequenceEnd ∷ StreamEnd ∷ [])) no_more (second_anchored_node 4 10 ∷ [])

-- Runs that an error cuts off: the parser's, and the source's after a whole document and within one.
abbrev pub VectorParserFault : Type 0
VectorParserFault = IsLoads (list (
    STREAM ∷ DocumentStart ∷ SCALAR (codes "x") ∷ DocumentStart ∷ FlowSequenceStart ∷ SCALAR (codes "a") ∷
    SCALAR (codes "b") ∷ FlowSequenceEnd ∷ StreamEnd ∷ [])) no_more (
    loaded [] false true 2 6 (text_node (codes "x") 4 5 ∷ []) ∷
    Err (says_while (codes "while parsing a flow sequence") 8 (codes "did not find expected ',' or ']'") 12) ∷ [])

abbrev pub VectorSourceEnds : Type 0
VectorSourceEnds = IsLoads (list (
    STREAM ∷ DocumentStart ∷ SCALAR (codes "a") ∷ DocumentStart ∷ SCALAR (codes "b") ∷ [])) no_more (
    loaded [] false true 2 6 (text_node (codes "a") 4 5 ∷ []) ∷ Err no_more ∷ [])

abbrev pub VectorUndefinedAliasBeforeSourceEnds : Type 0
VectorUndefinedAliasBeforeSourceEnds = IsLoads (list (
    STREAM ∷ FlowSequenceStart ∷ ALIAS (codes "b") ∷ [])) no_more (no_anchored_node 4 ∷ [])

-- Bounds: five nodes are within 5, and not within 4.
abbrev pub VectorNodesInBound : Type 0
VectorNodesInBound = IsBoundedLoads 5 (list (
    STREAM ∷ FlowMappingStart ∷ Key ∷ SCALAR (codes "a") ∷ Value ∷ SCALAR (codes "b") ∷ FlowEntry ∷ SCALAR (codes "c") ∷
    FlowMappingEnd ∷ StreamEnd ∷ [])) no_more (
    implicit 18 (flow_mapping_node (pair 2 3 ∷ pair 4 5 ∷ []) 2 17 ∷ text_node (codes "a") 6 7 ∷ text_node (codes "b") 10 11 ∷
    text_node (codes "c") 14 15 ∷ text_node [] 16 16 ∷ []) ∷ no_root ∷ [])

abbrev pub VectorNodesBeyondBound : Type 0
VectorNodesBeyondBound = IsBoundedLoads 4 (list (
    STREAM ∷ FlowMappingStart ∷ Key ∷ SCALAR (codes "a") ∷ Value ∷ SCALAR (codes "b") ∷ FlowEntry ∷ SCALAR (codes "c") ∷
    FlowMappingEnd ∷ StreamEnd ∷ [])) no_more (no_memory ∷ [])

abbrev pub VectorItemsBeyondBound : Type 0
VectorItemsBeyondBound = IsBoundedLoads 1 (list (
    STREAM ∷ ANCHOR (codes "a") ∷ FlowSequenceStart ∷ ALIAS (codes "a") ∷ FlowEntry ∷ ALIAS (codes "a") ∷
    FlowSequenceEnd ∷ StreamEnd ∷ [])) no_more (no_memory ∷ [])

-- the bound holds of each document alone
abbrev pub VectorBoundOfEachDocument : Type 0
VectorBoundOfEachDocument = IsBoundedLoads 1 (list (
    STREAM ∷ DocumentStart ∷ SCALAR (codes "a") ∷ DocumentStart ∷ SCALAR (codes "b") ∷ StreamEnd ∷ [])) no_more (
    loaded [] false true 2 6 (text_node (codes "a") 4 5 ∷ []) ∷ loaded [] false true 6 10
    (text_node (codes "b") 8 9 ∷ []) ∷ no_root ∷ [])

-- the third node is beyond the bound, and its anchor is one that the second carries
abbrev pub VectorBoundBeforeAnchor : Type 0
VectorBoundBeforeAnchor = IsBoundedLoads 2 (list (
    STREAM ∷ FlowSequenceStart ∷ ANCHOR (codes "a") ∷ SCALAR (codes "x") ∷ FlowEntry ∷ ANCHOR (codes "a") ∷
    SCALAR (codes "y") ∷ FlowSequenceEnd ∷ StreamEnd ∷ [])) no_more (no_memory ∷ [])

-- the item is beyond the bound, and its alias is undefined
abbrev pub VectorAliasBeforeBound : Type 0
VectorAliasBeforeBound = IsBoundedLoads 1 (list (
    STREAM ∷ ANCHOR (codes "a") ∷ FlowSequenceStart ∷ ALIAS (codes "a") ∷ FlowEntry ∷ ALIAS (codes "b") ∷
    FlowSequenceEnd ∷ StreamEnd ∷ [])) no_more (no_anchored_node 10 ∷ [])

-- One pair is within 1, though its value comes where the list is full. The second is beyond it at its key, so that the
-- undefined alias after it is never reached; within 2 it is.
abbrev pub VectorPairInBound : Type 0
VectorPairInBound = IsBoundedLoads 1 (list (
    STREAM ∷ ANCHOR (codes "a") ∷ FlowMappingStart ∷ Key ∷ ALIAS (codes "a") ∷ Value ∷ ALIAS (codes "a") ∷
    FlowMappingEnd ∷ StreamEnd ∷ [])) no_more (
    implicit 16 (flow_mapping_node (pair 1 1 ∷ []) 2 15 ∷ []) ∷ no_root ∷ [])

abbrev pub VectorKeyBeyondBound : Type 0
VectorKeyBeyondBound = IsBoundedLoads 1 (list (
    STREAM ∷ ANCHOR (codes "a") ∷ FlowMappingStart ∷ Key ∷ ALIAS (codes "a") ∷ Value ∷ ALIAS (codes "a") ∷ FlowEntry ∷
    Key ∷ ALIAS (codes "a") ∷ Value ∷ ALIAS (codes "b") ∷ FlowMappingEnd ∷ StreamEnd ∷ [])) no_more (no_memory ∷ [])

abbrev pub VectorUndefinedAliasAfterKey : Type 0
VectorUndefinedAliasAfterKey = IsBoundedLoads 2 (list (
    STREAM ∷ ANCHOR (codes "a") ∷ FlowMappingStart ∷ Key ∷ ALIAS (codes "a") ∷ Value ∷ ALIAS (codes "a") ∷ FlowEntry ∷
    Key ∷ ALIAS (codes "a") ∷ Value ∷ ALIAS (codes "b") ∷ FlowMappingEnd ∷ StreamEnd ∷ [])) no_more (no_anchored_node 22 ∷ [])

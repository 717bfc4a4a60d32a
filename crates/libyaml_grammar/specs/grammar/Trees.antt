-- Derivation trees and their tokens (YAML 1.1, chapters 7, 8 and 10; docs/DEFINITIONS.md, "Derivation trees").
-- Trees are typed by what may stand where, so each value of these types is a tree of the grammar.
-- Lists grow to the right, as "the items so far, and one more".
use Rattle.std.specs.Prelude.{List, [], ◌∷◌, Option, Some, None}
use Rattle.libyaml_grammar.specs.grammar.Tokens.{Marks, Content, Token, tok, StreamHead, VersionAsked, HandleDeclared, AliasName, AnchorName, TagName, ScalarText, StreamStart, StreamEnd, VersionDirective, TagDirective, DocumentStart, DocumentEnd, BlockSequenceStart, BlockMappingStart, BlockEnd}
use Rattle.libyaml_grammar.specs.grammar.Tokens.{FlowSequenceStart, FlowSequenceEnd, FlowMappingStart, FlowMappingEnd, BlockEntry, FlowEntry, Key, Value, Alias, Anchor, Tag, Scalar}

-- A node's properties (YAML 1.1, 8.1 and 8.2): an anchor, a tag, or both in either order.
pub data Properties : Type 0 where
  anchor : AnchorName → Marks → Properties
  tag : TagName → Marks → Properties
  anchor_tag : AnchorName → Marks → TagName → Marks → Properties
  tag_anchor : TagName → Marks → AnchorName → Marks → Properties

-- the two kinds of collections
pub data Sort : Type 0 where
  sequence mapping : Sort

-- what a part of a block mapping is
pub data Role : Type 0 where
  key value : Role

mutual
  -- A flow node (YAML 1.1, 8.5.1 and 10): an alias, properties alone, a scalar of any style, or a flow
  -- collection with its opening token, its entries and its closing token.
  pub data FlowNode : Type 0 where
    alias : AliasName → Marks → FlowNode
    alone : Properties → FlowNode
    scalar : Option Properties → ScalarText → Marks → FlowNode
    collection : Option Properties → Sort → Marks → FlowItems → FlowLast → Marks → FlowNode

  -- entries, each with the FLOW-ENTRY after it
  pub data FlowItems : Type 0 where
    no_items : FlowItems
    more_items : FlowItems → FlowMember → Marks → FlowItems

  -- a last entry with no FLOW-ENTRY after it, or none
  pub data FlowLast : Type 0 where
    no_last : FlowLast
    last : FlowMember → FlowLast

  -- an entry: a node, or a pair with its KEY, and with a VALUE or without one
  pub data FlowMember : Type 0 where
    single : FlowNode → FlowMember
    pair : Marks → FlowSlot → FlowValue → FlowMember

  -- a node, or nothing
  pub data FlowSlot : Type 0 where
    flow_nothing : FlowSlot
    flow_node : FlowNode → FlowSlot

  pub data FlowValue : Type 0 where
    no_value : FlowValue
    with_value : Marks → FlowSlot → FlowValue

mutual
  -- A block node (YAML 1.1, 8.5.2 and 10): a flow node, or a block collection with its tokens.
  pub data BlockNode : Type 0 where
    flow : FlowNode → BlockNode
    block_sequence : Option Properties → Marks → BlockItems → Marks → BlockNode
    block_mapping : Option Properties → Marks → Parts → Marks → BlockNode

  pub data BlockSlot : Type 0 where
    nothing : BlockSlot
    node : BlockNode → BlockSlot

  -- entries, each with its BLOCK-ENTRY
  pub data BlockItems : Type 0 where
    empty : BlockItems
    item : BlockItems → Marks → BlockSlot → BlockItems

  -- A key or value of a block mapping: a node or nothing, or a sequence without tokens of its own (YAML 1.1,
  -- 10.1.2), which has at least one entry.
  pub data Slot : Type 0 where
    slot_of : BlockSlot → Slot
    indentless : Option Properties → BlockItems → Marks → BlockSlot → Slot

  -- The keys and values of a block mapping, in any order. A value after a key is that key's value. Any other
  -- value has an empty key, and a key with no value after it an empty value.
  pub data Parts : Type 0 where
    no_parts : Parts
    part : Parts → Role → Marks → Slot → Parts

-- a collection with an opening and a closing token
abbrev pub IsCollection : BlockNode → Type 0
IsCollection (flow (collection o k m is l n)) = Unit {0}
IsCollection (flow _) = ⊥
IsCollection (block_sequence o m is n) = Unit {0}
IsCollection (block_mapping o m ps n) = Unit {0}

-- a directive (YAML 1.1, 7.1)
pub data Directive : Type 0 where
  version : VersionAsked → Marks → Directive
  tag_directive : HandleDeclared → Marks → Directive

pub data Directives : Type 0 where
  no_directives : Directives
  directive : Directives → Directive → Directives

mutual
  -- Whole documents (YAML 1.1, 7.3), the last with no DOCUMENT-END. Without its own DOCUMENT-START a
  -- document's root is a node; with it the root may be nothing.
  pub data Documents : Type 0 where
    implicit : Free → BlockNode → Documents
    explicit : Before → Directives → Marks → BlockSlot → Documents

  -- what stands before a document that has no DOCUMENT-START: the stream's start, or a DOCUMENT-END
  pub data Free : Type 0 where
    opened : StreamHead → Marks → Free
    ended : Ended → Free

  -- whole documents, the last with one DOCUMENT-END or more
  pub data Ended : Type 0 where
    once : Documents → Marks → Ended
    again : Ended → Marks → Ended

  -- what stands before a document that has its DOCUMENT-START, and before the stream's end
  pub data Before : Type 0 where
    free : Free → Before
    following : Documents → Before

-- a stream (YAML 1.1, 7.4)
pub data Stream : Type 0 where
  whole : Before → Marks → Stream

-- The tokens of each part of a tree, and after them the list r.
abbrev pub properties_tokens : Properties → List Token → List Token
properties_tokens (anchor a m) r = tok (Anchor a) m ∷ r
properties_tokens (tag h m) r = tok (Tag h) m ∷ r
properties_tokens (anchor_tag a m h n) r = tok (Anchor a) m ∷ tok (Tag h) n ∷ r
properties_tokens (tag_anchor h m a n) r = tok (Tag h) m ∷ tok (Anchor a) n ∷ r

abbrev pub option_tokens : Option Properties → List Token → List Token
option_tokens None r = r
option_tokens (Some p) r = properties_tokens p r

abbrev pub opening : Sort → Content
opening sequence = FlowSequenceStart
opening mapping = FlowMappingStart

abbrev pub closing : Sort → Content
closing sequence = FlowSequenceEnd
closing mapping = FlowMappingEnd

abbrev pub role_token : Role → Content
role_token key = Key
role_token value = Value

abbrev mutual
  pub flow_node_tokens : FlowNode → List Token → List Token
  flow_node_tokens (alias a m) r = tok (Alias a) m ∷ r
  flow_node_tokens (alone p) r = properties_tokens p r
  flow_node_tokens (scalar o v m) r = option_tokens o (tok (Scalar v) m ∷ r)
  flow_node_tokens (collection o k m is l n) r =
      option_tokens o (tok (opening k) m ∷ flow_items_tokens is (flow_last_tokens l (tok (closing k) n ∷ r)))

  pub flow_items_tokens : FlowItems → List Token → List Token
  flow_items_tokens no_items r = r
  flow_items_tokens (more_items is e m) r = flow_items_tokens is (flow_member_tokens e (tok FlowEntry m ∷ r))

  pub flow_last_tokens : FlowLast → List Token → List Token
  flow_last_tokens no_last r = r
  flow_last_tokens (last e) r = flow_member_tokens e r

  pub flow_member_tokens : FlowMember → List Token → List Token
  flow_member_tokens (single n) r = flow_node_tokens n r
  flow_member_tokens (pair m k v) r = tok Key m ∷ flow_slot_tokens k (flow_value_tokens v r)

  pub flow_slot_tokens : FlowSlot → List Token → List Token
  flow_slot_tokens flow_nothing r = r
  flow_slot_tokens (flow_node n) r = flow_node_tokens n r

  pub flow_value_tokens : FlowValue → List Token → List Token
  flow_value_tokens no_value r = r
  flow_value_tokens (with_value m v) r = tok Value m ∷ flow_slot_tokens v r

abbrev mutual
  pub block_node_tokens : BlockNode → List Token → List Token
  block_node_tokens (flow n) r = flow_node_tokens n r
  block_node_tokens (block_sequence o m is n) r =
      option_tokens o (tok BlockSequenceStart m ∷ items_tokens is (tok BlockEnd n ∷ r))
  block_node_tokens (block_mapping o m ps n) r =
      option_tokens o (tok BlockMappingStart m ∷ parts_tokens ps (tok BlockEnd n ∷ r))

  pub block_slot_tokens : BlockSlot → List Token → List Token
  block_slot_tokens nothing r = r
  block_slot_tokens (node n) r = block_node_tokens n r

  pub items_tokens : BlockItems → List Token → List Token
  items_tokens empty r = r
  items_tokens (item is m n) r = items_tokens is (tok BlockEntry m ∷ block_slot_tokens n r)

  pub slot_tokens : Slot → List Token → List Token
  slot_tokens (slot_of n) r = block_slot_tokens n r
  slot_tokens (indentless o is m n) r = option_tokens o (items_tokens is (tok BlockEntry m ∷ block_slot_tokens n r))

  pub parts_tokens : Parts → List Token → List Token
  parts_tokens no_parts r = r
  parts_tokens (part ps k m x) r = parts_tokens ps (tok (role_token k) m ∷ slot_tokens x r)

abbrev pub directive_token : Directive → Token
directive_token (version a m) = tok (VersionDirective a) m
directive_token (tag_directive h m) = tok (TagDirective h) m

abbrev pub directives_tokens : Directives → List Token → List Token
directives_tokens no_directives r = r
directives_tokens (directive ds d) r = directives_tokens ds (directive_token d ∷ r)

abbrev mutual
  pub documents_tokens : Documents → List Token → List Token
  documents_tokens (implicit f n) r = free_tokens f (block_node_tokens n r)
  documents_tokens (explicit b ds m n) r =
      before_tokens b (directives_tokens ds (tok DocumentStart m ∷ block_slot_tokens n r))

  pub free_tokens : Free → List Token → List Token
  free_tokens (opened e m) r = tok (StreamStart e) m ∷ r
  free_tokens (ended e) r = ended_tokens e r

  pub ended_tokens : Ended → List Token → List Token
  ended_tokens (once d m) r = documents_tokens d (tok DocumentEnd m ∷ r)
  ended_tokens (again e m) r = ended_tokens e (tok DocumentEnd m ∷ r)

  pub before_tokens : Before → List Token → List Token
  before_tokens (free f) r = free_tokens f r
  before_tokens (following d) r = documents_tokens d r

abbrev pub stream_tokens : Stream → List Token → List Token
stream_tokens (whole b m) r = before_tokens b (tok StreamEnd m ∷ r)

-- the tokens of a tree, in order
abbrev pub tokens : Stream → List Token
tokens t = stream_tokens t []

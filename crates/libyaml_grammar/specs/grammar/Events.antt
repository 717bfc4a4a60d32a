-- The events of a tree (docs/DEFINITIONS.md, "Events"). A mark m is the start of the first token after the part,
-- and r are the events after it.
use Rattle.std.specs.Prelude.{ℕ, List, [], ◌∷◌, ◌++◌, Option, Some, None, Bool, true, false, cond, codes, bytes_eq}
use Rattle.libyaml_types.specs.declared.event.yaml_event_t.{yaml_event_t}
use Rattle.libyaml_types.specs.declared.event.unnamed_yaml_event_t_data.{unnamed_yaml_event_t_data}
use Rattle.libyaml_types.specs.declared.event.unnamed_yaml_event_t_data.TheVariants as ev
use Rattle.libyaml_types.specs.declared.directive.yaml_version_directive_t.{yaml_version_directive_t}
use Rattle.libyaml_types.specs.declared.directive.yaml_tag_directive_t.{yaml_tag_directive_t}
use Rattle.libyaml_types.specs.declared.enums.yaml_scalar_style_t.{yaml_scalar_style_t}
use Rattle.libyaml_types.specs.declared.enums.yaml_scalar_style_t.TheVariants.{YAML_PLAIN_SCALAR_STYLE}
use Rattle.libyaml_types.specs.declared.enums.yaml_sequence_style_t.{yaml_sequence_style_t}
use Rattle.libyaml_types.specs.declared.enums.yaml_sequence_style_t.TheVariants.{YAML_BLOCK_SEQUENCE_STYLE, YAML_FLOW_SEQUENCE_STYLE}
use Rattle.libyaml_types.specs.declared.enums.yaml_mapping_style_t.{yaml_mapping_style_t}
use Rattle.libyaml_types.specs.declared.enums.yaml_mapping_style_t.TheVariants.{YAML_BLOCK_MAPPING_STYLE, YAML_FLOW_MAPPING_STYLE}
use Rattle.libyaml_grammar.specs.grammar.Tokens.{Mark, Marks, StreamHead, HandleDeclared, AliasName, TagName, ScalarText}
use Rattle.libyaml_grammar.specs.grammar.Trees.{Properties, Sort, Role, FlowNode, FlowItems, FlowLast, FlowMember, FlowSlot, BlockNode, BlockSlot, BlockItems, Slot, Parts, Directive, Directives, Documents, Free, Ended, Before, Stream, anchor, tag, anchor_tag, tag_anchor, sequence, mapping, key}
use Rattle.libyaml_grammar.specs.grammar.Trees.{value, alias, alone, scalar, collection, no_items, more_items, no_last, last, single, pair, flow_nothing, flow_node, no_value, with_value, flow, block_sequence, block_mapping, nothing, node, empty, item, slot_of, indentless, no_parts, part, version}
use Rattle.libyaml_grammar.specs.grammar.Trees.{tag_directive, no_directives, directive, implicit, explicit, opened, ended, once, again, free, following, whole}

abbrev pub Event : Type 0
Event = yaml_event_t

abbrev pub event : unnamed_yaml_event_t_data → Mark → Mark → Event
event k m n = record { content = k; start_mark = m; end_mark = n }

-- whether a collection is written in block or in flow style
pub data Layout : Type 0 where
  block_layout flow_layout : Layout

abbrev pub sequence_style : Layout → yaml_sequence_style_t
sequence_style block_layout = YAML_BLOCK_SEQUENCE_STYLE
sequence_style flow_layout = YAML_FLOW_SEQUENCE_STYLE

abbrev pub mapping_style : Layout → yaml_mapping_style_t
mapping_style block_layout = YAML_BLOCK_MAPPING_STYLE
mapping_style flow_layout = YAML_FLOW_MAPPING_STYLE

-- the events of the stream, whose start has two equal marks
abbrev pub stream_start_at : StreamHead → Mark → Mark → Event
stream_start_at h m n = event (ev.StreamStart (record { encoding = h.encoding })) m n

abbrev pub stream_end_at : Mark → Mark → Event
stream_end_at m n = event ev.StreamEnd m n

-- the version of a document, if a directive asks for one
abbrev pub version_of : Directives → Option yaml_version_directive_t
version_of no_directives = None
version_of (directive ds (version v m)) = Some (record { major = v.major; minor = v.minor })
version_of (directive ds (tag_directive h m)) = version_of ds

abbrev pub declaration : HandleDeclared → yaml_tag_directive_t
declaration h = record { handle = h.handle; prefix = h.prefix }

-- the tag directives of a document in the order of their tokens, and after them the list r
abbrev pub tag_directives_then : Directives → List yaml_tag_directive_t → List yaml_tag_directive_t
tag_directives_then no_directives r = r
tag_directives_then (directive ds (version v m)) r = tag_directives_then ds r
tag_directives_then (directive ds (tag_directive h m)) r = tag_directives_then ds (declaration h ∷ r)

abbrev pub tag_directives_of : Directives → List yaml_tag_directive_t
tag_directives_of ds = tag_directives_then ds []

-- the events of a document: its start carries its directives, and is implicit without a DOCUMENT-START
abbrev pub document_start_at : Directives → (is_implicit : Bool) → Mark → Mark → Event
document_start_at ds i m n =
    event (ev.DocumentStart (record {
      version_directive = version_of ds;
      tag_directives = tag_directives_of ds;
      implicit = i;
    })) m n

abbrev pub document_end_at : (is_implicit : Bool) → Mark → Mark → Event
document_end_at i m n = event (ev.DocumentEnd (record { implicit = i })) m n

abbrev pub alias_at : AliasName → Mark → Mark → Event
alias_at a m n = event (ev.Alias (record { anchor = a.value })) m n

abbrev pub scalar_at : (anchor tag : Option (List ℕ)) → (value : List ℕ) → (plain_implicit quoted_implicit : Bool)
    → yaml_scalar_style_t → Mark → Mark → Event
scalar_at a t v p q s m n =
    event (ev.Scalar (record {
      anchor = a;
      tag = t;
      value = v;
      plain_implicit = p;
      quoted_implicit = q;
      style =
          s;
    })) m n

-- the start and the end of a collection
abbrev pub start_content : Sort → (anchor tag : Option (List ℕ)) → (implicit : Bool) → Layout → unnamed_yaml_event_t_data
start_content sequence a t i s = ev.SequenceStart (record { anchor = a; tag = t; implicit = i; style = sequence_style s })
start_content mapping a t i s = ev.MappingStart (record { anchor = a; tag = t; implicit = i; style = mapping_style s })

abbrev pub start_at : Sort → (anchor tag : Option (List ℕ)) → (implicit : Bool) → Layout → Mark → Mark → Event
start_at k a t i s m n = event (start_content k a t i s) m n

abbrev pub end_content : Sort → unnamed_yaml_event_t_data
end_content sequence = ev.SequenceEnd
end_content mapping = ev.MappingEnd

abbrev pub end_at : Sort → Mark → Mark → Event
end_at k m n = event (end_content k) m n

-- The tag of a handle and a suffix (YAML 1.1, 7.1.2 and 8.2; docs/DEFINITIONS.md, "Tags").
-- the prefixes that need no directive, and nothing for a handle that has none
abbrev pub default_prefix : List ℕ → List ℕ
default_prefix h = elim (bytes_eq (codes "!") h) [
  | true ↦ codes "!"
  | false ↦ elim (bytes_eq (codes "!!") h) [ true ↦ codes "tag:yaml.org,2002:" | false ↦ [] ]
]

-- the prefix of a handle: by the document's own directives first
abbrev pub prefix_of : Directives → List ℕ → List ℕ
prefix_of no_directives h = default_prefix h
prefix_of (directive ds (version v m)) h = prefix_of ds h
prefix_of (directive ds (tag_directive d m)) h = elim (bytes_eq d.handle h) [ true ↦ d.prefix | false ↦ prefix_of ds h ]

-- a suffix with an empty handle is the whole tag
abbrev pub tag_from : Directives → (handle suffix : List ℕ) → List ℕ
tag_from ds [] s = s
tag_from ds (x ∷ h) s = prefix_of ds (x ∷ h) ++ s

abbrev pub resolved : Directives → TagName → List ℕ
resolved ds t = tag_from ds t.handle t.suffix

abbrev pub tag_of : Directives → Option Properties → Option (List ℕ)
tag_of ds None = None
tag_of ds (Some (anchor a m)) = None
tag_of ds (Some (tag t m)) = Some (resolved ds t)
tag_of ds (Some (anchor_tag a m t n)) = Some (resolved ds t)
tag_of ds (Some (tag_anchor t m a n)) = Some (resolved ds t)

abbrev pub anchor_of : Option Properties → Option (List ℕ)
anchor_of None = None
anchor_of (Some (anchor a m)) = Some a.value
anchor_of (Some (tag t m)) = None
anchor_of (Some (anchor_tag a m t n)) = Some a.value
anchor_of (Some (tag_anchor t m a n)) = Some a.value

-- where properties begin and end
abbrev pub first_of_properties : Properties → Mark
first_of_properties (anchor a m) = m.start
first_of_properties (tag t m) = m.start
first_of_properties (anchor_tag a m t n) = m.start
first_of_properties (tag_anchor t m a n) = m.start

abbrev pub last_of_properties : Properties → Mark
last_of_properties (anchor a m) = m.end
last_of_properties (tag t m) = m.end
last_of_properties (anchor_tag a m t n) = n.end
last_of_properties (tag_anchor t m a n) = n.end

abbrev pub first_of : Option Properties → Mark → Mark
first_of None m = m
first_of (Some p) m = first_of_properties p

-- The flags: when a tag may be left out (docs/DEFINITIONS.md, "Flags"). No tag, or an empty one:
abbrev pub is_missing : Option (List ℕ) → Bool
is_missing None = true
is_missing (Some []) = true
is_missing (Some (x ∷ xs)) = false

abbrev pub is_plain : yaml_scalar_style_t → Bool
is_plain YAML_PLAIN_SCALAR_STYLE = true
is_plain _ = false

-- no tag and plain, or the tag `!`
abbrev pub plain_flag : Option (List ℕ) → yaml_scalar_style_t → Bool
plain_flag None s = is_plain s
plain_flag (Some t) s = bytes_eq t (codes "!")

-- no tag and not plain
abbrev pub quoted_flag : Option (List ℕ) → yaml_scalar_style_t → Bool
quoted_flag None s = cond (is_plain s) false true
quoted_flag (Some t) s = false

-- The event of a scalar, from its first property or its own start to its end.
abbrev pub scalar_of : Directives → Option Properties → ScalarText → Marks → Event
scalar_of ds o v m = scalar_at (anchor_of o) (tag_of ds o) v.value (plain_flag (tag_of ds o) v.style)
    (quoted_flag (tag_of ds o) v.style) v.style
    (first_of o m.start) m.end

-- properties alone are an empty plain scalar
abbrev pub alone_of : Directives → Properties → Event
alone_of ds p = scalar_at (anchor_of (Some p)) (tag_of ds (Some p)) [] (is_missing (tag_of ds (Some p))) false
    YAML_PLAIN_SCALAR_STYLE (first_of_properties p)
    (last_of_properties p)

-- nothing is an empty plain scalar with two equal marks
abbrev pub empty_at : Mark → Event
empty_at m = scalar_at None None [] true false YAML_PLAIN_SCALAR_STYLE m m

abbrev pub start_of : Directives → Sort → Layout → Option Properties → Marks → Event
start_of ds k s o m = start_at k (anchor_of o) (tag_of ds o) (is_missing (tag_of ds o)) s (first_of o m.start) m.end

abbrev pub end_of : Sort → Marks → Event
end_of k m = end_at k m.start m.end

-- In a flow sequence a pair is a mapping of its own; in a flow mapping an entry is a pair, and a node alone lacks
-- its value.
abbrev pub opens_pair : Sort → Marks → List Event → List Event
opens_pair sequence m r = start_at mapping None None true flow_layout m.start m.end ∷ r
opens_pair mapping m r = r

abbrev pub closes_pair : Sort → Mark → List Event → List Event
closes_pair sequence m r = end_at mapping m m ∷ r
closes_pair mapping m r = r

abbrev pub closes_single : Sort → Mark → List Event → List Event
closes_single sequence m r = r
closes_single mapping m r = empty_at m ∷ r

-- the events after the nodes of an entry
abbrev pub member_end : Sort → FlowMember → Mark → List Event → List Event
member_end k (single n) m r = closes_single k m r
member_end k (pair s x no_value) m r = empty_at m ∷ closes_pair k m r
member_end k (pair s x (with_value v y)) m r = closes_pair k m r

-- The events of nodes. A part of a block mapping has its empty scalar at the end of its KEY or VALUE, an entry of a
-- sequence at the end of its BLOCK-ENTRY, and what has no indicator of its own at m.
abbrev mutual
  pub flow_node_events : Directives → FlowNode → List Event → List Event
  flow_node_events ds (alias a m) r = alias_at a m.start m.end ∷ r
  flow_node_events ds (alone p) r = alone_of ds p ∷ r
  flow_node_events ds (scalar o v m) r = scalar_of ds o v m ∷ r
  flow_node_events ds (collection o k m is l n) r = start_of ds k flow_layout o m ∷ flow_items_events ds k is
      (flow_last_events ds k l n.start (end_of k n ∷ r))

  pub flow_items_events : Directives → Sort → FlowItems → List Event → List Event
  flow_items_events ds k no_items r = r
  flow_items_events ds k (more_items is e m) r =
      flow_items_events ds k is (flow_member_events ds k e m.start (member_end k e m.start r))

  pub flow_last_events : Directives → Sort → FlowLast → Mark → List Event → List Event
  flow_last_events ds k no_last m r = r
  flow_last_events ds k (last e) m r = flow_member_events ds k e m (member_end k e m r)

  pub flow_member_events : Directives → Sort → FlowMember → Mark → List Event → List Event
  flow_member_events ds k (single n) m r = flow_node_events ds n r
  flow_member_events ds k (pair s x no_value) m r = opens_pair k s (flow_slot_events ds x m r)
  flow_member_events ds k (pair s x (with_value v y)) m r =
      opens_pair k s (flow_slot_events ds x v.start (flow_slot_events ds y m r))

  pub flow_slot_events : Directives → FlowSlot → Mark → List Event → List Event
  flow_slot_events ds flow_nothing m r = empty_at m ∷ r
  flow_slot_events ds (flow_node n) m r = flow_node_events ds n r

-- A key with no value after it lacks its value, and a value with no such key before it its key.
abbrev pub missing_value : Parts → Mark → List Event → List Event
missing_value no_parts m r = r
missing_value (part ps key v x) m r = empty_at m ∷ r
missing_value (part ps value v x) m r = r

abbrev pub missing_key : Parts → Mark → List Event → List Event
missing_key no_parts m r = empty_at m ∷ r
missing_key (part ps key v x) m r = r
missing_key (part ps value v x) m r = empty_at m ∷ r

-- before a part of a role, whose token begins at m
abbrev pub before_part : Parts → Role → Mark → List Event → List Event
before_part ps key m r = missing_value ps m r
before_part ps value m r = missing_key ps m r

-- the first BLOCK-ENTRY of a sequence without tokens of its own, where m is the last
abbrev pub first_block_entry : BlockItems → Marks → Marks
first_block_entry empty m = m
first_block_entry (item is e n) m = first_block_entry is e

abbrev mutual
  pub block_node_events : Directives → BlockNode → List Event → List Event
  block_node_events ds (flow n) r = flow_node_events ds n r
  block_node_events ds (block_sequence o m is n) r = start_of ds sequence block_layout o m ∷ items_events ds is
      (end_of sequence n ∷ r)
  block_node_events ds (block_mapping o m ps n) r = start_of ds mapping block_layout o m
      ∷ parts_events ds ps n.start (missing_value ps n.start (end_of mapping n ∷ r))

  pub block_slot_events : Directives → BlockSlot → Mark → List Event → List Event
  block_slot_events ds nothing m r = empty_at m ∷ r
  block_slot_events ds (node n) m r = block_node_events ds n r

  pub items_events : Directives → BlockItems → List Event → List Event
  items_events ds empty r = r
  items_events ds (item is e n) r = items_events ds is (block_slot_events ds n e.end r)

  pub slot_events : Directives → Slot → Mark → Mark → List Event → List Event
  slot_events ds (slot_of n) e m r = block_slot_events ds n e r
  slot_events ds (indentless o is s n) e m r = start_of ds sequence block_layout o (first_block_entry is s)
      ∷ items_events ds is (block_slot_events ds n s.end (end_at sequence m m ∷ r))

  pub parts_events : Directives → Parts → Mark → List Event → List Event
  parts_events ds no_parts m r = r
  parts_events ds (part ps k v x) m r = parts_events ds ps v.start (before_part ps k v.start (slot_events ds x v.end m r))

-- where a tree's first token starts
abbrev pub first_flow : FlowNode → Mark
first_flow (alias a m) = m.start
first_flow (alone p) = first_of_properties p
first_flow (scalar o v m) = first_of o m.start
first_flow (collection o k m is l n) = first_of o m.start

abbrev pub first_block : BlockNode → Mark
first_block (flow n) = first_flow n
first_block (block_sequence o m is n) = first_of o m.start
first_block (block_mapping o m ps n) = first_of o m.start

abbrev pub directive_start : Directive → Mark
directive_start (version a m) = m.start
directive_start (tag_directive h m) = m.start

abbrev pub first_directive : Directives → Mark → Mark
first_directive no_directives m = m
first_directive (directive ds d) m = first_directive ds (directive_start d)

-- The events of documents. The first DOCUMENT-END is a document's end; the others are skipped.
abbrev mutual
  pub documents_events : Documents → Mark → List Event → List Event
  documents_events (implicit f n) m r
      = free_events f (document_start_at no_directives true (first_block n) (first_block n) ∷ block_node_events
      no_directives n r)
  documents_events (explicit b ds s n) m r
      = before_events b (first_directive ds s.start)
      (document_start_at ds false (first_directive ds s.start) s.end ∷ block_slot_events ds n m r)

  pub free_events : Free → List Event → List Event
  free_events (opened e m) r = stream_start_at e m.start m.start ∷ r
  free_events (ended e) r = ended_events e r

  pub ended_events : Ended → List Event → List Event
  ended_events (once d m) r = documents_events d m.start (document_end_at false m.start m.end ∷ r)
  ended_events (again e m) r = ended_events e r

  pub before_events : Before → Mark → List Event → List Event
  before_events (free f) m r = free_events f r
  before_events (following d) m r = documents_events d m (document_end_at true m m ∷ r)

abbrev pub stream_events : Stream → List Event → List Event
stream_events (whole b m) r = before_events b m.start (stream_end_at m.start m.end ∷ r)

-- the events of a tree
abbrev pub events : Stream → List Event
events t = stream_events t []

-- Documents in order (YAML 1.1, 7.1 and 8.2; docs/DEFINITIONS.md, "Documents in order"): directives that agree with
-- one another, and tags whose handles are known. Each test returns what holds of its part and, as b, of what
-- follows it.
use Rattle.std.specs.Prelude.{ℕ, ℤ, pos, List, [], ◌∷◌, Option, Some, None, Bool, true, false, codes, ◌&&◌, ◌||◌, not, bytes_eq}
use Rattle.std.specs.Ordering.{int_eq}
use Rattle.libyaml_grammar.specs.grammar.Trees.{Before, BlockItems, BlockNode, BlockSlot, Directive, Directives, Documents, Ended, FlowItems, FlowLast, FlowMember, FlowNode, FlowSlot, FlowValue, Free, Parts, Properties, Slot, Stream, again, alias, alone, anchor, anchor_tag, following, block_mapping}
use Rattle.libyaml_grammar.specs.grammar.Trees.{block_sequence, collection, directive, empty, ended, explicit, flow, flow_node, flow_nothing, free, implicit, indentless, item, last, more_items, no_directives, no_items, no_last, no_parts, no_value, node, nothing, once, opened, pair, part, scalar}
use Rattle.libyaml_grammar.specs.grammar.Trees.{single, slot_of, tag, tag_anchor, tag_directive, version, whole, with_value}

-- A document asks for at most one version, and that is one that is accepted.
abbrev pub no_version : Directives → Bool
no_version no_directives = true
no_version (directive ds (version v m)) = false
no_version (directive ds (tag_directive h m)) = no_version ds

-- Of major version 1 the minor versions 1 and 2. YAML 1.1 (7.1.1) has a parser accept 1.1, process a higher minor version
-- with a warning, and refuse a higher major one; there is no warning here, and as in libyaml 1.0 and 1.3 are refused.
abbrev pub is_accepted : (major minor : ℤ) → Bool
is_accepted major minor = int_eq major (pos 1) && (int_eq minor (pos 1) || int_eq minor (pos 2))

-- A document declares a handle at most once.
abbrev pub declares : Directives → List ℕ → Bool
declares no_directives h = false
declares (directive ds (version v m)) h = declares ds h
declares (directive ds (tag_directive d m)) h = bytes_eq d.handle h || declares ds h

abbrev pub admits : Directives → Directive → Bool
admits ds (version v m) = no_version ds && is_accepted v.major v.minor
admits ds (tag_directive d m) = not (declares ds d.handle)

-- A handle is known if it is empty, declared in its document, `!` or `!!`.
abbrev pub is_known : Directives → List ℕ → Bool
is_known ds [] = true
is_known ds (x ∷ h) = declares ds (x ∷ h) || (bytes_eq (codes "!") (x ∷ h) || bytes_eq (codes "!!") (x ∷ h))

-- The handles of a part are known to the directives ds of its document.
abbrev pub properties_in_order : Directives → Properties → Bool → Bool
properties_in_order ds (anchor a m) b = b
properties_in_order ds (tag h m) b = is_known ds h.handle && b
properties_in_order ds (anchor_tag a m h n) b = is_known ds h.handle && b
properties_in_order ds (tag_anchor h m a n) b = is_known ds h.handle && b

abbrev pub option_in_order : Directives → Option Properties → Bool → Bool
option_in_order ds None b = b
option_in_order ds (Some p) b = properties_in_order ds p b

abbrev mutual
  pub flow_node_in_order : Directives → FlowNode → Bool → Bool
  flow_node_in_order ds (alias a m) b = b
  flow_node_in_order ds (alone p) b = properties_in_order ds p b
  flow_node_in_order ds (scalar o v m) b = option_in_order ds o b
  flow_node_in_order ds (collection o k m is l n) b =
      option_in_order ds o (flow_items_in_order ds is (flow_last_in_order ds l b))

  pub flow_items_in_order : Directives → FlowItems → Bool → Bool
  flow_items_in_order ds no_items b = b
  flow_items_in_order ds (more_items is e m) b = flow_items_in_order ds is (flow_member_in_order ds e b)

  pub flow_last_in_order : Directives → FlowLast → Bool → Bool
  flow_last_in_order ds no_last b = b
  flow_last_in_order ds (last e) b = flow_member_in_order ds e b

  pub flow_member_in_order : Directives → FlowMember → Bool → Bool
  flow_member_in_order ds (single n) b = flow_node_in_order ds n b
  flow_member_in_order ds (pair m k v) b = flow_slot_in_order ds k (flow_value_in_order ds v b)

  pub flow_slot_in_order : Directives → FlowSlot → Bool → Bool
  flow_slot_in_order ds flow_nothing b = b
  flow_slot_in_order ds (flow_node n) b = flow_node_in_order ds n b

  pub flow_value_in_order : Directives → FlowValue → Bool → Bool
  flow_value_in_order ds no_value b = b
  flow_value_in_order ds (with_value m v) b = flow_slot_in_order ds v b

abbrev mutual
  pub block_node_in_order : Directives → BlockNode → Bool → Bool
  block_node_in_order ds (flow n) b = flow_node_in_order ds n b
  block_node_in_order ds (block_sequence o m is n) b = option_in_order ds o (items_in_order ds is b)
  block_node_in_order ds (block_mapping o m ps n) b = option_in_order ds o (parts_in_order ds ps b)

  pub block_slot_in_order : Directives → BlockSlot → Bool → Bool
  block_slot_in_order ds nothing b = b
  block_slot_in_order ds (node n) b = block_node_in_order ds n b

  pub items_in_order : Directives → BlockItems → Bool → Bool
  items_in_order ds empty b = b
  items_in_order ds (item is m n) b = items_in_order ds is (block_slot_in_order ds n b)

  pub slot_in_order : Directives → Slot → Bool → Bool
  slot_in_order ds (slot_of n) b = block_slot_in_order ds n b
  slot_in_order ds (indentless o is m n) b = option_in_order ds o (items_in_order ds is (block_slot_in_order ds n b))

  pub parts_in_order : Directives → Parts → Bool → Bool
  parts_in_order ds no_parts b = b
  parts_in_order ds (part ps k m x) b = parts_in_order ds ps (slot_in_order ds x b)

-- Each directive is admitted after those before it.
abbrev pub directives_in_order : Directives → Bool → Bool
directives_in_order no_directives b = b
directives_in_order (directive ds d) b = directives_in_order ds (admits ds d && b)

abbrev mutual
  pub documents_in_order : Documents → Bool → Bool
  documents_in_order (implicit f n) b = free_in_order f (block_node_in_order no_directives n b)
  documents_in_order (explicit c ds m n) b = before_in_order c (directives_in_order ds (block_slot_in_order ds n b))

  pub free_in_order : Free → Bool → Bool
  free_in_order (opened e m) b = b
  free_in_order (ended e) b = ended_in_order e b

  pub ended_in_order : Ended → Bool → Bool
  ended_in_order (once d m) b = documents_in_order d b
  ended_in_order (again e m) b = ended_in_order e b

  pub before_in_order : Before → Bool → Bool
  before_in_order (free f) b = free_in_order f b
  before_in_order (following d) b = documents_in_order d b

abbrev pub stream_in_order : Stream → Bool → Bool
stream_in_order (whole c m) b = before_in_order c b

-- the documents of a tree are in order
abbrev pub in_order : Stream → Bool
in_order t = stream_in_order t true

-- When a partial tree fits a list with the token after it (docs/DEFINITIONS.md, "When a partial tree fits").
use Rattle.std.specs.Prelude.{◌≡◌, ◌⊎◌, List, [], ◌∷◌, ◌++◌, Option, Some, None, Bool, true, false}
use Rattle.libyaml_grammar.specs.grammar.Tokens.{Anchor, AnchorName, BlockEnd, BlockEntry, Content, DocumentEnd, DocumentStart, FlowEntry, FlowMappingEnd, FlowSequenceEnd, Key, Marks, StreamEnd, Tag, TagDirective, Token, Value, VersionDirective, tok}
use Rattle.libyaml_grammar.specs.grammar.Trees.{BlockItems, Directives, Documents, FlowMember, FlowSlot, Properties, Slot, following, explicit, flow_node, flow_nothing, indentless, item, mapping, no_directives, no_value, nothing, pair, part, sequence, single, slot_of, with_value}
use Rattle.libyaml_grammar.specs.grammar.Order.{is_known}
use Rattle.libyaml_grammar.specs.partial.PartialTrees.{BlockPlace, PartialTree, Open, PartPlace, Place, at_directive, at_tag, at_tag_after, block, content_due, partial_in_order, partial_tokens, declared, document_due, entry, entry_due, explicit_root, flow_entry, flow_key, flow_value, implicit_root}
use Rattle.libyaml_grammar.specs.partial.PartialTrees.{indentless_entry, open_collection, part_due, part_place, place_in_order, place_tokens, root, separator_due, slot, start_due}
use Rattle.libyaml_grammar.specs.grammar.ValidLists.{IsViablePrefix}

abbrev pub is_directive : Content → Bool
is_directive (VersionDirective a) = true
is_directive (TagDirective h) = true
is_directive _ = false

-- Where a node may be nothing, and before which tokens it is (docs/DEFINITIONS.md, "Where a node may be nothing"): a
-- document's content before a directive or a document's boundary, an entry before the next one or its sequence's end.
abbrev pub ends_empty_document : Content → Bool
ends_empty_document DocumentStart = true
ends_empty_document DocumentEnd = true
ends_empty_document StreamEnd = true
ends_empty_document k = is_directive k

abbrev pub ends_empty_entry : Content → Bool
ends_empty_entry BlockEntry = true
ends_empty_entry BlockEnd = true
ends_empty_entry _ = false

abbrev pub ends_empty_part : Content → Bool
ends_empty_part Key = true
ends_empty_part Value = true
ends_empty_part BlockEnd = true
ends_empty_part _ = false

abbrev pub ends_empty_indentless_entry : Content → Bool
ends_empty_indentless_entry BlockEntry = true
ends_empty_indentless_entry k = ends_empty_part k

abbrev pub ends_empty_value : Open → Content → Bool
ends_empty_value c FlowEntry = true
ends_empty_value (open_collection p o sequence m is) FlowSequenceEnd = true
ends_empty_value (open_collection p o mapping m is) FlowMappingEnd = true
ends_empty_value _ _ = false

abbrev pub ends_empty_key : Open → Content → Bool
ends_empty_key c Value = true
ends_empty_key c k = ends_empty_value c k

-- the token may follow a node that is nothing, at this place; where a node is never nothing no token may
abbrev pub ends_empty : Place → Content → Bool
ends_empty (block (root (implicit_root f))) k = false
ends_empty (block (root (explicit_root b ds m))) k = ends_empty_document k
ends_empty (block (entry c o m is e)) k = ends_empty_entry k
ends_empty (block (slot c)) k = ends_empty_part k
ends_empty (block (indentless_entry c o is e)) k = ends_empty_indentless_entry k
ends_empty (flow_entry c) k = false
ends_empty (flow_key c e) k = ends_empty_key c k
ends_empty (flow_value c e x v) k = ends_empty_value c k

-- the place of a node that is nothing and ends the partial tree, so that no token of the tree follows it
abbrev pub empty_root : Documents → Option Place
empty_root (explicit b ds m nothing) = Some (block (root (explicit_root b ds m)))
empty_root _ = None

abbrev pub empty_item : BlockPlace → Option Properties → Marks → BlockItems → Option Place
empty_item c o m (item is e nothing) = Some (block (entry c o m is e))
empty_item c o m _ = None

abbrev pub empty_part : PartPlace → Slot → Option Place
empty_part c (slot_of nothing) = Some (block (slot c))
empty_part c (indentless y is e nothing) = Some (block (indentless_entry c y is e))
empty_part c _ = None

abbrev pub empty_slot : Place → FlowSlot → Option Place
empty_slot p flow_nothing = Some p
empty_slot p (flow_node n) = None

abbrev pub empty_member : Open → FlowMember → Option Place
empty_member c (single n) = None
empty_member c (pair k x no_value) = empty_slot (flow_key c k) x
empty_member c (pair k x (with_value v y)) = empty_slot (flow_value c k x v) y

abbrev pub last_empty : PartialTree → Option Place
last_empty (document_due d) = empty_root d
last_empty (at_directive (following d) no_directives) = empty_root d
last_empty (entry_due c o m is) = empty_item c o m is
last_empty (part_due c o m (part ps k v x)) = empty_part (part_place c o m ps k v) x
last_empty (separator_due c e) = empty_member c e
last_empty _ = None

-- a node that is nothing stands before a token that may follow it
abbrev pub EndsEmpty : Option Place → Content → Type 0
EndsEmpty None k = Unit {0}
EndsEmpty (Some p) k = ends_empty p k ≡ true

-- where content is expected the token is none that leaves it nothing
abbrev pub WantsContent : PartialTree → Content → Type 0
WantsContent (content_due p) k = ends_empty p k ≡ false
WantsContent _ k = Unit {0}

-- A directive is bad at a directive's place only, and there nothing else is. A document without a head and without
-- tokens is open before no directive.
abbrev pub FitsDirective : PartialTree → Content → Type 0
FitsDirective (document_due d) k = is_directive k ≡ false
FitsDirective (start_due b ds d) k = is_directive k ≡ false
FitsDirective (at_directive b ds) k = is_directive k ≡ true
FitsDirective (content_due (block (root (implicit_root f)))) k = is_directive k ≡ false
FitsDirective _ k = Unit {0}

-- a TAG with a handle that is not known to the directives
abbrev pub IsUnknown : Directives → Content → Type 0
IsUnknown ds (Tag t) = is_known ds t.handle ≡ false
IsUnknown ds _ = ⊥

-- A node may begin at the place directly after the list, or after the ANCHOR that ends the list and begins the node.
abbrev pub NodeBegins : List Token → Place → Type 0
NodeBegins l p = (place_in_order p true ≡ true)
    × ((place_tokens p [] ≡ l) ⊎ ((a : AnchorName) × (m : Marks) × (place_tokens p (tok (Anchor a) m ∷ []) ≡ l)))

-- a node may begin so, and the tag's handle is unknown there
pub record IsUnknownTag (l : List Token) (k : Content) : Type 0 where
  pub place : Place
  pub begins : NodeBegins l place
  pub unknown : IsUnknown (declared place) k

-- the place is at a TAG exactly where that is so
abbrev pub FitsTag : List Token → PartialTree → Content → Type 0
FitsTag l (at_tag p) k = IsUnknown (declared p) k
FitsTag l (at_tag_after p a m) k = IsUnknown (declared p) k
FitsTag l _ k = IsUnknownTag l k → ⊥

-- The partial tree c fits the list l and the token b after it: its tokens are l and its documents in order, no valid
-- list begins with l and b, and where several places would serve, the place is the one that the rules above name.
pub record Fits (l : List Token) (b : Token) (c : PartialTree) : Type 0 where
  pub tokens : partial_tokens c [] ≡ l
  pub order : partial_in_order c true ≡ true
  pub bad_token : IsViablePrefix (l ++ b ∷ []) → ⊥
  pub empty_end : EndsEmpty (last_empty c) b.content
  pub wants_content : WantsContent c b.content
  pub directive : FitsDirective c b.content
  pub tag : FitsTag l c b.content

-- a partial tree that fits a prefix of the list with the token after it
pub record HasPartialTree (l : List Token) : Type 0 where
  pub before : List Token
  pub token : Token
  pub after : List Token
  pub cut : PartialTree
  pub all : l ≡ before ++ token ∷ after
  pub fits : Fits before token cut

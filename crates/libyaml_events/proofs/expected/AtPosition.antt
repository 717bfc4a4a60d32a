-- At each position that is met the automaton's set of types is that of the tokens that the grammar reads there.
use Rattle.std.specs.Prelude.{◌&&◌, not, is_some}
use Rattle.std.proofs.Common.{◌≡◌, Option, Some, None, refl, Bool, true, false}
use Rattle.libyaml_types.specs.Types.{token_type}
use Rattle.libyaml_grammar.specs.grammar.Tokens.{Anchor, AnchorName, BlockEnd, BlockEntry, BlockMappingStart, BlockSequenceStart, Content, DocumentEnd, DocumentStart, FlowMappingStart, FlowSequenceStart, Marks, Scalar, StreamEnd, StreamStart, Tag, TagName, VersionDirective}
use Rattle.libyaml_grammar.specs.grammar.Trees.{Before, BlockItems, BlockSlot, Directive, Directives, Documents, FlowMember, FlowNode, FlowSlot, Free, Parts, Properties, Stream, alone, anchor, anchor_tag, directive, ended, following, free, key, mapping, no_directives, no_parts, no_value, opened}
use Rattle.libyaml_grammar.specs.grammar.Trees.{pair, part, sequence, single, tag, tag_anchor, tag_directive, value, version, whole, with_value}
use Rattle.libyaml_grammar.specs.grammar.Events.{version_of}
use Rattle.libyaml_grammar.specs.grammar.Order.{no_version}
use Rattle.libyaml_grammar.specs.partial.PartialTrees.{BlockPlace, Open, PartPlace, Place, block, entry, explicit_root, flow_entry, flow_key, flow_value, implicit_root, indentless_entry, open_collection, part_place, root, slot}
use Rattle.libyaml_grammar.proofs.exported.Positions.{Position, between, done, due, flow_after, flow_due, flow_keyed, headed, in_indentless, in_mapping, in_sequence, unopened}
use Rattle.libyaml_grammar.proofs.exported.Reading.{Step, after_whole, bad, fill_flow, goes, over, pending, step}
use Rattle.libyaml_grammar.proofs.exported.StepsMeet.{IsDue, IsEntry, IsMet}
use Rattle.libyaml_automaton.specs.Acceptable.{acceptable, taken_in_stack}
use Rattle.libyaml_automaton.specs.Config.{below, top}
use Rattle.libyaml_events.specs.machine.Config.{config_of as without_texts}
use Rattle.libyaml_events.proofs.machine.Link.{config_of, states_place, want_of}

-- the token is taken
abbrev pub takes : Step → Bool
takes (goes q) = true
takes (bad c) = false
takes over = false

-- it is no second version
abbrev pub is_first : Directives → Content → Bool
is_first ds (VersionDirective a) = no_version ds
is_first ds _ = true

abbrev pub Is : Position → Content → Marks → Type 0
Is q k m = acceptable (want_of q).next (without_texts (config_of q)) (token_type k) ≡ (is_first (pending q) k && takes (step q k m))

unopened_is : (k : Content) (m : Marks) → Is unopened k m
unopened_is (StreamStart e) m = refl
unopened_is _ m = refl

free_is : (f : Free) (k : Content) (m : Marks) → Is (between (free f)) k m
free_is (opened e s) DocumentEnd m = refl
free_is (ended e) DocumentEnd m = refl
free_is f _ m = refl

documents_is : (d : Documents) (k : Content) (m : Marks) → Is (between (following d)) k m
documents_is d DocumentEnd m = refl
documents_is d _ m = refl

version_none : (ds : Directives) → not (is_some (version_of ds)) ≡ no_version ds
version_none no_directives = refl
version_none (directive ds (version v m)) = refl
version_none (directive ds (tag_directive h m)) = version_none ds

and_true : (b : Bool) → (b && true) ≡ b
and_true true = refl
and_true false = refl

headed_is : (b : Before) (ds : Directives) (d : Directive) (k : Content) (m : Marks) → Is (headed b ds d) k m
headed_is b ds d (VersionDirective a) m = rw (and_true (no_version (directive ds d))) (version_none (directive ds d))
headed_is b ds d DocumentStart m = refl
headed_is b ds d _ m = refl

block_is : (c : BlockPlace) (k : Content) (m : Marks) → Is (due (block c) None) k m
block_is (root (implicit_root f)) StreamEnd m = refl
block_is (root (implicit_root f)) _ m = refl
block_is (root (explicit_root b ds s)) StreamEnd m = refl
block_is (root (explicit_root b ds s)) _ m = refl
block_is (entry c o s is e) StreamEnd m = refl
block_is (entry c o s is e) _ m = refl
block_is (slot (part_place c o s ps key v)) StreamEnd m = refl
block_is (slot (part_place c o s ps key v)) _ m = refl
block_is (slot (part_place c o s ps value v)) StreamEnd m = refl
block_is (slot (part_place c o s ps value v)) _ m = refl
block_is (indentless_entry (part_place c o s ps r v) y is e) StreamEnd m = refl
block_is (indentless_entry (part_place c o s ps r v) y is e) _ m = refl

due_is : (p : Place) (k : Content) (m : Marks) → IsDue p → Is (due p None) k m
due_is (block c) k m w = block_is c k m
due_is (flow_entry c) k m w = absurd w
due_is (flow_key (open_collection p o sequence s is) e) StreamEnd m w = refl
due_is (flow_key (open_collection p o sequence s is) e) _ m w = refl
due_is (flow_key (open_collection p o mapping s is) e) StreamEnd m w = refl
due_is (flow_key (open_collection p o mapping s is) e) _ m w = refl
due_is (flow_value (open_collection p o sequence s is) e x v) StreamEnd m w = refl
due_is (flow_value (open_collection p o sequence s is) e x v) _ m w = refl
due_is (flow_value (open_collection p o mapping s is) e x v) StreamEnd m w = refl
due_is (flow_value (open_collection p o mapping s is) e x v) _ m w = refl

-- after a whole node
abbrev Follows : Place → FlowNode → Content → Marks → Type 0
Follows p x k m = taken_in_stack (top (states_place p)) (below (states_place p)) false (token_type k) ≡ takes (after_whole (fill_flow p x) k m)

block_follows : (c : BlockPlace) (x : FlowNode) (k : Content) (m : Marks) → Follows (block c) x k m
block_follows (root (implicit_root f)) x StreamEnd m = refl
block_follows (root (implicit_root f)) x _ m = refl
block_follows (root (explicit_root b ds s)) x StreamEnd m = refl
block_follows (root (explicit_root b ds s)) x _ m = refl
block_follows (entry c o s is e) x StreamEnd m = refl
block_follows (entry c o s is e) x _ m = refl
block_follows (slot (part_place c o s ps key v)) x StreamEnd m = refl
block_follows (slot (part_place c o s ps key v)) x _ m = refl
block_follows (slot (part_place c o s ps value v)) x StreamEnd m = refl
block_follows (slot (part_place c o s ps value v)) x _ m = refl
block_follows (indentless_entry (part_place c o s ps key v) y is e) x StreamEnd m = refl
block_follows (indentless_entry (part_place c o s ps key v) y is e) x _ m = refl
block_follows (indentless_entry (part_place c o s ps value v) y is e) x StreamEnd m = refl
block_follows (indentless_entry (part_place c o s ps value v) y is e) x _ m = refl

node_follows : (p : Place) (x : FlowNode) (k : Content) (m : Marks) → Follows p x k m
node_follows (block c) x k m = block_follows c x k m
node_follows (flow_entry (open_collection p o sequence s is)) x StreamEnd m = refl
node_follows (flow_entry (open_collection p o sequence s is)) x _ m = refl
node_follows (flow_entry (open_collection p o mapping s is)) x StreamEnd m = refl
node_follows (flow_entry (open_collection p o mapping s is)) x _ m = refl
node_follows (flow_key (open_collection p o sequence s is) e) x StreamEnd m = refl
node_follows (flow_key (open_collection p o sequence s is) e) x _ m = refl
node_follows (flow_key (open_collection p o mapping s is) e) x StreamEnd m = refl
node_follows (flow_key (open_collection p o mapping s is) e) x _ m = refl
node_follows (flow_value (open_collection p o sequence s is) e y v) x StreamEnd m = refl
node_follows (flow_value (open_collection p o sequence s is) e y v) x _ m = refl
node_follows (flow_value (open_collection p o mapping s is) e y v) x StreamEnd m = refl
node_follows (flow_value (open_collection p o mapping s is) e y v) x _ m = refl

-- after properties
anchor_is : (p : Place) (ps : Properties) (a : AnchorName) (m : Marks) → Is (due p (Some ps)) (Anchor a) m
anchor_is p (anchor b n) a m = node_follows p (alone (anchor b n)) (Anchor a) m
anchor_is p (tag h n) a m = refl
anchor_is p (anchor_tag b n h x) a m = node_follows p (alone (anchor_tag b n h x)) (Anchor a) m
anchor_is p (tag_anchor h n b x) a m = node_follows p (alone (tag_anchor h n b x)) (Anchor a) m

tag_is : (p : Place) (ps : Properties) (h : TagName) (m : Marks) → Is (due p (Some ps)) (Tag h) m
tag_is p (anchor b n) h m = refl
tag_is p (tag g n) h m = node_follows p (alone (tag g n)) (Tag h) m
tag_is p (anchor_tag b n g x) h m = node_follows p (alone (anchor_tag b n g x)) (Tag h) m
tag_is p (tag_anchor g n b x) h m = node_follows p (alone (tag_anchor g n b x)) (Tag h) m

sequence_is : (p : Place) (ps : Properties) (m : Marks) → Is (due p (Some ps)) BlockSequenceStart m
sequence_is (block (root t)) ps m = refl
sequence_is (block (entry c o s is e)) ps m = refl
sequence_is (block (slot c)) ps m = refl
sequence_is (block (indentless_entry c o is e)) ps m = refl
sequence_is (flow_entry c) ps m = node_follows (flow_entry c) (alone ps) BlockSequenceStart m
sequence_is (flow_key c e) ps m = node_follows (flow_key c e) (alone ps) BlockSequenceStart m
sequence_is (flow_value c e x v) ps m = node_follows (flow_value c e x v) (alone ps) BlockSequenceStart m

mapping_is : (p : Place) (ps : Properties) (m : Marks) → Is (due p (Some ps)) BlockMappingStart m
mapping_is (block (root t)) ps m = refl
mapping_is (block (entry c o s is e)) ps m = refl
mapping_is (block (slot c)) ps m = refl
mapping_is (block (indentless_entry c o is e)) ps m = refl
mapping_is (flow_entry c) ps m = node_follows (flow_entry c) (alone ps) BlockMappingStart m
mapping_is (flow_key c e) ps m = node_follows (flow_key c e) (alone ps) BlockMappingStart m
mapping_is (flow_value c e x v) ps m = node_follows (flow_value c e x v) (alone ps) BlockMappingStart m

entry_is : (p : Place) (ps : Properties) (m : Marks) → Is (due p (Some ps)) BlockEntry m
entry_is (block (root t)) ps m = node_follows (block (root t)) (alone ps) BlockEntry m
entry_is (block (entry c o s is e)) ps m = refl
entry_is (block (slot c)) ps m = refl
entry_is (block (indentless_entry c o is e)) ps m = node_follows (block (indentless_entry c o is e)) (alone ps) BlockEntry m
entry_is (flow_entry c) ps m = node_follows (flow_entry c) (alone ps) BlockEntry m
entry_is (flow_key c e) ps m = node_follows (flow_key c e) (alone ps) BlockEntry m
entry_is (flow_value c e x v) ps m = node_follows (flow_value c e x v) (alone ps) BlockEntry m

held_is : (p : Place) (ps : Properties) (k : Content) (m : Marks) → Is (due p (Some ps)) k m
held_is p ps (Anchor a) m = anchor_is p ps a m
held_is p ps (Tag h) m = tag_is p ps h m
held_is p ps (Scalar v) m = refl
held_is p ps FlowSequenceStart m = refl
held_is p ps FlowMappingStart m = refl
held_is p ps BlockSequenceStart m = sequence_is p ps m
held_is p ps BlockMappingStart m = mapping_is p ps m
held_is p ps BlockEntry m = entry_is p ps m
held_is p ps k m = node_follows p (alone ps) k m

-- in a collection
item_is : (c : BlockPlace) (o : Option Properties) (s : Marks) (is : BlockItems) (k : Content) (m : Marks) → Is (in_sequence c o s is) k m
item_is c o s is BlockEnd m = refl
item_is c o s is _ m = refl

part_is : (c : BlockPlace) (o : Option Properties) (s : Marks) (ps : Parts) (k : Content) (m : Marks) → Is (in_mapping c o s ps) k m
part_is c o s no_parts BlockEnd m = refl
part_is c o s no_parts _ m = refl
part_is c o s (part ps key v x) BlockEnd m = refl
part_is c o s (part ps key v x) _ m = refl
part_is c o s (part ps value v x) BlockEnd m = refl
part_is c o s (part ps value v x) _ m = refl

indentless_is : (c : PartPlace) (o : Option Properties) (is : BlockItems) (e : Marks) (x : BlockSlot) (k : Content) (m : Marks)
    → Is (in_indentless c o is e x) k m
indentless_is (part_place c o s ps key v) y is e x BlockEnd m = refl
indentless_is (part_place c o s ps key v) y is e x _ m = refl
indentless_is (part_place c o s ps value v) y is e x BlockEnd m = refl
indentless_is (part_place c o s ps value v) y is e x _ m = refl

flow_is : (c : Open) (k : Content) (m : Marks) → Is (flow_due c) k m
flow_is (open_collection p o sequence s is) StreamEnd m = refl
flow_is (open_collection p o sequence s is) _ m = refl
flow_is (open_collection p o mapping s is) StreamEnd m = refl
flow_is (open_collection p o mapping s is) _ m = refl

keyed_is : (c : Open) (e : Marks) (x : FlowSlot) (k : Content) (m : Marks) → Is (flow_keyed c e x) k m
keyed_is (open_collection p o sequence s is) e x StreamEnd m = refl
keyed_is (open_collection p o sequence s is) e x _ m = refl
keyed_is (open_collection p o mapping s is) e x StreamEnd m = refl
keyed_is (open_collection p o mapping s is) e x _ m = refl

member_is : (c : Open) (e : FlowMember) (k : Content) (m : Marks) → IsEntry e → Is (flow_after c e) k m
member_is (open_collection p o sequence s is) (single x) StreamEnd m w = refl
member_is (open_collection p o sequence s is) (single x) _ m w = refl
member_is (open_collection p o mapping s is) (single x) StreamEnd m w = refl
member_is (open_collection p o mapping s is) (single x) _ m w = refl
member_is c (pair e x no_value) k m w = absurd w
member_is (open_collection p o sequence s is) (pair e x (with_value v y)) StreamEnd m w = refl
member_is (open_collection p o sequence s is) (pair e x (with_value v y)) _ m w = refl
member_is (open_collection p o mapping s is) (pair e x (with_value v y)) StreamEnd m w = refl
member_is (open_collection p o mapping s is) (pair e x (with_value v y)) _ m w = refl

done_is : (t : Stream) (k : Content) (m : Marks) → Is (done t) k m
done_is (whole (free f) n) StreamEnd m = refl
done_is (whole (free f) n) _ m = refl
done_is (whole (following d) n) StreamEnd m = refl
done_is (whole (following d) n) _ m = refl

pub position_is : (q : Position) (k : Content) (m : Marks) → IsMet q → Is q k m
position_is unopened k m w = unopened_is k m
position_is (between (free f)) k m w = free_is f k m
position_is (between (following d)) k m w = documents_is d k m
position_is (headed b ds d) k m w = headed_is b ds d k m
position_is (due p None) k m w = due_is p k m w
position_is (due p (Some ps)) k m w = held_is p ps k m
position_is (in_sequence c o s is) k m w = item_is c o s is k m
position_is (in_mapping c o s ps) k m w = part_is c o s ps k m
position_is (in_indentless c o is e x) k m w = indentless_is c o is e x k m
position_is (flow_due c) k m w = flow_is c k m
position_is (flow_keyed c e x) k m w = keyed_is c e x k m
position_is (flow_after c e) k m w = member_is c e k m w
position_is (done t) k m w = done_is t k m

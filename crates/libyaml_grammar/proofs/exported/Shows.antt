-- A step gives the events: those up to the next position, or to a bad token's place, are those before it and what the
-- token gives.
use Rattle.std.proofs.Common.{◌≡◌, List, ◌∷◌, refl, ◌∙◌, Bool, true}
use Rattle.libyaml_grammar.specs.grammar.Tokens.{Content, Mark, Marks}
use Rattle.libyaml_grammar.specs.grammar.Trees.{BlockNode, FlowNode, alone, flow, free}
use Rattle.libyaml_grammar.specs.grammar.Events.{Event, block_node_events, empty_at, first_block, first_flow, flow_node_events}
use Rattle.libyaml_grammar.specs.partial.PartialTrees.{BlockPlace, Place, block, declared, declared_block, flow_entry, implicit_root, part_place, root, slot}
use Rattle.libyaml_grammar.specs.partial.PartialEvents.{shown_block, shown_partial, shown_place}
use Rattle.libyaml_grammar.specs.partial.Fits.{ends_empty}
use Rattle.libyaml_grammar.proofs.exported.Positions.{Position, shown}
use Rattle.libyaml_grammar.proofs.exported.Reading.{Step, bad, fill, fill_flow, goes, leave, over, step}
use Rattle.libyaml_grammar.proofs.exported.Given.{empty_mark, gives}
use Rattle.libyaml_grammar.proofs.exported.ReadSteps.{Moves, ReadStep, a_scalar, an_alias, begins_explicit, closes_at_mapping, closes_at_sequence, closes_mapping, closes_sequence, ends_mapping, ends_sequence, ends_stream, fails, first_handle, first_version, is_alone, is_past, leaves, moves}
use Rattle.libyaml_grammar.proofs.exported.ReadSteps.{no_stream, read_step}

-- what a step says of the events
abbrev pub Shows : Step → Position → Marks → (List Event → List Event) → Type 0
Shows (goes p) q m g = (n : Mark) (r : List Event) → shown p n r ≡ shown q m.start (g r)
Shows (bad c) q m g = (r : List Event) → shown_partial c m.start r ≡ shown q m.start (g r)
Shows over q m g = Unit {0}

pub block_shows : (c : BlockPlace) (x : BlockNode) (m : Mark) (r : List Event)
    → shown (fill c x) m r ≡ shown_block c (first_block x) (block_node_events (declared_block c) x r)
block_shows (root (implicit_root f)) x m r = refl
block_shows (slot (part_place c o s ps k v)) x m r = refl
block_shows _ x m r = refl

pub node_shows : (p : Place) (x : FlowNode) (m : Mark) (r : List Event)
    → shown (fill_flow p x) m r ≡ shown_place p (first_flow x) (flow_node_events (declared p) x r)
node_shows (block c) x m r = block_shows c (flow x) m r
node_shows _ x m r = refl

reshown : (s : Step) (p q : Position) (m : Marks) (g h : List Event → List Event)
    → ((r : List Event) → shown p m.start (g r) ≡ shown q m.start (h r))
    → Shows s p m g → Shows s q m h
reshown (goes x) p q m g h e f = λ n r. f n r ∙ e r
reshown (bad x) p q m g h e f = λ r. f r ∙ e r
reshown over p q m g h e f = tt

moved_shows : {m : Marks} {q p : Position} {h : List Event → List Event} → Moves m q p h → (r : List Event)
    → shown p m.start r ≡ shown q m.start (h r)
moved_shows (is_alone p ps) r = node_shows p (alone ps) _ r
moved_shows _ r = refl

-- a node that is nothing gives its empty scalar
left_shows : (p : Place) (k : Content) (m : Mark) → ends_empty p k ≡ true → (r : List Event)
    → shown (leave p) m r ≡ shown_place p m (empty_at (empty_mark p m) ∷ r)
left_shows (block (root (implicit_root f))) k m e r = cc
left_shows (block (slot (part_place c o s ps t v))) k m e r = refl
left_shows (flow_entry c) k m e r = cc
left_shows _ k m e r = refl

shows : {m : Marks} {q : Position} {k : Content} {s : Step} {g : List Event → List Event} {l : Bool}
    → ReadStep m q k s g l → Shows s q m g
shows is_past = tt
shows (moves x h) = reshown _ _ _ _ _ _ (λ r. moved_shows x _) (shows h)
shows (leaves p e h) = λ n r. shows h n r ∙ left_shows p _ _ e _
shows (fails no_stream) = λ r. refl
shows (fails _) = λ r. refl
shows (first_version (free f) a) = λ n r. refl
shows (first_handle (free f) a) = λ n r. refl
shows (begins_explicit (free f)) = λ n r. refl
shows (ends_stream (free f)) = λ n r. refl
shows (an_alias p a) = λ n r. node_shows p _ n r
shows (a_scalar p o v) = λ n r. node_shows p _ n r
shows (ends_sequence c) = λ n r. block_shows c _ n r
shows (ends_mapping c) = λ n r. block_shows c _ n r
shows (closes_sequence p) = λ n r. node_shows p _ n r
shows (closes_mapping p) = λ n r. node_shows p _ n r
shows (closes_at_sequence p) = λ n r. node_shows p _ n r
shows (closes_at_mapping p) = λ n r. node_shows p _ n r
shows _ = λ n r. refl

pub step_shows : (q : Position) (k : Content) (m : Marks) → Shows (step q k m) q m (gives q k m)
step_shows q k m = shows (read_step m q k)

-- What a tag and a directive lead to where the grammar takes them.
use Rattle.std.proofs.Common.{◌≡◌, List, Some, None, refl, subst, Bool}
use Rattle.std.specs.Prelude.{Option}
use Rattle.libyaml_grammar.specs.grammar.Tokens.{Content, HandleDeclared, Marks, Tag, TagDirective, TagName, VersionAsked, VersionDirective}
use Rattle.libyaml_grammar.specs.grammar.Trees.{Directive, Directives, FlowNode, alone, anchor_tag, no_directives, tag, tag_directive, version}
use Rattle.libyaml_grammar.specs.grammar.Events.{Event}
use Rattle.libyaml_grammar.specs.grammar.Order.{is_known}
use Rattle.libyaml_grammar.specs.partial.PartialTrees.{Place, block, declared, implicit_root, part_place, root, slot}
use Rattle.libyaml_grammar.proofs.exported.Positions.{Position, due, headed}
use Rattle.libyaml_grammar.proofs.exported.Reading.{Step, bad, fill_flow, goes, is_legal, leave, over, pending, step}
use Rattle.libyaml_grammar.proofs.exported.ReadSteps.{Moves, ReadStep, a_tag, fails, first_handle, first_version, is_alone, is_past, leaves, moves, next_handle, next_version, read_step, tag_after_anchor}

-- a tag that grammar takes is held
abbrev pub IsTagHeld : Position → Bool → Marks → Type 0
IsTagHeld (due p (Some (tag h n))) b m = (is_known (declared p) h.handle ≡ b) × (n ≡ m)
IsTagHeld (due p (Some (anchor_tag a x h n))) b m = (is_known (declared p) h.handle ≡ b) × (n ≡ m)
IsTagHeld _ b m = ⊥

abbrev pub TagGoes : Step → Bool → Marks → Type 0
TagGoes (goes q) b m = IsTagHeld q b m
TagGoes (bad c) b m = Unit {0}
TagGoes over b m = Unit {0}

tag_goes : {m : Marks} {q : Position} {k : Content} {s : Step} {g : List Event → List Event} {l : Bool}
    → ReadStep m q k s g l → (h : TagName) → k ≡ Tag h → TagGoes s l m
tag_goes is_past h e = tt
tag_goes (moves x v) h e = tag_goes v h e
tag_goes (leaves p f v) h e = tag_goes v h e
tag_goes (fails x) h e = tt
tag_goes (a_tag p g) h e = (refl, refl)
tag_goes (tag_after_anchor p a n g) h e = (refl, refl)
tag_goes _ h e = absurd cc

pub step_tag : (q : Position) (h : TagName) (m : Marks) → TagGoes (step q (Tag h) m) (is_legal q (Tag h)) m
step_tag q h m = tag_goes (read_step m q (Tag h)) h refl

-- a directive that the grammar takes is the last
abbrev pub IsHeaded : Position → Directives → Directive → Type 0
IsHeaded (headed b ds d) es x = (ds ≡ es) × (d ≡ x)
IsHeaded _ es x = ⊥

abbrev pub HeadGoes : Step → Directives → Directive → Type 0
HeadGoes (goes q) ds d = IsHeaded q ds d
HeadGoes (bad c) ds d = Unit {0}
HeadGoes over ds d = Unit {0}

abbrev directive_of : Content → Marks → Option Directive
directive_of (VersionDirective a) m = Some (version a m)
directive_of (TagDirective h) m = Some (tag_directive h m)
directive_of _ m = None

node_pending : (p : Place) (x : FlowNode) → pending (fill_flow p x) ≡ no_directives
node_pending (block (root (implicit_root f))) x = refl
node_pending (block (slot (part_place c o s ps k v))) x = refl
node_pending _ x = refl

moved_pending : {m : Marks} {q p : Position} {h : List Event → List Event} → Moves m q p h → pending p ≡ pending q
moved_pending (is_alone p ps) = node_pending p (alone ps)
moved_pending _ = refl

left_pending : (p : Place) → pending (leave p) ≡ no_directives
left_pending (block (root (implicit_root f))) = refl
left_pending (block (slot (part_place c o s ps k v))) = refl
left_pending _ = refl

head_goes : {m : Marks} {q : Position} {k : Content} {s : Step} {g : List Event → List Event} {l : Bool}
    → ReadStep m q k s g l → (d : Directive) → directive_of k m ≡ Some d → HeadGoes s (pending q) d
head_goes is_past d e = tt
head_goes {s = s} (moves x v) d e = subst (λ (ds : Directives). HeadGoes s ds d) (moved_pending x) (head_goes v d e)
head_goes (leaves p {x = x} f v) d e = subst (λ (ds : Directives). IsHeaded x ds d) (left_pending p) (head_goes v d e)
head_goes (fails x) d e = tt
head_goes (first_version b a) d e = (refl, cc)
head_goes (first_handle b h) d e = (refl, cc)
head_goes (next_version b ds f a) d e = (refl, cc)
head_goes (next_handle b ds f h) d e = (refl, cc)
head_goes _ d e = absurd cc

pub step_version : (q : Position) (a : VersionAsked) (m : Marks)
    → HeadGoes (step q (VersionDirective a) m) (pending q) (version a m)
step_version q a m = head_goes (read_step m q (VersionDirective a)) (version a m) refl

pub step_handle : (q : Position) (g : HandleDeclared) (m : Marks)
    → HeadGoes (step q (TagDirective g) m) (pending q) (tag_directive g m)
step_handle q g m = head_goes (read_step m q (TagDirective g)) (tag_directive g m) refl

-- A place has 0 where its deed has no use for a field.
use Rattle.std.proofs.Common.{◌≡◌, ◌∷◌, List, [], ℕ, suc, ℤ, pos, refl, sym, subst, Bool, false, arith}
use Rattle.libyaml_types.specs.Types.{event_type}
use Rattle.libyaml_types.specs.declared.enums.yaml_event_type_t.{yaml_event_type_t}
use Rattle.libyaml_grammar.specs.grammar.Events.{Event}
use Rattle.libyaml_documents.specs.Documents.{Document}
use Rattle.libyaml_composer.specs.declared.composer.composer_t.{composer_t}
use Rattle.libyaml_composer.specs.declared.deed.Deed.{Deed}
use Rattle.libyaml_composer.specs.declared.deed.Deed.TheVariants as deed
use Rattle.libyaml_composer.specs.declared.records.open_t.{open_t}
use Rattle.libyaml_composer.specs.declared.records.place_t.{place_t}
use Rattle.libyaml_composer.specs.Composing.{Composer, Told, adding, at_anchored_node, at_start, between_step, composer_of, deed_for, deed_in, collection_ended, holding_top, handing, holding_in, if_placed, is_list_full, new_id, place_in, step_in, unless, within_step}
use Rattle.libyaml_composer.specs.DocumentSoFar.{DocumentSoFar, event_fact}
use Rattle.libyaml_composer.specs.Numbers.{is_set, is_id}
use Rattle.document_steps.specs.Places.{UnusedAreZero}
use Rattle.document_steps.specs.RunLaws.{RunPlaces}
use Rattle.document_steps.specs.Runs.{ComposerRun, begins, moves, takes}

-- no key waits in a sequence
abbrev HasNoKey : open_t → Type 0
HasNoKey o = is_set o.is_mapping ≡ false → o.key ≡ pos 0

abbrev HaveNoKeys : List open_t → Type 0
HaveNoKeys [] = Unit {0}
HaveNoKeys (o ∷ s) = HasNoKey o × HaveNoKeys s

-- the place has no more than its deed uses, and the stack stays so
abbrev IsSound : Told → Type 0
IsSound t = UnusedAreZero t.deed t.place × HaveNoKeys t.composer.stack

not_id : (i : ℤ) → is_id i ≡ false → i ≡ pos 0
not_id i h = grind arith

holds : (i : ℤ) (o : open_t) (b w : Bool) → is_set o.is_mapping ≡ b → HasNoKey o → HasNoKey (holding_in i o b w)
holds i o b w e h = grind arith

handed_keys : (i : ℤ) (s : List open_t) → HaveNoKeys s → HaveNoKeys (holding_top i s)
handed_keys i [] h = h
handed_keys i (o ∷ s) h = (holds i o (is_set o.is_mapping) (is_id o.key) refl h.0, h.1)

placed : (n i : ℤ) (o : open_t) (s : List open_t) (b w : Bool) → is_set o.is_mapping ≡ b → is_id o.key ≡ w → HasNoKey o
    → UnusedAreZero (deed_in b w) (place_in n i (o ∷ s))
placed n i o s b w e f h = grind (arith, not_id)

place_fits : (n i : ℤ) (s : List open_t) → HaveNoKeys s → UnusedAreZero (deed_for s) (place_in n i s)
place_fits n i s h = grind (arith, placed)

handing_sound : (n i : ℤ) (c : Composer) → HaveNoKeys c.stack → IsSound (handing n i c)
handing_sound n i c h = (place_fits n i c.stack h, handed_keys i c.stack h)

unless_sound : (b : Bool) (d : Deed) (p : place_t) (c : Composer) (t : Told) → UnusedAreZero d p → HaveNoKeys c.stack → IsSound t
    → IsSound (unless b d p c t)
unless_sound b d p c t z h g = grind arith

if_sound : (f : ℤ) (p : place_t) (c : Composer) (t : Told) → HaveNoKeys c.stack → IsSound t → IsSound (if_placed f p c t)
if_sound f p c t h g = unless_sound _ deed.FullList p c _ tt h
    (unless_sound (is_id f) deed.RepeatedAnchor p c _ tt h (unless_sound (is_list_full c.most c.stack) deed.FullList p c t tt h g))

alias_sound : (b : Bool) (i : ℤ) (p : place_t) (c : Composer) → HaveNoKeys c.stack → IsSound (at_anchored_node b i p c)
alias_sound b i p c h = grind (arith, handing_sound)

adding_sound : (c : Composer) → HaveNoKeys c.stack → IsSound (adding c)
adding_sound c h = handing_sound (new_id c) (new_id c) (record c { nodes = suc c.nodes }) h

start_sound : (m : ℕ) (f : ℤ) (p : place_t) (c : Composer) → HaveNoKeys c.stack → IsSound (at_start m f p c)
start_sound m f p c h = grind (arith, if_sound, unless_sound, adding_sound)

ended_sound : (s : List open_t) (p : place_t) (c : Composer) → HaveNoKeys c.stack → HaveNoKeys s → IsSound (collection_ended s p c)
ended_sound s p c h g = grind arith

within_sound : (k : yaml_event_type_t) (f : ℤ) (p : place_t) (c : Composer) → HaveNoKeys c.stack
    → IsSound (within_step k f p c)
within_sound k f p c h = grind (arith, alias_sound, if_sound, adding_sound, start_sound, ended_sound)

between_sound : (k : yaml_event_type_t) (p : place_t) (c : Composer) → HaveNoKeys c.stack → IsSound (between_step k p c)
between_sound k p c h = grind arith

step_sound : (b : Bool) (k : yaml_event_type_t) (f : ℤ) (p : place_t) (c : Composer) → HaveNoKeys c.stack
    → IsSound (step_in b k f p c)
step_sound b k f p c h = grind (arith, within_sound, between_sound)

keys : {most : ℕ} (d : composer_t) (ss : List open_t) (h : DocumentSoFar) (es : List Event) (ds : List Document)
    → ComposerRun most d ss h es ds → HaveNoKeys (composer_of d ss).stack
keys d ss _ _ _ (begins _ _ is) = subst (λ (c : Composer). HaveNoKeys c.stack) (sym is) tt
keys d' ss' h es ds (moves d _ ss _ _ _ _ run is) =
    subst (λ (c : Composer). HaveNoKeys c.stack) (sym is) (keys d ss h es ds run)
keys _ _ _ _ _ (takes d d' ss ss' h es ds a e p p' run calls taken) =
    subst (λ (t : Told). HaveNoKeys t.composer.stack) (sym calls)
    (step_sound _ (event_type e.content) (event_fact h e) p (composer_of d ss) (keys d ss h es ds run)).1

pub places : RunPlaces
places most d d' ss ss' h es ds a e p p' run calls =
    subst (λ (t : Told). UnusedAreZero t.deed t.place) (sym calls)
    (step_sound _ (event_type e.content) (event_fact h e) p (composer_of d ss) (keys d ss h es ds run)).0

-- An event has one place, however much room the stack has.
use Rattle.std.proofs.Common.{◌≡◌, ◌∷◌, ◌∙◌, ℕ, suc, ℤ, pos, List, [], Option, Bool, true, false, length, nat_le, nat_lt, refl, sym, ap}
use Rattle.libyaml_types.specs.Types.{event_type}
use Rattle.libyaml_types.specs.declared.enums.yaml_event_type_t.{yaml_event_type_t}
use Rattle.libyaml_types.specs.declared.enums.yaml_event_type_t.TheVariants as event_kinds
use Rattle.libyaml_grammar.specs.grammar.Events.{Event}
use Rattle.libyaml_graphs.specs.graphs.Graphs.{id_or}
use Rattle.libyaml_composer.specs.declared.deed.Deed.{Deed}
use Rattle.libyaml_composer.specs.declared.deed.Deed.TheVariants as deed
use Rattle.libyaml_composer.specs.declared.records.open_t.{open_t}
use Rattle.libyaml_composer.specs.declared.records.place_t.{place_t}
use Rattle.libyaml_composer.specs.Composing.{Composer, Told, adding, at_anchored_node, at_start, between_step, collection_ended, handing, if_placed, is_list_full, new_id, step_in, unless, with_open_node, within_step}
use Rattle.libyaml_composer.specs.Numbers.{is_id}
use Rattle.libyaml_loader.specs.declared.places.yaml_place_t.{yaml_place_t}
use Rattle.libyaml_loader.specs.composed.Anchoring.{event_node}
use Rattle.libyaml_loader.specs.composed.EventComposer.{EventComposer}
use Rattle.libyaml_loader.specs.composed.Places.{PlacesEvent, place_by}
use Rattle.libyaml_loader.specs.composed.Telling.{no_place}
use Rattle.libyaml_loader.specs.document.Stack.{roomy}

-- two steps with room say the same
module _ (f : ℤ) (p : place_t) (c : Composer) (n m : ℕ) where
  abbrev SayTheSame : Told → Told → Type 0
  SayTheSame t u = (t.deed ≡ deed.FullStack → ⊥) → (u.deed ≡ deed.FullStack → ⊥) → (t.deed ≡ u.deed) × (t.place ≡ u.place)

  test : (b : Bool) (d : Deed) (t u : Told) → SayTheSame t u
      → SayTheSame (unless b d p (roomy n c) t) (unless b d p (roomy m c) u)
  test true d t u h = λ x y. (refl, refl)
  test false d t u h = h

  placed : (t u : Told) → SayTheSame t u → SayTheSame (if_placed f p (roomy n c) t) (if_placed f p (roomy m c) u)
  placed t u h = test (nat_lt c.most (suc c.nodes)) deed.FullList _ _ (test (is_id f) deed.RepeatedAnchor _ _
      (test (is_list_full c.most c.stack) deed.FullList t u h))

  full : (a b : Bool) (t u : Told) → SayTheSame t u
      → SayTheSame (unless a deed.FullStack p (roomy n c) t) (unless b deed.FullStack p (roomy m c) u)
  full true b t u h = λ x y. absurd (x refl)
  full false true t u h = λ x y. absurd (y refl)
  full false false t u h = h

  start : (k : ℕ) → SayTheSame (at_start k f p (roomy n c)) (at_start k f p (roomy m c))
  start k = placed _ _ (full (nat_le n (length c.stack)) (nat_le m (length c.stack)) (with_open_node k (new_id c) (adding (roomy n c)))
      (with_open_node k (new_id c) (adding (roomy m c))) (λ x y. (refl, refl)))

  alias : (b : Bool) → SayTheSame (at_anchored_node b f p (roomy n c)) (at_anchored_node b f p (roomy m c))
  alias false = λ x y. (refl, refl)
  alias true = test (is_list_full c.most c.stack) deed.FullList (handing (pos 0) f (roomy n c)) (handing (pos 0) f (roomy m c))
      (λ x y. (refl, refl))

  ended : (s : List open_t) → SayTheSame (collection_ended s p (roomy n c)) (collection_ended s p (roomy m c))
  ended [] = λ x y. (refl, refl)
  ended (o ∷ s) = λ x y. (refl, refl)

  within : (k : yaml_event_type_t) → SayTheSame (within_step k f p (roomy n c)) (within_step k f p (roomy m c))
  within event_kinds.YAML_ALIAS_EVENT = alias (is_id f)
  within event_kinds.YAML_SCALAR_EVENT = placed (adding (roomy n c)) (adding (roomy m c)) (λ x y. (refl, refl))
  within event_kinds.YAML_SEQUENCE_START_EVENT = start 0
  within event_kinds.YAML_MAPPING_START_EVENT = start 1
  within event_kinds.YAML_SEQUENCE_END_EVENT = ended c.stack
  within event_kinds.YAML_MAPPING_END_EVENT = ended c.stack
  within _ = λ x y. (refl, refl)

  between : (k : yaml_event_type_t) → SayTheSame (between_step k p (roomy n c)) (between_step k p (roomy m c))
  between event_kinds.YAML_DOCUMENT_START_EVENT = λ x y. (refl, refl)
  between _ = λ x y. (refl, refl)

  step : (b : Bool) (k : yaml_event_type_t) → SayTheSame (step_in b k f p (roomy n c)) (step_in b k f p (roomy m c))
  step true k = within k
  step false k = between k

pub one_place : (old new other : EventComposer) (e : Event) (p q : Option yaml_place_t) → PlacesEvent old e p new
    → PlacesEvent old e q other → p ≡ q
one_place old new other e p q a b =
    let f = pos (id_or (event_node old.anchors e)) in
    let same = step f no_place old.collections a.tells.room b.tells.room old.collections.is_within (event_type e.content)
    (λ x. a.tells.has_room (ap (λ (t : Told). t.deed) a.tells.told ∙ x))
    (λ x. b.tells.has_room (ap (λ (t : Told). t.deed) b.tells.told ∙ x)) in
    let deeds : a.deed ≡ b.deed = ap (λ (t : Told). t.deed) a.tells.told ∙ (same.0 ∙ sym (ap (λ (t : Told). t.deed) b.tells.told)) in
    let puts : a.put ≡ b.put = ap (λ (t : Told). t.place) a.tells.told ∙ (same.1 ∙ sym (ap (λ (t : Told). t.place) b.tells.told)) in
    a.place_is ∙ (ap (λ (d : Deed). place_by d a.put old.collections.stack) deeds
    ∙ (ap (λ (v : place_t). place_by b.deed v old.collections.stack) puts ∙ sym b.place_is))

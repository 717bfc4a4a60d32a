-- What is told of an event leads where the loader goes, or refuses the event as it does.
use Rattle.std.proofs.Common.{◌≡◌, ◌∷◌, ◌∙◌, ℕ, ℤ, pos, List, [], Bool, true, false, refl, ap, subst}
use Rattle.libyaml_types.specs.Types.{event_type}
use Rattle.libyaml_types.specs.declared.enums.yaml_event_type_t.{yaml_event_type_t}
use Rattle.libyaml_types.specs.declared.enums.yaml_event_type_t.TheVariants as event_kinds
use Rattle.libyaml_grammar.specs.grammar.Events.{Event}
use Rattle.libyaml_graphs.specs.graphs.Graphs.{id_or}
use Rattle.libyaml_graphs.specs.graphs.GraphParts.{part_of}
use Rattle.libyaml_composer.specs.declared.deed.Deed.{Deed}
use Rattle.libyaml_composer.specs.declared.deed.Deed.TheVariants as deed
use Rattle.libyaml_composer.specs.declared.records.open_t.{open_t}
use Rattle.libyaml_composer.specs.declared.records.place_t.{place_t}
use Rattle.libyaml_composer.specs.Composing.{Composer, Told, adding, at_anchored_node, at_start, between_step, collection_ended, composer_step, deed_for, deed_in, if_placed, step_in, unless, within_step}
use Rattle.libyaml_composer.specs.DocumentSoFar.{IsRefused}
use Rattle.libyaml_composer.specs.Numbers.{is_id, is_set}
use Rattle.libyaml_loader.specs.composed.Anchoring.{anchors_after, event_node}
use Rattle.libyaml_loader.specs.composed.EventComposer.{ComposesTo, EventComposer, RefusesBy}
use Rattle.libyaml_loader.specs.composed.Telling.{TellsDeed, load_fault, no_place}
use Rattle.libyaml_loader.specs.document.Stack.{roomy}
use Rattle.libyaml_loader.proofs.composed.Steps.{goes_on, refuses}

-- a refused event has the place that was put before
module _ (f : ℤ) (p : place_t) (c : Composer) where
  abbrev Stays : Told → Type 0
  Stays t = IsRefused t.deed → t.place ≡ p

  child : (s : List open_t) → IsRefused (deed_for s) → ⊥
  child [] = λ r. r
  child (o ∷ s) = go (is_set o.is_mapping) (is_id o.key)
    where
      go : (b w : Bool) → IsRefused (deed_in b w) → ⊥
      go false w = λ r. r
      go true false = λ r. r
      go true true = λ r. r

  test : (b : Bool) (d : Deed) (t : Told) → Stays t → Stays (unless b d p c t)
  test true d t h = λ r. refl
  test false d t h = h

  placed : (t : Told) → Stays t → Stays (if_placed f p c t)
  placed t h = test _ deed.FullList _ (test (is_id f) deed.RepeatedAnchor _ (test _ deed.FullList t h))

  start : (m : ℕ) → Stays (at_start m f p c)
  start m = placed _ (test _ deed.FullStack _ (λ r. absurd (child c.stack r)))

  alias : (b : Bool) → Stays (at_anchored_node b f p c)
  alias false = λ r. refl
  alias true = test _ deed.FullList _ (λ r. absurd (child c.stack r))

  ended : (s : List open_t) → Stays (collection_ended s p c)
  ended [] = λ r. refl
  ended (o ∷ s) = λ r. absurd r

  within : (k : yaml_event_type_t) → Stays (within_step k f p c)
  within event_kinds.YAML_ALIAS_EVENT = alias (is_id f)
  within event_kinds.YAML_SCALAR_EVENT = placed (adding c) (λ r. absurd (child c.stack r))
  within event_kinds.YAML_SEQUENCE_START_EVENT = start 0
  within event_kinds.YAML_MAPPING_START_EVENT = start 1
  within event_kinds.YAML_SEQUENCE_END_EVENT = ended c.stack
  within event_kinds.YAML_MAPPING_END_EVENT = ended c.stack
  within _ = λ r. refl

  between : (k : yaml_event_type_t) → Stays (between_step k p c)
  between event_kinds.YAML_DOCUMENT_START_EVENT = λ r. refl
  between _ = λ r. refl

  step : (b : Bool) (k : yaml_event_type_t) → Stays (step_in b k f p c)
  step true k = within k
  step false k = between k

  pub refused_place : (k : yaml_event_type_t) → Stays (composer_step k f p c)
  refused_place k = step c.is_within k

module _ (old new : EventComposer) (e : Event) (d : Deed) (p : place_t) (t : TellsDeed old e d p new) where
  pub composes_to : (IsRefused d → ⊥) → ComposesTo old e new
  composes_to sound = goes_on old e t.room no_place p d new.collections (pos (id_or (event_node old.anchors e))) refl
      t.told new.anchors t.anchors sound t.has_room

  pub refuses_by : IsRefused d → RefusesBy old e (load_fault d old e)
  refuses_by r = refuses old e t.room no_place p d new.collections (pos (id_or (event_node old.anchors e))) refl
      t.told new.anchors t.anchors r

  nothing_put : IsRefused d → p ≡ no_place
  nothing_put r = ap (λ (x : Told). x.place) t.told
      ∙ refused_place (pos (id_or (event_node old.anchors e))) no_place (roomy t.room old.collections) (event_type e.content)
      (subst IsRefused (ap (λ (x : Told). x.deed) t.told) r)

  pub refused_anchors : IsRefused d → new.anchors ≡ old.anchors
  refused_anchors r = t.anchors ∙ (ap (λ (x : place_t). anchors_after d x.node (part_of e) old.anchors) (nothing_put r) ∙ go d r)
    where
      go : (d : Deed) → IsRefused d → anchors_after d (pos 0) (part_of e) old.anchors ≡ old.anchors
      go deed.UndefinedAlias r = refl
      go deed.RepeatedAnchor r = refl
      go deed.FullList r = refl
      go _ r = absurd r

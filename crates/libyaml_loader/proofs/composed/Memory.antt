-- Where composing an event takes memory: a node whose anchor an earlier node has is put nowhere, so it is not registered.
use Rattle.std.proofs.Common.{◌≡◌, ◌∷◌, ◌∙◌, ℕ, zero, suc, ℤ, pos, of_z, w32, List, [], Option, Bool, true, false, refl, sym, ap, arith}
use Rattle.libyaml_types.specs.Types.{event_type}
use Rattle.libyaml_types.specs.declared.enums.yaml_event_type_t.{yaml_event_type_t}
use Rattle.libyaml_types.specs.declared.enums.yaml_event_type_t.TheVariants as event_kinds
use Rattle.libyaml_grammar.specs.grammar.Events.{Event}
use Rattle.libyaml_graphs.specs.graphs.GraphParts.{Part, part_of}
use Rattle.libyaml_graphs.specs.graphs.Graphs.{id_or}
use Rattle.libyaml_graphs.specs.machine.Loader.{Anchors}
use Rattle.libyaml_composer.specs.declared.deed.Deed.{Deed}
use Rattle.libyaml_composer.specs.declared.deed.Deed.TheVariants as deed
use Rattle.libyaml_composer.specs.declared.records.open_t.{open_t}
use Rattle.libyaml_composer.specs.declared.records.place_t.{place_t}
use Rattle.libyaml_composer.specs.Composing.{Composer, Told, at_anchored_node, between_step, collection_ended, composer_step, if_placed, is_start, step_in, told, unless, within_step}
use Rattle.libyaml_composer.specs.Numbers.{is_id}
use Rattle.libyaml_loader.specs.composed.Anchoring.{anchors_after, event_node}
use Rattle.libyaml_loader.specs.composed.EventComposer.{needs_memory, needs_memory_by}
use Rattle.libyaml_loader.specs.composed.Telling.{no_place}

module _ (f : ℤ) (c : Composer) (h : is_id f ≡ true) where
  abbrev Puts : Told → Type 0
  Puts t = t.place.node ≡ pos 0

  test : (b : Bool) (d : Deed) (t : Told) → Puts t → Puts (unless b d no_place c t)
  test true d t q = refl
  test false d t q = q

  repeated : (t : Told) (b : Bool) → b ≡ true → Puts (unless b deed.RepeatedAnchor no_place c t)
  repeated t true e = refl
  repeated t false e = absurd cc

  placed : (t : Told) → Puts (if_placed f no_place c t)
  placed t = test _ deed.FullList _ (repeated _ (is_id f) h)

  alias : (b : Bool) → Puts (at_anchored_node b f no_place c)
  alias false = refl
  alias true = test _ deed.FullList _ refl

  ended : (s : List open_t) → Puts (collection_ended s no_place c)
  ended [] = refl
  ended (o ∷ s) = refl

  within : (k : yaml_event_type_t) → Puts (within_step k f no_place c)
  within event_kinds.YAML_ALIAS_EVENT = alias (is_id f)
  within event_kinds.YAML_SCALAR_EVENT = placed _
  within event_kinds.YAML_SEQUENCE_START_EVENT = placed _
  within event_kinds.YAML_MAPPING_START_EVENT = placed _
  within event_kinds.YAML_SEQUENCE_END_EVENT = ended c.stack
  within event_kinds.YAML_MAPPING_END_EVENT = ended c.stack
  within _ = refl

  between : (k : yaml_event_type_t) → Puts (between_step k no_place c)
  between event_kinds.YAML_DOCUMENT_START_EVENT = refl
  between _ = refl

  step : (b : Bool) (k : yaml_event_type_t) → Puts (step_in b k f no_place c)
  step true k = within k
  step false k = between k

pub none_registered : (k : yaml_event_type_t) (f : ℤ) (d : Deed) (p : place_t) (c c' : Composer) (q : Option Part) (xs : Anchors)
    → told d p c' ≡ composer_step k f no_place c → is_id f ≡ true → (d ≡ deed.Begins → ⊥) → anchors_after d p.node q xs ≡ xs
none_registered k f d p c c' q xs t n other
    = ap (λ (i : ℤ). anchors_after d i q xs) (ap (λ (x : Told). x.place.node) t ∙ step f c n c.is_within k) ∙ go d other
  where
    go : (d : Deed) → (d ≡ deed.Begins → ⊥) → anchors_after d (pos 0) q xs ≡ xs
    go deed.Begins o = absurd (o refl)
    go _ o = refl

pub opened_needs : (xs : Anchors) (e : Event) (f : ℤ) → f ≡ pos (id_or (event_node xs e)) → is_start (event_type e.content) ≡ true
    → is_id f ≡ false → needs_memory xs e ≡ true
opened_needs xs e f i start n
    = ap (λ (b : Bool). needs_memory_by b (part_of e)) (ap is_id (sym i) ∙ n) ∙ needs
  where
    needs : needs_memory_by false (part_of e) ≡ true
    needs = grind arith

pub fact_is_id : (n : ℕ) → (of_z w32 (pos n) ≡ 0 → ⊥) → is_id (pos n) ≡ true
fact_is_id zero h = absurd (h refl)
fact_is_id (suc n) h = refl

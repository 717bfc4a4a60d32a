-- Why a call does nothing: the stack is full at starts of collections alone, and where it has no room; and an anchor is
-- repeated where the fact is an id.
use Rattle.std.proofs.Common.{◌≡◌, ◌∷◌, ℕ, ℤ, List, [], Bool, true, false, length, nat_le, refl, subst}
use Rattle.libyaml_types.specs.declared.enums.yaml_event_type_t.{yaml_event_type_t}
use Rattle.libyaml_types.specs.declared.enums.yaml_event_type_t.TheVariants as event_kinds
use Rattle.libyaml_composer.specs.declared.deed.Deed.{Deed}
use Rattle.libyaml_composer.specs.declared.deed.Deed.TheVariants as deed
use Rattle.libyaml_composer.specs.declared.records.open_t.{open_t}
use Rattle.libyaml_composer.specs.declared.records.place_t.{place_t}
use Rattle.libyaml_composer.specs.Composing.{Composer, Told, adding, at_anchored_node, at_start, between_step, deed_for, deed_in, collection_ended, if_placed, is_start, composer_step, step_in, unless, within_step}
use Rattle.libyaml_composer.specs.Numbers.{is_set, is_id}

abbrev Reason : yaml_event_type_t → ℤ → Composer → Deed → Type 0
Reason k f c deed.FullStack = (is_start k ≡ true) × (nat_le c.room (length c.stack) ≡ true)
Reason k f c deed.RepeatedAnchor = is_id f ≡ true
Reason k f c _ = Unit {0}

module _ (k : yaml_event_type_t) (f : ℤ) (p : place_t) (c : Composer) where
  child : (s : List open_t) → Reason k f c (deed_for s)
  child [] = tt
  child (o ∷ s) = go (is_set o.is_mapping) (is_id o.key)
    where
      go : (b w : Bool) → Reason k f c (deed_in b w)
      go false w = tt
      go true false = tt
      go true true = tt

  test : (b : Bool) (d : Deed) (t : Told) → (b ≡ true → Reason k f c d) → Reason k f c t.deed → Reason k f c (unless b d p c t).deed
  test true d t why h = why refl
  test false d t why h = h

  placed : (t : Told) → Reason k f c t.deed → Reason k f c (if_placed f p c t).deed
  placed t h = test _ deed.FullList _ (λ e. tt)
      (test (is_id f) deed.RepeatedAnchor _ (λ e. e) (test _ deed.FullList t (λ e. tt) h))

  start : (m : ℕ) → is_start k ≡ true → Reason k f c (at_start m f p c).deed
  start m is = placed _ (test _ deed.FullStack _ (λ e. (is, e)) (child c.stack))

  alias : (b : Bool) → Reason k f c (at_anchored_node b f p c).deed
  alias false = tt
  alias true = test _ deed.FullList _ (λ e. tt) (child c.stack)

  ended : (s : List open_t) → Reason k f c (collection_ended s p c).deed
  ended [] = tt
  ended (o ∷ s) = tt

reason : (k : yaml_event_type_t) (f : ℤ) (p : place_t) (c : Composer) → Reason k f c (composer_step k f p c).deed
reason k f p c = go c.is_within k
  where
    within : (k : yaml_event_type_t) → Reason k f c (within_step k f p c).deed
    within event_kinds.YAML_ALIAS_EVENT = alias event_kinds.YAML_ALIAS_EVENT f p c (is_id f)
    within event_kinds.YAML_SCALAR_EVENT = placed event_kinds.YAML_SCALAR_EVENT f p c (adding c) (child event_kinds.YAML_SCALAR_EVENT f p c c.stack)
    within event_kinds.YAML_SEQUENCE_START_EVENT = start event_kinds.YAML_SEQUENCE_START_EVENT f p c 0 refl
    within event_kinds.YAML_MAPPING_START_EVENT = start event_kinds.YAML_MAPPING_START_EVENT f p c 1 refl
    within event_kinds.YAML_SEQUENCE_END_EVENT = ended event_kinds.YAML_SEQUENCE_END_EVENT f p c c.stack
    within event_kinds.YAML_MAPPING_END_EVENT = ended event_kinds.YAML_MAPPING_END_EVENT f p c c.stack
    within _ = tt

    between : (k : yaml_event_type_t) → Reason k f c (between_step k p c).deed
    between event_kinds.YAML_DOCUMENT_START_EVENT = tt
    between _ = tt

    go : (b : Bool) (k : yaml_event_type_t) → Reason k f c (step_in b k f p c).deed
    go true k = within k
    go false k = between k

pub full_starts : (k : yaml_event_type_t) (f : ℤ) (p : place_t) (c : Composer) → (composer_step k f p c).deed ≡ deed.FullStack
    → (is_start k ≡ true) × (nat_le c.room (length c.stack) ≡ true)
full_starts k f p c h = subst (Reason k f c) h (reason k f p c)

pub repeated : (k : yaml_event_type_t) (f : ℤ) (p : place_t) (c : Composer) → (composer_step k f p c).deed ≡ deed.RepeatedAnchor
    → is_id f ≡ true
repeated k f p c h = subst (Reason k f c) h (reason k f p c)

-- What a step does that puts a node or an alias.
use Rattle.std.proofs.Common.{◌≡◌, ◌⊎◌, inl, inr, ◌∷◌, ◌++◌, ℕ, ℤ, pos, List, [], Bool, true, false, true≢false, refl, sym}
use Rattle.libyaml_types.specs.declared.enums.yaml_event_type_t.{yaml_event_type_t}
use Rattle.libyaml_types.specs.declared.enums.yaml_event_type_t.TheVariants as event_kinds
use Rattle.libyaml_composer.specs.declared.deed.Deed.{Deed}
use Rattle.libyaml_composer.specs.declared.deed.Deed.TheVariants as deed
use Rattle.libyaml_composer.specs.declared.records.open_t.{open_t}
use Rattle.libyaml_composer.specs.declared.records.place_t.{place_t}
use Rattle.libyaml_composer.specs.Composing.{Composer, Told, adding, at_anchored_node, at_start, between_step, collection_ended, composer_step, deed_for, holding_top, if_placed, new_id, parent_in, step_in, unless, waiting_in, within_step}
use Rattle.libyaml_composer.specs.Numbers.{is_id}
use Rattle.libyaml_composer.specs.Represents.{PutsNode}

-- the collections that an event opens: none, or that of the new node
pub data IsOpened (i : ℤ) : List open_t → Type 0 where
  none_opened : IsOpened i []
  one_opened : (o : open_t) → o.node ≡ i → IsOpened i (o ∷ [])

-- The child goes to the innermost open collection, which holds it then: a new node, or the one that an alias names.
pub record Puts (f : ℤ) (c : Composer) (t : Told) : Type 0 where
  pub within : c.is_within ≡ true
  pub deed : t.deed ≡ deed_for c.stack
  pub parent : t.place.parent ≡ parent_in c.stack
  pub key : t.place.key ≡ waiting_in c.stack
  pub id : is_id t.place.child ≡ true
  pub child : (t.place.child ≡ new_id c) ⊎ ((t.place.child ≡ f) × (is_id f ≡ true))
  pub made : is_id t.place.node ≡ true → t.place.child ≡ t.place.node
  pub opened : List open_t
  pub opens : IsOpened (new_id c) opened
  pub stack : t.composer.stack ≡ opened ++ holding_top t.place.child c.stack

module _ (f : ℤ) (p : place_t) (c : Composer) (inside : c.is_within ≡ true) where
  abbrev IsPut : Told → Type 0
  IsPut t = PutsNode t.deed → Puts f c t

  test : (b : Bool) (d : Deed) (t : Told) → (PutsNode d → ⊥) → IsPut t → IsPut (unless b d p c t)
  test true d t none h = λ put. absurd (none put)
  test false d t none h = h

  placed : (t : Told) → IsPut t → IsPut (if_placed f p c t)
  placed t h = test _ deed.FullList _ (λ x. x)
      (test (is_id f) deed.RepeatedAnchor _ (λ x. x) (test _ deed.FullList t (λ x. x) h))

  node : IsPut (adding c)
  node put = record {
    within = inside;
    deed = refl;
    parent = refl;
    key = refl;
    id = refl;
    child = inl refl;
    made = λ n. refl;
    opened = [];
    opens = none_opened;
    stack = refl;
  }

  start : (m : ℕ) → IsPut (at_start m f p c)
  start m = placed _ (test _ deed.FullStack _ (λ x. x) (λ put. record {
    within = inside;
    deed = refl;
    parent = refl;
    key = refl;
    id = refl;
    child = inl refl;
    made = λ n. refl;
    opened = record { node = new_id c; key = pos 0; children = 0; is_mapping = m } ∷ [];
    opens = one_opened _ refl;
    stack = refl;
  }))

  alias : (b : Bool) → is_id f ≡ b → IsPut (at_anchored_node b f p c)
  alias false is = λ put. absurd put
  alias true is = test _ deed.FullList _ (λ x. x) (λ put. record {
    within = inside;
    deed = refl;
    parent = refl;
    key = refl;
    id = is;
    child = inr (refl, is);
    made = λ n. absurd (true≢false (sym n));
    opened = [];
    opens = none_opened;
    stack = refl;
  })

  ended : (s : List open_t) → IsPut (collection_ended s p c)
  ended [] = λ put. absurd put
  ended (o ∷ s) = λ put. absurd put

  within : (k : yaml_event_type_t) → IsPut (within_step k f p c)
  within event_kinds.YAML_ALIAS_EVENT = alias (is_id f) refl
  within event_kinds.YAML_SCALAR_EVENT = placed (adding c) node
  within event_kinds.YAML_SEQUENCE_START_EVENT = start 0
  within event_kinds.YAML_MAPPING_START_EVENT = start 1
  within event_kinds.YAML_SEQUENCE_END_EVENT = ended c.stack
  within event_kinds.YAML_MAPPING_END_EVENT = ended c.stack
  within _ = λ put. absurd put

between : (k : yaml_event_type_t) (p : place_t) (c : Composer) → PutsNode (between_step k p c).deed → ⊥
between event_kinds.YAML_DOCUMENT_START_EVENT p c put = put
between _ p c put = put

pub puts : (k : yaml_event_type_t) (f : ℤ) (p : place_t) (c : Composer) → PutsNode (composer_step k f p c).deed
    → Puts f c (composer_step k f p c)
puts k f p c = go c.is_within refl
  where
    go : (b : Bool) → c.is_within ≡ b → PutsNode (step_in b k f p c).deed → Puts f c (step_in b k f p c)
    go true is put = within f p c is k put
    go false is put = absurd (between k p c put)

-- What the composer tells at an event within a document, if it takes the event.
use Rattle.std.proofs.Common.{◌≡◌, ◌<◌, ◌≤◌, ◌∷◌, ℕ, zero, suc, ℤ, pos, List, [], length, nat_le, Option, Some, None, Bool, true, false, refl, sym, subst, arith}
use Rattle.std.specs.FinMap.{get}
use Rattle.libyaml_types.specs.Types.{event_type}
use Rattle.libyaml_types.specs.declared.event.unnamed_yaml_event_t_data.TheVariants as ev
use Rattle.libyaml_types.specs.declared.event.unnamed_yaml_event_t_data.{unnamed_yaml_event_t_data}
use Rattle.libyaml_grammar.specs.grammar.Events.{Event}
use Rattle.libyaml_grammar.specs.grammar.Tokens.{Mark}
use Rattle.libyaml_documents.specs.Nodes.{ids_of}
use Rattle.libyaml_documents.specs.declared.node.yaml_node_t.{yaml_node_t}
use Rattle.libyaml_graphs.specs.graphs.Graphs.{AnchoredNode, id_or}
use Rattle.libyaml_graphs.specs.graphs.GraphParts.{Opening, Part, leaf_part, part_in, part_of, start_part}
use Rattle.libyaml_composer.specs.declared.deed.Deed.TheVariants as deed
use Rattle.libyaml_composer.specs.declared.records.open_t.{open_t}
use Rattle.libyaml_composer.specs.declared.records.place_t.{place_t}
use Rattle.libyaml_composer.specs.Composing.{Composer, Told, adding, at_anchored_node, at_start, collection_ended, composer_step, handing, if_placed, is_list_full, is_start, new_id, told, unless, with_open_node, within_step}
use Rattle.libyaml_composer.specs.Numbers.{is_id}
use Rattle.libyaml_composer.specs.DocumentSoFar.{DocumentSoFar, event_fact, fact_by}
use Rattle.libyaml_composer.specs.Represents.{IsCarried, IsPart, Represents}

-- by its part, and whether it starts a collection
pub data View (c : Composer) (h : DocumentSoFar) (q : Option Part) (start : Bool) : Told → Type 0 where
  alias : (j : ℕ) → j < length h.nodes → View c h q start (handing (pos 0) (pos (suc j)) c)
  scalar : (a : Option (List ℕ)) (x : yaml_node_t) → ids_of x.content ≡ [] → q ≡ Some (leaf_part a x) → start ≡ false
      → View c h q start (adding c)
  begins : (a : Option (List ℕ)) (x : yaml_node_t) (m : ℕ) → ids_of x.content ≡ [] → q ≡ Some (start_part a x) → start ≡ true
      → View c h q start (with_open_node m (new_id c) (adding c))
  closes : (o : open_t) (s : List open_t) (m : Mark) → c.stack ≡ o ∷ s → View c h q start
      (told deed.Closes (record { node = pos 0; child = pos 0; parent = o.node; key = pos 0 }) (record c { stack = s }))
  passes : (p : place_t) → View c h q start (told deed.Passes p c)

placed_is : (f : ℤ) (p : place_t) (c : Composer) (t : Told) → IsPart (if_placed f p c t).deed → if_placed f p c t ≡ t
placed_is f p c t k = grind arith

module _ (c : Composer) (h : DocumentSoFar) (o : Opening) (stands : Represents c h o) (p : place_t) where
  view_alias : (q : Option Part) (start : Bool) (k : Option AnchoredNode) → IsCarried (length h.nodes) k
      → IsPart (at_anchored_node (is_id (pos (id_or k))) (pos (id_or k)) p c).deed
      → View c h q start (at_anchored_node (is_id (pos (id_or k))) (pos (id_or k)) p c)
  view_alias q start None lt part = absurd part
  view_alias q start (Some k) lt part = go k.id lt.0 lt.1 part
    where
      go : (n : ℕ) → 0 < n → n ≤ length h.nodes → IsPart (at_anchored_node (is_id (pos n)) (pos n) p c).deed
          → View c h q start (at_anchored_node (is_id (pos n)) (pos n) p c)
      go zero lt le part = absurd (omega arith)
      go (suc j) lt le part = by (is_list_full c.most c.stack) part
        where
          by : (b : Bool) → IsPart (unless b deed.FullList p c (handing (pos 0) (pos (suc j)) c)).deed
              → View c h q start (unless b deed.FullList p c (handing (pos 0) (pos (suc j)) c))
          by true part = absurd part
          by false part = alias j (omega arith)

  view_scalar : (q : Option Part) (start : Bool) (f : ℤ) (a : Option (List ℕ)) (x : yaml_node_t) → ids_of x.content ≡ []
      → q ≡ Some (leaf_part a x) → start ≡ false → IsPart (if_placed f p c (adding c)).deed
      → View c h q start (if_placed f p c (adding c))
  view_scalar q start f a x none is starts part = subst (View c h q start) (sym (placed_is f p c (adding c) part)) (scalar a x none is starts)

  view_start : (q : Option Part) (start : Bool) (f : ℤ) (m : ℕ) (a : Option (List ℕ)) (x : yaml_node_t) → ids_of x.content ≡ []
      → q ≡ Some (start_part a x) → start ≡ true → IsPart (at_start m f p c).deed → View c h q start (at_start m f p c)
  view_start q start f m a x none is starts part = subst (View c h q start) (sym (placed_is f p c _ part))
      (by (nat_le c.room (length c.stack)) (subst (λ (t : Told). IsPart t.deed) (placed_is f p c _ part) part))
    where
      by : (b : Bool) → IsPart (unless b deed.FullStack p c (with_open_node m (new_id c) (adding c))).deed
          → View c h q start (unless b deed.FullStack p c (with_open_node m (new_id c) (adding c)))
      by true part = absurd part
      by false part = begins a x m none is starts

  view_end : (q : Option Part) (start : Bool) (m : Mark) → View c h q start (collection_ended c.stack p c)
  view_end q start m = go c.stack refl
    where
      go : (s : List open_t) → c.stack ≡ s → View c h q start (collection_ended s p c)
      go [] e = passes p
      go (y ∷ s) e = closes y s m e

  view_within : (k : unnamed_yaml_event_t_data) (m n : Mark)
      → IsPart (within_step (event_type k) (fact_by h.anchors (part_in k m n)) p c).deed
      → View c h (part_in k m n) (is_start (event_type k)) (within_step (event_type k) (fact_by h.anchors (part_in k m n)) p c)
  view_within (ev.DocumentEnd d) m n part = absurd part
  view_within (ev.Alias a) m n part = view_alias _ _ (get h.anchors a.anchor) (stands.carried a.anchor) part
  view_within (ev.Scalar s) m n part = view_scalar _ _ (fact_by h.anchors (part_in (ev.Scalar s) m n)) s.anchor _ refl refl refl part
  view_within (ev.SequenceStart s) m n part = view_start _ _ (fact_by h.anchors (part_in (ev.SequenceStart s) m n)) 0 s.anchor _ refl refl refl part
  view_within (ev.MappingStart s) m n part = view_start _ _ (fact_by h.anchors (part_in (ev.MappingStart s) m n)) 1 s.anchor _ refl refl refl part
  view_within ev.SequenceEnd m n part = view_end _ _ n
  view_within ev.MappingEnd m n part = view_end _ _ n
  view_within _ m n part = passes p

  pub view : (e : Event) → IsPart (composer_step (event_type e.content) (event_fact h e) p c).deed
      → View c h (part_of e) (is_start (event_type e.content)) (composer_step (event_type e.content) (event_fact h e) p c)
  view e part = grind (arith, view_within)

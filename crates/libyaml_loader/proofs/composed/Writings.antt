-- What is kept of placed events beside their document.
use Rattle.std.proofs.Common.{◌≡◌, ◌+◌, ◌++◌, ◌∷◌, ℕ, suc, ℤ, pos, List, [], length, Option, None, Some, Bool, true, false, true≢false, refl, sym, ap, ◌∙◌, subst, arith}
use Rattle.std.proofs.lemmas.List.{length-append}
use Rattle.libyaml_types.specs.Types.{event_type}
use Rattle.libyaml_types.specs.declared.event.unnamed_yaml_event_t_data.{unnamed_yaml_event_t_data}
use Rattle.libyaml_types.specs.declared.event.unnamed_yaml_event_t_data.TheVariants as ev
use Rattle.libyaml_grammar.specs.grammar.Events.{Event}
use Rattle.libyaml_grammar.specs.grammar.Tokens.{Mark}
use Rattle.libyaml_composer.specs.declared.deed.Deed.{Deed}
use Rattle.libyaml_composer.specs.declared.deed.Deed.TheVariants as deed
use Rattle.libyaml_composer.specs.declared.records.place_t.{place_t}
use Rattle.libyaml_composer.specs.Composing.{Composer, Told, at_start, between_step, deed_for, deed_in, if_placed, step_in, told, unless, within_step}
use Rattle.libyaml_composer.specs.declared.records.open_t.{open_t}
use Rattle.libyaml_composer.specs.DocumentSoFar.{IsRefused}
use Rattle.libyaml_composer.specs.Numbers.{is_id, is_set}
use Rattle.libyaml_composer.specs.Represents.{IsNode}
use Rattle.libyaml_graphs.specs.graphs.GraphParts.{Opening, opening_in, opening_of, part_in, part_of}
use Rattle.libyaml_graphs.specs.graphs.Graphs.{id_or}
use Rattle.libyaml_loader.specs.composed.Anchoring.{event_node}
use Rattle.libyaml_loader.specs.composed.Telling.{no_place}
use Rattle.libyaml_loader.specs.document.Stack.{roomy}
use Rattle.libyaml_loader.specs.declared.places.yaml_place_t.{yaml_place_t}
use Rattle.libyaml_loader.specs.composed.EventComposer.{EventComposer}
use Rattle.libyaml_loader.specs.composed.Places.{PlacesEvent, place_by, role_of}
use Rattle.libyaml_loader.specs.composed.Written.{IsWrittenOf, Written, WrittenNode, begun_by, with_place, with_placed_event, written_after, written_node}

-- whether an event makes a node
abbrev makes_node : unnamed_yaml_event_t_data → Bool
makes_node (ev.Scalar s) = true
makes_node (ev.SequenceStart s) = true
makes_node (ev.MappingStart s) = true
makes_node _ = false

-- within a document: a node has a place and comes after the others; nothing else is counted
record Within (k : unnamed_yaml_event_t_data) (d : Deed) (p : place_t) (old new : Composer) : Type 0 where
  node : makes_node k ≡ true → (role_of d ≡ None → ⊥) × (p.child ≡ pos (suc old.nodes)) × (new.nodes ≡ suc old.nodes)
  other : makes_node k ≡ false → new.nodes ≡ old.nodes

-- a test that the event passed
passed : (b : Bool) (x : Deed) (before : place_t) (c : Composer) (t u : Told) → u ≡ unless b x before c t → (u.deed ≡ x → ⊥)
    → u ≡ t
passed true x before c t u h differs = absurd (differs (ap (λ (v : Told). v.deed) h))
passed false x before c t u h differs = h

-- a child has a role
has_role : (is_mapping waits : Bool) → role_of (deed_in is_mapping waits) ≡ None → ⊥
has_role false waits h = cc
has_role true false h = cc
has_role true true h = cc

child_has_role : (s : List open_t) → role_of (deed_for s) ≡ None → ⊥
child_has_role [] h = cc
child_has_role (o ∷ s) h = has_role (is_set o.is_mapping) (is_id o.key) h

module _ (f : ℤ) (before p : place_t) (old new : Composer) (d : Deed) (taken : IsRefused d → ⊥) where
  not_refused : (x : Deed) → IsRefused x → d ≡ x → ⊥
  not_refused x r e = taken (subst IsRefused (sym e) r)

  free : (t : Told) → told d p new ≡ if_placed f before old t → told d p new ≡ t
  free t h =
      let a = passed _ deed.FullList before old _ (told d p new) h (not_refused deed.FullList tt) in
      let b = passed (is_id f) deed.RepeatedAnchor before old _ (told d p new) a (not_refused deed.RepeatedAnchor tt) in
      passed _ deed.FullList before old t (told d p new) b (not_refused deed.FullList tt)

  added : (k : unnamed_yaml_event_t_data) (t : Told) → makes_node k ≡ true → told d p new ≡ t → t.deed ≡ deed_for old.stack
      → t.place.child ≡ pos (suc old.nodes) → t.composer.nodes ≡ suc old.nodes → Within k d p old new
  added k t makes h deed child nodes = record {
    node = λ is. (
      λ none. child_has_role old.stack (ap role_of (sym deed ∙ ap (λ (v : Told). v.deed) (sym h)) ∙ none),
      ap (λ (v : Told). v.place.child) h ∙ child,
      ap (λ (v : Told). v.composer.nodes) h ∙ nodes,
    );
    other = λ none. absurd (true≢false (sym makes ∙ none));
  }

  starts : (k : unnamed_yaml_event_t_data) (m : ℕ) → makes_node k ≡ true → (d ≡ deed.FullStack → ⊥)
      → told d p new ≡ at_start m f before old → Within k d p old new
  starts k m makes room h = added k _ makes
      (passed _ deed.FullStack before old _ (told d p new) (free _ h) room) refl refl refl

  within_counts : (k : unnamed_yaml_event_t_data) → told d p new ≡ within_step (event_type k) f before old
      → (d ≡ deed.FullStack → ⊥) → Within k d p old new
  within_counts ev.NoEvent h room = grind arith
  within_counts (ev.StreamStart s) h room = grind arith
  within_counts ev.StreamEnd h room = grind arith
  within_counts (ev.DocumentStart s) h room = grind arith
  within_counts (ev.DocumentEnd s) h room = grind arith
  within_counts (ev.Alias s) h room = grind arith
  within_counts (ev.Scalar s) h room = added (ev.Scalar s) _ refl (free _ h) refl refl refl
  within_counts (ev.SequenceStart s) h room = starts (ev.SequenceStart s) 0 refl room h
  within_counts ev.SequenceEnd h room = grind arith
  within_counts (ev.MappingStart s) h room = starts (ev.MappingStart s) 1 refl room h
  within_counts ev.MappingEnd h room = grind arith

nothing_placed : (d : Deed) (put : place_t) (s : List open_t) → role_of d ≡ None → place_by d put s ≡ None
nothing_placed d put s h = grind arith

-- one more, for a node
abbrev counted : Bool → ℕ → ℕ
counted true n = suc n
counted false n = n

-- between documents nothing has a place, and a document begins without nodes
record Outside (k : unnamed_yaml_event_t_data) (m : Mark) (d : Deed) (old new : Composer) : Type 0 where
  role : role_of d ≡ None
  begins : new.is_within ≡ true → (new.nodes ≡ 0) × (opening_in k m ≡ None → ⊥)

outside_counts : (k : unnamed_yaml_event_t_data) (m : Mark) (before p : place_t) (old new : Composer) (d : Deed)
    → old.is_within ≡ false → told d p new ≡ between_step (event_type k) before old → Outside k m d old new
outside_counts ev.NoEvent m before p old new d out h = grind arith
outside_counts (ev.StreamStart s) m before p old new d out h = grind arith
outside_counts ev.StreamEnd m before p old new d out h = grind arith
outside_counts (ev.DocumentStart s) m before p old new d out h = grind arith
outside_counts (ev.DocumentEnd s) m before p old new d out h = grind arith
outside_counts (ev.Alias s) m before p old new d out h = grind arith
outside_counts (ev.Scalar s) m before p old new d out h = grind arith
outside_counts (ev.SequenceStart s) m before p old new d out h = grind arith
outside_counts ev.SequenceEnd m before p old new d out h = grind arith
outside_counts (ev.MappingStart s) m before p old new d out h = grind arith
outside_counts ev.MappingEnd m before p old new d out h = grind arith

-- what is kept after an event that has a place, and after one that has none
length_more : (l : List WrittenNode) (n : WrittenNode) → length (l ++ n ∷ []) ≡ suc (length l)
length_more l n = grind (arith, length-append)

kept_node : (k : unnamed_yaml_event_t_data) (n : WrittenNode) (p : yaml_place_t) (w : Written) → makes_node k ≡ true
    → length (with_placed_event k n p w).nodes ≡ suc (length w.nodes)
kept_node k n p w is = grind (arith, length_more)

kept_other : (k : unnamed_yaml_event_t_data) (n : WrittenNode) (p : yaml_place_t) (w : Written) → makes_node k ≡ false
    → (with_placed_event k n p w).nodes ≡ w.nodes
kept_other k n p w is = grind arith

with_placed : (e : Event) (place : Option yaml_place_t) (w : Written) (b : Bool) → makes_node e.content ≡ b
    → (b ≡ true → place ≡ None → ⊥) → length (with_place e place w).nodes ≡ counted b (length w.nodes)
with_placed e None w true is some = absurd (some refl refl)
with_placed e None w false is some = refl
with_placed e (Some p) w true is some = kept_node e.content (written_node e) p w is
with_placed e (Some p) w false is some = ap length (kept_other e.content (written_node e) p w is)

-- a place is there exactly for what has a role
placed_by_role : (d : Deed) (put : place_t) (s : List open_t) → place_by d put s ≡ None → role_of d ≡ None
placed_by_role d put s h = grind arith

-- a node's place has the id of what is put
node_made : (k : unnamed_yaml_event_t_data) (m n : Mark) → IsNode (part_in k m n) → makes_node k ≡ true
node_made k m n node = grind arith

child_is : (p : yaml_place_t) (d : Deed) (put : place_t) (s : List open_t) → Some p ≡ place_by d put s → p.id ≡ put.child
child_is p d put s h = grind arith

some_none : (p : yaml_place_t) → ◌≡◌ {A = Option yaml_place_t} (Some p) None → ⊥
some_none p h = cc

one_more : (n m : ℕ) → m ≡ n → suc n ≡ m + 1
one_more n m h = omega (arith, h)

module _ (old new : EventComposer) (e : Event) (place : Option yaml_place_t) (w : Written) (h : PlacesEvent old e place new) where
  abbrev f : ℤ
  f = pos (id_or (event_node old.anchors e))

  abbrev room : Composer
  room = roomy h.tells.room old.collections

  within_old : old.collections.is_within ≡ true → Within e.content h.deed h.put room new.collections
  within_old inside = within_counts f no_place h.put room new.collections h.deed h.taken e.content
      (h.tells.told ∙ ap (λ (b : Bool). step_in b (event_type e.content) f no_place room) inside) h.tells.has_room

  outside_old : old.collections.is_within ≡ false → Outside e.content e.start_mark h.deed room new.collections
  outside_old out = outside_counts e.content e.start_mark no_place h.put room new.collections h.deed out
      (h.tells.told ∙ ap (λ (b : Bool). step_in b (event_type e.content) f no_place room) out)

  pub counts_on : (old.collections.is_within ≡ true → opening_of e ≡ None) → IsWrittenOf old w
      → IsWrittenOf new (written_after e place w)
  counts_on none counts inside = by old.collections.is_within refl
    where
      by : (b : Bool) → old.collections.is_within ≡ b → length (written_after e place w).nodes ≡ new.collections.nodes
      by true was = in_document (makes_node e.content) refl
        where
          begun : begun_by (opening_of e) w ≡ w
          begun = ap (λ (o : Option Opening). begun_by o w) (none was)

          in_document : (b : Bool) → makes_node e.content ≡ b
              → length (written_after e place w).nodes ≡ new.collections.nodes
          in_document true is = ap (λ (v : Written). length (with_place e place v).nodes) begun
              ∙ with_placed e place w true is
              (λ _ nothing. ((within_old was).node is).0 (placed_by_role h.deed h.put _ (sym h.place_is ∙ nothing)))
              ∙ ap suc (counts was) ∙ sym ((within_old was).node is).2
          in_document false is = ap (λ (v : Written). length (with_place e place v).nodes) begun
              ∙ with_placed e place w false is (λ never. absurd (true≢false (sym never)))
              ∙ counts was ∙ sym ((within_old was).other is)
      by false was =
          let o = outside_old was in
          let none_placed : place ≡ None = h.place_is ∙ nothing_placed h.deed h.put _ o.role in
          ap (λ (q : Option yaml_place_t). length (with_place e q (begun_by (opening_of e) w)).nodes) none_placed
          ∙ begun_empty (opening_of e) (o.begins inside).1 ∙ sym (o.begins inside).0
        where
          begun_empty : (o : Option Opening) → (o ≡ None → ⊥) → length (begun_by o w).nodes ≡ 0
          begun_empty None some = absurd (some refl)
          begun_empty (Some o) some = refl

  pub id_of_node : (p : yaml_place_t) → place ≡ Some p → IsNode (part_of e) → IsWrittenOf old w
      → p.id ≡ pos (length w.nodes + 1)
  id_of_node p is node counts = by old.collections.is_within refl
    where
      by : (b : Bool) → old.collections.is_within ≡ b → p.id ≡ pos (length w.nodes + 1)
      by true was = child_is p h.deed h.put _ (sym is ∙ h.place_is)
          ∙ ((within_old was).node (node_made e.content e.start_mark e.end_mark node)).1
          ∙ ap pos (one_more old.collections.nodes (length w.nodes) (counts was))
      by false was = absurd (some_none p (sym is ∙ h.place_is ∙ nothing_placed h.deed h.put _ (outside_old was).role))

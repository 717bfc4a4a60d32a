-- A key that waits gets its pair, where no collection ends in which a key waits.
use Rattle.std.proofs.Common.{◌≡◌, ◌⊎◌, inl, inr, ◌∷◌, ◌∙◌, ℕ, suc, ℤ, pos, List, [], map, Option, Some, None, Bool, true, false, true≢false, Result, Ok, Err, if◌then◌else◌, length, nat_le, refl, sym, ap, subst, arith}
use Rattle.std.proofs.lemmas.Bool.{leb-true}
use Rattle.libyaml_types.specs.Fault.{Fault}
use Rattle.libyaml_types.specs.Types.{event_type}
use Rattle.libyaml_types.specs.declared.event.unnamed_yaml_event_t_data.{unnamed_yaml_event_t_data}
use Rattle.libyaml_types.specs.declared.event.unnamed_yaml_event_t_data.TheVariants as ev
use Rattle.libyaml_grammar.specs.grammar.Events.{Event}
use Rattle.libyaml_grammar.specs.grammar.Tokens.{Mark}
use Rattle.libyaml_grammar.specs.runs.Runs.{Ending}
use Rattle.libyaml_documents.specs.Documents.{Document}
use Rattle.libyaml_documents.specs.declared.node.yaml_node_t.{yaml_node_t}
use Rattle.libyaml_graphs.specs.graphs.GraphParts.{Closing, Opening, closing_in, closing_of, part_of}
use Rattle.libyaml_graphs.specs.loads.Loads.{end_of_document}
use Rattle.libyaml_graphs.specs.machine.Loader.{Loader, Loading, bounded_option, if_going, load_from, within}
use Rattle.libyaml_graphs.proofs.exported.LoaderSteps.{within_event}
use Rattle.libyaml_composer.specs.declared.deed.Deed.{Deed}
use Rattle.libyaml_composer.specs.declared.deed.Deed.TheVariants as deed
use Rattle.libyaml_composer.specs.declared.records.open_t.{open_t}
use Rattle.libyaml_composer.specs.declared.records.place_t.{place_t}
use Rattle.libyaml_composer.specs.Composing.{Composer, Told, adding, at_anchored_node, at_start, collection_ended, composer_step, handing, holding_in, holding_top, if_placed, is_list_full, step_in, unless, with_open_node}
use Rattle.libyaml_composer.specs.DocumentSoFar.{DocumentSoFar, IsRefused, applied_part, event_fact, loader_by, open_of}
use Rattle.libyaml_composer.specs.Numbers.{is_id, is_set}
use Rattle.libyaml_composer.specs.Represents.{Represents}
use Rattle.libyaml_composer.proofs.exported.Follows as follow
use Rattle.libyaml_composer.proofs.exported.Reasons.{full_starts}
use Rattle.libyaml_composer.proofs.exported.Standing.{Takes}
use Rattle.libyaml_loader.specs.composed.Telling.{no_place}
use Rattle.libyaml_loader.specs.document.Stack.{roomy}
use Rattle.libyaml_loader.proofs.composed.Keys.{IsPaired, KeyHeld, Waits, key_kept, paired_kept}
use Rattle.libyaml_loader.proofs.composed.Staying.{OfId, Stays, document_keeps, step_stays}
use Rattle.libyaml_loader.proofs.composed.Waiting.{AtEnd, AtEvent, KeysPaired, Slot, after_child, turned}

abbrev pub slot_of : open_t → Slot
slot_of o = (is_set o.is_mapping, is_id o.key)

-- from where the composer stands
abbrev pub PairedFrom : Composer → List Event → Type 0
PairedFrom c l = KeysPaired c.is_within (map slot_of c.stack) l

-- the open collections with a child more
slots_held : (i : ℤ) → is_id i ≡ true → (s : List open_t) → after_child (map slot_of s) ≡ map slot_of (holding_top i s)
slots_held i id [] = refl
slots_held i id (o ∷ s) = go (is_set o.is_mapping) (is_id o.key) refl
  where
    go : (b w : Bool) → is_id o.key ≡ w
        → (is_set o.is_mapping, turned b w) ∷ map slot_of s ≡ slot_of (holding_in i o b w) ∷ map slot_of s
    go false w key = ap (λ (v : Bool). (is_set o.is_mapping, v) ∷ map slot_of s) (sym key)
    go true false key = ap (λ (v : Bool). (is_set o.is_mapping, v) ∷ map slot_of s) (sym id)
    go true true key = refl

pub node_held : (i : ℤ) (o : open_t) (b w : Bool) → (holding_in i o b w).node ≡ o.node
node_held i o false w = refl
node_held i o true false = refl
node_held i o true true = refl

-- the collection of this node is open
module _ (parent : ℤ) where
  abbrev pub IsOpen : List open_t → Type 0
  IsOpen [] = ⊥
  IsOpen (o ∷ s) = (o.node ≡ parent) ⊎ IsOpen s

  open_held : (i : ℤ) (s : List open_t) → IsOpen s → IsOpen (holding_top i s)
  open_held i [] h = h
  open_held i (o ∷ s) (inl e) = inl (node_held i o (is_set o.is_mapping) (is_id o.key) ∙ e)
  open_held i (o ∷ s) (inr h) = inr h

-- An event that the composer takes: its collections stand as the events say, and a mapping in which a key waits stays open.
module _ (parent id : ℤ) (index : ℕ) (f : ℤ) (p : place_t) (nodes most room : ℕ) (r : List Event) where
  abbrev here : Bool → List open_t → Composer
  here b s = record { is_within = b; nodes = nodes; most = most; room = room; stack = s }

  record Keeps (b : Bool) (s : List open_t) (t : Told) : Type 0 where
    paired : PairedFrom t.composer r
    opens : b ≡ true → Waits parent id index (map open_of s) → IsOpen parent s → IsOpen parent t.composer.stack

  abbrev IfTaken : Bool → List open_t → Told → Type 0
  IfTaken b s t = Takes t.deed → Keeps b s t

  test : (a : Bool) (d : Deed) (s : List open_t) (t : Told) → (Takes d → ⊥) → IfTaken true s t
      → IfTaken true s (unless a d p (here true s) t)
  test true d s t none h = λ k. absurd (none k)
  test false d s t none h = h

  placed : (s : List open_t) (t : Told) → IfTaken true s t → IfTaken true s (if_placed f p (here true s) t)
  placed s t h = test _ deed.FullList s _ (λ k. k.0 tt)
      (test (is_id f) deed.RepeatedAnchor s _ (λ k. k.0 tt) (test _ deed.FullList s t (λ k. k.0 tt) h))

  with_child_paired : (i : ℤ) → is_id i ≡ true → (s : List open_t) → KeysPaired true (after_child (map slot_of s)) r
      → KeysPaired true (map slot_of (holding_top i s)) r
  with_child_paired i is s h = subst (λ (l : List Slot). KeysPaired true l r) (slots_held i is s) h

  abbrev starting : ℕ → List open_t → Told
  starting m s = with_open_node m (pos (suc nodes)) (adding (here true s))

  start : (m : ℕ) (s : List open_t) → KeysPaired true ((is_set m, false) ∷ after_child (map slot_of s)) r
      → IfTaken true s (at_start m f p (here true s))
  start m s h = placed s (unless (nat_le room (length s)) deed.FullStack p (here true s) (starting m s))
      (test (nat_le room (length s)) deed.FullStack s (starting m s) (λ k. k.1 refl) (λ k. record {
        paired = subst (λ (l : List Slot). KeysPaired true ((is_set m, false) ∷ l) r) (slots_held (pos (suc nodes)) refl s) h;
        opens = λ e w o. inr (open_held parent (pos (suc nodes)) s o);
      }))

  alias : (b : Bool) → is_id f ≡ b → (s : List open_t) → KeysPaired true (after_child (map slot_of s)) r
      → IfTaken true s (at_anchored_node b f p (here true s))
  alias false is s h = λ k. absurd (k.0 tt)
  alias true is s h = test (is_list_full most s) deed.FullList s (handing (pos 0) f (here true s)) (λ k. k.0 tt)
      (λ k. record { paired = with_child_paired f is s h; opens = λ e w o. open_held parent f s o })

  ended : (s : List open_t) → AtEnd (map slot_of s) (λ t. KeysPaired true t r)
      → IfTaken true s (collection_ended s p (here true s))
  ended [] h = λ k. record { paired = h; opens = λ e w o. o }
  ended (y ∷ s) h = λ k. record { paired = h.1; opens = λ e w o. go w o }
    where
      go : Waits parent id index (map open_of (y ∷ s)) → IsOpen parent (y ∷ s) → IsOpen parent s
      go w (inl e) = absurd (none_not_some (sym (ap (λ (b : Bool). if b then Some y.key else None) h.0) ∙ w.0 e))
        where
          none_not_some : ◌≡◌ {A = Option ℤ} None (Some id) → ⊥
          none_not_some e = cc
      go w (inr o) = o

  taken : (b : Bool) (k : unnamed_yaml_event_t_data) (s : List open_t) → AtEvent b k (map slot_of s) (λ c t. KeysPaired c t r)
      → IfTaken b s (step_in b (event_type k) f p (here b s))
  taken false (ev.DocumentStart d) s h = λ k. record { paired = h; opens = λ e. absurd (true≢false (sym e)) }
  taken false _ s h = λ k. record { paired = h; opens = λ e. absurd (true≢false (sym e)) }
  taken true (ev.DocumentStart d) s h = absurd h
  taken true (ev.DocumentEnd d) s h = λ k. record { paired = h.1; opens = λ e w o. o }
  taken true (ev.Alias a) s h = alias (is_id f) refl s h
  taken true (ev.Scalar a) s h = placed s _ (λ k. record {
    paired = with_child_paired (pos (suc nodes)) refl s h;
    opens = λ e w o. open_held parent (pos (suc nodes)) s o;
  })
  taken true (ev.SequenceStart a) s h = start 0 s h
  taken true (ev.MappingStart a) s h = start 1 s h
  taken true ev.SequenceEnd s h = ended s h
  taken true ev.MappingEnd s h = ended s h
  taken true _ s h = λ k. record { paired = h; opens = λ e w o. o }

-- what holds from where it stands then
pub paired_next : (f : ℤ) (p : place_t) (c : Composer) (e : Event) (r : List Event) (t : Told)
    → t ≡ composer_step (event_type e.content) f p c → Takes t.deed → PairedFrom c (e ∷ r) → PairedFrom t.composer r
paired_next f p c e r t is takes h = subst (λ (u : Told). Takes u.deed → PairedFrom u.composer r) (sym is)
    (λ k. (taken (pos 0) (pos 0) 0 f p c.nodes c.most c.room r c.is_within e.content c.stack h k).paired) takes

open_next : (parent id : ℤ) (index : ℕ) (f : ℤ) (p : place_t) (c : Composer) (e : Event) (r : List Event) → c.is_within ≡ true
    → Takes (composer_step (event_type e.content) f p c).deed → PairedFrom c (e ∷ r) → Waits parent id index (map open_of c.stack)
    → IsOpen parent c.stack → IsOpen parent (composer_step (event_type e.content) f p c).composer.stack
open_next parent id index f p c e r inside takes h w o =
    (taken parent id index f p c.nodes c.most c.room r c.is_within e.content c.stack h takes).opens inside w o

-- no collection is open where the document ends
empty_at_end : (k : unnamed_yaml_event_t_data) (n : Mark) (y : Closing) (s : List Slot) (P : Bool → List Slot → Type 0)
    → closing_in k n ≡ Some y → AtEvent true k s P → s ≡ []
empty_at_end (ev.DocumentEnd d) n y s P is h = h.0
empty_at_end _ n y s P is h = absurd (cc)

none_open : (parent : ℤ) (s : List open_t) → map slot_of s ≡ [] → IsOpen parent s → ⊥
none_open parent [] is h = h
none_open parent (o ∷ s) is h = absurd (cc)

none_given : (f : Fault) (d : Document) → ◌≡◌ {A = Result Document Fault} (Err f) (Ok d) → ⊥
none_given f d h = cc

-- The key's pair is there in the end: as long as it isn't, its mapping is open, and the key waits there.
module _ (parent id : ℤ) (index : ℕ) (o : Opening) (x : Ending) (z : Closing) (d : Document) where
  abbrev IsThere : List yaml_node_t → Type 0
  IsThere nodes = OfId (IsPaired parent id index) parent nodes

  abbrev Comes : List Event → Type 0
  Comes rest = (c : Composer) (h : DocumentSoFar) → Represents c h o → PairedFrom c rest
      → KeyHeld parent id index h.nodes (map open_of c.stack) → IsOpen parent c.stack → end_of_document rest ≡ Some z
      → load_from c.most (within o (loader_by c h)) rest x ≡ Ok d → IsThere d.nodes

  module _ (e : Event) (r : List Event) (later : Comes r) (c : Composer) (h : DocumentSoFar) (stands : Represents c h o)
      (paired : PairedFrom c (e ∷ r)) (begun : KeyHeld parent id index h.nodes (map open_of c.stack))
      (waiting : Waits parent id index (map open_of c.stack)) (opens : IsOpen parent c.stack)
      (ends : end_of_document (e ∷ r) ≡ Some z) (loads : load_from c.most (within o (loader_by c h)) (e ∷ r) x ≡ Ok d) where
    abbrev inside : AtEvent true e.content (map slot_of c.stack) (λ b t. KeysPaired b t r)
    inside = subst (λ (b : Bool). AtEvent b e.content (map slot_of c.stack) (λ b t. KeysPaired b t r)) stands.is_within paired

    -- any event but the document's end
    module _ (without : closing_of e ≡ None) where
      abbrev roomed : Composer
      roomed = roomy (suc (length c.stack)) c

      abbrev fact : ℤ
      fact = event_fact h e

      abbrev t : Told
      t = composer_step (event_type e.content) fact no_place roomed

      abbrev next : DocumentSoFar
      next = applied_part t.deed t.place (part_of e) e.end_mark h

      abbrev After : Loading → Type 0
      After v = if_going (λ (f : Fault). Err f) v (λ (k : Loader). load_from c.most (within o k) r x) ≡ Ok d

      after : After (bounded_option c.most (loader_by c h) (part_of e))
      after = subst (λ (y : Option Closing). within_event c.most o (loader_by c h) r x y (part_of e) ≡ Ok d) without loads

      sound : IsRefused t.deed → ⊥
      sound j = none_given _ d
          (subst After (follow.fails_so c h o stands e without no_place (suc (length c.stack)) t refl j) after)

      room : t.deed ≡ deed.FullStack → ⊥
      room full = absurd (omega (
        arith,
        leb-true (suc (length c.stack)) (length c.stack)
            (full_starts (event_type e.content) fact no_place roomed full).1,
      ))

      goes : follow.Goes c.most o h c.stack (part_of e) e.end_mark (bounded_option c.most (loader_by c h) (part_of e)) t
      goes = follow.goes_on c h o stands e without no_place (suc (length c.stack)) t refl sound room

      next_held : KeyHeld parent id index next.nodes (map open_of t.composer.stack)
      next_held = subst (Stays (KeyHeld parent id index) (key_kept parent id index)) goes.leads
          (step_stays (KeyHeld parent id index) (key_kept parent id index) c.most (loader_by c h) (part_of e) begun)

      comes_later : IsThere d.nodes
      comes_later = later t.composer next goes.stands (paired_next fact no_place roomed e r t refl (sound, room) paired) next_held
          (open_next parent id index fact no_place roomed e r stands.is_within (sound, room) paired waiting opens)
          (subst (λ (y : Option Closing). elim y [ Some k ↦ Some k | None ↦ end_of_document r ] ≡ Some z) without ends)
          (subst (λ (m : ℕ). load_from m (within o (loader_by t.composer next)) r x ≡ Ok d) (sym goes.bound)
          (subst After goes.leads after))

    at_event : (y : Option Closing) → closing_of e ≡ y → IsThere d.nodes
    at_event None is = comes_later is
    at_event (Some y) is = absurd (none_open parent c.stack
        (empty_at_end e.content e.end_mark y (map slot_of c.stack) (λ b t. KeysPaired b t r) is inside) opens)

  pub pair_comes : (rest : List Event) → Comes rest
  pair_comes [] c h stands paired begun opens ends loads = absurd (cc)
  pair_comes (e ∷ r) c h stands paired (inl k) opens ends loads =
      (document_keeps (λ nodes s. IsThere nodes) (paired_kept parent id index) c.most o (e ∷ r) (loader_by c h) x z d ends loads
      k).1
  pair_comes (e ∷ r) c h stands paired (inr k) opens ends loads =
      at_event e r (pair_comes r) c h stands paired (inr k) k.1 opens ends loads (closing_of e) refl

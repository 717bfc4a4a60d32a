-- What is told of an event, for whoever holds the nodes that the anchors name.
use Rattle.std.proofs.Common.{◌≡◌, ◌∷◌, ◌∙◌, ℕ, zero, suc, ℤ, pos, List, [], Option, Bool, true, false, refl, sym, ap, subst, arith}
use Rattle.libyaml_types.specs.Types.{event_anchor, event_type}
use Rattle.libyaml_types.specs.declared.enums.yaml_event_type_t.{yaml_event_type_t}
use Rattle.libyaml_types.specs.declared.enums.yaml_event_type_t.TheVariants as event_kinds
use Rattle.libyaml_types.specs.declared.event.unnamed_yaml_event_t_data.{unnamed_yaml_event_t_data}
use Rattle.libyaml_types.specs.declared.event.unnamed_yaml_event_t_data.TheVariants as ev
use Rattle.libyaml_grammar.specs.grammar.Events.{Event}
use Rattle.libyaml_grammar.specs.grammar.Tokens.{Mark}
use Rattle.libyaml_graphs.specs.graphs.Graphs.{AnchoredNode, id_or}
use Rattle.libyaml_graphs.specs.graphs.GraphParts.{part_in, part_of}
use Rattle.libyaml_graphs.specs.graphs.ComposerFaults.{repeated_anchor}
use Rattle.libyaml_graphs.specs.machine.Loader.{Anchors}
use Rattle.libyaml_composer.specs.declared.deed.Deed.{Deed}
use Rattle.libyaml_composer.specs.declared.deed.Deed.TheVariants as deed
use Rattle.libyaml_composer.specs.declared.records.open_t.{open_t}
use Rattle.libyaml_composer.specs.declared.records.place_t.{place_t}
use Rattle.libyaml_composer.specs.Composing.{Composer, Told, adding, at_anchored_node, at_start, between_step, collection_ended, composer_step, deed_for, if_placed, step_in, told, unless, within_step}
use Rattle.libyaml_composer.specs.DocumentSoFar.{DocumentSoFar, IsRefused, anchor_in, anchored_node_named, applied, deed_fault, event_fact, first_mark, given, with_made_node}
use Rattle.libyaml_composer.specs.Numbers.{is_id}
use Rattle.libyaml_composer.specs.Represents.{PutsNode}
use Rattle.libyaml_composer.proofs.exported.Deeds.{child_put}
use Rattle.libyaml_loader.specs.composed.Anchoring.{anchors_after, event_node, registered_at}
use Rattle.libyaml_loader.specs.composed.EventComposer.{EventComposer}
use Rattle.libyaml_loader.specs.composed.Telling.{TellsDeed, load_fault, no_place}
use Rattle.libyaml_loader.specs.document.Stack.{roomy}
use Rattle.document_sizes.specs.ParserRuns.{TakesEvent}
use Rattle.yaml_bounds.specs.Bounds.{refused_fault}

-- the anchor of an event is that of its part
anchor_same : (k : unnamed_yaml_event_t_data) (m n : Mark) → event_anchor k ≡ anchor_in (part_in k m n)
anchor_same (ev.Alias a) m n = refl
anchor_same (ev.Scalar s) m n = refl
anchor_same (ev.SequenceStart s) m n = refl
anchor_same (ev.MappingStart s) m n = refl
anchor_same _ m n = refl

pub node_same : (xs : Anchors) (e : Event) → event_node xs e ≡ anchored_node_named xs (anchor_in (part_of e))
node_same xs e = ap (anchored_node_named xs) (anchor_same e.content e.start_mark e.end_mark)

-- Where a step puts no node the id is 0; it is none below 0. What is neither refused nor in want of room is taken.
abbrev Takes : Deed → Type 0
Takes d = (IsRefused d → ⊥) → (d ≡ deed.FullStack → ⊥) → TakesEvent d

pub record Fine (d : Deed) (node : ℤ) : Type 0 where
  pub none : (PutsNode d → ⊥) → node ≡ pos 0
  pub id : (k : ℕ) × (node ≡ pos k)
  pub takes : (IsRefused d → ⊥) → (d ≡ deed.FullStack → ⊥) → TakesEvent d

module _ (f : ℤ) (p : place_t) (zeros : p.node ≡ pos 0) (c : Composer) where
  abbrev IsFine : Told → Type 0
  IsFine t = Fine t.deed t.place.node

  -- nothing is put
  same : (d : Deed) → Takes d → Fine d p.node
  same d takes = record { none = λ n. zeros; id = (0, zeros); takes = takes }

  test : (b : Bool) (d : Deed) (t : Told) → Takes d → IsFine t → IsFine (unless b d p c t)
  test true d t takes h = same d takes
  test false d t takes h = h

  full : (b : Bool) (t : Told) → IsFine t → IsFine (unless b deed.FullList p c t)
  full b t h = test b deed.FullList t (λ r w. absurd (r tt)) h

  takes_child : (s : List open_t) → TakesEvent (deed_for s)
  takes_child s = grind arith

  child : (s : List open_t) (k : ℕ) → Fine (deed_for s) (pos k)
  child s k = record { none = λ none. absurd (none (child_put s)); id = (k, refl); takes = λ r w. takes_child s }

  placed : (t : Told) → IsFine t → IsFine (if_placed f p c t)
  placed t h = full _ _ (test (is_id f) deed.RepeatedAnchor _ (λ r w. absurd (r tt)) (full _ t h))

  start : (m : ℕ) → IsFine (at_start m f p c)
  start m = placed _ (test _ deed.FullStack _ (λ r w. absurd (w refl)) (child c.stack (suc c.nodes)))

  alias : (b : Bool) → IsFine (at_anchored_node b f p c)
  alias false = same deed.UndefinedAlias (λ r w. absurd (r tt))
  alias true = full _ _ (child c.stack 0)

  ended : (s : List open_t) → IsFine (collection_ended s p c)
  ended [] = same deed.Passes (λ r w. tt)
  ended (o ∷ s) = record { none = λ n. refl; id = (0, refl); takes = λ r w. tt }

  within : (k : yaml_event_type_t) → IsFine (within_step k f p c)
  within event_kinds.YAML_DOCUMENT_END_EVENT = same deed.Ends (λ r w. tt)
  within event_kinds.YAML_ALIAS_EVENT = alias (is_id f)
  within event_kinds.YAML_SCALAR_EVENT = placed (adding c) (child c.stack (suc c.nodes))
  within event_kinds.YAML_SEQUENCE_START_EVENT = start 0
  within event_kinds.YAML_MAPPING_START_EVENT = start 1
  within event_kinds.YAML_SEQUENCE_END_EVENT = ended c.stack
  within event_kinds.YAML_MAPPING_END_EVENT = ended c.stack
  within _ = same deed.Passes (λ r w. tt)

  between : (k : yaml_event_type_t) → IsFine (between_step k p c)
  between event_kinds.YAML_DOCUMENT_START_EVENT = same deed.Begins (λ r w. tt)
  between _ = same deed.Passes (λ r w. tt)

  step : (b : Bool) (k : yaml_event_type_t) → IsFine (step_in b k f p c)
  step true k = within k
  step false k = between k

  pub fine : (k : yaml_event_type_t) → IsFine (composer_step k f p c)
  fine k = step c.is_within k

-- the anchors that are held are those that are kept
pub anchors_same : (d : Deed) (p : place_t) (e : Event) (h : DocumentSoFar) → Fine d p.node → TakesEvent d
    → (applied d p e h).anchors ≡ anchors_after d p.node (part_of e) h.anchors
anchors_same d p e h fine takes = go d fine.none takes
  where
    -- of a deed that puts none, and of one that puts a node or an alias
    unput : p.node ≡ pos 0 → h.anchors ≡ registered_at p.node (part_of e) h.anchors
    unput is = sym (ap (λ (z : ℤ). registered_at z (part_of e) h.anchors) is)

    made : (k : ℕ) → (with_made_node (is_id (pos k)) (pos k) (part_of e) h).anchors ≡ registered_at (pos k) (part_of e) h.anchors
    made zero = refl
    made (suc n) = refl

    put : (with_made_node (is_id p.node) p.node (part_of e) h).anchors ≡ registered_at p.node (part_of e) h.anchors
    put = subst (λ (z : ℤ). (with_made_node (is_id z) z (part_of e) h).anchors ≡ registered_at z (part_of e) h.anchors) (sym fine.id.1)
        (made fine.id.0)

    go : (d : Deed) → ((PutsNode d → ⊥) → p.node ≡ pos 0) → TakesEvent d
        → (applied d p e h).anchors ≡ anchors_after d p.node (part_of e) h.anchors
    go deed.Begins none takes = refl
    go deed.Ends none takes = unput (none (λ n. n))
    go deed.Passes none takes = unput (none (λ n. n))
    go deed.Closes none takes = unput (none (λ n. n))
    go deed.Root none takes = put
    go deed.Item none takes = put
    go deed.Key none takes = put
    go deed.Value none takes = put
    go _ none takes = absurd takes

-- no document ends with another deed
pub nothing_given : (d : Deed) (e : Event) (h : DocumentSoFar) → (d ≡ deed.Ends → ⊥) → given d e h ≡ []
nothing_given deed.Ends e h other = absurd (other refl)
nothing_given _ e h other = refl

-- the error of a load, by the anchors that are held
pub fault_same : (d : Deed) (c : EventComposer) (e : Event) (h : DocumentSoFar) → h.anchors ≡ c.anchors → IsRefused d
    → deed_fault d h e ≡ load_fault d c e
fault_same deed.UndefinedAlias c e h same r = refl
fault_same deed.RepeatedAnchor c e h same r =
    ap (λ (x : Option AnchoredNode). repeated_anchor (first_mark x e.start_mark) e.start_mark)
    (ap (λ (xs : Anchors). anchored_node_named xs (anchor_in (part_of e))) same ∙ sym (node_same c.anchors e))
fault_same deed.FullList c e h same r = refl
fault_same _ c e h same r = absurd r

-- the error where a deed refuses, by anchors that stay
pub refused_same : (d : Deed) (old new : EventComposer) (e : Event) → new.anchors ≡ old.anchors → refused_fault d new e ≡ refused_fault d old e
refused_same deed.RepeatedAnchor old new e same =
    ap (λ (xs : Anchors). repeated_anchor (first_mark (event_node xs e) e.start_mark) e.start_mark) same
refused_same _ old new e same = refl

-- what is told, by what is held
module _ (old new : EventComposer) (e : Event) (d : Deed) (p : place_t) (tells : TellsDeed old e d p new) (h : DocumentSoFar)
    (anchors : h.anchors ≡ old.anchors) where
  pub told_so : told d p new.collections
      ≡ composer_step (event_type e.content) (event_fact h e) no_place (roomy tells.room old.collections)
  told_so = tells.told ∙ ap (λ (x : Option AnchoredNode). composer_step (event_type e.content) (pos (id_or x)) no_place
      (roomy tells.room old.collections)) (node_same old.anchors e
      ∙ ap (λ (xs : Anchors). anchored_node_named xs (anchor_in (part_of e))) (sym anchors))

  pub told_fine : Fine d p.node
  told_fine = subst (λ (t : Told). Fine t.deed t.place.node) (sym told_so)
      (fine (event_fact h e) no_place refl (roomy tells.room old.collections) (event_type e.content))

  pub taken_so : (IsRefused d → ⊥) → TakesEvent d
  taken_so sound = told_fine.takes sound tells.has_room

  pub held_anchors : (IsRefused d → ⊥) → (applied d p e h).anchors ≡ new.anchors
  held_anchors sound = anchors_same d p e h told_fine (taken_so sound)
      ∙ (ap (anchors_after d p.node (part_of e)) anchors ∙ sym tells.anchors)

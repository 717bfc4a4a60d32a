-- What the composer decides of an event is what the loader's machine does.
use Rattle.std.proofs.Common.{◌≡◌, inr, List, ℕ, suc, ℤ, length, map, refl, sym, ap, subst, ◌∙◌, Option, None, Some, true, arith}
use Rattle.libyaml_types.specs.Types.{event_anchor, event_type}
use Rattle.libyaml_types.specs.declared.event.unnamed_yaml_event_t_data.{unnamed_yaml_event_t_data}
use Rattle.libyaml_grammar.specs.grammar.Events.{Event}
use Rattle.libyaml_grammar.specs.grammar.Tokens.{Mark}
use Rattle.libyaml_graphs.specs.graphs.GraphParts.{Part, closing_of, part_in, part_of}
use Rattle.libyaml_graphs.specs.machine.Loader.{Anchors, Loader, bounded_option, failed, going}
use Rattle.libyaml_composer.specs.declared.deed.Deed.{Deed}
use Rattle.libyaml_composer.specs.declared.deed.Deed.TheVariants as deed
use Rattle.libyaml_composer.specs.declared.records.open_t.{open_t}
use Rattle.libyaml_composer.specs.declared.records.place_t.{place_t}
use Rattle.libyaml_composer.specs.Composing.{Composer, Told, composer_step, told}
use Rattle.libyaml_composer.specs.DocumentSoFar as so_far
use Rattle.libyaml_composer.specs.DocumentSoFar.{DocumentSoFar, IsRefused, anchor_in, anchored, anchored_by, anchored_node_named, applied_part, event_fact, fault_part, open_of, with_made_node}
use Rattle.libyaml_composer.specs.Represents.{IsNode, DeedFits, Represents}
use Rattle.libyaml_composer.proofs.exported.Follows.{fails_so, goes_on}
use Rattle.libyaml_composer.proofs.exported.Reasons.{repeated}
use Rattle.libyaml_loader.specs.declared.context.loader_ctx.{loader_ctx}
use Rattle.libyaml_loader.specs.document.Context.{Decided, Grows, Refuses, ComposerMatches, held_of, loader_of, opening_of_document, IsEvent, Named, refusal_of}
use Rattle.libyaml_loader.specs.document.Refusals.{fault_by}
use Rattle.libyaml_loader.specs.document.Stack.{roomy}
use Rattle.libyaml_loader.specs.loads.LoadGrowth.{is_new, load_may_grow}

-- a node by which the machine goes on has no anchor that another has
free_if_going : (n : ℕ) (l : Loader) (q : Option Part) (k : Loader) → IsNode q → bounded_option n l q ≡ going k
    → anchored_node_named l.anchors (anchor_in q) ≡ None
free_if_going n l q k node h = grind arith

is_new_there : (xs : Anchors) (a : Option (List ℕ)) → anchored_node_named xs a ≡ None → is_new a xs ≡ true
is_new_there xs None h = refl
is_new_there xs (Some a) h = rw h refl

module _ (n : ℕ) (l : Loader) (h : DocumentSoFar) (same : h.nodes ≡ l.nodes) (s : List open_t) (stack : l.stack ≡ map open_of s)
    (d : Deed) (p : place_t) where
  grows_there : (q : Option Part) (k : Loader) → bounded_option n l q ≡ going k → DeedFits d p q h s → Grows d p
      → load_may_grow l q ≡ true
  grows_there q k g puts h = grind (arith, free_if_going, is_new_there)

module _ (old : loader_ctx) (new : Composer) (e : Event) (stands : ComposerMatches old) (without : closing_of e ≡ None) (room : ℕ)
    (before p : place_t) (d : Deed)
    (tells : told d p new ≡ composer_step (event_type e.content) (event_fact (held_of old) e) before (roomy room old.collections)) where
  pub decided : (ctx : loader_ctx)
      → ctx ≡ record old {
        collections = new;
        anchors = anchored_by (suc (length old.document.nodes)) (part_of e) old.anchors;
        first_mark = ctx.first_mark;
      } → (IsRefused d → ⊥) → (d ≡ deed.FullStack → ⊥) → Decided old ctx (part_of e) e.end_mark d p
  decided ctx is sound room_left =
      let g = goes_on old.collections (held_of old) (opening_of_document old.document) stands e without before room (told d p new) tells
      sound room_left in
      let collections : ctx.collections ≡ new = ap (λ (c : loader_ctx). c.collections) is in
      record {
        part = g.part;
        goes = g.leads ∙ ap (λ (c : Composer). going (so_far.loader_by c (applied_part d p (part_of e) e.end_mark (held_of old)))) (sym collections);
        stands = subst (λ (c : Composer). Represents c (applied_part d p (part_of e) e.end_mark (held_of old)) (opening_of_document old.document))
            (sym collections) g.stands;
        bound = ap (λ (c : Composer). c.most) collections ∙ g.bound;
        context = is ∙ ap (λ (c : Composer). record old {
          collections = c;
          anchors = anchored_by (suc (length old.document.nodes)) (part_of e) old.anchors;
          first_mark = ctx.first_mark;
        }) (sym collections);
        puts = g.puts;
        grows = grows_there old.collections.most (loader_of old) (held_of old) refl old.collections.stack refl d p
            (part_of e) _ g.leads g.puts;
      }

  -- the error, where the first mark is that of the node that carries the event's anchor
  pub refused_at : (ctx : loader_ctx) → IsRefused d → (d ≡ deed.RepeatedAnchor
      → ctx.first_mark ≡ so_far.first_mark (so_far.anchored_node_named old.anchors (anchor_in (part_of e))) e.start_mark)
      → Refuses old ctx (part_of e) e.start_mark (refusal_of d)
  refused_at ctx is first = inr (fails_so old.collections (held_of old) (opening_of_document old.document) stands e without before room (told d p new) tells is
      ∙ ap failed (go d is first))
    where
      go : (d : Deed) → IsRefused d → (d ≡ deed.RepeatedAnchor
          → ctx.first_mark ≡ so_far.first_mark (so_far.anchored_node_named old.anchors (anchor_in (part_of e))) e.start_mark)
          → fault_part d (held_of old) (part_of e) e.start_mark ≡ fault_by (refusal_of d) ctx.first_mark e.start_mark
      go d is first = grind arith

-- the anchor of an event is that of its part
pub anchor_at : (k : unnamed_yaml_event_t_data) (m n : Mark) → anchor_in (part_in k m n) ≡ event_anchor k
anchor_at k m n = grind arith

-- what is decided of a node whose anchor is the next node's, if no other has it
module _ (old named : loader_ctx) (a : Option (List ℕ)) (m : Mark) (e : Event) (id : ℤ) (at : Named old named a m id)
    (stands : ComposerMatches old) (is : IsEvent (event_type e.content) a m e) (node : IsNode (part_of e)) (room : ℕ) (before p : place_t)
    (d : Deed) (new : Composer)
    (tells : told d p new ≡ composer_step (event_type e.content) id before (roomy room named.collections)) where
  anchor : a ≡ anchor_in (part_of e)
  anchor = sym is.anchor_is ∙ sym (anchor_at e.content e.start_mark e.end_mark)

  tells_so : told d p new ≡ composer_step (event_type e.content) (event_fact (held_of old) e) before (roomy room old.collections)
  tells_so = grind arith

  anchors : anchored a (suc (length old.document.nodes)) m old.anchors
      ≡ anchored_by (suc (length old.document.nodes)) (part_of e) old.anchors
  anchors = grind arith

  free : (IsRefused d → ⊥) → (d ≡ deed.FullStack → ⊥) → anchored_node_named old.anchors a ≡ None
  free sound room_left = ap (anchored_node_named old.anchors) anchor
      ∙ free_if_going old.collections.most (loader_of old) (part_of e) _ node (goes_on old.collections (held_of old)
      (opening_of_document old.document) stands e is.not_end before room (told d p new) tells_so sound room_left).leads

  pub node_decided : (IsRefused d → ⊥) → (d ≡ deed.FullStack → ⊥)
      → Decided old (record named { collections = new }) (part_of e) e.end_mark d p
  node_decided sound room_left = decided old new e stands is.not_end room before p d tells_so
      (record named { collections = new })
      (ap (λ (c : loader_ctx). record c { collections = new }) at.context ∙ ap (λ (xs : Anchors). record old {
        collections = new;
        anchors = xs;
        first_mark = named.first_mark;
      }) (at.anchors (free sound room_left) ∙ anchors)) sound room_left

  pub node_refused : IsRefused d → Refuses old (record named { collections = new }) (part_of e) m (refusal_of d)
  node_refused refused = subst (λ (x : Mark). Refuses old (record named { collections = new }) (part_of e) x (refusal_of d)) is.mark_is
      (refused_at old new e stands is.not_end room before p d tells_so (record named { collections = new }) refused
      (λ first. at.first (repeated (event_type e.content) id before (roomy room named.collections) (ap (λ (t : Told). t.deed) (sym tells) ∙ first))
      ∙ (ap (λ (x : Option (List ℕ)). so_far.first_mark (so_far.anchored_node_named old.anchors x) m) anchor
      ∙ ap (so_far.first_mark (so_far.anchored_node_named old.anchors (anchor_in (part_of e)))) (sym is.mark_is))))

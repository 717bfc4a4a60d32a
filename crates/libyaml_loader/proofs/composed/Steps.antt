-- What composes events goes where the loader goes.
use Rattle.std.proofs.Common.{map, ◌≡◌, ℕ, ℤ, pos, List, [], Option, Some, None, Bool, false, refl, sym, ap, subst, ◌∙◌, arith}
use Rattle.std.specs.FinMap.{get}
use Rattle.libyaml_types.specs.Types.{event_type}
use Rattle.libyaml_types.specs.declared.event.unnamed_yaml_event_t_data.{unnamed_yaml_event_t_data}
use Rattle.libyaml_grammar.specs.grammar.Events.{Event}
use Rattle.libyaml_grammar.specs.grammar.Tokens.{Mark}
use Rattle.libyaml_graphs.specs.graphs.Graphs.{id_or}
use Rattle.libyaml_graphs.specs.graphs.GraphParts.{Closing, Opening, Part, closing_of, opening_in, opening_of, part_of}
use Rattle.libyaml_graphs.specs.machine.Loader.{Anchors, Loader, State, between, failed, fresh, no_anchors, within}
use Rattle.libyaml_graphs.proofs.exported.Leading.{closes_there, goes_there, opens_there, passes_by, refused_there}
use Rattle.libyaml_composer.specs.declared.deed.Deed.{Deed}
use Rattle.libyaml_composer.specs.declared.deed.Deed.TheVariants as deed
use Rattle.libyaml_composer.specs.declared.records.open_t.{open_t}
use Rattle.libyaml_composer.specs.declared.records.place_t.{place_t}
use Rattle.libyaml_composer.specs.Composing.{Composer, Told, between_step, composer_step, step_in, told}
use Rattle.libyaml_composer.specs.DocumentSoFar.{DocumentSoFar, IsRefused, applied_part, event_fact, fault_part, loader_by, open_of}
use Rattle.libyaml_composer.specs.Represents.{IsCarried, IsPart, Opens, DeedFits, Represents}
use Rattle.libyaml_composer.proofs.exported.Deeds.{none_carried}
use Rattle.libyaml_composer.proofs.exported.Follows as follow
use Rattle.libyaml_loader.specs.composed.Anchoring.{anchors_after, event_first_mark, event_node}
use Rattle.libyaml_loader.specs.composed.EventComposer.{EventComposer, IsComposed, EventRefused, StandsAt, by_loads, is_between, is_within}
use Rattle.libyaml_loader.specs.document.Context.{refusal_of}
use Rattle.libyaml_loader.specs.document.Refusals.{fault_by}
use Rattle.libyaml_loader.specs.document.Stack.{roomy, with_document_begun}

module _ (p : place_t) (q : Option Part) (m : Mark) (h : DocumentSoFar) (s : List open_t) where
  applied_anchors : (d : Deed) → IsPart d → DeedFits d p q h s → (applied_part d p q m h).anchors ≡ anchors_after d p.node q h.anchors
  applied_anchors d part puts = grind arith

-- what an event that begins no document does between documents
passes : (k : unnamed_yaml_event_t_data) (m : Mark) (p : place_t) (c : Composer) → opening_in k m ≡ None
    → between_step (event_type k) p c ≡ told deed.Passes p c
passes k m p c h = grind arith

-- An event that the composer was told of, with the node of its anchor.
module _ (c : EventComposer) (e : Event) (room : ℕ) (before p : place_t) (d : Deed) (new : Composer) (fact : ℤ)
    (named : fact ≡ pos (id_or (event_node c.anchors e)))
    (tells : told d p new ≡ composer_step (event_type e.content) fact before (roomy room c.collections))
    (xs : Anchors) (anchors : xs ≡ anchors_after d p.node (part_of e) c.anchors) where
  abbrev after : EventComposer
  after = record { collections = new; anchors = xs }

  abbrev Goes : State → Type 0
  Goes here = IsComposed c here e after

  abbrev Fails : State → Type 0
  Fails here = EventRefused c here e (fault_by (refusal_of d) (event_first_mark c.anchors e) e.start_mark)

  tells_in : (b : Bool) → c.collections.is_within ≡ b
      → told d p new ≡ step_in b (event_type e.content) fact before (roomy room c.collections)
  tells_in b is = tells ∙ ap (λ (b : Bool). step_in b (event_type e.content) fact before (roomy room c.collections)) is

  -- between documents
  module _ (none : c.collections.is_within ≡ false) where
    opened : (o : Opening) → opening_of e ≡ Some o
        → told d p new ≡ told deed.Begins before (with_document_begun (roomy room c.collections))
    opened o is = grind arith

    passed : opening_of e ≡ None → told d p new ≡ told deed.Passes before (roomy room c.collections)
    passed is = tells_in false none ∙ passes e.content e.start_mark before (roomy room c.collections) is

    begins : (o : Opening) → opening_of e ≡ Some o → Goes between
    begins o is =
        let t = opened o is in
        let collections : new ≡ with_document_begun (roomy room c.collections) = ap (λ (t : Told). t.composer) t in
        let empty : xs ≡ no_anchors = anchors
        ∙ ap (λ (t : Told). anchors_after t.deed p.node (part_of e) c.anchors) t in
        let held : DocumentSoFar = record { opening = Some o; nodes = []; anchors = xs } in
        record {
          documents = [];
          there = within o fresh;
          leads = opens_there (c.collections.most) e o is;
          stands = is_within o held (record {
            is_within = ap (λ (k : Composer). k.is_within) collections;
            opening = refl;
            nodes = ap (λ (k : Composer). k.nodes) collections;
            opens = subst (λ (s : List open_t). Opens 0 [] 0 s) (sym (ap (λ (k : Composer). k.stack) collections)) tt;
            carried = λ (a : List ℕ). subst (λ (x : Anchors). IsCarried 0 (get x a)) (sym empty) (none_carried a);
          }) refl (sym (ap (λ (l : Loader). within o l)
              (ap (λ (s : List open_t). record { nodes = []; stack = map open_of s; anchors = xs })
              (ap (λ (k : Composer). k.stack) collections)
              ∙ ap (λ (x : Anchors). record { nodes = []; stack = []; anchors = x }) empty)));
          bound = ap (λ (k : Composer). k.most) collections;
        }

    goes_between : Goes between
    goes_between = grind (arith, begins, passes_by, passed)

    fails_between : IsRefused d → ⊥
    fails_between r = grind arith

  -- within a document
  module _ (o : Opening) (h : DocumentSoFar) (stands : Represents c.collections h o) (same : h.anchors ≡ c.anchors) where
    abbrev here : State
    here = within o (loader_by c.collections h)

    -- its end
    pub closed : (y : Closing) → closing_of e ≡ Some y
        → told d p new ≡ told deed.Ends before (record (roomy room c.collections) { is_within = false })
    closed y is = grind arith

    -- any other event
    module _ (without : closing_of e ≡ None) where
      pub told_so : told d p new ≡ composer_step (event_type e.content) (event_fact h e) before (roomy room c.collections)
      told_so = grind arith

      goes_within : (IsRefused d → ⊥) → (d ≡ deed.FullStack → ⊥) → Goes here
      goes_within sound room_left =
          let g = follow.goes_on c.collections h o stands e without before room (told d p new) told_so sound room_left in
          record {
            documents = [];
            there = within o (loader_by new (applied_part d p (part_of e) e.end_mark h));
            leads = goes_there c.collections.most o (loader_by c.collections h) _ e without g.leads;
            stands = is_within o (applied_part d p (part_of e) e.end_mark h) g.stands
                (applied_anchors p (part_of e) e.end_mark h c.collections.stack d g.part g.puts
                ∙ (ap (anchors_after d p.node (part_of e)) same ∙ sym anchors)) refl;
            bound = g.bound;
          }

      marks : (d : Deed) → IsRefused d → fault_part d h (part_of e) e.start_mark
          ≡ fault_by (refusal_of d) (event_first_mark c.anchors e) e.start_mark
      marks d r = grind arith

      fails_within : IsRefused d → Fails here
      fails_within r = by_loads (refused_there c.collections.most o (loader_by c.collections h) e _ without
          (follow.fails_so c.collections h o stands e without before room (told d p new) told_so r ∙ ap failed (marks d r)))

  pub goes_on : (IsRefused d → ⊥) → (d ≡ deed.FullStack → ⊥) → (here : State) → StandsAt c here → Goes here
  goes_on sound room_left s (is_between none at) = subst Goes (sym at) (goes_between none)
  goes_on sound room_left s (is_within o h stands same at) = subst Goes (sym at) (go (closing_of e) refl)
    where
      go : (y : Option Closing) → closing_of e ≡ y → Goes (within o (loader_by c.collections h))
      go (Some y) is = record {
        documents = _;
        there = between;
        leads = closes_there c.collections.most o (loader_by c.collections h) e y is;
        stands = is_between (ap (λ (t : Told). t.composer.is_within) (closed o h stands same y is)) refl;
        bound = ap (λ (t : Told). t.composer.most) (closed o h stands same y is);
      }
      go None is = goes_within o h stands same is sound room_left

  pub refuses : IsRefused d → (here : State) → StandsAt c here → Fails here
  refuses r s (is_between none at) = absurd (fails_between none r)
  refuses r s (is_within o h stands same at) = subst Fails (sym at) (go (closing_of e) refl)
    where
      go : (y : Option Closing) → closing_of e ≡ y → Fails (within o (loader_by c.collections h))
      go (Some y) is = absurd (subst IsRefused (ap (λ (t : Told). t.deed) (closed o h stands same y is)) r)
      go None is = fails_within o h stands same is r

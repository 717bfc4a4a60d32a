-- The places that a whole loop yielded are in the documents that the loads give.
use Rattle.std.proofs.Common.{◌≡◌, ◌≢◌, ◌++◌, ◌∷◌, ℕ, pos, List, [], Option, Some, None, Ok, Err, true≢false, refl, sym, ap, subst, ◌∙◌, append-nil}
use Rattle.libyaml_types.specs.Fault.{Fault, memory_fault, SourceResult}
use Rattle.libyaml_types.specs.Source.{Follows}
use Rattle.libyaml_types.specs.declared.source.yaml_token_source_t.{Ghosts}
use Rattle.libyaml_documents.specs.Documents.{Document}
use Rattle.libyaml_grammar.specs.grammar.Events.{Event}
use Rattle.libyaml_grammar.specs.runs.Runs.{Ending, Ends, Fails}
use Rattle.libyaml_grammar.proofs.exported.Injectivity.{head_same, not_cons, ok_same, tail_same}
use Rattle.libyaml_events.specs.sources.RunToCome.{RunToCome}
use Rattle.libyaml_graphs.specs.graphs.Graphs.{id_or}
use Rattle.libyaml_graphs.specs.graphs.GraphParts.{Closing, Opening, closing_of, part_of}
use Rattle.libyaml_graphs.specs.loads.Bounds.{bounded_loads}
use Rattle.libyaml_graphs.specs.loads.Leads.{Leads, as_loads, loads_from, whole_then}
use Rattle.libyaml_graphs.specs.loads.Loads.{Load, after_document, document, end_of_document}
use Rattle.libyaml_graphs.specs.machine.Loader.{Loader, Loading, State, between, bounded_option, failed, going, if_going, load_from, within}
use Rattle.libyaml_graphs.proofs.exported.Leading.{from_none, leads_both, leads_none}
use Rattle.libyaml_composer.specs.Composing.{told}
use Rattle.libyaml_composer.specs.DocumentSoFar.{loader_by}
use Rattle.libyaml_loader.specs.declared.places.yaml_place_t.{yaml_place_t}
use Rattle.libyaml_loader.specs.declared.places.yaml_role_t.{yaml_role_t}
use Rattle.libyaml_loader.specs.declared.places.yaml_role_t.TheVariants as place_role
use Rattle.libyaml_loader.specs.composed.Anchoring.{event_node}
use Rattle.libyaml_loader.specs.composed.ComposedEvents.{ComposedEvents}
use Rattle.libyaml_loader.specs.composed.ComposedLoops as composed
use Rattle.libyaml_loader.specs.composed.ComposedLoops.{LoopComposes}
use Rattle.libyaml_loader.specs.composed.EventComposer.{EventComposer, StandsAt, entries_bound, is_between, is_within, new_event_composer}
use Rattle.libyaml_loader.specs.composed.Places.{PlacesEvent}
use Rattle.libyaml_loader.specs.composed.PlacedLoops.{ArePlacesIn, HasEntry, LoopPlaces, event, events_in, fault, no_item}
use Rattle.libyaml_loader.specs.composed.Telling.{no_place}
use Rattle.libyaml_loader.specs.document.Stack.{roomy}
use Rattle.libyaml_loader.proofs.composed.Loops.{rest_of}
use Rattle.libyaml_loader.proofs.composed.Pairing.{PairedFrom, paired_next}
use Rattle.libyaml_loader.proofs.composed.Placed.{items_so, not_end, pairs_so, root_so, step, values_so}
use Rattle.libyaml_loader.proofs.composed.Waiting.{paired_to_come}

-- The first of the loads, where a document is open.
first_load : (n : ℕ) (o : Opening) (l : Loader) (events : List Event) (x : Ending) (d : Document) (more : List Load)
    → loads_from n (within o l) events x ≡ Ok d ∷ more → load_from n (within o l) events x ≡ Ok d
first_load n o l events x d more is = go (end_of_document events) (load_from n (within o l) events x) is
  where
    go : (c : Option Closing) (a : Load) → whole_then c a (bounded_loads n (after_document events) x) ≡ Ok d ∷ more → a ≡ Ok d
    go c (Err f) is = absurd (cc)
    go None (Ok y) is = head_same (Ok y) (Ok d) [] more is
    go (Some c) (Ok y) is = head_same (Ok y) (Ok d) _ more is

-- A document without an end is that without root.
abbrev ended_by : ℕ → Opening → Loader → List Event → Ending → Option Closing → Loading → Load
ended_by n o l r x y t = elim y [
  | Some z ↦ Ok (document o l.nodes z)
  | None ↦ if_going (λ (f : Fault). Err f) t (λ (k : Loader). load_from n (within o k) r x)
]

unended : (n : ℕ) (o : Opening) (rest : List Event) (l : Loader) (x : Ending) (d : Document) → end_of_document rest ≡ None
    → load_from n (within o l) rest x ≡ Ok d → d.nodes ≡ []
unended n o [] l Ends d ends loads = sym (ap (λ (y : Document). y.nodes) (ok_same _ d loads))
unended n o [] l (Fails f) d ends loads = absurd (cc)
unended n o (e ∷ r) l x d ends loads =
    go (closing_of e) (bounded_option n l (part_of e)) ends loads (λ m. unended n o r m x d)
  where
    go : (y : Option Closing) (t : Loading) → ◌≡◌ {A = Option Closing} (elim y [ Some z ↦ Some z | None ↦ end_of_document r ]) None
        → ended_by n o l r x y t ≡ Ok d
        → ((m : Loader) → end_of_document r ≡ None → load_from n (within o m) r x ≡ Ok d → d.nodes ≡ []) → d.nodes ≡ []
    go (Some z) t e1 e2 later = absurd (cc)
    go None (failed f) e1 e2 later = absurd (cc)
    go None (going m) e1 e2 later = later m e1 e2

-- the same documents before the same end
same_documents : (f : Fault) (a b : List Document) → as_loads a ++ Err f ∷ [] ≡ as_loads b ++ Err f ∷ [] → a ≡ b
same_documents f [] [] is = refl
same_documents f [] (d ∷ b) is = absurd (cc)
same_documents f (d ∷ a) [] is = absurd (cc)
same_documents f (c ∷ a) (d ∷ b) is =
    let rest = same_documents f a b (tail_same (Ok c) (Ok d) _ _ is) in
    let first = ok_same c d (head_same (Ok c) (Ok d) _ _ is) in
    cc

rest_same : (l a b : List Load) → l ++ a ≡ l ++ b → a ≡ b
rest_same [] a b is = is
rest_same (x ∷ l) a b is = rest_same l a b (tail_same x x _ _ is)

-- an event with a place, wherever the composer stood
module _ (old new : EventComposer) (e : Event) (p : yaml_place_t) (placed : PlacesEvent old e (Some p) new) (here : State)
    (stands : StandsAt old here) (rest : List Event) (x : Ending) (d : Document) (c : Closing)
    (paired : PairedFrom new.collections rest) (ends : end_of_document rest ≡ Some c)
    (loads : load_from (entries_bound old) here (e ∷ rest) x ≡ Ok d) where
  entry : (r : yaml_role_t) → p.role ≡ r → HasEntry r d.nodes p.parent p.index p.id
  entry place_role.Root is = (root_so old new e p placed is).0
  entry place_role.Item is = items_so old new e p here placed is stands rest x c d ends loads
  entry place_role.Key is = pairs_so old new e p here placed is stands rest x c d paired ends loads
  entry place_role.Value is = values_so old new e p here placed is stands rest x c d ends loads

module _ (old new : EventComposer) (e : Event) (p : yaml_place_t) (placed : PlacesEvent old e (Some p) new) (rest : List Event)
    (x : Ending) (d : Document) (more : List Load) (nodes : d.nodes ≢ []) (paired : PairedFrom new.collections rest) where
  has_entry : (here : State) → StandsAt old here → loads_from (entries_bound old) here (e ∷ rest) x ≡ Ok d ∷ more
      → HasEntry p.role d.nodes p.parent p.index p.id
  has_entry here (is_between none at) loads = absurd (true≢false (sym (step old new e p placed).within ∙ none))
  has_entry here (is_within o h stands same at) loads = go (end_of_document rest) refl
    where
      opened : State
      opened = within o (loader_by old.collections h)

      first : load_from (entries_bound old) opened (e ∷ rest) x ≡ Ok d
      first = first_load (entries_bound old) o (loader_by old.collections h) (e ∷ rest) x d more
          (ap (λ (s : State). loads_from (entries_bound old) s (e ∷ rest) x) (sym at) ∙ loads)

      end_is : end_of_document (e ∷ rest) ≡ end_of_document rest
      end_is = ap (λ (y : Option Closing). elim y [ Some z ↦ Some z | None ↦ end_of_document rest ])
          (not_end old new e p placed o h stands same)

      go : (y : Option Closing) → end_of_document rest ≡ y → HasEntry p.role d.nodes p.parent p.index p.id
      go None is = absurd (nodes (unended (entries_bound old) o (e ∷ rest) (loader_by old.collections h) x d (end_is ∙ is) first))
      go (Some c) is = entry old new e p placed opened (is_within o h stands same refl) rest x d c paired is first p.role refl

-- where a loop came to an event
record Reached (n : ℕ) (from : State) (before : List Event) (events : List Event) (e : Event) (p : yaml_place_t) : Type 0 where
  old : EventComposer
  new : EventComposer
  here : State
  documents : List Document
  rest : List Event
  leads : Leads n from before documents here
  stands : StandsAt old here
  bound : entries_bound old ≡ n
  placed : PlacesEvent old e (Some p) new
  events_are : events ≡ before ++ e ∷ rest
  paired : PairedFrom new.collections rest

next_paired : (old new : EventComposer) (e : Event) (place : Option yaml_place_t) → PlacesEvent old e place new
    → (rest events : List Event) → events ≡ e ∷ rest → PairedFrom old.collections events → PairedFrom new.collections rest
next_paired old new e place y rest events is h =
    paired_next (pos (id_or (event_node old.anchors e))) no_place (roomy y.tells.room old.collections) e rest
    (told y.deed y.put new.collections) y.tells.told (y.taken, y.tells.has_room) (subst (PairedFrom old.collections) is h)

module _ {S : Type 0} (g : Ghosts S)
    (follows : (s t : S) (a : SourceResult) → g.gives s a t → Follows (g.may_break t) (g.known s) a (g.known t)) where
  pub loop_composes : (old new : ComposedEvents S) (items : List (Event × Option yaml_place_t)) (ending : Ending)
      → LoopPlaces g old items ending new → LoopComposes g old (events_in items) ending new
  loop_composes old new items ending (no_item y) = composed.no_item y
  loop_composes old new items ending (fault f y) = composed.fault f y
  loop_composes old new items ending (event e place later end next y more) =
      composed.event e (events_in later) end next y.0 (loop_composes next new later end more)

  reached : (n : ℕ) (old new : ComposedEvents S) (from : State) (items before later : List (Event × Option yaml_place_t)) (e : Event)
      (p : yaml_place_t) (ending : Ending) (events : List Event) (x : Ending) → entries_bound old.composer ≡ n
      → StandsAt old.composer from → RunToCome g.known old.parser events x → PairedFrom old.composer.collections events
      → LoopPlaces g old items ending new → items ≡ before ++ (e, Some p) ∷ later → Reached n from (events_in before) events e p
  reached n old new from items [] later e p ending events x most stands run h (no_item y) is = absurd (not_cons _ _ is)
  reached n old new from items (b ∷ before) later e p ending events x most stands run h (no_item y) is = absurd (not_cons _ _ is)
  reached n old new from items [] later e p ending events x most stands run h (fault f y) is = absurd (not_cons _ _ is)
  reached n old new from items (b ∷ before) later e p ending events x most stands run h (fault f y) is = absurd (not_cons _ _ is)
  reached n old new from items [] later e p ending events x most stands run h (event e1 place later1 end next y more) is =
      let first = head_same (e1, place) (e, Some p) _ _ is in
      let same : e1 ≡ e = ap (λ (i : Event × Option yaml_place_t). i.0) first in
      let placed_same : place ≡ Some p = ap (λ (i : Event × Option yaml_place_t). i.1) first in
      let r = rest_of g follows old.parser next.parser e1 y.0.0 events x run in
      record {
        old = old.composer;
        new = next.composer;
        here = from;
        documents = [];
        rest = r.later;
        leads = leads_none n from;
        stands = stands;
        bound = most;
        placed = subst (λ (v : Event). PlacesEvent old.composer v (Some p) next.composer) same
            (subst (λ (v : Option yaml_place_t). PlacesEvent old.composer e1 v next.composer) placed_same y.1);
        events_are = r.all ∙ ap (λ (v : Event). v ∷ r.later) same;
        paired = next_paired old.composer next.composer e1 place y.1 r.later events r.all h;
      }
  reached n old new from items (b ∷ before) later e p ending events x most stands run h (event e1 place later1 end next y more) is =
      let same : e1 ≡ b.0 = ap (λ (i : Event × Option yaml_place_t). i.0) (head_same (e1, place) b _ _ is) in
      let r = rest_of g follows old.parser next.parser e1 y.0.0 events x run in
      let s = y.0.1 from stands in
      let c = reached n next new s.there later1 before later e p end r.later x (s.bound ∙ most) s.stands r.run
      (next_paired old.composer next.composer e1 place y.1 r.later events r.all h) more
      (tail_same (e1, place) b _ _ is) in
      record {
        old = c.old;
        new = c.new;
        here = c.here;
        documents = s.documents ++ c.documents;
        rest = c.rest;
        leads = subst (λ (v : Event). Leads n from (v ∷ events_in before) (s.documents ++ c.documents) c.here) same
            (leads_both n from s.there c.here (e1 ∷ []) (events_in before) s.documents c.documents (rw most at s.leads) c.leads);
        stands = c.stands;
        bound = c.bound;
        placed = c.placed;
        paired = c.paired;
        events_are = r.all ∙ (ap (λ (l : List Event). e1 ∷ l) c.events_are ∙ ap (λ (v : Event). v ∷ (events_in before ++ e ∷ c.rest)) same);
      }

  pub places_in : (n : ℕ) (old new : ComposedEvents S) (items : List (Event × Option yaml_place_t)) (ending : Ending)
      (events : List Event) (x : Ending) → old.composer ≡ new_event_composer n → RunToCome g.known old.parser events x
      → LoopPlaces g old items ending new → ArePlacesIn n items (bounded_loads n events x)
  places_in n old new items ending events x made run loop before later e p documents d more is faultless loads nodes =
      has_entry c.old c.new e p c.placed c.rest x d more nodes c.paired c.here c.stands
      (subst (λ (m : ℕ). loads_from m c.here (e ∷ c.rest) x ≡ Ok d ∷ more) (sym c.bound)
      (rest_same (as_loads documents) _ _ (ap (λ (l : List Document). as_loads l ++ loads_from n c.here (e ∷ c.rest) x) same
      ∙ (sym (c.leads.loads (e ∷ c.rest) x) ∙ (ap (λ (l : List Event). bounded_loads n l x) (sym c.events_are) ∙ loads)))))
    where
      c : Reached n between (events_in before) events e p
      c = reached n old new between items before later e p ending events x (ap entries_bound made)
          (subst (λ (k : EventComposer). StandsAt k between) (sym made) (is_between refl refl)) run
          (subst (λ (k : EventComposer). PairedFrom k.collections events) (sym made)
          (paired_to_come (run.asked ++ run.rest) run.fault run.given events x run.run)) loop is

      same : documents ≡ c.documents
      same = same_documents memory_fault documents c.documents (sym (faultless (Fails memory_fault))
          ∙ (ap (λ (l : List Event). bounded_loads n l (Fails memory_fault)) (sym (append-nil (events_in before)))
          ∙ (c.leads.loads [] (Fails memory_fault)
          ∙ ap (λ (l : List Load). as_loads c.documents ++ l) (from_none n c.here (Fails memory_fault)))))

-- Events composed in turn.
use Rattle.std.proofs.Common.{◌≡◌, ℕ, List, [], ◌∷◌, ◌++◌, sym, ap, subst, ◌∙◌, append_assoc, Result, Ok, Err}
use Rattle.libyaml_types.specs.declared.enums.yaml_error_type_t.{yaml_error_type_t}
use Rattle.libyaml_documents.specs.Documents.{Document}
use Rattle.libyaml_grammar.specs.grammar.Events.{Event}
use Rattle.libyaml_graphs.specs.machine.Loader.{State}
use Rattle.libyaml_types.specs.Fault.{Fault, fault_of}
use Rattle.libyaml_loader.specs.declared.composer.DocumentBuilder.{DocumentBuilder}
use Rattle.libyaml_loader.specs.pushes.Composing.{Composes, IsSound, RefusesEvent, RefusesOneOf, by_loads, by_memory, composer_state}
use Rattle.libyaml_graphs.specs.loads.Leads.{Leads}
use Rattle.libyaml_loader.specs.pushes.LoadMemory.{NeedsMemoryAt, for_document, for_node}
use Rattle.libyaml_graphs.proofs.exported.Leading.{leads_both}

-- of some events the first were composed, and these are left
pub record InTurn (old : DocumentBuilder) (events : List Event) (before : List Document) (now : DocumentBuilder)
    (left : List Event) (after : List Document) : Type 0 where
  pub composed : List Event
  pub all : events ≡ composed ++ left
  pub added : List Document
  pub appended : after ≡ before ++ added
  pub leads : Leads old.max_entries (composer_state old) composed added (composer_state now)
  pub sound : IsSound now
  pub bound : now.max_entries ≡ old.max_entries
  pub fault : now.fault ≡ old.fault
  pub unchanged : composed ≡ [] → (now ≡ old) × (after ≡ before)

not_none : (a : List Event) (e : Event) (b : List Event) → a ++ e ∷ b ≡ [] → ⊥
not_none [] e b h = cc
not_none (x ∷ a) e b h = cc

-- a list that has more room
needs_more : (Full More : Type 0) (here : State) (e : Event) → (Full → More) → NeedsMemoryAt Full here e
    → NeedsMemoryAt More here e
needs_more Full More here e f (for_node o l is grows) = for_node o l is grows
needs_more Full More here e f (for_document c is full) = for_document c is (f full)

pub refuses_more : (Full More : Type 0) (n : ℕ) (here : State) (e : Event) (g : Fault) → (Full → More)
    → RefusesEvent Full n here e g → RefusesEvent More n here e g
refuses_more Full More n here e g f (by_loads h) = by_loads h
refuses_more Full More n here e g f (by_memory is h) = by_memory is (needs_more Full More here e f h)

module _ (old now new : DocumentBuilder) (events : List Event) (before docs after : List Document) (e : Event) (left : List Event)
    (turn : InTurn old events before now (e ∷ left) docs) (Full : Type 0) where
  all_added : (more : List Document) → after ≡ docs ++ more → after ≡ before ++ (turn.added ++ more)
  all_added more h = h ∙ (ap (λ (l : List Document). l ++ more) turn.appended ∙ append_assoc before turn.added more)

  pub next_turn : (r : Result (Unit {0}) yaml_error_type_t) (u : Unit {0}) → r ≡ Ok u
      → Composes Full now (e ∷ []) docs r new after → IsSound new → new.max_entries ≡ now.max_entries
      → new.fault ≡ now.fault → InTurn old events before new left after
  next_turn r u is h sound bound fault =
      by (subst (λ (q : Result (Unit {0}) yaml_error_type_t). Composes Full now (e ∷ []) docs q new after) is h)
    where
      by : Composes Full now (e ∷ []) docs (Ok u) new after → InTurn old events before new left after
      by k = record {
        composed = turn.composed ++ e ∷ [];
        all = turn.all ∙ sym (append_assoc turn.composed (e ∷ []) left);
        added = turn.added ++ k.added;
        appended = all_added k.added k.appended;
        leads = leads_both old.max_entries (composer_state old) (composer_state now) (composer_state new) turn.composed
            (e ∷ []) turn.added k.added turn.leads
            (subst (λ (n : ℕ). Leads n (composer_state now) (e ∷ []) k.added (composer_state new)) turn.bound k.ends_so);
        sound = sound;
        bound = bound ∙ turn.bound;
        fault = fault ∙ turn.fault;
        unchanged = λ h. absurd (not_none turn.composed e [] h);
      }

  pub refused_turn : (More : Type 0) → (Full → More)
      → (r q : Result (Unit {0}) yaml_error_type_t) (x y : yaml_error_type_t) → r ≡ Err x → q ≡ Err y
      → Composes Full now (e ∷ []) docs r new after → Composes More old events before q new after
  refused_turn More f r q x y is so h
      = rw (← so) at (by (rw is at h))
    where
      by : Composes Full now (e ∷ []) docs (Err x) new after → Composes More old events before (Err y) new after
      by k =
          let i : RefusesOneOf Full old.max_entries (composer_state now) (e ∷ []) k.added (fault_of new.fault)
          = rw turn.bound at k.ends_so in
          record {
            added = turn.added ++ k.added;
            appended = all_added k.added k.appended;
            ends_so = record {
              composed = turn.composed ++ i.composed;
              event = i.event;
              later = i.later ++ left;
              all = turn.all ∙ (ap (λ (l : List Event). turn.composed ++ (l ++ left)) i.all
                  ∙ (ap (λ (l : List Event). turn.composed ++ l) (append_assoc i.composed (i.event ∷ i.later) left)
                  ∙ sym (append_assoc turn.composed i.composed (i.event ∷ (i.later ++ left)))));
              here = i.here;
              leads = leads_both old.max_entries (composer_state old) (composer_state now) i.here turn.composed
                  i.composed turn.added k.added turn.leads i.leads;
              refuses = refuses_more Full More old.max_entries i.here i.event (fault_of new.fault) f i.refuses;
            };
          }

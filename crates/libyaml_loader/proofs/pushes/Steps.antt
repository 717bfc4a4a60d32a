-- What one event does to the document that is open.
use Rattle.std.proofs.Common.{◌≡◌, ◌⊎◌, inl, inr, ℕ, List, [], ◌∷◌, Option, Some, None, Bool, Result, Ok, Err, true, refl, sym, ap, subst, ◌∙◌, length, arith}
use Rattle.std.proofs.lemmas.List.{append-nil}
use Rattle.std.specs.Cmp.Lexicographic.{nat_list_cmp_total}
use Rattle.std.specs.FinMap.{get, get-from_entries}
use Rattle.libyaml_composer.specs.declared.records.open_t.{open_t}
use Rattle.libyaml_composer.specs.Composing.{Composer}
use Rattle.libyaml_composer.specs.Represents.{IsCarried, Opens}
use Rattle.libyaml_loader.specs.document.Stack.{with_document_begun}
use Rattle.libyaml_types.specs.declared.enums.yaml_error_type_t.{yaml_error_type_t}
use Rattle.libyaml_documents.specs.Documents.{Document}
use Rattle.libyaml_documents.specs.LoadedNodes.{begun_document}
use Rattle.libyaml_grammar.specs.grammar.Events.{Event}
use Rattle.libyaml_types.specs.Fault.{Fault, fault_of, memory_fault}
use Rattle.libyaml_graphs.specs.graphs.GraphParts as parts
use Rattle.libyaml_graphs.specs.graphs.GraphParts.{closing_of, opening_of, part_of}
use Rattle.libyaml_graphs.specs.machine.Loader as loader
use Rattle.libyaml_graphs.specs.machine.Loader.{Loader, between, bounded_option, failed, fresh, no_anchors, within}
use Rattle.libyaml_loader.specs.declared.composer.DocumentBuilder as builder
use Rattle.libyaml_loader.specs.declared.context.loader_ctx.{loader_ctx}
use Rattle.libyaml_loader.specs.declared.refusal.Refusal.{Refusal}
use Rattle.libyaml_loader.specs.declared.refusal.Refusal.TheVariants.{Memory}
use Rattle.libyaml_loader.specs.document.Context.{Refuses, ComposerMatches, loader_of, opening_of_document}
use Rattle.libyaml_loader.specs.document.Refusals.{fault_by}
use Rattle.libyaml_loader.specs.loads.LoadGrowth.{load_may_grow}
use Rattle.libyaml_loader.specs.declared.composer.Closing.{Closing}
use Rattle.libyaml_loader.specs.pushes.Composing.{Composes, ComposesEvent, IsSound, RefusesEvent, RefusesOneOf, by_loads, by_memory, closing_by, state_by, composer_state}
use Rattle.libyaml_graphs.specs.loads.Leads.{Leads}
use Rattle.libyaml_loader.specs.pushes.LoadMemory.{for_document, for_node}
use Rattle.libyaml_loader.proofs.pushes.InTurn.{refuses_more}
use Rattle.libyaml_graphs.proofs.exported.Leading.{leads_none, opens_there, refused_there}

-- a new context stands at a fresh machine
context_is_fresh : (c : loader_ctx) (o : parts.Opening) → c.document ≡ begun_document o.start o.mark
    → c.collections.stack ≡ [] → c.anchors ≡ no_anchors → loader_of c ≡ fresh
context_is_fresh c o document stack anchors = grind arith

-- it begins
module _ (old c : loader_ctx) (o : parts.Opening) (anchors : old.anchors ≡ no_anchors)
    (is : c ≡ record old { document = begun_document o.start o.mark; collections = with_document_begun old.collections }) where
  document : c.document ≡ begun_document o.start o.mark
  document = ap (λ (x : loader_ctx). x.document) is

  collections : c.collections ≡ with_document_begun old.collections
  collections = ap (λ (x : loader_ctx). x.collections) is

  none : c.anchors ≡ no_anchors
  none = ap (λ (x : loader_ctx). x.anchors) is ∙ anchors

  pub begun_leads : (n : ℕ) (e : Event) → opening_of e ≡ Some o → Leads n between (e ∷ []) [] (state_by true c)
  begun_leads n e h = rw (ap (λ (l : Loader). within o l) (sym (context_is_fresh c o document (ap (λ (x : Composer).
      x.stack) collections) none)) ∙ ap (λ (d : Document). within (opening_of_document d) (loader_of c)) (sym
      document)) at (opens_there n e o h)

  pub begun_stands : ComposerMatches c
  begun_stands = record {
    is_within = ap (λ (x : Composer). x.is_within) collections;
    opening = refl;
    nodes = ap (λ (x : Composer). x.nodes) collections ∙ ap (λ (d : Document). length d.nodes) (sym document);
    opens = subst (λ (s : List open_t). Opens (length c.document.nodes) c.document.nodes (length c.document.nodes) s)
        (sym (ap (λ (x : Composer). x.stack) collections)) tt;
    carried = λ (a : List ℕ). subst (IsCarried (length c.document.nodes))
        (sym (ap (λ (x : loader.Anchors). get x a) none ∙ get-from_entries nat_list_cmp_total [] a)) tt;
  }

-- an event adds to it, or is refused
module _ (old : builder.DocumentBuilder) (new : loader_ctx) (e : Event) (sound : IsSound old) (is_open : old.is_open ≡ true) where
  pub refused : (r : Refusal) (f : Fault) → closing_of e ≡ None → Refuses old.ctx new (part_of e) e.start_mark r
      → f ≡ fault_by r new.first_mark e.start_mark → RefusesEvent ⊥ old.max_entries (composer_state old) e f
  refused r f no_end h fault =
      subst (λ (b : Bool). RefusesEvent ⊥ old.max_entries (state_by b old.ctx) e f) (sym is_open) (go h)
    where
      go : ((r ≡ Memory) × (load_may_grow (loader_of old.ctx) (part_of e) ≡ true))
          ⊎ (bounded_option old.ctx.collections.most (loader_of old.ctx) (part_of e)
          ≡ failed (fault_by r new.first_mark e.start_mark))
          → RefusesEvent ⊥ old.max_entries (state_by true old.ctx) e f
      go (inl m) = by_memory (fault ∙ ap (λ (q : Refusal). fault_by q new.first_mark e.start_mark) m.0)
          (for_node (opening_of_document old.ctx.document) (loader_of old.ctx) refl m.1)
      go (inr w) = by_loads (refused_there old.max_entries (opening_of_document old.ctx.document) (loader_of old.ctx) e f no_end
          (ap (λ (n : ℕ). bounded_option n (loader_of old.ctx) (part_of e)) (sym sound.bound) ∙ (w ∙ ap failed (sym fault))))

-- What an event did, where a list takes the documents that end.
module _ (Full : Type 0) (old mid : builder.DocumentBuilder) (e : Event) (before : List Document)
    (r : Result (Option Closing) yaml_error_type_t) (h : ComposesEvent old e r mid) where
  refused_first : (f : Fault) → RefusesEvent Full old.max_entries (composer_state old) e f
      → RefusesOneOf Full old.max_entries (composer_state old) (e ∷ []) [] f
  refused_first f k = record {
    composed = [];
    event = e;
    later = [];
    all = refl;
    here = composer_state old;
    leads = leads_none old.max_entries (composer_state old);
    refuses = k;
  }

  -- the document ended, and the list had no room for it
  pub into_full : (new : builder.DocumentBuilder) (c : Closing) (z : yaml_error_type_t) → r ≡ Ok (Some c)
      → fault_of new.fault ≡ memory_fault → Full → Composes Full old (e ∷ []) before (Err z) new before
  into_full new c z is fault full =
      let ends : (old.is_open ≡ true) × (closing_of e ≡ Some (closing_by c)) × (mid ≡ old) = rw is at h in
      record {
        added = [];
        appended = sym (append-nil before);
        ends_so = refused_first (fault_of new.fault) (by_memory fault (for_document (closing_by c) ends.1 full));
      }

  -- the event was refused
  pub into_refused : (x z : yaml_error_type_t) → r ≡ Err x → Composes Full old (e ∷ []) before (Err z) mid before
  into_refused x z is = record {
    added = [];
    appended = sym (append-nil before);
    ends_so = refused_first (fault_of mid.fault)
        (refuses_more ⊥ Full old.max_entries (composer_state old) e (fault_of mid.fault) (λ none. absurd none)
        (rw is at h));
  }

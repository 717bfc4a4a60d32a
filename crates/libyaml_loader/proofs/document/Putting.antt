-- What is decided is done.
use Rattle.std.proofs.Common.{◌≡◌, ◌++◌, List, ℕ, length, refl, sym, subst, Option, Some, None, Result, Ok, Err, OnOk, IfErr, inl, true, arith}
use Rattle.libyaml_types.specs.declared.mark.yaml_mark_t.{yaml_mark_t}
use Rattle.libyaml_types.specs.declared.event.unnamed_yaml_event_t_data.{unnamed_yaml_event_t_data}
use Rattle.libyaml_types.specs.Types.{event_anchor, event_type}
use Rattle.libyaml_grammar.specs.grammar.Events.{event}
use Rattle.libyaml_graphs.specs.graphs.GraphParts.{Part, alias_part, closing_in}
use Rattle.libyaml_composer.specs.declared.deed.Deed.{Deed}
use Rattle.libyaml_composer.specs.declared.records.place_t.{place_t}
use Rattle.libyaml_composer.specs.DocumentSoFar.{nodes_made, placed}
use Rattle.libyaml_composer.specs.Represents.{FitsParent, IsNode}
use Rattle.libyaml_loader.specs.declared.context.loader_ctx.{loader_ctx}
use Rattle.libyaml_loader.specs.declared.refusal.Refusal.{Refusal}
use Rattle.libyaml_loader.specs.declared.refusal.Refusal.TheVariants.{Memory}
use Rattle.libyaml_loader.specs.document.Context.{Composed, Decided, ComposerMatches, IsEvent, Refuses, loader_of, with_nodes}
use Rattle.libyaml_loader.specs.loads.LoadGrowth.{load_may_grow}

-- the outcome of a call, by that of another
pub on_ok : {A E : Type 0} (r : Result A E) (P Q : Type 0) → (P → Q) → OnOk r P → OnOk r Q
on_ok r P Q f h = grind arith

-- an event that doesn't end the document, as it is decided of by its kind, anchor and start
pub is_event : (k : unnamed_yaml_event_t_data) (m n : yaml_mark_t) {a : Option (List ℕ)} → event_anchor k ≡ a
    → closing_in k n ≡ None → IsEvent (event_type k) a m (event k m n)
is_event k m n named without = record { kind_is = refl; anchor_is = named; mark_is = refl; not_end = without }

module _ (old mid : loader_ctx) (q : Option Part) (end : yaml_mark_t) (d : Deed) (p : place_t)
    (at : Decided old mid q end d p) where
  pub node_fits : IsNode q → FitsParent d p (length (mid.document.nodes ++ nodes_made q)) (mid.document.nodes ++ nodes_made q)
  node_fits n = grind arith

  -- memory may be taken for it
  pub node_grows : IsNode q → load_may_grow (loader_of old) q ≡ true
  node_grows n = grind arith

  pub out_of_memory : (new : loader_ctx) (m : yaml_mark_t) (r : Refusal) → IsNode q → r ≡ Memory → Refuses old new q m r
  out_of_memory new m r n e = inl (e, node_grows n)

  pub if_refused : {A : Type 0} (r : Result A Refusal) (P : Refusal → Type 0) (new : loader_ctx) (m : yaml_mark_t) → IsNode q
      → IfErr r (λ x. (x ≡ Memory) × P x) → IfErr r (λ x. Refuses old new q m x)
  if_refused (Ok a) P new m n h = tt
  if_refused (Err x) P new m n h = out_of_memory new m x n h.0

  -- the node was added
  module _ (n : IsNode q) (add : loader_ctx)
      (added : add ≡ record mid { document = with_nodes (mid.document.nodes ++ nodes_made q) mid.document }) where
    pub added_fits : FitsParent d p (length add.document.nodes) add.document.nodes
    added_fits = subst (λ (c : loader_ctx). FitsParent d p (length c.document.nodes) c.document.nodes) (sym added) (node_fits n)

    pub added_done : (new : loader_ctx) → new ≡ record add { document = with_nodes (placed d p add.document.nodes) add.document }
        → Composed old new q × ComposerMatches new
    added_done new is = grind arith

module _ (old mid : loader_ctx) (a : List ℕ) (m end : yaml_mark_t) (d : Deed) (p : place_t)
    (at : Decided old mid (Some (alias_part a m)) end d p) where
  pub alias_fits : FitsParent d p (length mid.document.nodes) mid.document.nodes
  alias_fits = grind arith

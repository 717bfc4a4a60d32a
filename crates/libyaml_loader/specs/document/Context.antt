-- The document on the way, and what the loader's steps make of it.
use Rattle.std.specs.Prelude.{◌≡◌, ◌⊎◌, ℕ, suc, ℤ, pos, List, length, Bool, true, Option, Some, None}
use Rattle.libyaml_types.specs.declared.mark.yaml_mark_t.{yaml_mark_t}
use Rattle.libyaml_types.specs.Fault.{Fault}
use Rattle.libyaml_types.specs.Types.{event_anchor, event_type}
use Rattle.libyaml_types.specs.declared.enums.yaml_event_type_t.{yaml_event_type_t}
use Rattle.libyaml_grammar.specs.grammar.Events.{Event}
use Rattle.libyaml_documents.specs.declared.node.yaml_node_t.{yaml_node_t}
use Rattle.libyaml_documents.specs.Documents.{Document}
use Rattle.libyaml_graphs.specs.machine.Loader.{Loader, Loading, bounded_option, failed, going}
use Rattle.libyaml_graphs.specs.graphs.Graphs.{id_or}
use Rattle.libyaml_graphs.specs.graphs.GraphParts.{Opening, Part, closing_of}
use Rattle.libyaml_composer.specs.declared.deed.Deed.{Deed}
use Rattle.libyaml_composer.specs.declared.deed.Deed.TheVariants as deed
use Rattle.libyaml_composer.specs.declared.records.place_t.{place_t}
use Rattle.libyaml_composer.specs.DocumentSoFar as so_far
use Rattle.libyaml_composer.specs.DocumentSoFar.{DocumentSoFar, anchored, anchored_by, applied_part, anchored_node_named, first_mark}
use Rattle.libyaml_composer.specs.Represents.{IsPart, DeedFits, PutsNode, Represents}
use Rattle.libyaml_composer.specs.Numbers.{is_id}
use Rattle.libyaml_loader.specs.declared.context.loader_ctx.{loader_ctx}
use Rattle.libyaml_loader.specs.declared.refusal.Refusal.{Refusal}
use Rattle.libyaml_loader.specs.declared.refusal.Refusal.TheVariants.{Memory, RepeatedAnchor, UndefinedAlias}
use Rattle.libyaml_loader.specs.loads.LoadGrowth.{load_may_grow}
use Rattle.libyaml_loader.specs.document.Refusals.{fault_by}

-- how a document on the way began
abbrev pub opening_of_document : Document → Opening
opening_of_document d = record {
  start = record {
    version_directive = d.version_directive;
    tag_directives = d.tag_directives;
    implicit =
        d.start_implicit;
  };
  mark = d.start_mark;
}

-- what the loader holds of it, and what its machine sees
abbrev pub held_of : loader_ctx → DocumentSoFar
held_of c = record {
  opening = Some (opening_of_document c.document);
  nodes = c.document.nodes;
  anchors = c.anchors;
}

abbrev pub loader_of : loader_ctx → Loader
loader_of c = so_far.loader_by c.collections (held_of c)

abbrev pub ComposerMatches : loader_ctx → Type 0
ComposerMatches c = Represents c.collections (held_of c) (opening_of_document c.document)

abbrev pub with_nodes : List yaml_node_t → Document → Document
with_nodes nodes d = record d { nodes = nodes }

-- the machine goes on by an event's part, and the document's fields stay
pub record Composed (old new : loader_ctx) (p : Option Part) : Type 0 where
  pub goes : bounded_option old.collections.most (loader_of old) p ≡ going (loader_of new)
  pub document : new.document ≡ with_nodes new.document.nodes old.document
  pub bound : new.collections.most ≡ old.collections.most

-- memory may be taken: for a node, an item or a pair
abbrev pub IsListed : Deed → Type 0
IsListed deed.Item = Unit {0}
IsListed deed.Value = Unit {0}
IsListed _ = ⊥

abbrev pub Grows : Deed → place_t → Type 0
Grows d p = (PutsNode d × (is_id p.node ≡ true)) ⊎ IsListed d

-- The next node is named by this anchor, if there is one and no node carries it. The id is that of the node which
-- does; 0 where none does.
pub record Named (old new : loader_ctx) (a : Option (List ℕ)) (m : yaml_mark_t) (id : ℤ) : Type 0 where
  pub anchored_node : id ≡ pos (id_or (anchored_node_named old.anchors a))
  pub context : new ≡ record old { anchors = new.anchors; first_mark = new.first_mark }
  pub anchors : anchored_node_named old.anchors a ≡ None
      → new.anchors ≡ anchored a (suc (length old.document.nodes)) m old.anchors
  pub first : is_id id ≡ true → new.first_mark ≡ first_mark (anchored_node_named old.anchors a) m

-- why a load stops where this is refused
abbrev pub refusal_of : Deed → Refusal
refusal_of deed.UndefinedAlias = UndefinedAlias
refusal_of deed.RepeatedAnchor = RepeatedAnchor
refusal_of _ = Memory

-- What is decided of an event: the machine goes on where this is done, and what may be relied on there.
pub record Decided (old new : loader_ctx) (q : Option Part) (end : yaml_mark_t) (d : Deed) (p : place_t) : Type 0 where
  pub part : IsPart d
  pub goes : bounded_option old.collections.most (loader_of old) q
      ≡ going (so_far.loader_by new.collections (applied_part d p q end (held_of old)))
  pub stands : Represents new.collections (applied_part d p q end (held_of old)) (opening_of_document old.document)
  pub bound : new.collections.most ≡ old.collections.most
  pub context : new ≡ record old {
    collections = new.collections;
    anchors = anchored_by (suc (length old.document.nodes)) q old.anchors;
    first_mark = new.first_mark;
  }
  pub puts : DeedFits d p q (held_of old) old.collections.stack
  pub grows : Grows d p → load_may_grow (loader_of old) q ≡ true

-- an allocation failed, where there may be one, or the machine fails by this error
abbrev pub RefusedBy : (grows : Bool) → Loading → Refusal → Fault → Type 0
RefusedBy grows o r f = ((r ≡ Memory) × (grows ≡ true)) ⊎ (o ≡ failed f)

-- of an event that starts at this mark
abbrev pub Refuses : (old new : loader_ctx) → Option Part → yaml_mark_t → Refusal → Type 0
Refuses old new p mark r = RefusedBy (load_may_grow (loader_of old) p)
    (bounded_option old.collections.most (loader_of old) p) r (fault_by r new.first_mark mark)

-- an event of this kind, with this anchor, that starts here, and isn't the document's end
pub record IsEvent (kind : yaml_event_type_t) (anchor : Option (List ℕ)) (mark : yaml_mark_t) (e : Event) : Type 0 where
  pub kind_is : event_type e.content ≡ kind
  pub anchor_is : event_anchor e.content ≡ anchor
  pub mark_is : e.start_mark ≡ mark
  pub not_end : closing_of e ≡ None

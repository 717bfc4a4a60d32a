use Rattle.std.proofs.Common.{Some, refl, rules, sym, subst, w32}
use Rattle.std.proofs.lemmas.Int.{to_z-of_z}
use mir.Val.{SFits}
use Rattle.libyaml_types.specs.declared.event.unnamed_yaml_event_t_data.TheVariants as ev
use Rattle.libyaml_documents.specs.Documents.{Document}
use Rattle.libyaml_composer.specs.declared.deed.Deed.TheVariants as deed
use Rattle.libyaml_composer.specs.Represents.{Represents}
use Rattle.libyaml_loader.specs.document.Context.{opening_of_document}
use Rattle.libyaml_loader.proofs.document.Deciding.{decided}
use Rattle.libyaml_loader.proofs.context.loader_ctx.load_end.Goals as goal

pub returns-in-Closes-clause-stands : goal.returns-in-Closes-clause-stands
returns-in-Closes-clause-stands c =
    let tells = rw c.in-Closes.is at c.step-deed.ensures.tells in
    let at = decided c.args.self.now c.step-deed.new.self (record {
      content = ev.SequenceEnd;
      start_mark = c.args.end_mark.now;
      end_mark = c.args.end_mark.now;
    }) c.requires refl c.args.self.now.collections.room _ c.step-deed.new.place deed.Closes tells (record c.args.self.now { collections = c.step-deed.new.self }) refl
    (λ r. r) (λ e. cc) in
    let fits : SFits w32 c.step-deed.new.place.parent = search rules in
    let changed = rw (to_z-of_z w32 c.step-deed.new.place.parent fits) at c.set_end_mark.ensures.changed in
    subst (λ (x : Document). Represents c.step-deed.new.self (record {
      opening = Some (opening_of_document x);
      nodes = x.nodes;
      anchors = c.args.self.now.anchors;
    }) (opening_of_document x)) (sym changed) at.stands

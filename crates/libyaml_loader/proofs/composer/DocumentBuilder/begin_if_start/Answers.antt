use Rattle.std.proofs.Common.{sym, ap, ◌∙◌}
use Rattle.std.proofs.lemmas.Bool.{true≢false}
use Rattle.libyaml_loader.specs.declared.context.loader_ctx.{loader_ctx}
use Rattle.libyaml_loader.specs.pushes.Composing.{opening_by}
use Rattle.libyaml_loader.proofs.pushes.Steps.{begun_leads, begun_stands}
use Rattle.libyaml_loader.proofs.composer.DocumentBuilder.begin_if_start.Goals as goal

pub returns-in-Some-clause-leads : goal.returns-in-Some-clause-leads
returns-in-Some-clause-leads c =
    let fresh = c.requires.sound.fresh c.requires.none_open in
    begun_leads c.args.self.now.ctx c.start_document.new.self (opening_by c.in-Some.opening) fresh.1 c.start_document.ensures
    c.args.self.now.max_entries c.args.event.now (sym c.in-Some.ensures)

pub returns-in-Some-clause-sound : goal.returns-in-Some-clause-sound
returns-in-Some-clause-sound c =
    let fresh = c.requires.sound.fresh c.requires.none_open in
    record {
      stands = λ h. begun_stands c.args.self.now.ctx c.start_document.new.self (opening_by c.in-Some.opening) fresh.1 c.start_document.ensures;
      fresh = λ h. absurd (true≢false h);
      bound = ap (λ (x : loader_ctx). x.collections.most) c.start_document.ensures ∙ c.requires.sound.bound;
      most = c.requires.sound.most;
    }

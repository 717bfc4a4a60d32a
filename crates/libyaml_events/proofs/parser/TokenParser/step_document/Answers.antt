use Rattle.std.proofs.Common.{◌∙◌, ap, sym}
use Rattle.libyaml_events.specs.machine.Want.{Texts, Want}
use Rattle.libyaml_events.proofs.layer.Putting.{again, grows_again}
use Rattle.libyaml_events.proofs.parser.TokenParser.step_document.Goals as goal

pub returns-in_default : goal.returns-in_default
returns-in_default c =
    let y = c.put_document.ensures.puts _ _ c.step_automaton_in_documents.ensures.led in
    record {
      steps = again _ _ _ _ c.args.token.now _ _ c.forget_directives.ensures.wanted c.forget_directives.ensures.same y.0;
      ready = y.1;
      untagged = ap (λ (w : Want). w.texts.tag) (sym c.forget_directives.ensures.wanted)
          ∙ ap (λ (h : Texts). h.tag) c.forget_directives.ensures.declared;
      grows = λ f m. grows_again _ _ _ _ c.args.token.now.content c.forget_directives.ensures.wanted
          c.forget_directives.ensures.same (let g = c.put_document.ensures.grows f m in
          c.step_automaton_in_documents.ensures.handle g.0 g.1);
    }

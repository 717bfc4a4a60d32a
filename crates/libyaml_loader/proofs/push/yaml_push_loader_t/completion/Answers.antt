use Rattle.std.proofs.lemmas.Result.{IfOk-weaker}
use Rattle.libyaml_loader.proofs.push.yaml_push_loader_t.completion.Goals as goal

pub returns-clause-completes : goal.returns-clause-completes
returns-clause-completes c = rw (← c.self.view_is) (IfOk-weaker c.completion.result _ _
    (λ types h tokens documents l. h tokens l.events l.pushed) c.completion.ensures.completes)

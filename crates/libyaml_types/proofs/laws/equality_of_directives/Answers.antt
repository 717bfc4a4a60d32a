use Rattle.std.proofs.Common.{sym, ◌∙◌}
use Rattle.libyaml_types.proofs.Directives.{directives_decide}
use Rattle.libyaml_types.proofs.laws.equality_of_directives.Goals as goal

pub returns : goal.returns
returns c =
    let decides = directives_decide c.args.directives.now c.args.other.now in
    (λ is. decides.0 (sym c.eq.ensures ∙ is), λ one. c.eq.ensures ∙ decides.1 one)

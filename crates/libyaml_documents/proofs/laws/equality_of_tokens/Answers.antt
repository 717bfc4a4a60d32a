use Rattle.std.proofs.Common.{sym, ◌∙◌}
use Rattle.libyaml_documents.proofs.TokensEqual.{token_decides}
use Rattle.libyaml_documents.proofs.laws.equality_of_tokens.Goals as goal

pub returns : goal.returns
returns c =
    let decides = token_decides c.args.token.now c.args.other.now in
    (λ is. decides.0 (sym c.eq.ensures ∙ is), λ one. c.eq.ensures ∙ decides.1 one)

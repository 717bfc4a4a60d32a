use Rattle.std.proofs.Common.{sym, ◌∙◌}
use Rattle.libyaml_documents.proofs.DocumentsEqual.{document_decides}
use Rattle.libyaml_documents.proofs.laws.equality_of_documents.Goals as goal

pub returns : goal.returns
returns c =
    let decides = document_decides c.args.document.now c.args.other.now in
    (λ is. decides.0 (sym c.eq.ensures ∙ is), λ one. c.eq.ensures ∙ decides.1 one)

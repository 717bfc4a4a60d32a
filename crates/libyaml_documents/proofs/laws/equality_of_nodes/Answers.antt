use Rattle.std.proofs.Common.{sym, ◌∙◌}
use Rattle.libyaml_documents.proofs.NodesEqual.{node_decides}
use Rattle.libyaml_documents.proofs.laws.equality_of_nodes.Goals as goal

pub returns : goal.returns
returns c =
    let decides = node_decides c.args.node.now c.args.other.now in
    (λ is. decides.0 (sym c.eq.ensures ∙ is), λ one. c.eq.ensures ∙ decides.1 one)

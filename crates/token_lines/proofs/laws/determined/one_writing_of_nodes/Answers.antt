use Rattle.token_lines.proofs.nodes.NodeWritings.{one_writing_of_nodes_proof}
use Rattle.token_lines.proofs.laws.determined.one_writing_of_nodes.Goals as goal

pub returns : goal.returns
returns g c old p q first second n written after later asked given a b one =
    one_writing_of_nodes_proof g.S.yaml_token_source_t g.W.Write.contents n
    old p q first second written after later asked given
    a b one

use Rattle.token_lines.proofs.lines.OneWritings.{nothing_left_proof, one_writing_proof}
use Rattle.token_lines.proofs.laws.determined.one_writing_of_events.Goals as goal

pub returns-clause-running : goal.returns-clause-running
returns-clause-running g c old p q first second written after later asked given a b one
    = one_writing_proof g.S.yaml_token_source_t.gives g.W.Write.contents old p q first
    second written after later asked given a b one

pub returns-clause-nothing_left : goal.returns-clause-nothing_left
returns-clause-nothing_left g c = nothing_left_proof

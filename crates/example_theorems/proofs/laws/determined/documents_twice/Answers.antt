use Rattle.std.proofs.Common.{subst}
use Rattle.token_lines.specs.lines.InMemory.{NodesInMemory}
use Rattle.example_theorems.proofs.laws.determined.documents_twice.Goals as goal

pub returns : goal.returns
returns c =
    let one = c.nodes_in_memory-one in
    let other = c.nodes_in_memory-other in
    let tokens = c.args.tokens.now in
    let max = c.args.max_tokens in
    let first = c.args.first.now in
    c.one_run_in_memory.ensures.nodes tokens first one.new.out other.new.out max one.result other.result one.ensures
    (subst (λ old. NodesInMemory tokens max old other.new.out other.result) c.requires other.ensures)

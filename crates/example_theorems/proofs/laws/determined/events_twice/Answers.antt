use Rattle.std.proofs.Common.{subst}
use Rattle.token_lines.specs.lines.InMemory.{EventsInMemory}
use Rattle.example_theorems.proofs.laws.determined.events_twice.Goals as goal

pub returns : goal.returns
returns c =
    let one = c.events_in_memory-one in
    let other = c.events_in_memory-other in
    let tokens = c.args.tokens.now in
    let max = c.args.max_tokens in
    let first = c.args.first.now in
    c.one_run_in_memory.ensures.events tokens first one.new.out other.new.out max one.result other.result one.ensures
    (subst (λ old. EventsInMemory tokens max old other.new.out other.result) c.requires other.ensures)

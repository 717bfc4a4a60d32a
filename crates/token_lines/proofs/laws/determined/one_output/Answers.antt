use Rattle.std.proofs.Common.{Some, subst}
use Rattle.line_reading.specs.sources.LineSource.{BreaksOff}
use Rattle.line_reading.specs.sources.ReadLines.{read_lines}
use Rattle.token_lines.specs.events.EventRun.{WritesRunOf, event_lines, most_tokens}
use Rattle.token_lines.specs.nodes.NodeRun.{WritesNodesOf, loads_ending, loads_lines}
use Rattle.token_lines.proofs.lines.OneOutputs.{one_writes}
use Rattle.token_lines.proofs.laws.determined.one_output.Goals as goal
use Rattle.libyaml_grammar.proofs.exported.Running.{some_run_proof}
use Rattle.libyaml_graphs.proofs.exported.RunLoads.{some_loads}

pub returns-clause-events : goal.returns-clause-events
returns-clause-events g c one other first second bytes written after later known same a b =
    let lines = read_lines bytes most_tokens in
    let (e, x, run) = some_run_proof lines.tokens lines.fault in
    let of_a = subst (λ o. WritesRunOf o (BreaksOff a.last.source) a.end (Some written) after) known a.writes in
    let of_b = subst (λ o. WritesRunOf o (BreaksOff b.last.source) b.end (Some written) later) same b.writes in
    one_writes (BreaksOff a.last.source) (BreaksOff b.last.source) a.end b.end first second a.outcome_is
    b.outcome_is written after later (event_lines e) x (of_a e x run) (of_b e x run)

pub returns-clause-nodes : goal.returns-clause-nodes
returns-clause-nodes g c one other first second bytes written after later known same a b =
    let lines = read_lines bytes most_tokens in
    let (loads, are) = some_loads lines.tokens lines.fault in
    let of_a = subst (λ o. WritesNodesOf o (BreaksOff a.last.source) a.end (Some written) after) known a.writes in
    let of_b = subst (λ o. WritesNodesOf o (BreaksOff b.last.source) b.end (Some written) later) same b.writes in
    one_writes (BreaksOff a.last.source) (BreaksOff b.last.source) a.end b.end first second a.outcome_is
    b.outcome_is written after later (loads_lines loads) (loads_ending loads)
    (of_a loads are) (of_b loads are)

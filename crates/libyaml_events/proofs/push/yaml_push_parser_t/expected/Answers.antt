use Rattle.std.proofs.Common.{sym}
use Rattle.libyaml_events.proofs.expected.Expected.{fed_expected, fed_nothing}
use Rattle.libyaml_events.proofs.push.yaml_push_parser_t.expected.Goals as goal

pub returns-then-is_over-clause-acceptable : goal.returns-then-is_over-clause-acceptable
returns-then-is_over-clause-acceptable c = rw (← c.self.view_is)
    (λ tokens events h. fed_nothing h c.none.result (sym c.if-is_over.ensures) c.none.ensures)

pub returns-clause-acceptable : goal.returns-clause-acceptable
returns-clause-acceptable c = rw (← c.self.view_is)
    (λ tokens events h. fed_expected h c.expected.result (sym c.if-is_over.ensures) c.expected.ensures)

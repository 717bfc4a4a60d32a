use Rattle.libyaml_events.proofs.parser.TokenParser.put.Goals as goal

pub returns-then-pending-eq0-clause-puts : goal.returns-then-pending-eq0-clause-puts
returns-then-pending-eq0-clause-puts c = λ out h l. c.put_content_after_anchor.ensures.puts out h (rw c.in-AsksContent.is at l)

pub returns-else-pending-eq0-clause-puts : goal.returns-else-pending-eq0-clause-puts
returns-else-pending-eq0-clause-puts c = λ out h l. c.put_content_after.ensures.puts out h (rw c.in-AsksContent.is at l)

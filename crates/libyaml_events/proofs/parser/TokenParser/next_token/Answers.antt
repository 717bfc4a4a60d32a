use Rattle.libyaml_events.proofs.parser.TokenParser.next_token.Goals as goal

pub returns-clause-fetches : goal.returns-clause-fetches
returns-clause-fetches g c = rw c.if-lookahead.false c.ask_source.ensures.fetches

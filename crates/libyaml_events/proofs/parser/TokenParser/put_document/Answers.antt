use Rattle.libyaml_events.proofs.parser.TokenParser.put_document.Goals as goal

pub returns-in-AsksVersion-clause-puts : goal.returns-in-AsksVersion-clause-puts
returns-in-AsksVersion-clause-puts c = rw c.in-AsksVersion.is (c.take_version.ensures.puts c.args.out.now)

pub returns-in-AsksHandle-clause-puts : goal.returns-in-AsksHandle-clause-puts
returns-in-AsksHandle-clause-puts c = rw c.in-AsksHandle.is (c.take_handle.ensures.puts c.args.out.now)

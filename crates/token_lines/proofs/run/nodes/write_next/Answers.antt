use Rattle.std.proofs.Common.{Some, None, Ok, arith}
use Rattle.std.proofs.KnownBytes.{Appends-kept}
use Rattle.std.proofs.lemmas.Option.{none-some}
use Rattle.libyaml_loader.specs.document.Ids.{magnitude}
use Rattle.token_lines.specs.declared.run.LastStep.TheVariants.{Ended}
use Rattle.token_lines.proofs.nodes.NodeTurnLemmas.{has_none, has_some, turn_of}
use Rattle.token_lines.proofs.lines.RunLemmas.{Keeps-same}
use Rattle.token_lines.proofs.run.nodes.write_next.Goals as goal

pub returns-in_default-clause-turn : goal.returns-in_default-clause-turn
returns-in_default-clause-turn g c running = grind arith

pub returns-then-is_empty-clause-turn : goal.returns-then-is_empty-clause-turn
returns-then-is_empty-clause-turn g c running =
    let call = c.yaml_parser_load-loaded in
    let none = has_none c.nodes.result.now c.in-Ok.document.nodes c.is_empty.result c.is_empty.ensures
    c.if-is_empty.true c.nodes.ensures.all in
    turn_of g.S.yaml_token_source_t (magnitude c.args.parser.now.max_entries) (Some Ended) c.args.parser.now
    call.new.parser _ _ call.result (Ok c.in-Ok.document)
    c.in-Ok.is (call.ensures.loads running) (none, Keeps-same _) (λ is. (rw c.in-Ok.is at call.ensures.without_root) none)

pub returns-clause-turn : goal.returns-clause-turn
returns-clause-turn g c running =
    let call = c.yaml_parser_load-loaded in
    let some = has_some c.nodes.result.now c.in-Ok.document.nodes c.is_empty.result c.is_empty.ensures
    c.if-is_empty.false c.nodes.ensures.all in
    turn_of g.S.yaml_token_source_t (magnitude c.args.parser.now.max_entries) None c.args.parser.now
    call.new.parser _ _ call.result (Ok c.in-Ok.document)
    c.in-Ok.is (call.ensures.loads running)
    (some, Appends-kept _ _ _ _ c.in-Ok-write_document.ensures.ok c.show.ensures) (λ none. absurd (none-some _ none))

pub returns-in-Err-Memory-clause-turn : goal.returns-in-Err-Memory-clause-turn
returns-in-Err-Memory-clause-turn g c running = grind arith

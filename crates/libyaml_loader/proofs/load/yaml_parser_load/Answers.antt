use Rattle.std.proofs.Common.{sym, ◌∙◌, arith}
use Rattle.std.proofs.lemmas.Bool.{true≢false}
use Rattle.libyaml_graphs.specs.loads.Bounds.{next_bounded}
use Rattle.libyaml_graphs.specs.loads.Loads.{left_over}
use Rattle.libyaml_loader.specs.document.Ids.{magnitude}
use Rattle.libyaml_loader.specs.loads.Loading.{LoadsFrom}
use Rattle.libyaml_loader.proofs.loads.Faultless.{faultless}
use Rattle.libyaml_loader.proofs.loads.Large.{linear}
use Rattle.libyaml_loader.proofs.loads.NextLoads.{next_load}
use Rattle.libyaml_loader.proofs.loads.Rootless.{rootless}
use Rattle.libyaml_loader.proofs.load.yaml_parser_load.Given as given
use Rattle.libyaml_loader.proofs.load.yaml_parser_load.Goals as goal
use Rattle.libyaml_loader.proofs.load.yaml_parser_load.Goals.{After-next_document}
use Rattle.libyaml_events.proofs.exported.Histories as histories

-- the composer's bound is the parser's
loads : (g : given.Over) (c : After-next_document g)
    → LoadsFrom g.S.yaml_token_source_t
    (next_bounded (magnitude c.args.parser.now.max_entries)) left_over c.args.parser.now c.next_document.result
    c.next_document.new.parser
loads g c = grind arith

pub returns-then-has_failed-clause-no_fault : goal.returns-then-has_failed-clause-no_fault
returns-then-has_failed-clause-no_fault g c = histories.faultless c.args.parser.now

pub returns-clause-no_fault : goal.returns-clause-no_fault
returns-clause-no_fault g c = histories.faultless c.args.parser.now

pub returns-then-has_failed-clause-next_load : goal.returns-then-has_failed-clause-next_load
returns-then-has_failed-clause-next_load g c events ending run = grind arith

pub returns-then-has_failed-clause-between : goal.returns-then-has_failed-clause-between
returns-then-has_failed-clause-between g c = c.requires.between

pub returns-clause-next_load : goal.returns-clause-next_load
returns-clause-next_load g c =
    let call = c.next_document in
    next_load g.S.yaml_token_source_t (next_bounded (magnitude c.args.parser.now.max_entries)) left_over
    c.args.parser.now call.new.parser call.result
    call.ensures.fails (λ first. loads g (goal.at.returns-clause-next_load g c).After-next_document)

pub returns-then-has_failed-clause-ended : goal.returns-then-has_failed-clause-ended
returns-then-has_failed-clause-ended g c ended none = absurd (true≢false (sym c.if-has_failed.true ∙ c.has_failed.ensures ∙ none))

pub returns-clause-ended : goal.returns-clause-ended
returns-clause-ended g c ended none = c.next_document.ensures.ended ended

pub returns-clause-without_root : goal.returns-clause-without_root
returns-clause-without_root g c = grind (arith, rootless, loads)

pub returns-then-has_failed-clause-linear : goal.returns-then-has_failed-clause-linear
returns-then-has_failed-clause-linear g c none = absurd (true≢false (sym c.if-has_failed.true ∙ c.has_failed.ensures ∙ none))

pub returns-clause-linear : goal.returns-clause-linear
returns-clause-linear g c none = grind (arith, linear, loads)

pub returns-then-has_failed-clause-faultless : goal.returns-then-has_failed-clause-faultless
returns-then-has_failed-clause-faultless g c none = tt

pub returns-clause-faultless : goal.returns-clause-faultless
returns-clause-faultless g c none = grind (arith, faultless, loads)

use Rattle.std.proofs.Common.{arith}
use Rattle.libyaml_graphs.specs.loads.Bounds.{next_bounded}
use Rattle.libyaml_graphs.specs.loads.Loads.{left_over}
use Rattle.libyaml_loader.specs.document.Ids.{magnitude}
use Rattle.libyaml_loader.specs.loads.Loading.{LoadsFrom}
use Rattle.libyaml_loader.specs.loads.PartialLoad.{as_load}
use Rattle.libyaml_loader.proofs.loads.Faultless.{faultless}
use Rattle.libyaml_loader.proofs.loads.Large.{linear}
use Rattle.libyaml_loader.proofs.loads.NextLoads.{next_load}
use Rattle.libyaml_loader.proofs.loads.PartialLoads.{if_document, if_error}
use Rattle.libyaml_loader.proofs.loads.Rootless.{rootless}
use Rattle.libyaml_loader.proofs.load_partial.yaml_parser_load_partial.Given as given
use Rattle.libyaml_loader.proofs.load_partial.yaml_parser_load_partial.Goals as goal
use Rattle.libyaml_loader.proofs.load_partial.yaml_parser_load_partial.Goals.{After-next_or_half}
use Rattle.libyaml_events.proofs.exported.Histories as histories

-- the composer's bound is the parser's
loads : (g : given.Over) (c : After-next_or_half g)
    → LoadsFrom g.S.yaml_token_source_t
    (next_bounded (magnitude c.args.parser.now.max_entries)) left_over c.args.parser.now (as_load c.next_or_half.result)
    c.next_or_half.new.parser
loads g c = grind arith

pub returns-then-has_failed-clause-no_fault : goal.returns-then-has_failed-clause-no_fault
returns-then-has_failed-clause-no_fault g c = histories.faultless c.args.parser.now

pub returns-clause-no_fault : goal.returns-clause-no_fault
returns-clause-no_fault g c = histories.faultless c.args.parser.now

pub returns-then-has_failed-clause-next_load : goal.returns-then-has_failed-clause-next_load
returns-then-has_failed-clause-next_load g c events ending run = grind arith

pub returns-clause-next_load : goal.returns-clause-next_load
returns-clause-next_load g c =
    let call = c.next_or_half in
    next_load g.S.yaml_token_source_t (next_bounded (magnitude c.args.parser.now.max_entries)) left_over
    c.args.parser.now call.new.parser (as_load call.result)
    (if_error call.result _ _ call.ensures.fails)
    (λ first. loads g (goal.at.returns-clause-next_load g c).After-next_or_half)

pub returns-clause-without_root : goal.returns-clause-without_root
returns-clause-without_root g c = grind (arith, if_document, rootless, loads)

pub returns-clause-linear : goal.returns-clause-linear
returns-clause-linear g c none = grind (arith, if_document, linear, loads)

pub returns-clause-faultless : goal.returns-clause-faultless
returns-clause-faultless g c none = grind (arith, if_document, faultless, loads)

use Rattle.yaml_expansion.proofs.Moves.{begins}
use Rattle.yaml_expansion.proofs.walk.Walk.new.Goals as goal

pub returns-clause-at_root : goal.returns-clause-at_root
returns-clause-at_root c =
    begins c.args.nodes.now c.args.max c.in_ok-marks.marks.items c.new.result.items c.size_of.result c.in_ok-marks.ensures
    c.new.ensures.items c.requires c.size_of.ensures

use Rattle.std.proofs.Common.{arith}
use Rattle.libyaml_loader.proofs.document.AnchorLemmas.{get_anchor, one_registered}
use Rattle.libyaml_loader.proofs.anchors.Anchors.register.Goals as goal

pub returns-clause-earlier : goal.returns-clause-earlier
returns-clause-earlier c = grind (arith, get_anchor)

pub returns-clause-registered : goal.returns-clause-registered
returns-clause-registered c = grind (arith, one_registered)

pub returns-in_err-insert-clause-new : goal.returns-in_err-insert-clause-new
returns-in_err-insert-clause-new c = grind (arith, get_anchor)

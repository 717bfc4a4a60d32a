use Rattle.std.proofs.Common.{◌≡◌, drop}
use Rattle.document_steps.specs.Anchors.{node_in}
use Rattle.document_steps.proofs.anchors.carrier.Given as goal

-- what is left says the same
abbrev pub invariant-loop-entry : goal.invariant-loop-entry
invariant-loop-entry l = node_in l.texts l.anchors l.anchor ≡ node_in l.texts (drop l.entry-index l.anchors) l.anchor

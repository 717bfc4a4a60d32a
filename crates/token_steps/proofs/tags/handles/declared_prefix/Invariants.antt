use Rattle.std.proofs.Common.{◌≡◌, drop}
use Rattle.token_steps.specs.Handles.{prefix_in}
use Rattle.token_steps.proofs.tags.handles.declared_prefix.Given as goal

-- what is left says the same
abbrev pub invariant-loop-entry : goal.invariant-loop-entry
invariant-loop-entry l = prefix_in l.texts l.handles l.handle ≡ prefix_in l.texts
    (drop l.entry-index l.handles) l.handle

use Rattle.std.proofs.Common.{◌≡◌, drop}
use Rattle.libyaml_events.specs.parsers.HandleList.{first_prefix}
use Rattle.libyaml_events.proofs.handle_table.first_prefix.Given as goal

-- what is left says the same
abbrev pub invariant-loop-entry : goal.invariant-loop-entry
invariant-loop-entry l = first_prefix l.entries l.handle ≡ first_prefix (drop l.entry-index l.entries) l.handle

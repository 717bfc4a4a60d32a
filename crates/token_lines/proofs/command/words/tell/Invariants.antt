use Rattle.std.proofs.Common.{◌≤◌, length, take}
use Rattle.std.specs.Io.KnownBytes.{Appends}
use Rattle.token_lines.proofs.command.words.tell.Given as goal

-- so many bytes of the line are written
abbrev pub invariant-loop : goal.invariant-loop
invariant-loop g l = (l.written ≤ length l.line) × Appends (g.E.Write.contents l.fn.errors) (g.E.Write.contents l.errors) (take l.written l.line)

use Rattle.std.proofs.Common.{take}
use Rattle.std.specs.List.{concat}
use Rattle.std.specs.Io.KnownBytes.{Appends}
use Rattle.line_writing.specs.DocumentText.{node_lines}
use Rattle.line_writing.proofs.document_text.write_nodes.Given as goal

abbrev pub invariant-loop-index : goal.invariant-loop-index
invariant-loop-index g l = Appends (g.W.Write.contents l.initial.writer) (g.W.Write.contents l.writer)
    (concat (node_lines 1 (take l.index l.nodes)))

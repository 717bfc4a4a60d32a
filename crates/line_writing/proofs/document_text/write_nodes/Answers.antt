use Rattle.std.proofs.Common.{◌++◌, ◌+◌, sym, subst, ap, ◌∙◌}
use Rattle.std.specs.Io.KnownBytes.{Appends}
use Rattle.std.proofs.KnownBytes.{Appends-trans}
use Rattle.line_writing.specs.DocumentText.{node_line}
use Rattle.line_writing.proofs.DocumentLemmas.{lines_more, wrote_before}
use Rattle.line_writing.proofs.document_text.write_nodes.Goals as goal

pub returns-in_err-append_node-clause-memory : goal.returns-in_err-append_node-clause-memory
returns-in_err-append_node-clause-memory g c refused
    = wrote_before c.args.nodes.now c.loop-index.index c.index-nodes-index.result _ _ c.loop-index-test.true
    c.loop-index.invariant

pub loop-index-preserved : goal.loop-index-preserved
loop-index-preserved g c =
    let nodes = c.args.nodes.now in
    let index = c.loop-index.index in
    let node = c.index-nodes-index.result in
    let line = c.in_ok-append_node.ensures ∙ ap (λ l. l ++ node_line (index + 1) node) c.clear.ensures.bytes in
    let wrote = subst (λ x. Appends (g.W.Write.contents c.loop-index.writer)
    (g.W.Write.contents c.write_line.new.writer) (node_line (index + 1) x))
    c.index-nodes-index.is (subst (Appends _ _) line c.in_ok-write_line.ensures.ok) in
    subst (Appends _ _) (sym (lines_more nodes index node c.loop-index-test.true))
    (Appends-trans _ _ _ _ _ c.loop-index.invariant wrote)

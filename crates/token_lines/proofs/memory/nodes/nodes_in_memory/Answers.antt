use Rattle.std.proofs.Common.{Some}
use Rattle.libyaml_graphs.proofs.exported.BoundedPrefixes.{prefix_of_loads}
use Rattle.line_reading.specs.sources.LineSource.{BreaksOff, known_of}
use Rattle.token_lines.proofs.lines.WholeRuns.{as_slice}
use Rattle.token_lines.specs.nodes.LastLoad.{most_entries}
use Rattle.token_lines.specs.nodes.NodeRun.{WritesLoads}
use Rattle.token_lines.proofs.nodes.NoBound.{writes_all}
use Rattle.token_lines.proofs.memory.nodes.nodes_in_memory.Goals as goal

pub returns : goal.returns
returns c loads is =
    let parser = c.yaml_parser_initialize-parser in
    let run = c.write_nodes-end in
    let Wrote = WritesLoads (BreaksOff run.new.parser.source) run.result (Some c.new-bytes.result.items)
    (Some run.new.writer.items) in
    c.hand_out.ensures run.new.parser.source.given _ _
    (as_slice _ run.result c.new-bytes.result.items run.new.writer.items c.as_slice.result.now _ _
    c.new-bytes.ensures.items c.as_slice.ensures.value
    (rw (← is.all) at (writes_all _ _ _ _ _ _ (prefix_of_loads is.events is.ending most_entries)
    (rw parser.ensures.bound at (run.ensures.writes is.events is.ending
    (parser.ensures.run_to_come (known_of (λ s. Some s.now)) _ _ c.new-source.ensures.reads is.events is.ending is.run))))))

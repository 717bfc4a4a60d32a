use Rattle.std.proofs.Common.{Some}
use Rattle.line_reading.specs.sources.LineSource.{known_of}
use Rattle.token_lines.proofs.lines.WholeRuns.{as_slice}
use Rattle.token_lines.proofs.memory.events.events_in_memory.Goals as goal

pub returns : goal.returns
returns c events ending is =
    let run = c.write_events-end in
    c.hand_out.ensures run.new.parser.source.given _ ending
    (as_slice _ run.result c.new-bytes.result.items run.new.writer.items c.as_slice.result.now _ ending
    c.new-bytes.ensures.items c.as_slice.ensures.value (run.ensures.writes events ending
    (c.yaml_parser_initialize-parser.ensures.run_to_come (known_of (λ s. Some s.now)) _ _ c.new-source.ensures.reads events
    ending is)))

use Rattle.std.proofs.Common.{ℤ, [], ap, ◌∙◌, subst}
use Rattle.libyaml_graphs.specs.loads.Bounds.{bounded_loads}
use Rattle.libyaml_loader.specs.document.Ids.{magnitude}
use Rattle.line_reading.specs.sources.LineSource.{BreaksOff, Gives, known_of}
use Rattle.token_lines.specs.nodes.LastLoad.{LastLoad, line_source, most_entries}
use Rattle.token_lines.specs.nodes.NodeRun.{WritesLoads}
use Rattle.token_lines.proofs.lines.KnownLines.{writes_of_lines, writes_of_runs}
use Rattle.token_lines.proofs.nodes.LargeRuns.{loaded_linear}
use Rattle.token_lines.proofs.run.nodes.run_nodes.Goals as goal

pub returns : goal.returns
returns g c =
    let parser = c.yaml_parser_initialize-parser in
    let run = c.write_nodes in
    let remaining = g.R.Read.remaining in
    let known = known_of remaining in
    let contents = g.W.Write.contents in
    let in_turn = subst (λ (z : ℤ). LastLoad (line_source remaining) contents (magnitude z) run.result
    parser.result run.new.parser
    (contents c.args.writer.now) (contents run.new.writer) [] []) parser.ensures.bound
    (run.ensures.in_turn [] [] parser.ensures.begins) in
    record {
      end = run.result;
      outcome_is = c.outcome.ensures;
      first = parser.result;
      last = run.new.parser;
      starts = record {
        source = ap (λ p. p.source) parser.ensures.value ∙ c.new-source.ensures.value;
        begins =
            parser.ensures.begins;
      };
      writes = writes_of_runs _ _ _ _ _ (writes_of_lines _ _ (λ tokens f e events ending is.
          subst (λ (z : ℤ). WritesLoads (BreaksOff run.new.parser.source) run.result (contents c.args.writer.now)
          (contents run.new.writer)
          (bounded_loads (magnitude z) events ending)) parser.ensures.bound
          (run.ensures.writes events ending
          (parser.ensures.run_to_come known tokens f (ap known c.new-source.ensures.value ∙ e) events ending is))));
      in_turn = in_turn;
      linear = loaded_linear (Gives remaining) most_entries parser.result in_turn.parser _ in_turn.earlier.loaded;
    }

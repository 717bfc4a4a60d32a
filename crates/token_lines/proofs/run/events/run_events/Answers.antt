use Rattle.std.proofs.Common.{[], ap, ◌∙◌}
use Rattle.line_reading.specs.sources.LineSource.{known_of}
use Rattle.token_lines.proofs.lines.KnownLines.{writes_of_lines}
use Rattle.token_lines.proofs.run.events.run_events.Goals as goal

pub returns : goal.returns
returns g c =
    let parser = c.yaml_parser_initialize-parser in
    let run = c.write_events in
    let known = known_of g.R.Read.remaining in
    record {
      end = run.result;
      outcome_is = c.outcome.ensures;
      first = parser.result;
      last = run.new.parser;
      starts = record {
        source = ap (λ p. p.source) parser.ensures.value ∙ c.new-source.ensures.value;
        begins =
            parser.ensures.begins;
      };
      writes = writes_of_lines _ _ (λ tokens f e events ending is.
          run.ensures.writes events ending
          (parser.ensures.run_to_come known tokens f (ap known c.new-source.ensures.value ∙ e) events ending is));
      in_turn = run.ensures.in_turn parser.ensures.running [] [] parser.ensures.begins;
    }

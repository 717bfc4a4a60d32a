use Rattle.libyaml_grammar.proofs.exported.NestingSoFar.{run_prefix_nests}
use Rattle.document_sizes.proofs.ParserLaws.{ends_with_its_size, nothing_is_lost, stops_at_a_cycle, stops_at_the_bound}
use Rattle.document_sizes.proofs.Wholes.{goes_on_whole}
use Rattle.document_sizes.proofs.laws.parser_is_counted.Goals as goal

pub returns : goal.returns
returns c = record {
  of_runs = run_prefix_nests;
  nothing_is_lost = nothing_is_lost;
  ends_with_its_size = ends_with_its_size;
  stops_at_the_bound = stops_at_the_bound;
  stops_at_a_cycle = stops_at_a_cycle;
  whole_continues = goes_on_whole;
}

use Rattle.std.proofs.Common.{map, refl}
use Rattle.libyaml_grammar.specs.vectors.VectorNotation.{no_more}
use Rattle.libyaml_grammar.specs.runs.Runs.{Fails}
use Rattle.rust_original.specs.parser.Runs.{as_there, enough_calls, new_original_parser}
use Rattle.rust_original.specs.parser.Texts.{as_held}
use Rattle.rust_original.specs.vectors.ExampleVectors.{fault_events, fault_tokens}
use Rattle.rust_original.specs.vectors.Notation.{no_separator}
use Rattle.rust_original.proofs.runs.Within.{computed}
use Rattle.rust_original.proofs.vectors.load_vectors.Goals as goal

pub returns : goal.returns
returns c = record {
  events = fault_events;
  ending = Fails (no_separator 7 15);
  run = computed as_there (enough_calls fault_tokens)
      (new_original_parser (map as_held fault_tokens) no_more) fault_events (Fails (no_separator 7 15)) refl;
  all = refl;
}

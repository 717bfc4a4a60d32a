-- Two runs that the contract of a whole parse allows are one.
use Rattle.std.proofs.Common.{◌≡◌, List, Option, Some, None, refl}
use Rattle.libyaml_types.specs.Fault.{SourceResult, Fault, fault_of}
use Rattle.libyaml_types.specs.declared.fault.yaml_parser_t_prefix.{yaml_parser_t_prefix}
use Rattle.libyaml_grammar.specs.grammar.Tokens.{Token}
use Rattle.libyaml_grammar.specs.grammar.Events.{Event}
use Rattle.libyaml_grammar.specs.runs.Runs.{Fails}
use Rattle.libyaml_events.specs.sources.History.{source_results}
use Rattle.libyaml_events.specs.sources.Parsing.{IsWhole}
use Rattle.libyaml_events.proofs.exported.RunStops.{AskedRun, RunStop, ended_stop, grammar_stop, one_run_by_answers, source_stop}
use Rattle.unsafe_libyaml.specs.OneWhole.{OneRun}
use Rattle.unsafe_libyaml.specs.WholeRun.{Asked, Gathers, StoppedBy, of_grammar, of_source, ending_of}
use Rattle.unsafe_libyaml.specs.declared.parse_all.yaml_run_t.{yaml_run_t}

pub failed_stop : (asked : List Token) (last : List SourceResult) (given : List Event) (f : Fault) → StoppedBy asked last given f
    → RunStop (source_results asked last) given (Fails f)
failed_stop asked last given f (of_grammar l e h) = grammar_stop asked last given f l e h
failed_stop asked last given f (of_source l e s h) = source_stop asked last given f l e h

pub stop_of : {S : Type 0} (gives : S → SourceResult → S → Type 0) (source : S) (asked : List Token) (last : List SourceResult)
    (given : List Event)
    (o : Option yaml_parser_t_prefix) → Asked gives source asked last given → (o ≡ None → IsWhole asked given)
    → ((f : yaml_parser_t_prefix) → o ≡ Some f → StoppedBy asked last given (fault_of f))
    → RunStop (source_results asked last) given (ending_of o)
stop_of gives source asked last given None t w s = ended_stop asked last given t.needed_last (w refl)
stop_of gives source asked last given (Some f) t w s = failed_stop asked last given (fault_of f) (s f refl)

pub one_whole_run_proof : {S : Type 0} (gives : S → SourceResult → S → Type 0) (source : S) (a b : yaml_run_t)
    (g : Gathers gives source a)
    (h : Gathers gives source b) → OneRun gives source a b g h
one_whole_run_proof {S} gives source a b g h =
    one_run_by_answers a.events.items b.events.items (ending_of a.fault) (ending_of b.fault) (run_of a g) (run_of b h)
  where
    run_of : (r : yaml_run_t) → Gathers gives source r → AskedRun r.events.items (ending_of r.fault)
    run_of r k = record {
      asked = k.asked;
      last = k.last;
      needed = k.tokens.needed;
      needed_last = k.tokens.needed_last;
      stop = stop_of gives source k.asked k.last r.events.items r.fault k.tokens k.whole k.stopped;
    }

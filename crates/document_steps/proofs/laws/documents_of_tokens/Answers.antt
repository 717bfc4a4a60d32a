use Rattle.std.proofs.Common.{◌++◌, ◌∷◌, [], sym}
use Rattle.libyaml_grammar.specs.runs.Runs.{Ends, Fails}
use Rattle.libyaml_events.proofs.exported.Pushes.{fault_runs, fed_determined, fed_whole}
use Rattle.libyaml_events.proofs.exported.RunStops.{short_run, whole_run}
use Rattle.libyaml_events.specs.machine.Machine.{fault_with}
use Rattle.token_steps.specs.Records.{step_fault}
use Rattle.token_steps.proofs.exported.Runs.{fails, fed}
use Rattle.document_steps.proofs.Running.{all_loads, fault}
use Rattle.document_steps.proofs.laws.documents_of_tokens.Goals as goal

pub returns-clause-so_far : goal.returns-clause-so_far
returns-clause-so_far c = λ d ss ms hs kept l g run most k os h ds docs short source. record {
  events = g;
  ending = Fails source;
  run = short_run l g source (fed_determined (fed d ss ms hs kept _ l g run).0 short);
  all = sym (all_loads k os h g ds docs (Fails source));
}

pub returns-clause-whole : goal.returns-clause-whole
returns-clause-whole c = λ d ss ms hs kept l g run most k os h ds docs ended more source. record {
  events = g;
  ending = Ends;
  run = whole_run l g more source (fed_whole (fed d ss ms hs kept _ l g run).0 ended);
  all = sym (all_loads k os h g ds docs Ends);
}

pub returns-clause-composer_fails : goal.returns-clause-composer_fails
returns-clause-composer_fails c
    = λ d ss ms hs kept l g e run most k k' os os' h ds a p p' docs calls refused short source. record {
      events = g ++ e ∷ [];
      ending = Fails source;
      run = short_run l (g ++ e ∷ []) source (fed_determined (fed d ss ms hs kept _ l (g ++ e ∷ []) run).0 short);
      all = sym (fault k k' os os' h g ds a e p p' docs calls refused [] (Fails source));
    }

pub returns-clause-composer_fails_at_end : goal.returns-clause-composer_fails_at_end
returns-clause-composer_fails_at_end c
    = λ d ss ms hs kept l g e run most k k' os os' h ds a p p' docs calls refused ended more source. record {
      events = g ++ e ∷ [];
      ending = Ends;
      run = whole_run l (g ++ e ∷ []) more source (fed_whole (fed d ss ms hs kept _ l (g ++ e ∷ []) run).0 ended);
      all = sym (fault k k' os os' h g ds a e p p' docs calls refused [] Ends);
    }

pub returns-clause-parser_fails : goal.returns-clause-parser_fails
returns-clause-parser_fails c
    = λ d d' ss ss' ms ms' hs kept l g t e f run calls most k os h ds docs more source. record {
      events = g;
      ending = Fails (fault_with (step_fault f));
      run = (let at = fails d d' ss ss' ms ms' hs kept l g t e f run calls in fault_runs at.4 _ at.5) more source;
      all = sym (all_loads k os h g ds docs (Fails (fault_with (step_fault f))));
    }

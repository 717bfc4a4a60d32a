use Rattle.std.proofs.Common.{None}
use Rattle.libyaml_events.proofs.exported.Pushes.{fed_begins, fed_count, fed_nests, fed_determined, fed_whole}
use Rattle.libyaml_events.proofs.exported.RunStops.{short_run, whole_run}
use Rattle.token_steps.proofs.Running.{fed}
use Rattle.token_steps.proofs.laws.run_is_right.Goals as goal

pub returns : goal.returns
returns c = record {
  next_at_or = λ d ss ms hs h l g r. fed_determined (fed d ss ms hs h None l g r).0;
  whole = λ d ss ms hs h l g r. fed_whole (fed d ss ms hs h None l g r).0;
  run_so_far = λ d ss ms hs h l g r e f. short_run l g f (fed_determined (fed d ss ms hs h None l g r).0 e);
  run = λ d ss ms hs h l g r e more f. whole_run l g more f (fed_whole (fed d ss ms hs h None l g r).0 e);
  begins = λ d ss ms hs h l g r. fed_begins (fed d ss ms hs h None l g r).0;
  nests = λ d ss ms hs h o l g r. fed_nests (fed d ss ms hs h o l g r).0;
  at_most_four = λ d ss ms hs h o l g r. fed_count (fed d ss ms hs h o l g r).0;
}

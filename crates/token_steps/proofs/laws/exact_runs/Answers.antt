use Rattle.std.proofs.Common.{◌≤◌, ◌*◌, ℕ, length, subst}
use Rattle.libyaml_events.proofs.exported.Pushes.{fed_count, fed_nests}
use Rattle.token_steps.specs.SeenRuns.{seen_in_hand}
use Rattle.token_steps.proofs.Running.{fed}
use Rattle.token_steps.proofs.Seen.{seen_run}
use Rattle.token_steps.proofs.Stacks.{marks_fit, states_fit}
use Rattle.token_steps.proofs.laws.exact_runs.Goals as goal

pub returns : goal.returns
returns c = record {
  seen = seen_run;
  nests = λ d ss ms hs h o l g r.
      let s = seen_run d ss ms hs h o l g r in fed_nests (fed d ss ms hs h (seen_in_hand d o) s.tokens g s.run).0;
  at_most_four = λ d ss ms hs h o l g r.
      let s = seen_run d ss ms hs h o l g r in
      subst (λ (n : ℕ). length g ≤ 4 * n) s.same_length (fed_count (fed d ss ms hs h (seen_in_hand d o) s.tokens g s.run).0);
  states = λ d ss ms hs h o l g r w.
      let s = seen_run d ss ms hs h o l g r in states_fit d ss ms hs h (seen_in_hand d o) s.tokens g s.run w;
  marks = λ d ss ms hs h o l g r w.
      let s = seen_run d ss ms hs h o l g r in marks_fit d ss ms hs h (seen_in_hand d o) s.tokens g s.run w;
}

-- How many states and marks the record of a run counts.
use Rattle.std.proofs.Common.{◌≡◌, ◌≤◌, ◌+◌, ℕ, List, length, arith}
use Rattle.std.proofs.lemmas.Grind.{common_steps}
use Rattle.libyaml_types.specs.declared.mark.yaml_mark_t.{yaml_mark_t}
use Rattle.libyaml_automaton.specs.Config.{marks_of, states_of}
use Rattle.libyaml_events.proofs.exported.Pushes.{fed_depth, fed_marks}
use Rattle.libyaml_events.specs.parsers.Stages.{open_collections, stage_of}
use Rattle.token_steps.specs.RunLaws.{ForStacks}
use Rattle.token_steps.proofs.Running.{fed}

states_counted : (n : ℕ) (ss : List ℕ) → n ≤ length ss → length (states_of n ss) ≡ n
unfolding states_of
states_counted n ss h = grind (arith, common_steps)

marks_counted : (n : ℕ) (ms : List yaml_mark_t) → n ≤ length ms → length (marks_of n ms) ≡ n
unfolding marks_of
marks_counted n ms h = grind (arith, common_steps)

pub states_fit : ForStacks (λ states _ events. states ≤ open_collections (stage_of events) + 1)
states_fit d ss ms hs kept o l g r within =
    let few : length (states_of d.machine.states_count ss) ≤ open_collections (stage_of g) + 1
    = fed_depth o (fed d ss ms hs kept o l g r).0 in
    let counted = states_counted d.machine.states_count ss within.0 in
    omega arith

pub marks_fit : ForStacks (λ _ marks events. marks ≤ open_collections (stage_of events))
marks_fit d ss ms hs kept o l g r within =
    let few : length (marks_of d.machine.marks_count ms) ≤ open_collections (stage_of g)
    = fed_marks o (fed d ss ms hs kept o l g r).0 in
    let counted = marks_counted d.machine.marks_count ms within.1 in
    omega arith

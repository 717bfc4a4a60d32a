use Rattle.std.proofs.Common.{◌≡◌, ◌≤◌, ℕ, List, Option, length, subst, take}
use Rattle.std.proofs.lemmas.List.{length-reverse, length-take-le}
use Rattle.libyaml_types.specs.declared.mark.yaml_mark_t.{yaml_mark_t}
use Rattle.libyaml_grammar.specs.grammar.Events.{Event}
use Rattle.libyaml_grammar.specs.grammar.TokenNesting.{IsNestingOfTaken}
use Rattle.libyaml_grammar.specs.grammar.Tokens.{Token}
use Rattle.libyaml_automaton.specs.Config.{Within, marks_of}
use Rattle.libyaml_events.specs.machine.Config.{Handles}
use Rattle.libyaml_events.specs.machine.Want.{Texts}
use Rattle.token_steps.specs.Runs.{Run}
use Rattle.token_steps.specs.declared.steps.steps_t.{steps_t}
use Rattle.token_steps.proofs.exported.Runs.{fed, seen_run}
use Rattle.token_steps.proofs.Marks.{counted}
use Rattle.token_steps.proofs.laws.marks_are_nesting.Goals as goal

count_of_marks : (n : ℕ) (ms : List yaml_mark_t) → n ≤ length ms → length (marks_of n ms) ≡ n
unfolding marks_of
count_of_marks n ms h = rw (length-reverse (take n ms)) (length-take-le n ms h)

in_run : (d : steps_t) (ss : List ℕ) (ms : List yaml_mark_t) (hs : Handles) (kept : Texts) (o : Option Token) (l : List Token)
    (g : List Event) → Run d ss ms hs kept o l g → Within d.machine ss ms → IsNestingOfTaken o l d.machine.marks_count
in_run d ss ms hs kept o l g r h = subst (λ (n : ℕ). IsNestingOfTaken o l n) (count_of_marks d.machine.marks_count ms h.1)
    (counted (fed d ss ms hs kept o l g r).0)

pub returns-clause-machine : goal.returns-clause-machine
returns-clause-machine c = λ w m o l g h. counted h

pub returns-clause-steps : goal.returns-clause-steps
returns-clause-steps c = in_run

pub returns-clause-exact_steps : goal.returns-clause-exact_steps
returns-clause-exact_steps c = λ d ss ms hs kept o l g r h.
    let seen = seen_run d ss ms hs kept o l g r in (seen, in_run d ss ms hs kept _ seen.tokens g seen.run h)

-- What each history of a parser says, whichever call led there.
use Rattle.std.proofs.Common.{◌≤◌, ◌+◌, ◌*◌, ◌≡◌, arith, [], length, true, false, ap}
use Rattle.libyaml_types.specs.Fault.{Fault}
use Rattle.libyaml_grammar.specs.partial.DeterminedEvents.{BeginsEach}
use Rattle.libyaml_grammar.specs.grammar.Nesting.{NestsSoFar}
use Rattle.libyaml_events.specs.machine.Config.{Parser, is_fault}
use Rattle.libyaml_events.specs.parsers.Lookahead.{LookaheadIsLast}
use Rattle.libyaml_events.specs.parsers.Stages.{open_collections, stage_of}
use Rattle.libyaml_events.specs.sources.Determined.{BeginsEachRun}
use Rattle.libyaml_events.specs.sources.History.{ForHistory, has_failed, is_over, stack_depth}
use Rattle.libyaml_events.specs.sources.Needs.{EachWasNeeded}
use Rattle.libyaml_events.specs.sources.Parsing.{IsWhole}
use Rattle.libyaml_events.proofs.calls.OneTokenAhead.{ran_holds}
use Rattle.libyaml_events.proofs.calls.Parsed.{ran_needed}
use Rattle.libyaml_events.proofs.calls.StageFacts.{staged_depth}
use Rattle.libyaml_events.proofs.pushes.HistoryInvariant.{fed_to, ran_staged, whole_after}
use Rattle.libyaml_events.proofs.pushes.HistoryOfPushes.{fed_begins, fed_begins_run, fed_count, fed_nests}

module _ {S : Type 0} (p : Parser S) where
  pub faultless : ForHistory p (λ _ _. has_failed p ≡ false)
  faultless asked given h = ap (λ (f : Fault). is_fault f.error) (ran_staged h).no_fault_kept

  pub begins_each : ForHistory p BeginsEach
  begins_each asked given h = fed_begins h

  pub begins_each_run : ForHistory p BeginsEachRun
  begins_each_run asked given h = fed_begins_run h

  pub nests : ForHistory p (λ _ given. NestsSoFar given)
  nests asked given h = fed_nests h

  pub at_most_four : ForHistory p (λ asked given. length given ≤ 4 * length asked)
  at_most_four asked given h = fed_count h

  pub depth : ForHistory p (λ _ given. stack_depth p ≤ open_collections (stage_of given) + 1)
  depth asked given h = let d = staged_depth _ given (ran_staged h) in omega arith

  pub one_ahead : ForHistory p (λ asked _. LookaheadIsLast p asked)
  one_ahead asked given h = ran_holds _ asked given h

  pub needed : ForHistory p (λ asked given. EachWasNeeded [] asked [] given)
  needed asked given h = ran_needed h

  pub whole : is_over p ≡ true → ForHistory p IsWhole
  whole over asked given h = whole_after _ _ _ (fed_to h) over

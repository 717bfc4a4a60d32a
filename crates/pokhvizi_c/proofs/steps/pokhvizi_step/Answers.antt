use Rattle.std.proofs.Common.{◌∙◌, sym, ap}
use Rattle.token_steps.specs.Numbers.{number, is_nothing_done, is_given}
use Rattle.pokhvizi_c.proofs.StepNumbers.{number_undone, number_given, number_not_given, number_three, number_four, number_five, number_six}
use Rattle.pokhvizi_c.proofs.steps.pokhvizi_step.Goals as goal

pub returns-clause-tells : goal.returns-clause-tells
returns-clause-tells c = rw (sym c.token_kind.ensures) (c.step.result, c.number.ensures, c.step.ensures.tells)

pub returns-clause-bad : goal.returns-clause-bad
returns-clause-bad c = (
  λ e. c.step.ensures.bad.0
      (number_six _ (sym c.number.ensures ∙ e)),
  λ n. c.number.ensures ∙ ap number (c.step.ensures.bad.1 n),
)

pub returns-clause-full_states : goal.returns-clause-full_states
returns-clause-full_states c = rw (sym c.token_kind.ensures) (λ w. (
  λ e. (c.step.ensures.full_states w).0 (number_three _ (sym c.number.ensures ∙ e)),
  λ h. c.number.ensures ∙ ap number ((c.step.ensures.full_states w).1 h),
))

pub returns-clause-full_marks : goal.returns-clause-full_marks
returns-clause-full_marks c = rw (sym c.token_kind.ensures) (λ w. (
  λ e. (c.step.ensures.full_marks w).0 (number_four _ (sym c.number.ensures ∙ e)),
  λ h. c.number.ensures ∙ ap number ((c.step.ensures.full_marks w).1 h),
))

pub returns-clause-undone : goal.returns-clause-undone
returns-clause-undone c = λ e. c.step.ensures.undone
    (number_undone _ (sym (ap is_nothing_done c.number.ensures) ∙ e))

pub returns-clause-holds_nothing : goal.returns-clause-holds_nothing
returns-clause-holds_nothing c = λ e. c.step.ensures.holds_nothing
    (number_given _ (sym (ap is_given c.number.ensures) ∙ e))

pub returns-clause-event_number : goal.returns-clause-event_number
returns-clause-event_number c = λ e. c.step.ensures.event_number
    (number_given _ (sym (ap is_given c.number.ensures) ∙ e))

pub returns-clause-event_flags : goal.returns-clause-event_flags
returns-clause-event_flags c = λ e. c.step.ensures.event_flags
    (number_given _ (sym (ap is_given c.number.ensures) ∙ e))

pub returns-clause-event_unused : goal.returns-clause-event_unused
returns-clause-event_unused c = λ e. c.step.ensures.event_unused
    (number_given _ (sym (ap is_given c.number.ensures) ∙ e))

pub returns-clause-fault_number : goal.returns-clause-fault_number
returns-clause-fault_number c = λ e. c.step.ensures.fault_number (number_five _ (sym c.number.ensures ∙ e))

pub returns-clause-event_kept : goal.returns-clause-event_kept
returns-clause-event_kept c = λ e. c.step.ensures.event_kept
    (number_not_given _ (sym (ap is_given c.number.ensures) ∙ e))

pub returns-clause-fault_kept : goal.returns-clause-fault_kept
returns-clause-fault_kept c = λ n. c.step.ensures.fault_kept (λ e. n (c.number.ensures ∙ ap number e))

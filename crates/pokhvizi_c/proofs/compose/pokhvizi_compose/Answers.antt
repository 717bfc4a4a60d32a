use Rattle.std.proofs.Common.{◌∙◌, sym, ap, w32}
use Rattle.std.proofs.lemmas.Int.{to_z-of_z}
use Rattle.libyaml_composer.specs.Numbers.{is_undone_number, deed_number}
use Rattle.pokhvizi_c.proofs.DeedNumbers.{number_twelve, number_undone}
use Rattle.pokhvizi_c.proofs.compose.pokhvizi_compose.Goals as goal

pub returns-clause-tells : goal.returns-clause-tells
returns-clause-tells c = rw (sym c.event_kind.ensures) (λ w. (
  c.compose.result,
  c.number.ensures,
  rw (to_z-of_z w32 c.args.fact c.ranges.fact) at (c.compose.ensures.tells w),
))

pub returns-clause-bad : goal.returns-clause-bad
returns-clause-bad c = (
  λ e. c.compose.ensures.bad.0 (number_twelve _ (sym c.number.ensures ∙ e)),
  λ n. c.number.ensures ∙ ap deed_number (c.compose.ensures.bad.1 n),
)

pub returns-clause-undone : goal.returns-clause-undone
returns-clause-undone c = λ e. c.compose.ensures.undone (number_undone _ (sym (ap is_undone_number c.number.ensures) ∙ e))

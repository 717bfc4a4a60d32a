use Rattle.std.proofs.Common.{◌≡◌, Some, ap}
use Rattle.std.proofs.KnownBytes.{Appends-trans}
use Rattle.std.proofs.lemmas.Result.{on_ok_weaker}
use Rattle.std.specs.Option.{option_copied}
use Rattle.line_writing.proofs.fault_text.write_fault.Goals as goal

pub returns-in-Some-clause-ok : goal.returns-in-Some-clause-ok
returns-in-Some-clause-ok g c =
    let context : option_copied c.args.prefix.now.context ≡ Some c.in-Some.context.now = ap option_copied c.in-Some.is in
    on_ok_weaker c.write_context.result
    (λ written. rw context (Appends-trans _ _ _ _ _ c.in_ok-write_problem.ensures.ok written))
    c.write_context.ensures.ok

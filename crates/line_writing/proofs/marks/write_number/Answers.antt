use Rattle.std.proofs.Common.{◌≡◌, ◌+◌, ◌-◌, ◌≤◌, ◌<◌, ℕ, length, decimal, arith}
use Rattle.std.proofs.lemmas.Fmt.{IsAscii-decimal, decimal_nonempty, length-decimal-le}
use Rattle.std.proofs.lemmas.List.{drop-set}
use Rattle.line_writing.proofs.marks.write_number.Goals as goal

at_most_twenty : (n : ℕ) → n < 18446744073709551616 → length (decimal n) ≤ 20
at_most_twenty n h = length-decimal-le 20 n (omega arith) (omega arith) (omega arith)

pub write_digits-start-requires : goal.write_digits-start-requires
write_digits-start-requires c = (omega (arith, at_most_twenty c.args.number (omega arith)), omega arith)

pub overflow_sub-start : goal.overflow_sub-start
overflow_sub-start c = omega (arith, at_most_twenty c.args.number (omega arith))

pub returns-clause-start : goal.returns-clause-start
returns-clause-start c =
    let short = at_most_twenty c.args.number (omega arith) in
    let some = decimal_nonempty c.args.number (omega arith) in
    (omega arith, omega arith)

pub returns-clause-written : goal.returns-clause-written
returns-clause-written c =
    let w = c.write_digits-start in
    let short = at_most_twenty c.args.number (omega arith) in
    let e : w.result - 1 + 1 ≡ w.result = omega arith in
    rw (drop-set w.new.buf (w.result - 1) c.args.byte (omega arith), e, w.ensures.written)

pub returns-clause-ascii : goal.returns-clause-ascii
returns-clause-ascii c = IsAscii-decimal c.args.number (omega arith)

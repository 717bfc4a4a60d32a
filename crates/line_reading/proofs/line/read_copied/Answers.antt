use Rattle.std.proofs.Common.{arith}
use Rattle.line_reading.proofs.sources.NextLines.{ended_read, fits_unless, too_long_read}
use Rattle.line_reading.proofs.line.read_copied.Goals as goal

pub returns-in-None : goal.returns-in-None
returns-in-None g c = λ before h.
    too_long_read before _ c.take_rest.new.line.items _ c.take_rest.ensures.clean
    (c.in_ok-take_rest.ensures.too_long.0 (rw c.in-None.is)).0
    ((rw c.in-None.is at c.in_ok-take_rest.ensures.consumes) before h)

pub returns-in-Some : goal.returns-in-Some
returns-in-Some g c = λ before h.
    let taken = c.in_ok-take_rest.ensures in
    let read = c.read_token_line in
    ended_read before _ c.take_rest.new.line.items _ read.result read.new.token c.take_rest.ensures.clean (grind arith)
    (grind (arith, fits_unless)) ((rw c.in-Some.is at taken.consumes) before h) (grind (arith, taken, h)) (rw c.deref.ensures.value at read.ensures)

use Rattle.std.proofs.Common.{List, ℕ, ◌≡◌, ◌≤◌, ◌+◌, ◌∙◌, length, length-take, subst, sym, take, take_all, arith}
use Rattle.std.specs.Io.KnownBytes.{Consumes}
use Rattle.std.specs.Io.BufRead.{FillKeeps}
use Rattle.std.proofs.BufReadLemmas.{Consumes_shown}
use Rattle.line_reading.proofs.sources.NextLines.{shown_read, shown_all}
use Rattle.line_reading.proofs.tokens.Buffers.{without_feed}
use Rattle.line_reading.proofs.line.read_next.Goals as goal

pub returns-then-len-gt0 : goal.returns-then-len-gt0
returns-then-len-gt0 g c =
    let shown = c.in_ok-available.available.now in
    let len = c.in_ok-len.len in
    let read = c.in_ok-len.ensures.some (omega (arith, c.if-len-gt0.true)) in
    let rested = c.fill_buf.follows.lender-at-none in
    let filled = subst (FillKeeps _ (g.R.Read.remaining rested) (g.R.BufRead.consumable_len rested)) c.in_ok-available.was
    c.fill_buf.follows.holds-at-none in
    let within : len + 1 ≤ length shown = omega (arith, read.line.within, length-take c.min.result shown) in
    let moved = Consumes_shown _ _ _ _ shown (len + 1) within c.in_ok-available.ensures.front
    c.in_ok-available.ensures.end filled.0 filled.1 c.consume.ensures.bytes in
    shown_read _ _ shown c.min.result len _ _ (omega (arith, c.min.ensures)) read.line.within
    (without_feed (take c.min.result shown) len read.line) read.line.feed moved.0 read.reads

pub returns-then-len-within : goal.returns-then-len-within
returns-then-len-within g c =
    let shown = c.in_ok-available.available.now in
    let len = c.len_before-len in
    let rested = c.fill_buf.follows.lender-at-none in
    let filled = subst (FillKeeps _ (g.R.Read.remaining rested) (g.R.BufRead.consumable_len rested)) c.in_ok-available.was
    c.fill_buf.follows.holds-at-none in
    let within : len.result + 1 ≤ length shown = omega (arith, c.if-len-within.true, length-take c.min.result shown) in
    let moved = Consumes_shown _ _ _ _ shown (len.result + 1) within c.in_ok-available.ensures.front
    c.in_ok-available.ensures.end filled.0 filled.1 c.consume-then-len-within.ensures.bytes in
    shown_read _ _ shown c.min.result len.result _ _ (omega (arith, c.min.ensures)) c.if-len-within.true len.ensures.before
    (len.ensures.found c.if-len-within.true) moved.0 c.read_token_line-read.ensures

pub read_copied-requires-clause-clean : goal.read_copied-requires-clause-clean
read_copied-requires-clause-clean g c = grind (arith, take_all)

pub returns : goal.returns
returns g c =
    let shown = c.in_ok-available.available.now in
    let len = c.len_before-len in
    let rested = c.fill_buf.follows.lender-at-none in
    let filled = subst (FillKeeps _ (g.R.Read.remaining rested) (g.R.BufRead.consumable_len rested)) c.in_ok-available.was
    c.fill_buf.follows.holds-at-none in
    let all : len.result ≡ length (take c.min.result shown) = omega (arith, c.if-len-within.false, len.ensures.bound) in
    let within : len.result ≤ length shown = omega (arith, all, length-take c.min.result shown) in
    let moved = Consumes_shown _ _ _ _ shown len.result within c.in_ok-available.ensures.front
    c.in_ok-available.ensures.end filled.0 filled.1 c.consume-2.ensures.bytes in
    c.read_copied.ensures _ (subst (Consumes _ _)
    (shown_all shown c.min.result len.result all ∙ sym {A = List ℕ} c.in_ok-begin_line.ensures.ok) moved.0)

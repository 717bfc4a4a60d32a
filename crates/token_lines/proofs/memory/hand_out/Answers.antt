use Rattle.std.proofs.Common.{ap, sym, subst, arith}
use Rattle.libyaml_types.specs.Fault.{fault_of}
use Rattle.libyaml_grammar.specs.runs.Runs.{Fails}
use Rattle.libyaml_grammar.proofs.exported.Injectivity.{fault_same}
use Rattle.line_reading.specs.sources.NextLine.{BreaksOffAt}
use Rattle.token_lines.specs.lines.LineRun.{ending_told}
use Rattle.token_lines.proofs.lines.WholeRuns.{in_memory}
use Rattle.token_lines.proofs.memory.hand_out.Goals as goal

pub returns-in-Ended : goal.returns-in-Ended
returns-in-Ended c n = grind arith

pub returns-in-Faulted : goal.returns-in-Faulted
returns-in-Faulted c n = in_memory n c.args.end.now (Fails (fault_of c.in-Faulted.fault)) (ap ending_told c.in-Faulted.is)
    (λ f e breaks. absurd (cc (
      c.cuts_short.ensures n (subst (BreaksOffAt n) (sym (fault_same _ f e)) breaks),
      c.if-not-cuts_short.true,
    )))
    c.args.bytes.now c.args.out.now c.put-in-Faulted.new.out c.put-in-Faulted.result c.put-in-Faulted.ensures

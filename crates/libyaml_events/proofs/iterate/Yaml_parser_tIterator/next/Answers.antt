use Rattle.std.proofs.Common.{◌∙◌, sym, ap}
use Rattle.libyaml_types.specs.Fault.{Fault}
use Rattle.libyaml_events.proofs.iterate.Yaml_parser_tIterator.next.Goals as goal

pub returns-in-Err-clause-steps : goal.returns-in-Err-clause-steps
returns-in-Err-clause-steps g c =
    let call = c.in-Err.ensures in
    let same = call.error.kept.0 ∙ sym (ap (λ (f : Fault). f.error) c.prefix.ensures.kept) in
    rw c.put_fault.ensures (sym c.is_over.ensures ∙ c.if-is_over.false, rw same at call, c.prefix.ensures.kept)

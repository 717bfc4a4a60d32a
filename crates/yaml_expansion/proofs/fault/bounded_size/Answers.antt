use Rattle.std.proofs.Common.{◌≡◌, Err, ap, inl, refl, rules}
use Rattle.libyaml_types.specs.Fault.{fault_of}
use Rattle.yaml_expansion.specs.ExpansionFaults.{cyclic}
use Rattle.yaml_expansion.proofs.fault.bounded_size.Goals as goal

pub returns-in-Err-Cyclic-clause-where_cyclic : goal.returns-in-Err-Cyclic-clause-where_cyclic
returns-in-Err-Cyclic-clause-where_cyclic c is =
    let id = c.in-Err-Cyclic.id in
    let found : fault_of c.cyclic.result ≡ cyclic c.args.document.now.nodes id = search rules in
    inl (id, c.in-Err-Cyclic.ensures.cyclic id (ap Err c.in-Err-Cyclic.field-0-is), (c.cyclic.result, refl, found))

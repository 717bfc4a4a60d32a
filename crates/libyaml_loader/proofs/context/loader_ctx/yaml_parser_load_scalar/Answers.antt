use Rattle.std.proofs.Common.{◌≡◌, Err, refl, rules}
use Rattle.libyaml_types.specs.declared.event.unnamed_yaml_event_t_data.TheVariants as ev
use Rattle.libyaml_loader.proofs.document.Putting.{added_done, added_fits, if_refused, is_event, on_ok, out_of_memory}
use Rattle.libyaml_loader.proofs.context.loader_ctx.yaml_parser_load_scalar.Goals as goal

pub returns-in_err-deed-clause-err : goal.returns-in_err-deed-clause-err
returns-in_err-deed-clause-err c =
    let e : c.from_residual.result ≡ Err c.in_err-deed.field-0.0 = search rules in
    rw e (c.in_err-deed.ensures.err _ (is_event (ev.Scalar c.args.scalar.now) c.args.start_mark.now c.args.end_mark.now (search rules) refl) tt)

pub attach_child-requires : goal.attach_child-requires
attach_child-requires c =
    let at = c.in_ok-deed.ensures.ok _ (is_event (ev.Scalar c.args.scalar.now) c.args.start_mark.now c.args.end_mark.now (search rules) refl) tt in
    added_fits _ _ _ _ _ _ at tt c.append_scalar.new.self (search rules)

pub returns-clause-ok : goal.returns-clause-ok
returns-clause-ok c =
    let at = c.in_ok-deed.ensures.ok _ (is_event (ev.Scalar c.args.scalar.now) c.args.start_mark.now c.args.end_mark.now (search rules) refl) tt in
    on_ok c.attach_child.result _ _ (λ is. (added_done _ _ _ _ _ _ at tt c.append_scalar.new.self (search rules) c.attach_child.new.self is).0)
    c.attach_child.ensures.handed

pub returns-clause-stands : goal.returns-clause-stands
returns-clause-stands c =
    let at = c.in_ok-deed.ensures.ok _ (is_event (ev.Scalar c.args.scalar.now) c.args.start_mark.now c.args.end_mark.now (search rules) refl) tt in
    on_ok c.attach_child.result _ _ (λ is. (added_done _ _ _ _ _ _ at tt c.append_scalar.new.self (search rules) c.attach_child.new.self is).1)
    c.attach_child.ensures.handed

pub returns-in_err-append_scalar-clause-err : goal.returns-in_err-append_scalar-clause-err
returns-in_err-append_scalar-clause-err c =
    let at = c.in_ok-deed.ensures.ok _ (is_event (ev.Scalar c.args.scalar.now) c.args.start_mark.now c.args.end_mark.now (search rules) refl) tt in
    let e : c.from_residual-in_err-append_scalar.result ≡ Err c.in_err-append_scalar.field-0.0 = search rules in
    rw e (out_of_memory _ _ _ _ _ _ at c.append_scalar.new.self _ _ tt c.in_err-append_scalar.ensures.err)

pub returns-clause-err : goal.returns-clause-err
returns-clause-err c =
    let at = c.in_ok-deed.ensures.ok _ (is_event (ev.Scalar c.args.scalar.now) c.args.start_mark.now c.args.end_mark.now (search rules) refl) tt in
    if_refused _ _ _ _ _ _ at c.attach_child.result _ c.attach_child.new.self _ tt c.attach_child.ensures.err

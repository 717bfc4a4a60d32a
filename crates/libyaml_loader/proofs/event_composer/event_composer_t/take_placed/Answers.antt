use Rattle.std.proofs.Common.{◌≡◌, Err, rules}
use Rattle.libyaml_loader.proofs.composed.Telling.{composes_to, refused_anchors, refuses_by}
use Rattle.libyaml_loader.proofs.event_composer.event_composer_t.take_placed.Goals as goal

pub returns-in_err-deed-clause-refuses : goal.returns-in_err-deed-clause-refuses
returns-in_err-deed-clause-refuses c =
    let e : c.from_residual-in_err-deed.result ≡ Err c.in_err-deed.field-0.0 = search rules in
    let r = c.in_err-deed.ensures.err in
    let tells = c.in_ok-compose.ensures.tells in
    let same = refused_anchors c.args.self.now c.compose.new.self c.args.event.now c.in_ok-compose.field-0 c.compose.new.place tells r.0 in
    rw e (rw (r.1, same)
    (refuses_by c.args.self.now c.compose.new.self c.args.event.now c.in_ok-compose.field-0 c.compose.new.place tells r.0))

pub returns-clause-composes : goal.returns-clause-composes
returns-clause-composes c = composes_to c.args.self.now c.compose.new.self c.args.event.now c.in_ok-compose.field-0 c.compose.new.place
    c.in_ok-compose.ensures.tells c.in_ok-deed.ensures.ok.1

use Rattle.std.proofs.Common.{◌≡◌, Err, rules, w32}
use Rattle.std.proofs.lemmas.Int.{to_z-of_z}
use mir.Val.{SFits}
use Rattle.libyaml_loader.proofs.document.Deciding.{node_decided, node_refused}
use Rattle.libyaml_loader.proofs.context.loader_ctx.decide.Goals as goal

pub returns-in_err-deed-clause-err : goal.returns-in_err-deed-clause-err
returns-in_err-deed-clause-err c =
    let fits : SFits w32 c.in_ok-anchored_node.anchored_node = search rules in
    let e : c.from_residual-in_err-deed.result ≡ Err c.in_err-deed.field-0.0 = search rules in
    let t = rw (to_z-of_z w32 c.in_ok-anchored_node.anchored_node fits) at c.in_ok-take.ensures.ok.1 in
    let r = c.in_err-deed.ensures.err in
    rw e (λ v is node. rw r.1 (node_refused c.args.self.now c.named.new.self _ c.args.mark.now v c.in_ok-anchored_node.anchored_node
    c.in_ok-anchored_node.ensures.ok c.requires (rw is.kind_is is) node c.in_ok-take.ensures.ok.0 c.args.place.now c.take.new.place
    c.in_ok-take.field-0 c.take.new.self (rw is.kind_is t) r.0))

pub returns-clause-ok : goal.returns-clause-ok
returns-clause-ok c =
    let fits : SFits w32 c.in_ok-anchored_node.anchored_node = search rules in
    let t = rw (to_z-of_z w32 c.in_ok-anchored_node.anchored_node fits) at c.in_ok-take.ensures.ok.1 in
    let d = c.in_ok-deed.ensures.ok in
    λ v is node. rw d.0 (node_decided c.args.self.now c.named.new.self _ c.args.mark.now v c.in_ok-anchored_node.anchored_node
    c.in_ok-anchored_node.ensures.ok c.requires (rw is.kind_is is) node c.in_ok-take.ensures.ok.0 c.args.place.now c.take.new.place
    c.in_ok-take.field-0 c.take.new.self (rw is.kind_is t) d.1 c.in_ok-take.ensures.roomy)

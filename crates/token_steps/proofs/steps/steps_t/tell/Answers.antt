use Rattle.std.proofs.Common.{◌≡◌, rules}
use Rattle.token_steps.specs.Facts.{NoTag}
use Rattle.token_steps.specs.Records.{head_tag}
use Rattle.token_steps.proofs.steps.steps_t.tell.Goals as goal

pub returns-in-Empty-clause-tells : goal.returns-in-Empty-clause-tells
returns-in-Empty-clause-tells c =
    let untagged : head_tag c.args.properties.now.head.now ≡ NoTag = search rules in
    rw untagged (search rules)

pub returns-in-EmptyAfter-clause-tells : goal.returns-in-EmptyAfter-clause-tells
returns-in-EmptyAfter-clause-tells c =
    let untagged : head_tag c.args.properties.now.head.now ≡ NoTag = search rules in
    rw untagged (search rules)

pub returns-in-Pair-clause-tells : goal.returns-in-Pair-clause-tells
returns-in-Pair-clause-tells c =
    let untagged : head_tag c.args.properties.now.head.now ≡ NoTag = search rules in
    rw untagged (search rules)

use Rattle.std.proofs.Common.{◌+◌, ◌*◌, ◌∙◌, arith}
use Rattle.line_reading.proofs.tokens.Joined.{joined_is, fours_is, eight_is}
use Rattle.line_reading.proofs.buffered.digits.joined.Goals as goal

pub returns : goal.returns
returns c a b d e f g h i A B D E F G H I is =
    let pairs = joined_is a b d e f g h i c.args.digits A B D E F G H I is in
    let fours = fours_is a (10 * b + d) (10 * e + f) (10 * g + h) _ (omega arith) (omega arith) (omega arith)
    (omega arith) pairs in
    eight_is (100 * a + (10 * b + d)) (100 * (10 * e + f) + (10 * g + h)) _ (omega arith) (omega arith) fours
    ∙ omega arith
